use Rattle.std.proofs.Common.{◌∙◌, sym}
use Rattle.shell.proofs.GetLemmas.{got_to, told_to}
use Rattle.shell.proofs.get.get_to.Goals as goal

pub returns-then-is_stream : goal.returns-then-is_stream
returns-then-is_stream g c = λ input.
    told_to c.args.job c.args.name.now c.word_given-path.result.now c.word_given-file.result.now (g.F.ImageFiles.held c.args.files.now) c.tell_file.result input
    (g.W.Write.contents c.args.out.now) (g.W.Write.contents c.tell_file.new.out) c.word_given-path.ensures c.word_given-file.ensures (sym c.if-is_stream.true ∙ c.is_stream.ensures) c.tell_file.ensures

pub returns-else-is_stream : goal.returns-else-is_stream
returns-else-is_stream g c = λ input.
    got_to c.args.job c.args.name.now c.word_given-path.result.now c.word_given-file.result.now (g.F.Folders.made c.get_out.new.files c.word_given-file.result.now) (g.F.ImageFiles.held c.args.files.now) (g.F.ImageFiles.held c.get_out.new.files) c.get_out.result input
    (g.W.Write.contents c.args.out.now) c.word_given-path.ensures c.word_given-file.ensures (sym c.if-is_stream.false ∙ c.is_stream.ensures) c.get_out.ensures
