use Rattle.std.proofs.Common.{◌≡◌, List, ℕ, Option, refl, subst}
use Rattle.flash_model.specs.declared.geometry.Geometry.{Geometry}
use Rattle.script_runs.specs.Scripts.{streams_at}
use Rattle.host_interface.specs.Files.{KeepsOthers}
use Rattle.image_words.specs.PartFiles.{FormatPartEnds}
use Rattle.image_words.specs.PartServing.{ServePartEnds}
use Rattle.shell.specs.Explained.{ExplainEnds}
use Rattle.shell.specs.Tools.{word_given}
use Rattle.shell.proofs.program.do_alone.Goals as goal

pub returns-in-ServePart : goal.returns-in-ServePart
returns-in-ServePart g c =
    let placed = g.F.Parts.placed c.args.files.now in
    let before = streams_at (g.R.Read.remaining c.args.reader.now) (g.W.Write.contents c.args.out.now) in
    let after = streams_at (g.R.Read.remaining c.serve_part_file.new.reader) (g.W.Write.contents c.serve_part_file.new.out) in
    let at_name = subst (λ (name : List ℕ). ServePartEnds c.history_given.result (placed name) before c.serve_part_file.result after) c.word_given-part.ensures c.serve_part_file.ensures in
    let ends = subst (λ (history : Option ℕ). ServePartEnds history (placed (word_given c.args.job.part)) before c.serve_part_file.result after) c.history_given.ensures at_name in
    rw (c.in-ServePart.is) (ends, refl)

pub returns-in-FormatPart : goal.returns-in-FormatPart
returns-in-FormatPart g c =
    let old = g.F.ImageFiles.held c.args.files.now in
    let new = g.F.ImageFiles.held c.format_part.new.files in
    let at_name = subst (λ (name : List ℕ). FormatPartEnds c.sizes_of.result c.args.job.history (old name) (new name) c.format_part.result) c.word_given-part-in-FormatPart.ensures c.format_part.ensures.ends in
    let at_sizes = subst (λ (sizes : Geometry). FormatPartEnds sizes c.args.job.history (old (word_given c.args.job.part)) (new (word_given c.args.job.part)) c.format_part.result) c.sizes_of.ensures at_name in
    let others = subst (λ (name : List ℕ). KeepsOthers name old new) c.word_given-part-in-FormatPart.ensures c.format_part.ensures.others in
    rw (c.in-FormatPart.is) (at_sizes, others, record { unread = refl; unprinted = refl })

pub returns-in-Explain : goal.returns-in-Explain
returns-in-Explain g c = rw (c.in-Explain.is) (
  subst (λ (word : List ℕ). ExplainEnds word c.explain.result (g.W.Write.contents c.args.out.now) (g.W.Write.contents c.explain.new.out)) c.word_given.ensures c.explain.ensures,
  record {
    files = refl;
    unread = refl;
  },
)
