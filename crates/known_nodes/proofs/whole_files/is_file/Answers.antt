use Rattle.std.proofs.Common.{◌<◌, ◌∙◌, sym, arith}
use Rattle.known_nodes.specs.Tables.{blocks_in}
use Rattle.known_nodes.proofs.WholeFileLaws.{file_more}
use Rattle.known_nodes.proofs.whole_files.is_file.Goals as goal

pub returns : goal.returns
returns c =
    let some : 0 < c.args.length = let own = c.if-length-eq0.false in omega (arith, own) in
    c.is_body.ensures ∙ sym (file_more c.args.capacity (blocks_in c.args.table.now) c.args.head c.args.length some)
