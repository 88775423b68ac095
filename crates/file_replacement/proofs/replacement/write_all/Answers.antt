use Rattle.std.proofs.Common.{◌++◌, take, ◌∙◌}
use Rattle.file_replacement.specs.Folder.{Writes}
use Rattle.file_replacement.specs.Outcomes.{HasWritten}
use Rattle.file_replacement.proofs.Joins.{join}
use Rattle.file_replacement.proofs.Filling.{written_more, rest_more}
use Rattle.file_replacement.proofs.replacement.write_all.Goals as goal

pub loop-rest-preserved : goal.loop-rest-preserved
loop-rest-preserved g c =
    let inv = c.loop-rest.invariant in
    let rest = c.loop-rest.rest.now in
    let count = c.in_ok-count.count in (
      inv.0 ++ take count rest,
      inv.1 ∙ rest_more inv.0 rest count c.in_ok-count.ensures.bound,
      join (HasWritten inv.0) (Writes count rest) (HasWritten (inv.0 ++ take count rest)) _ _ _ (written_more inv.0 rest count) inv.2
          c.in_ok-count.ensures.ok,
    )
