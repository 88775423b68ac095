use Rattle.std.proofs.Common.{◌≡◌, true, take}
use Rattle.std.specs.Prelude.{All}
use Rattle.reclaim.specs.Tables.{has_link}
use Rattle.reclaim.proofs.table.Table.has_links.Given as goal

-- the blocks so far hold nodes of directories
abbrev pub invariant-loop-block : goal.invariant-loop-block
invariant-loop-block l = All (λ b. has_link l.self b ≡ true) (take l.block-index l.list)
