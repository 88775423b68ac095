use Rattle.std.proofs.Common.{◌≡◌, ◌<◌, ℕ, true}
use Rattle.reclaim.specs.Tables.{is_whole_at}
use Rattle.reclaim.proofs.table.Table.is_whole.Given as goal

-- the blocks so far are whole
abbrev pub invariant-loop-block : goal.invariant-loop-block
invariant-loop-block l = (b : ℕ) → b < l.block → is_whole_at l.self b ≡ true
