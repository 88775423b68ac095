use Rattle.std.proofs.Common.{◌≡◌, ◌<◌, ℕ, true, length, Ok}
use Rattle.std.specs.FinSet as set
use Rattle.nodes.specs.Faults.{IsLookFault}
use Rattle.nodes.specs.Words.{LooksWithin}
use Rattle.nodes.specs.Chains.{link_items}
use Rattle.directory.specs.Depths.{count_below}
use Rattle.directory.proofs.depths.any_has_entries.Given as goal

-- no directory so far has entries
abbrev pub invariant-loop-block : goal.invariant-loop-block
invariant-loop-block g l = record {
  none : (b : ℕ) → b < l.block → set.contains l.level.members b ≡ true → length (link_items (g.N.Nodes.node l.initial.nodes b)) ≡ 0;
  calls : LooksWithin g.N.Nodes IsLookFault (count_below (set.contains l.level.members) l.block) l.initial.nodes (Ok l.block) l.nodes;
}
