use Rattle.std.proofs.Common.{ℕ, List, take, ◌++◌}
use Rattle.node_format.specs.declared.place.Place.{Place}
use Rattle.reclaim.specs.Heads.{KeepsHeads, KeepsLinks}
use Rattle.reclaim.proofs.table.Table.note_places.Given as goal

-- what the entries so far told is kept
abbrev pub invariant-loop-place : goal.invariant-loop-place
invariant-loop-place l = record {
  same : KeepsLinks l.initial.self l.self;
  told : (most : ℕ → ℕ) (seen : List ℕ) (told : List Place) → KeepsHeads l.capacity most seen told l.initial.self → KeepsHeads l.capacity most seen (told ++ take l.place-index l.places) l.self;
}
