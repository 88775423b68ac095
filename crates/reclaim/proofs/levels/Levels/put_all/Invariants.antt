use Rattle.std.proofs.Common.{◌≡◌, ◌≤◌, ℕ, true, take}
use Rattle.std.specs.Prelude.{Contains}
use Rattle.reclaim.specs.Levels.{GoesOn, MayStand, level}
use Rattle.reclaim.proofs.levels.Levels.put_all.Given as goal

-- the blocks so far have such a level
abbrev pub invariant-loop-block : goal.invariant-loop-block
invariant-loop-block l = record {
  goes : GoesOn l.initial.self l.self;
  still : l.initial.self.hold ≡ true → ((b : ℕ) → Contains l.list b → MayStand l.initial.self b l.least) → (l.self.hold ≡ true) × ((b : ℕ) → Contains l.list b → MayStand l.self b l.least);
  all : l.self.hold ≡ true → (b : ℕ) → Contains (take l.block-index l.list) b → l.least ≤ level l.self b;
}
