use Rattle.std.proofs.Common.{◌≡◌, take}
use Rattle.reclaim.specs.Passes.{IsMarked}
use Rattle.reclaim.proofs.pass.Pass.mark_all.Given as goal

-- the names so far are marked
abbrev pub invariant-loop-name : goal.invariant-loop-name
invariant-loop-name l = record {
  marked : IsMarked l.initial.self.order (take l.name-index l.names) l.self.order;
  same : l.self ≡ record l.initial.self { order = l.self.order };
}
