use Rattle.std.proofs.Common.{◌≡◌, ◌+◌}
use Rattle.nodes.specs.Words.{Looks}
use Rattle.reclaim.specs.Calls.{MarksOn}
use Rattle.reclaim.specs.Passes.{Advances}
use Rattle.reclaim.proofs.pass.Pass.step.Given as goal

-- a pass that has read so many blocks more
abbrev pub invariant-loop-done : goal.invariant-loop-done
invariant-loop-done g l = record {
  marks : MarksOn g.N.Nodes l.initial.nodes l.nodes l.initial.self l.self;
  on : Advances l.initial.self l.self;
  next : l.self.next ≡ l.initial.self.next + l.done;
  looks : Looks g.N.Nodes l.initial.nodes l.nodes;
}
