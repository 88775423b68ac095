use Rattle.std.proofs.Common.{◌≤◌, ◌+◌, ◌-◌, ◌^◌, take}
use Rattle.std.specs.List.{sum_by}
use Rattle.nodes.specs.Words.{Looks}
use Rattle.reclaim.specs.Passes.{Advances}
use Rattle.reclaim.specs.Verified.{AreLooked, once_reads, once_pages}
use Rattle.reclaim.specs.Verifying.{IsVerifying}
use Rattle.reclaim.proofs.verification.look_at_all.Given as goal

-- what was read so far is marked, told and sound
abbrev pub invariant-loop-block : goal.invariant-loop-block
invariant-loop-block g l = record {
  verifying : IsVerifying (g.N.Nodes.blocks l.fn.nodes) (g.N.Nodes.limit l.fn.nodes) (g.N.Nodes.node l.fn.nodes) l.pass l.table l.tops l.levels;
  looked : AreLooked (g.N.Nodes.limit l.fn.nodes - 80) (g.N.Nodes.node l.fn.nodes) l.plain l.pass;
  on : Advances l.fn.pass l.pass;
  reads : g.N.Nodes.reads l.nodes ≤ g.N.Nodes.reads l.fn.nodes + sum_by (λ b. once_reads (g.N.Nodes.node l.fn.nodes b)) (take l.pass.next l.pass.order);
  asks : g.N.Nodes.asked l.nodes ≤ g.N.Nodes.asked l.fn.nodes + sum_by (λ b. once_pages (g.N.Nodes.page l.fn.nodes) (g.N.Nodes.limit l.fn.nodes) (g.N.Nodes.node l.fn.nodes b)) (take l.pass.next l.pass.order);
  looks : Looks g.N.Nodes l.fn.nodes l.nodes;
}

abbrev pub decreases-loop-block : goal.decreases-loop-block
decreases-loop-block g l = 2 ^ 64 - l.pass.next
