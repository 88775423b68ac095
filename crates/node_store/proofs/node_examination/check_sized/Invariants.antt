use Rattle.std.proofs.Common.{◌≡◌, ◌+◌, ◌-◌, ◌≤◌, ℕ, List, Some, vec_len}
use Rattle.flash_model.specs.Reading.{OnlyReads}
use Rattle.node_store.specs.NodePages.{joined}
use Rattle.node_store.proofs.node_examination.check_sized.Given as goal

-- the pages so far have data
abbrev pub invariant-loop-place : goal.invariant-loop-place
invariant-loop-place g l = record {
  only_reads : OnlyReads (g.F.Flash.device l.initial.flash) (g.F.Flash.device l.flash);
  some : (all : List ℕ) × (joined (g.F.Flash.device l.initial.flash).pages l.first l.place ≡ Some all);
  page : vec_len l.page ≡ vec_len l.initial.page;
  operations : (g.F.Flash.device l.flash).operations ≤ (g.F.Flash.device l.initial.flash).operations + (l.place - 1);
}
