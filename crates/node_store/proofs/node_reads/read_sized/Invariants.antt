use Rattle.std.proofs.Common.{◌≡◌, ◌+◌, ◌-◌, ◌*◌, ◌≤◌, take, Some, option_map, vec_len, vec_capacity}
use Rattle.std.specs.Prelude.{min}
use Rattle.flash_model.specs.Reading.{OnlyReads}
use Rattle.node_store.specs.NodePages.{joined}
use Rattle.node_store.proofs.node_reads.read_sized.Given as goal

abbrev pub invariant-loop-place : goal.invariant-loop-place
invariant-loop-place g l = record {
  only_reads : OnlyReads (g.F.Flash.device l.initial.flash) (g.F.Flash.device l.flash);
  joined : option_map (take l.size) (joined (g.F.Flash.device l.initial.flash).pages l.first l.place) ≡ Some l.node.items;
  len : vec_len l.node ≡ min l.size (l.place * vec_len l.page);
  page : vec_len l.page ≡ vec_len l.initial.page;
  room : l.size ≤ vec_capacity l.node;
  operations : (g.F.Flash.device l.flash).operations ≤ (g.F.Flash.device l.initial.flash).operations + (l.place - 1);
}
