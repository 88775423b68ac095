use Rattle.std.proofs.Common.{◌≡◌, ◌+◌, ◌≤◌, vec_len}
use Rattle.node_store.specs.Writing.{IsWriting}
use Rattle.node_store.proofs.node_writes.write_pages.Given as goal

abbrev pub invariant-loop-place : goal.invariant-loop-place
invariant-loop-place g l = record {
  writing : IsWriting (g.F.Flash.device l.initial.flash) l.block l.bytes l.place (g.F.Flash.device l.flash);
  page : vec_len l.page ≡ vec_len l.initial.page;
  operations : (g.F.Flash.device l.flash).operations ≤ (g.F.Flash.device l.initial.flash).operations + l.place;
}
