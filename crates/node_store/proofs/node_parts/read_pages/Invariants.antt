use Rattle.std.proofs.Common.{◌≡◌, ◌+◌, ◌-◌, ◌*◌, ◌/◌, ◌≤◌, ℕ, List, length, take, drop, Some, vec_len}
use Rattle.flash_model.specs.Reading.{OnlyReads}
use Rattle.node_store.specs.NodePages.{joined}
use Rattle.node_store.proofs.node_parts.read_pages.Given as goal

-- the bytes of the pages so far are copied
abbrev pub invariant-loop-place : goal.invariant-loop-place
invariant-loop-place g l = record {
  only_reads : OnlyReads (g.F.Flash.device l.initial.flash) (g.F.Flash.device l.flash);
  copied : (n : ℕ) (all : List ℕ) → joined (g.F.Flash.device l.initial.flash).pages l.first n ≡ Some all → l.offset + length l.initial.out ≤ length all
      → take (l.place * l.size - l.offset) l.out ≡ take (l.place * l.size - l.offset) (take (length l.initial.out) (drop l.offset all));
  page : vec_len l.page ≡ vec_len l.initial.page;
  operations : (g.F.Flash.device l.flash).operations ≤ (g.F.Flash.device l.initial.flash).operations + (l.place - l.offset / l.size);
}
