use Rattle.std.proofs.Common.{◌≡◌, vec_len}
use Rattle.flash_simulation.specs.Stored.{page_at}
use Rattle.flash_simulation.proofs.Erasing.{ErasedBelow}
use Rattle.flash_simulation.proofs.sim_pages.SimPages.erase_block.Given as goal

abbrev pub invariant-loop-place : goal.invariant-loop-place
invariant-loop-place l =
    (vec_len l.self.states ≡ vec_len l.initial.self.states)
    × (l.self.size ≡ l.initial.self.size)
    × ErasedBelow (page_at l.initial.self) (page_at l.self) l.block l.count l.place l.due
