use Rattle.std.proofs.Common.{◌%◌, ap, ◌∙◌, subst}
use Rattle.flash_simulation.specs.declared.sim_flash.SimFlash.{SimFlash}
use Rattle.flash_model.specs.Device.{Device}
use Rattle.flash_simulation.specs.Stored.{page_at, erased_to, ErasesPages}
use Rattle.flash_simulation.proofs.Ending.{begins, erase_done}
use Rattle.flash_simulation.proofs.sim_flash.SimFlashFlash.erase.Goals as goal

-- the pages of the block, by what befalls the erase
pages : (c : goal.After-end)
    → ErasesPages (page_at c.args.self.now.pages) c.args.self.now.geometry.pages c.args.block c.in_ok-due.due (page_at c.erase_block.new.self)
pages c =
    subst (λ (f : SimFlash). ErasesPages (page_at f.pages) f.geometry.pages c.args.block c.in_ok-due.due (page_at c.erase_block.new.self))
    c.in_ok-due.ensures.begun c.erase_block.ensures.pages

pub returns-clause-erases : goal.returns-clause-erases
returns-clause-erases c =
    erase_done _ _ _ _ _ _ (begins c.args.self.now c.begin.new.self _ _ c.in_ok-due.ensures.on c.in_ok-due.ensures.begun c.in_ok-due.ensures.counted)
    c.end.ensures.ends c.end.ensures.answer (pages c)

pub returns-clause-pages : goal.returns-clause-pages
returns-clause-pages c =
    λ p _ here. ap (λ (d : Device). d.pages p) c.end.ensures.ends.rest ∙ (pages c).own p here
    ∙ ap (λ due. erased_to due (p % c.args.self.now.geometry.pages) (page_at c.args.self.now.pages p)) c.in_ok-due.ensures.ok
