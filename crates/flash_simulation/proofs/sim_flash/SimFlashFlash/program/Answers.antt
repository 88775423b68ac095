use Rattle.std.proofs.Common.{◌≡◌, ◌/◌, ap, ◌∙◌}
use Rattle.flash_simulation.specs.declared.sim_flash.SimFlash.{SimFlash}
use Rattle.flash_model.specs.Device.{Device}
use Rattle.flash_simulation.specs.Stored.{page_at, programmed}
use Rattle.flash_simulation.proofs.Ending.{begins, program_done}
use Rattle.flash_simulation.proofs.sim_flash.SimFlashFlash.program.Goals as goal

-- the programmed page, by what befalls the program
own : (c : goal.After-end) → page_at c.program.new.self c.args.page ≡ programmed c.in_ok-due.due (page_at c.args.self.now.pages c.args.page) c.args.bytes.now
own c =
    c.program.ensures.own ∙ ap (λ (f : SimFlash). programmed c.in_ok-due.due (page_at f.pages c.args.page) c.args.bytes.now) c.in_ok-due.ensures.begun

pub returns-clause-programs : goal.returns-clause-programs
returns-clause-programs c =
    let begun = c.in_ok-due.ensures.begun in
    program_done _ _ _ _ _ _ _ _ (ap (λ (f : SimFlash). c.args.page / f.geometry.pages) begun)
    (begins c.args.self.now c.begin.new.self _ _ c.in_ok-due.ensures.on begun c.in_ok-due.ensures.counted)
    c.end.ensures.ends c.end.ensures.answer
    (λ q apart. c.program.ensures.others q apart ∙ ap (λ (f : SimFlash). page_at f.pages q) begun) (own c)

pub returns-clause-page : goal.returns-clause-page
returns-clause-page c =
    λ _. ap (λ (d : Device). d.pages c.args.page) c.end.ensures.ends.rest ∙ own c
    ∙ ap (λ due. programmed due (page_at c.args.self.now.pages c.args.page) c.args.bytes.now) c.in_ok-due.ensures.ok
