use Rattle.std.proofs.Common.{ℕ, sym, subst, ◌∙◌, refl}
use Rattle.flash_model.specs.declared.geometry.Geometry.{Geometry}
use Rattle.flash_model.specs.Device.{Device, Page, Programs}
use Rattle.nor_part.specs.Flashes.{nor_device}
use Rattle.nor_part.specs.Layout.{part_sizes, page_in}
use Rattle.nor_part.specs.States.{device_with}
use Rattle.nor_part.proofs.Ending.{begins, program_done}
use Rattle.nor_part.proofs.nor_flash.NorFlashFlash.program.Goals as goal

pub returns : goal.returns
returns g c =
    let sizes : Geometry = part_sizes c.args.self.now.blocks in
    let old : Device = nor_device c.args.self.now in
    let begun : Device = device_with sizes old.pages c.note_cleaned.new.self in
    let pages : ℕ → Page = page_in (g.P.Nor.held c.write_page-done.new.part) in
    let new : Device = device_with sizes pages c.end.new.self in
    subst (λ result. Programs old c.args.page c.args.bytes.now new result) (sym c.end.ensures.same)
    (program_done old (record begun { pages = pages }) new c.args.page _ c.args.bytes.now c.write_page-done.result refl
    (begins old begun pages c.in_ok-begin.ensures.on (c.note_cleaned.ensures.device sizes old.pages ∙ c.in_ok-begin.ensures.begun sizes old.pages))
    (c.end.ensures.ends sizes pages) c.write_page-done.ensures.others c.write_page-done.ensures.own)
