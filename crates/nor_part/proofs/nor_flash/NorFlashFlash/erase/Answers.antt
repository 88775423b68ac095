use Rattle.std.proofs.Common.{◌≡◌, ℕ, true, false, List, Bool, sym, subst, ap, ◌∙◌}
use Rattle.std.specs.Prelude.{slice_index_or}
use Rattle.flash_model.specs.declared.geometry.Geometry.{Geometry}
use Rattle.flash_model.specs.Device.{Device, Page, Erases}
use Rattle.nor_part.specs.Flashes.{nor_device}
use Rattle.nor_part.specs.Layout.{part_sizes, page_in}
use Rattle.nor_part.specs.States.{device_with, is_cleaned}
use Rattle.nor_part.proofs.Cleaning.{erased_already}
use Rattle.nor_part.proofs.Ending.{begins, erase_done}
use Rattle.nor_part.proofs.nor_flash.NorFlashFlash.erase.Goals as goal

pub returns-clause-erases : goal.returns-clause-erases
returns-clause-erases g c =
    let sizes : Geometry = part_sizes c.args.self.now.blocks in
    let old : Device = nor_device c.args.self.now in
    let begun : Device = device_with sizes old.pages c.note_cleaned.new.self in
    let pages : ℕ → Page = page_in (g.P.Nor.held c.erase_block-done.new.part) in
    let new : Device = device_with sizes pages c.end.new.self in
    subst (λ result. Erases old c.args.block new result) (sym c.end.ensures.same)
    (erase_done old (record begun { pages = pages }) new c.args.block c.erase_block-done.result
    (begins old begun pages c.in_ok-begin.ensures.on (c.note_cleaned.ensures.device sizes old.pages ∙ c.in_ok-begin.ensures.begun sizes old.pages))
    (c.end.ensures.ends sizes pages) c.erase_block-done.ensures.others c.erase_block-done.ensures.own)

-- a block that was cleaned
pub returns-then-is_cleaned-clause-erases : goal.returns-then-is_cleaned-clause-erases
returns-then-is_cleaned-clause-erases g c =
    let sizes : Geometry = part_sizes c.args.self.now.blocks in
    let old : Device = nor_device c.args.self.now in
    let flag : is_cleaned c.args.self.now.state c.args.block ≡ true =
    ap (λ (cleaned : List Bool). slice_index_or cleaned c.args.block false) (sym c.begin.ensures.cleaned) ∙ sym c.is_cleaned.ensures ∙ c.if-is_cleaned.true in
    erased_already old (device_with sizes old.pages c.begin.new.self) c.args.block c.in_ok-begin.ensures.on (c.in_ok-begin.ensures.begun sizes old.pages)
    (c.args.self.now.all_clean c.args.block flag)
