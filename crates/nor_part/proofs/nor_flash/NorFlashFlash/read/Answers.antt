-- A read is one more operation, and shows what the part holds.
use Rattle.std.proofs.Common.{ℕ, List, sym, subst, ap, ◌∙◌}
use Rattle.flash_model.specs.declared.geometry.Geometry.{Geometry}
use Rattle.flash_model.specs.Device.{Device, Page, Reads}
use Rattle.nor_part.specs.Flashes.{nor_device}
use Rattle.nor_part.specs.Layout.{part_sizes, page_in}
use Rattle.nor_part.specs.States.{device_with}
use Rattle.nor_part.proofs.Ending.{read_done}
use Rattle.nor_part.proofs.nor_flash.NorFlashFlash.read.Goals as goal

pub returns : goal.returns
returns g c =
    let sizes : Geometry = part_sizes c.args.self.now.blocks in
    let old : Device = nor_device c.args.self.now in
    let pages : ℕ → Page = page_in (g.P.Nor.held c.read_page-read.new.part) in
    let new : Device = device_with sizes pages c.end_read.new.self in
    subst (λ result. Reads old c.args.page c.args.buffer.now new c.read_page-read.new.buffer result) (sym c.end_read.ensures.same)
    (read_done old _ new c.args.page c.args.buffer.now c.read_page-read.new.buffer c.read_page-read.result c.in_ok-begin.ensures.on
    (ap (λ (held : ℕ → List ℕ). device_with sizes (page_in held) c.begin.new.self) c.read_page-read.ensures.held ∙ c.in_ok-begin.ensures.begun sizes (page_in (g.P.Nor.held c.args.self.now.part)))
    (c.end_read.ensures.ends sizes pages) c.read_page-read.ensures.shows)
