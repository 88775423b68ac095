-- A read is one more operation, and shows what the part holds.
use Rattle.std.proofs.Common.{ℕ, ◌*◌, ◌<◌, List, sym, subst, ap, ◌∙◌}
use Rattle.flash_model.specs.declared.geometry.Geometry.{Geometry}
use Rattle.flash_model.specs.Device.{Device, Page, Reads}
use Rattle.dense_nor.specs.Flashes.{dense_device}
use Rattle.dense_nor.specs.Layout.{data_pages, dense_sizes, page_in}
use Rattle.nor_part.specs.States.{device_with}
use Rattle.dense_nor.proofs.Places.{in_part}
use Rattle.nor_part.proofs.Ending.{read_done}
use Rattle.dense_nor.proofs.dense_flash.DenseNorFlashFlash.read.Goals as goal

pub returns : goal.returns
returns g c =
    let sizes : Geometry = dense_sizes c.args.self.now.layout.sectors c.args.self.now.blocks in
    let old : Device = dense_device c.args.self.now in
    let pages : ℕ → Page = page_in c.args.self.now.layout.sectors (g.P.Nor.held c.read_page-read.new.part) in
    let new : Device = device_with sizes pages c.end_read.new.self in
    subst (λ result. Reads old c.args.page c.args.buffer.now new c.read_page-read.new.buffer result) (sym c.end_read.ensures.same)
    (read_done old _ new c.args.page c.args.buffer.now c.read_page-read.new.buffer c.read_page-read.result c.in_ok-begin.ensures.on
    (ap (λ (held : ℕ → List ℕ). device_with sizes (page_in c.args.self.now.layout.sectors held) c.begin.new.self) c.read_page-read.ensures.held ∙ c.in_ok-begin.ensures.begun sizes (page_in c.args.self.now.layout.sectors (g.P.Nor.held c.args.self.now.part)))
    (c.end_read.ensures.ends sizes pages) c.read_page-read.ensures.shows)

pub read_page-read-requires-clause-in_part : goal.read_page-read-requires-clause-in_part
read_page-read-requires-clause-in_part g c =
    in_part c.args.self.now.layout.sectors c.args.page (g.P.Nor.count c.args.self.now.part) c.args.self.now.layout.dense
    (subst (λ (blocks : ℕ). c.args.page < blocks * data_pages c.args.self.now.layout.sectors) (sym c.args.self.now.all_pages) c.requires.in_range)
