use Rattle.std.proofs.Common.{ℕ, ◌*◌, ◌/◌, ◌<◌, List, Bool, false, sym, subst, ap, ◌∙◌}
use Rattle.std.specs.Prelude.{slice_index_or}
use Rattle.flash_model.specs.declared.geometry.Geometry.{Geometry}
use Rattle.flash_model.specs.Device.{Device, Page, Programs}
use Rattle.dense_nor.specs.Flashes.{dense_device}
use Rattle.dense_nor.specs.Layout.{data_pages, dense_sizes, page_in}
use Rattle.nor_part.specs.States.{device_with}
use Rattle.nor_part.specs.States.{cleaned_of}
use Rattle.dense_nor.specs.Cleaned.{AreClean}
use Rattle.dense_nor.proofs.Cleaning.{noted}
use Rattle.dense_nor.proofs.Places.{in_part}
use Rattle.nor_part.proofs.Ending.{begins, program_done}
use Rattle.dense_nor.proofs.dense_flash.DenseNorFlashFlash.program.Goals as goal

pub returns : goal.returns
returns g c =
    let sizes : Geometry = dense_sizes c.args.self.now.layout.sectors c.args.self.now.blocks in
    let old : Device = dense_device c.args.self.now in
    let begun : Device = device_with sizes old.pages c.note_cleaned.new.self in
    let pages : ℕ → Page = page_in c.args.self.now.layout.sectors (g.P.Nor.held c.write_page-done.new.part) in
    let new : Device = device_with sizes pages c.end.new.self in
    subst (λ result. Programs old c.args.page c.args.bytes.now new result) (sym c.end.ensures.same)
    (program_done old (record begun { pages = pages }) new c.args.page _ c.args.bytes.now c.write_page-done.result (ap (λ (k : ℕ). c.args.page / k) c.data_pages.ensures.pages)
    (begins old begun pages c.in_ok-begin.ensures.on (c.note_cleaned.ensures.device sizes old.pages ∙ c.in_ok-begin.ensures.begun sizes old.pages))
    (c.end.ensures.ends sizes pages) c.write_page-done.ensures.others c.write_page-done.ensures.own)

pub write_page-done-requires-clause-in_part : goal.write_page-done-requires-clause-in_part
write_page-done-requires-clause-in_part g c =
    in_part c.args.self.now.layout.sectors c.args.page (g.P.Nor.count c.args.self.now.part) c.args.self.now.layout.dense
    (subst (λ (blocks : ℕ). c.args.page < blocks * data_pages c.args.self.now.layout.sectors) (sym c.args.self.now.all_pages) c.requires.in_range)

-- the page's block is noted as one that may have data
pub invariant_of-self-2-clause-all_clean : goal.invariant_of-self-2-clause-all_clean
invariant_of-self-2-clause-all_clean g c =
    let n : ℕ = c.args.self.now.layout.sectors in
    let b : ℕ = c.args.page / c.data_pages.result in
    let held : ℕ → List ℕ = g.P.Nor.held c.args.self.now.part in
    let now : ℕ → List ℕ = g.P.Nor.held c.write_page-done.new.part in
    subst (λ (cleaned : List Bool). AreClean n now cleaned) (sym c.end.ensures.cleaned)
    (noted n held now (cleaned_of c.args.self.now.state) (cleaned_of c.note_cleaned.new.self) b false c.args.self.now.all_clean
    (λ p apart. c.write_page-done.ensures.others p (λ same. apart (ap (λ (k : ℕ). k / data_pages n) same ∙ ap (λ (k : ℕ). c.args.page / k) (sym c.data_pages.ensures.pages))))
    c.note_cleaned.ensures.own (λ never. absurd cc) (λ k apart. c.note_cleaned.ensures.others k apart ∙ ap (λ (cleaned : List Bool). slice_index_or cleaned k false) c.begin.ensures.cleaned))
