use Rattle.std.proofs.Common.{◌≡◌, ℕ, ◌<◌, true, false, List, Bool, sym, subst, ap, ◌∙◌}
use Rattle.std.specs.Prelude.{slice_index_or}
use Rattle.flash_model.specs.declared.geometry.Geometry.{Geometry}
use Rattle.flash_model.specs.Device.{Device, Page, Erases}
use Rattle.dense_nor.specs.Flashes.{dense_device}
use Rattle.dense_nor.specs.Layout.{dense_sizes, page_in}
use Rattle.nor_part.specs.States.{cleaned_of, device_with, is_cleaned}
use Rattle.dense_nor.specs.Cleaned.{AreClean}
use Rattle.dense_nor.proofs.Cleaning.{noted}
use Rattle.dense_nor.proofs.Places.{block_in_part}
use Rattle.nor_part.proofs.Cleaning.{erased_already, unnoted}
use Rattle.nor_part.proofs.Ending.{begins, erase_done}
use Rattle.dense_nor.proofs.dense_flash.DenseNorFlashFlash.erase.Goals as goal

pub returns-clause-erases : goal.returns-clause-erases
returns-clause-erases g c =
    let sizes : Geometry = dense_sizes c.args.self.now.layout.sectors c.args.self.now.blocks in
    let old : Device = dense_device c.args.self.now in
    let begun : Device = device_with sizes old.pages c.note_cleaned.new.self in
    let pages : ℕ → Page = page_in c.args.self.now.layout.sectors (g.P.Nor.held c.erase_block-done.new.part) in
    let new : Device = device_with sizes pages c.end.new.self in
    subst (λ result. Erases old c.args.block new result) (sym c.end.ensures.same)
    (erase_done old (record begun { pages = pages }) new c.args.block c.erase_block-done.result
    (begins old begun pages c.in_ok-begin.ensures.on (c.note_cleaned.ensures.device sizes old.pages ∙ c.in_ok-begin.ensures.begun sizes old.pages))
    (c.end.ensures.ends sizes pages) c.erase_block-done.ensures.others c.erase_block-done.ensures.own)

-- a block that was cleaned
pub returns-then-is_cleaned-clause-erases : goal.returns-then-is_cleaned-clause-erases
returns-then-is_cleaned-clause-erases g c =
    let sizes : Geometry = dense_sizes c.args.self.now.layout.sectors c.args.self.now.blocks in
    let old : Device = dense_device c.args.self.now in
    let flag : is_cleaned c.args.self.now.state c.args.block ≡ true =
    ap (λ (cleaned : List Bool). slice_index_or cleaned c.args.block false) (sym c.begin.ensures.cleaned) ∙ sym c.is_cleaned.ensures ∙ c.if-is_cleaned.true in
    erased_already old (device_with sizes old.pages c.begin.new.self) c.args.block c.in_ok-begin.ensures.on (c.in_ok-begin.ensures.begun sizes old.pages)
    (c.args.self.now.all_clean c.args.block flag)

pub erase_block-done-requires-clause-in_part : goal.erase_block-done-requires-clause-in_part
erase_block-done-requires-clause-in_part g c =
    block_in_part c.args.self.now.layout.sectors c.args.block (g.P.Nor.count c.args.self.now.part)
    (subst (λ (blocks : ℕ). c.args.block < blocks) (sym c.args.self.now.all_pages) c.requires)

-- the block is noted as clean where it was erased
pub invariant_of-self-2-clause-all_clean : goal.invariant_of-self-2-clause-all_clean
invariant_of-self-2-clause-all_clean g c =
    let n : ℕ = c.args.self.now.layout.sectors in
    let held : ℕ → List ℕ = g.P.Nor.held c.args.self.now.part in
    let now : ℕ → List ℕ = g.P.Nor.held c.erase_block-done.new.part in
    subst (λ (cleaned : List Bool). AreClean n now cleaned) (sym c.end.ensures.cleaned)
    (noted n held now (cleaned_of c.args.self.now.state) (cleaned_of c.note_cleaned.new.self) c.args.block c.is_ok.result c.args.self.now.all_clean c.erase_block-done.ensures.others
    c.note_cleaned.ensures.own
    (λ done p here. unnoted (page_in n held) (page_in n now) p c.erase_block-done.result (c.erase_block-done.ensures.own p here) (sym c.is_ok.ensures.value ∙ done))
    (λ k apart. c.note_cleaned.ensures.others k apart ∙ ap (λ (cleaned : List Bool). slice_index_or cleaned k false) c.begin.ensures.cleaned))
