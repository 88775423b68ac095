use Rattle.std.proofs.Common.{◌<◌, ℕ, List, ap, ◌∙◌, arith}
use Rattle.dense_nor.specs.Layout.{data_at, mark_at}
use Rattle.dense_nor.specs.Marks.{entry_of, page_from}
use Rattle.dense_nor.proofs.Places.{data_first}
use Rattle.raw_part.specs.Raws.{held_in}
use Rattle.raw_part.proofs.raw_flash.dense_page.Goals as goal

pub part_page-data-requires : goal.part_page-data-requires
part_page-data-requires c =
    let first : data_at c.args.layout.sectors c.args.page < mark_at c.args.layout.sectors c.args.page = data_first c.args.layout.sectors c.args.page c.args.layout.dense in
    omega (arith, first, c.data_page.ensures, c.requires)

pub returns-clause-shown : goal.returns-clause-shown
returns-clause-shown c =
    let held : ℕ → List ℕ = held_in c.args.bytes.now in
    let n : ℕ = c.args.layout.sectors in
    let p : ℕ = c.args.page in
    c.dense_view_of.ensures.shown
    ∙ ap (λ (x : List ℕ). page_from x c.entry_of.result.now) (c.part_page-data.ensures.bytes ∙ ap held c.data_page.ensures)
    ∙ ap (page_from (held (data_at n p))) (c.entry_of.ensures.entry ∙ ap (λ (m : List ℕ). entry_of m c.place.result) (c.part_page-marks.ensures.bytes ∙ ap held c.mark_page.ensures) ∙ ap (entry_of (held (mark_at n p))) c.place.ensures.place)
