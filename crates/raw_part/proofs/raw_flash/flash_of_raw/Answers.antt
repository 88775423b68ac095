use Rattle.std.proofs.Common.{◌≡◌, ℕ, ◌*◌, ◌/◌, ◌%◌, ◌<◌, ◌≤◌, length, sym, subst, ap, ◌∙◌, arith}
use Rattle.std.proofs.Math.Nat.{div-add-mod}
use Rattle.flash_model.specs.declared.geometry.Geometry.{Geometry}
use Rattle.flash_model.specs.Contents.{IsWhole, shown_page}
use Rattle.flash_model.specs.Geometry.{IsGeometry, page_count}
use Rattle.flash_simulation.specs.Simulation.{device_of}
use Rattle.raw_part.specs.Layouts.{pages_of, part_block, sizes_of}
use Rattle.raw_part.proofs.Placed.{bytes_inside}
use Rattle.raw_part.proofs.Read.{one_read, all_read}
use Rattle.raw_part.proofs.raw_flash.flash_of_raw.Goals as goal

pub page_at-requires : goal.page_at-requires
page_at-requires c =
    let layout = c.args.layout in
    let long : ℕ = length c.args.bytes.now in
    let told : c.page_count-page-end.result ≡ long / part_block layout * pages_of layout =
    c.page_count-page-end.ensures ∙ ap page_count c.sizes-sizes.ensures ∙ ap (λ (k : ℕ). long / k * pages_of layout) c.part_block-size.ensures.bytes in
    let below : c.loop-page.page < long / part_block layout * pages_of layout = omega (arith, told) in
    let whole : part_block layout * (long / part_block layout) ≤ long = omega (arith, div-add-mod long (part_block layout)) in
    bytes_inside layout (long / part_block layout) c.loop-page.page long below whole

pub set_page-requires-clause-whole : goal.set_page-requires-clause-whole
set_page-requires-clause-whole c =
    subst (λ (g : Geometry). IsWhole g.page (shown_page c.page_at.result)) (sym c.loop-page.invariant.geometry) c.page_at.ensures.whole

pub loop-page-preserved : goal.loop-page-preserved
loop-page-preserved c =
    one_read c.args.layout (length c.args.bytes.now / part_block c.args.layout) c.args.bytes.now (device_of c.loop-page.flash) (device_of c.set_page.new.self) c.loop-page.page (shown_page c.page_at.result)
    c.loop-page.invariant c.page_at.ensures.shown c.set_page.ensures.page

pub returns-clause-ok : goal.returns-clause-ok
returns-clause-ok c =
    let layout = c.args.layout in
    let long : ℕ = length c.args.bytes.now in
    let size = c.part_block-size.ensures.bytes in
    let zero : long % c.part_block-size.result ≡ 0 = omega arith in
    let rest : long % part_block layout ≡ 0 = subst (λ (k : ℕ). long % k ≡ 0) size zero in
    let whole : long ≡ part_block layout * (long / part_block layout) = omega (arith, div-add-mod long (part_block layout), rest) in
    let told : c.page_count-page-end.result ≡ long / part_block layout * pages_of layout =
    c.page_count-page-end.ensures ∙ ap page_count c.sizes-sizes.ensures ∙ ap (λ (k : ℕ). long / k * pages_of layout) size in
    let end : long / part_block layout * pages_of layout ≤ c.loop-page.page = omega (arith, told) in
    let lawful : IsGeometry (sizes_of layout (long / part_block layout)) = subst IsGeometry (c.sizes-sizes.ensures ∙ ap (λ (k : ℕ). sizes_of layout (long / k)) size) c.in_ok-flash.ensures.lawful in
    all_read layout (long / part_block layout) c.args.bytes.now (device_of c.loop-page.flash) c.loop-page.page c.loop-page.invariant lawful whole end
