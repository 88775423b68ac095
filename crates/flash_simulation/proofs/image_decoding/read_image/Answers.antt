use Rattle.std.proofs.Common.{◌≡◌, ◌≢◌, ◌++◌, List, ℕ, [], inr, ap, sym, ◌∙◌, arith, append_assoc}
use Rattle.std.proofs.lemmas.Result.{err_from_is_err_and}
use Rattle.flash_model.specs.declared.geometry.Geometry.{Geometry}
use Rattle.flash_model.specs.Device.{Device}
use Rattle.flash_simulation.specs.Simulation.{device_of}
use Rattle.flash_simulation.specs.Images.{header, blocks_text}
use Rattle.flash_simulation.proofs.ImageMagic.{sizes-end, not-empty}
use Rattle.flash_simulation.proofs.ImageStops.{has_image, stops}
use Rattle.flash_simulation.proofs.image_decoding.read_image.Goals as goal

pub returns-in_default-clause-fault : goal.returns-in_default-clause-fault
returns-in_default-clause-fault c = inr (sizes-end c.args.bytes.now c.in_ok-rest.rest.now (λ i. omega (arith, c.type_inv.bytes i)) c.in_ok-rest.ensures.ok c.in_default.ensures.none)

pub returns-in_err-rest-2-clause-fault : goal.returns-in_err-rest-2-clause-fault
returns-in_err-rest-2-clause-fault c =
    let p = err_from_is_err_and c.from_residual-in_err-rest-2.result c.from_residual-in_err-rest-2.ensures.1 in
    let e = device_of c.read_blocks.new.flash in
    let sizes : e.geometry ≡ c.in-Some.sizes = ap (λ (x : Device). x.geometry) c.read_blocks.ensures.fills.others ∙ c.in_ok-flash.ensures.new.geometry in
    let spelled = c.in_ok-rest.ensures.ok ∙ c.in-Some.ensures.found ∙ ap (λ (g : Geometry). header g ++ c.in-Some.rest.now) (sym sizes) in
    rw (p.1, p.2) (inr (stops e c.in_err-rest-2.field-0.0 c.args.bytes.now c.in-Some.rest.now (has_image c.read_blocks.new.flash) spelled c.in_err-rest-2.ensures.err))

pub returns-then-not-is_empty-clause-fault : goal.returns-then-not-is_empty-clause-fault
returns-then-not-is_empty-clause-fault c =
    let e = device_of c.read_blocks.new.flash in
    let sizes : e.geometry ≡ c.in-Some.sizes = ap (λ (x : Device). x.geometry) c.read_blocks.ensures.fills.others ∙ c.in_ok-flash.ensures.new.geometry in
    let more = c.in_ok-rest-2.rest.now in
    let spelled = c.in_ok-rest.ensures.ok ∙ c.in-Some.ensures.found ∙ ap (λ (g : Geometry). header g ++ c.in-Some.rest.now) (sym sizes)
    ∙ ap (λ (t : List ℕ). header e.geometry ++ t) c.in_ok-rest-2.ensures.ok ∙ sym (append_assoc (header e.geometry) (blocks_text e) more) in
    let some : more ≢ [] = not-empty more c.is_empty.result c.is_empty.ensures c.if-not-is_empty.true in
    inr (record { flash = e; image = has_image c.read_blocks.new.flash; more = more; some = some; spelled = spelled })
