use Rattle.std.proofs.Common.{◌≡◌, ◌∙◌, ◌++◌, ◌+◌, ◌*◌, ℕ, List, sym, ap, append_assoc, arith}
use Rattle.std.proofs.lemmas.List.{append-nil}
use Rattle.flash_simulation.specs.Images.{parts}
use Rattle.flash_simulation.proofs.ImageParts.{parts-none, parts-more}
use Rattle.flash_simulation.specs.Simulation.{device_of}
use Rattle.dense_nor.specs.Layout.{data_pages}
use Rattle.raw_part.specs.Raws.{place_text}
use Rattle.raw_part.proofs.spelling.push_marks.Goals as goal

pub loop-i-init : goal.loop-i-init
loop-i-init c =
    let k : ℕ = data_pages c.args.layout.sectors in
    let part : ℕ → List ℕ = λ j. place_text k (λ place. (device_of c.args.flash.now).pages (k * c.args.block + place)) (32 * c.args.number + j) in
    sym (ap (λ (t : List ℕ). c.args.bytes.now.items ++ t) (parts-none part) ∙ append-nil c.args.bytes.now.items)

pub loop-i-preserved : goal.loop-i-preserved
loop-i-preserved c =
    let k : ℕ = data_pages c.args.layout.sectors in
    let part : ℕ → List ℕ = λ j. place_text k (λ place. (device_of c.args.flash.now).pages (k * c.args.block + place)) (32 * c.args.number + j) in
    let old : List ℕ = c.args.bytes.now.items in
    c.in_ok-push_place.ensures ∙ ap (λ (x : List ℕ). x ++ part c.loop-i.i) c.loop-i.invariant ∙ append_assoc old (parts c.loop-i.i part) (part c.loop-i.i) ∙ ap (λ (t : List ℕ). old ++ t) (sym (parts-more c.loop-i.i part))

pub returns : goal.returns
returns c =
    let k : ℕ = data_pages c.args.layout.sectors in
    let part : ℕ → List ℕ = λ j. place_text k (λ place. (device_of c.args.flash.now).pages (k * c.args.block + place)) (32 * c.args.number + j) in
    let end : c.loop-i.i ≡ 32 = omega arith in
    c.loop-i.invariant ∙ ap (λ (n : ℕ). c.args.bytes.now.items ++ parts n part) end
