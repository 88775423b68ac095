use Rattle.std.proofs.Common.{◌≡◌, Bool, ◌*◌, ◌++◌, inr, ap, sym, ◌∙◌}
use Rattle.std.proofs.lemmas.Result.{IfOk-weaker, MatchResult-weaker}
use Rattle.flash_simulation.specs.Simulation.{device_of}
use Rattle.flash_simulation.specs.Images.{parts, place_text, block_text, worn_text}
use Rattle.flash_simulation.proofs.ImageFilling.{block-fills, block-worn, block-spells}
use Rattle.flash_simulation.proofs.image_decoding.read_block.Goals as goal

pub returns-clause-ok : goal.returns-clause-ok
returns-clause-ok c =
    let d = device_of c.set_worn.new.self in
    let e = device_of c.read_pages.new.flash in
    let worn = block-worn (device_of c.args.flash.now) d e c.args.block (c.args.block * d.geometry.pages) c.in_ok-is_worn.is_worn c.set_worn.ensures.worn c.read_pages.ensures.fills in
    IfOk-weaker c.read_pages.result (λ rest. c.in_ok-is_worn.rest.now ≡ parts e.geometry.pages (place_text e c.args.block) ++ rest.now) (λ rest. c.args.bytes.now ≡ block_text e c.args.block ++ rest.now)
    (λ rest next. block-spells e c.args.block c.in_ok-is_worn.is_worn c.args.bytes.now c.in_ok-is_worn.rest.now rest.now worn c.in_ok-is_worn.ensures.ok next) c.read_pages.ensures.ok

pub returns-clause-err : goal.returns-clause-err
returns-clause-err c =
    let d = device_of c.set_worn.new.self in
    let e = device_of c.read_pages.new.flash in
    let worn = block-worn (device_of c.args.flash.now) d e c.args.block (c.args.block * d.geometry.pages) c.in_ok-is_worn.is_worn c.set_worn.ensures.worn c.read_pages.ensures.fills in
    MatchResult-weaker c.read_pages.result c.read_pages.ensures.err (λ rest always. always) (λ fault wrong. inr (record {
      rest = c.in_ok-is_worn.rest.now;
      spelled = c.in_ok-is_worn.ensures.ok ∙ ap (λ (w : Bool). worn_text w ++ c.in_ok-is_worn.rest.now) (sym worn);
      wrong = wrong;
    }))

pub returns-clause-fills : goal.returns-clause-fills
returns-clause-fills c =
    block-fills (device_of c.args.flash.now) (device_of c.set_worn.new.self) (device_of c.read_pages.new.flash) c.args.block c.in_ok-is_worn.is_worn c.set_worn.ensures.worn c.read_pages.ensures.fills
