use Rattle.std.proofs.Common.{◌≡◌, List, ℕ, IfSome, take, sym, subst}
use Rattle.std.proofs.lemmas.Result.{IfOk-weaker, IfErr-weaker}
use Rattle.flash_simulation.specs.Simulation.{device_of}
use Rattle.host_interface.specs.declared.image_files.TheConstants.{MOST_BYTES}
use Rattle.image_words.proofs.RawWritten.{raw_known, unread_raw}
use Rattle.image_words.proofs.raw_images.load_raw.Goals as goal

pub returns-clause-ok : goal.returns-clause-ok
returns-clause-ok g c =
    let held = g.F.ImageFiles.held c.args.files.now c.args.name.now in
    let front = subst (λ (b : List ℕ). IfSome held (λ all. b ≡ take MOST_BYTES all)) (sym c.deref.ensures.value) c.in-Ok.ensures.ok in
    IfOk-weaker c.flash_of_taken.result _ _ (λ flash is. raw_known c.args.sizes c.in-Some.layout held c.deref.result.now (device_of flash) c.in-Some.ensures.some front is) c.flash_of_taken.ensures.ok

pub returns-clause-err : goal.returns-clause-err
returns-clause-err g c =
    let held = g.F.ImageFiles.held c.args.files.now c.args.name.now in
    let front = subst (λ (b : List ℕ). IfSome held (λ all. b ≡ take MOST_BYTES all)) (sym c.deref.ensures.value) c.in-Ok.ensures.ok in
    IfErr-weaker c.flash_of_taken.result _ _ (λ failure why. unread_raw c.args.sizes c.in-Some.layout held c.deref.result.now failure c.in-Some.ensures.some front why) c.flash_of_taken.ensures.err
