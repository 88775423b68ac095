use Rattle.std.proofs.Common.{arith}
use Rattle.part_file.specs.Flashes.{part_device}
use Rattle.part_file.specs.Layout.{erase_steps}
use Rattle.part_file.specs.Parts.{sizes_driven}
use Rattle.part_file.proofs.Holding.{after_order}
use Rattle.part_file.proofs.Keeping.{erase_kept}
use Rattle.part_file.proofs.part_flash.PartFlashFlash.erase.Goals as goal

pub returns-clause-kept : goal.returns-clause-kept
returns-clause-kept g c =
    erase_kept _ _ (sizes_driven c.args.self.now.driver) (part_device c.args.self.now) _ c.args.block c.erase-done.result c.args.self.now.sizes c.requires
    (omega (arith, c.args.self.now.mirror.shown.lawful.some_pages)) c.erase-done.ensures.bytes c.erase.ensures.erases

pub invariant_of-self-clause-held : goal.invariant_of-self-clause-held
invariant_of-self-clause-held g c =
    let old = c.args.self.now in
    let done = c.erase-done.ensures in
    after_order _ _ _ _ (part_device old) _ (erase_steps (sizes_driven old.driver) c.args.block) c.erase-done.result done.bytes
    (erase_kept _ _ (sizes_driven old.driver) (part_device old) _ c.args.block c.erase-done.result old.sizes c.requires
    (omega (arith, old.mirror.shown.lawful.some_pages)) done.bytes c.erase.ensures.erases)
    done.lost (λ off. (done.same off).1) old.held
