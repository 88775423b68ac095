use Rattle.part_file.specs.Flashes.{part_device}
use Rattle.part_file.specs.Layout.{program_steps}
use Rattle.part_file.specs.Parts.{sizes_driven}
use Rattle.part_file.proofs.Holding.{after_order}
use Rattle.part_file.proofs.Keeping.{program_kept}
use Rattle.part_file.proofs.part_flash.PartFlashFlash.program.Goals as goal

pub returns-clause-kept : goal.returns-clause-kept
returns-clause-kept g c =
    program_kept _ _ (sizes_driven c.args.self.now.driver) (part_device c.args.self.now) _ c.args.page c.args.bytes.now c.program-done.result c.args.self.now.sizes c.requires.in_range c.requires.whole
    c.program-done.ensures.bytes c.program.ensures.programs

pub invariant_of-self-clause-held : goal.invariant_of-self-clause-held
invariant_of-self-clause-held g c =
    let old = c.args.self.now in
    let done = c.program-done.ensures in
    after_order _ _ _ _ (part_device old) _ (program_steps (sizes_driven old.driver) c.args.page c.args.bytes.now) c.program-done.result done.bytes
    (program_kept _ _ (sizes_driven old.driver) (part_device old) _ c.args.page c.args.bytes.now c.program-done.result old.sizes c.requires.in_range c.requires.whole
    done.bytes c.program.ensures.programs)
    done.lost (λ off. (done.same off).1) old.held
