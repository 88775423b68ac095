use Rattle.std.proofs.Common.{◌≡◌, rules, ap, sym, subst, ◌∙◌}
use Rattle.flash_simulation.specs.Simulation.{device_of}
use Rattle.node_store.specs.Fitting.{Fits}
use Rattle.node_store.specs.Stores.{IsSoundStore}
use Rattle.node_store.specs.declared.storage.Storage.{Storage}
use Rattle.node_store.specs.declared.store.Store.{Store}
use Rattle.flash_simulation.specs.declared.sim_flash.SimFlash.{SimFlash}
use Rattle.mount_tests.proofs.verifications.told.Goals as goal

pub verify-answer-requires-clause-sound : goal.verify-answer-requires-clause-sound
verify-answer-requires-clause-sound c =
    let storage : c.new-store.result.storage.now ≡ c.in_ok-storage.storage = ap (λ b. b.now) c.new-store.ensures.storage in
    let sound : IsSoundStore device_of c.new-store.result = record {
      lawful = search rules;
      ring_blocks = search rules;
      fits = subst (λ (s : Storage). Fits (device_of c.new-store.result.flash.now) s) (sym storage)
          (c.in_ok-storage.ensures.fits (device_of c.new-store.result.flash.now) (ap (λ (f : SimFlash). f.geometry) (ap (λ b. b.now) c.new-store.ensures.flash) ∙ sym c.geometry-sizes.ensures));
    } in
    subst (λ (s : Store SimFlash). IsSoundStore device_of s) (sym c.new-nodes.ensures) sound
