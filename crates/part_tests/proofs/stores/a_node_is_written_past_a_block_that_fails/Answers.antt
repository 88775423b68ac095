use Rattle.std.proofs.Common.{◌≡◌, rules, ap, sym, subst}
use Rattle.flash_simulation.specs.Simulation.{device_of}
use Rattle.node_store.specs.Fitting.{Fits}
use Rattle.node_store.specs.declared.storage.Storage.{Storage}
use Rattle.part_tests.proofs.stores.a_node_is_written_past_a_block_that_fails.Goals as goal

pub write-requires-clause-sound : goal.write-requires-clause-sound
write-requires-clause-sound g c =
    let flash : c.new-store.result.flash.now ≡ c.in_ok-flash.flash = ap (λ b. b.now) c.new-store.ensures.flash in
    let storage : c.new-store.result.storage.now ≡ c.in_ok-storage.storage = ap (λ b. b.now) c.new-store.ensures.storage in
    record {
      lawful = search rules;
      ring_blocks = search rules;
      fits = subst (λ (s : Storage). Fits (device_of c.new-store.result.flash.now) s) (sym storage)
          (c.in_ok-storage.ensures.fits (device_of c.new-store.result.flash.now) (search rules));
    }
