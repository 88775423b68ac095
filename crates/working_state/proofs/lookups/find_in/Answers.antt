use Rattle.std.proofs.Common.{◌≡◌, Err, subst, rules, ap}
use Rattle.std.specs.Prelude.{IsErrOf}
use Rattle.fs_types.specs.declared.fault.Fault.TheVariants.{Damaged}
use Rattle.flash_model.specs.Device.{Device}
use Rattle.node_store.specs.NodePages.{node_of}
use Rattle.directory.specs.Seeking.{place_in}
use Rattle.working_state.specs.Leaves.{HasLooked}
use Rattle.working_state.proofs.StoreReads.{on_flash, path_causes, read_looks, store_looked}
use Rattle.node_store.specs.Stores.{Causes}
use Rattle.working_state.proofs.lookups.find_in.Goals as goal

pub returns-clause-looked : goal.returns-clause-looked
returns-clause-looked g c =
    on_flash HasLooked _ (g.F.Flash.device c.new-store.result.flash.now) _ c.new-store.result.storage.now _ (g.F.Flash.device c.found_in.new.nodes.flash.now) _ c.found_in.new.nodes.storage.now
    (ap (λ b. g.F.Flash.device b.now) c.new-store.ensures.flash) (ap (λ b. b.now) c.new-store.ensures.storage) (search rules) (search rules)
    (store_looked g.F.Flash.device c.new-store.result c.found_in.new.nodes c.found_in.ensures.calls.looks.came c.found_in.ensures.calls.looks.same_writes)

pub returns-clause-damaged : goal.returns-clause-damaged
returns-clause-damaged g c =
    subst (λ (d : Device). IsErrOf c.found_in.result Damaged → place_in (node_of d) c.args.name.now c.args.block ≡ Err Damaged)
    (ap (λ b. g.F.Flash.device b.now) c.new-store.ensures.flash) c.found_in.ensures.damaged

pub returns-clause-why : goal.returns-clause-why
returns-clause-why g c = let why = path_causes (Causes g.F.Flash.device c.new-store.result c.found_in.new.nodes) c.found_in.result read_looks c.found_in.ensures.calls.why c.found_in.ensures.calls.faults in search rules

pub returns-clause-faults : goal.returns-clause-faults
returns-clause-faults g c = c.found_in.ensures.calls.faults
