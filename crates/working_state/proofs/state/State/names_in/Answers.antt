use Rattle.std.proofs.Common.{subst, length, rules, ap}
use Rattle.flash_model.specs.Device.{Device}
use Rattle.node_store.specs.NodePages.{node_of}
use Rattle.nodes.specs.Chains.{chain}
use Rattle.working_state.specs.Looking.{AsksBlocks}
use Rattle.working_state.proofs.Looks.{on_devices, store_asks}
use Rattle.std.specs.Prelude.{◌≡◌, List, Some, None, IfOk, IsErrOf}
use Rattle.fs_types.specs.declared.fault.Fault.TheVariants.{Damaged}
use Rattle.node_format.specs.Items.{Item}
use Rattle.nodes.specs.Trees.{entries_in, names_of}
use Rattle.working_state.proofs.StoreReads.{path_causes, read_looks}
use Rattle.node_store.specs.Stores.{Causes}
use Rattle.working_state.proofs.state.State.names_in.Goals as goal

pub returns-clause-asks : goal.returns-clause-asks
returns-clause-asks g c =
    on_devices (λ d e. AsksBlocks d (length (chain (node_of d) c.args.block)) e) _ (g.F.Flash.device c.new-store.result.flash.now) _ (g.F.Flash.device c.names.new.nodes.flash.now)
    (ap (λ b. g.F.Flash.device b.now) c.new-store.ensures.flash) (search rules)
    (store_asks g.F.Flash.device c.new-store.result c.names.new.nodes (length (chain (node_of (g.F.Flash.device c.new-store.result.flash.now)) c.args.block)) c.names.ensures.calls.looks.came c.names.ensures.calls.looks.same_writes c.names.ensures.calls.reads)

pub returns-clause-names : goal.returns-clause-names
returns-clause-names g c =
    subst (λ (d : Device). IfOk c.names.result (λ names. (items : List Item) → entries_in (node_of d) c.args.block ≡ Some items → names ≡ names_of items))
    (ap (λ b. g.F.Flash.device b.now) c.new-store.ensures.flash) c.names.ensures.names

pub returns-clause-damaged : goal.returns-clause-damaged
returns-clause-damaged g c =
    subst (λ (d : Device). IsErrOf c.names.result Damaged → entries_in (node_of d) c.args.block ≡ None)
    (ap (λ b. g.F.Flash.device b.now) c.new-store.ensures.flash) c.names.ensures.damaged

pub returns-clause-why : goal.returns-clause-why
returns-clause-why g c = let why = path_causes (Causes g.F.Flash.device c.new-store.result c.names.new.nodes) c.names.result read_looks c.names.ensures.calls.why c.names.ensures.calls.faults in search rules

pub returns-clause-faults : goal.returns-clause-faults
returns-clause-faults g c = c.names.ensures.calls.faults
