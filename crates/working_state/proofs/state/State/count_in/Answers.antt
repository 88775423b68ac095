use Rattle.std.proofs.Common.{subst, length, rules, ap}
use Rattle.flash_model.specs.Device.{Device}
use Rattle.node_store.specs.NodePages.{node_of}
use Rattle.nodes.specs.Chains.{chain}
use Rattle.working_state.specs.Looking.{AsksBlocks}
use Rattle.working_state.proofs.Looks.{on_devices, store_asks}
use Rattle.std.specs.Prelude.{◌≡◌, List, Some, None, IfOk, IsErrOf}
use Rattle.fs_types.specs.declared.fault.Fault.TheVariants.{Damaged}
use Rattle.node_format.specs.Items.{Item}
use Rattle.nodes.specs.Trees.{entries_in}
use Rattle.working_state.proofs.StoreReads.{path_causes, read_looks}
use Rattle.node_store.specs.Stores.{Causes}
use Rattle.working_state.proofs.state.State.count_in.Goals as goal

pub returns-clause-asks : goal.returns-clause-asks
returns-clause-asks g c =
    on_devices (λ d e. AsksBlocks d (length (chain (node_of d) c.args.block)) e) _ (g.F.Flash.device c.new-store.result.flash.now) _ (g.F.Flash.device c.entry_count.new.nodes.flash.now)
    (ap (λ b. g.F.Flash.device b.now) c.new-store.ensures.flash) (search rules)
    (store_asks g.F.Flash.device c.new-store.result c.entry_count.new.nodes (length (chain (node_of (g.F.Flash.device c.new-store.result.flash.now)) c.args.block)) c.entry_count.ensures.calls.looks.came c.entry_count.ensures.calls.looks.same_writes c.entry_count.ensures.calls.reads)

pub returns-clause-count : goal.returns-clause-count
returns-clause-count g c =
    subst (λ (d : Device). IfOk c.entry_count.result (λ count. (items : List Item) → entries_in (node_of d) c.args.block ≡ Some items → count ≡ length items))
    (ap (λ b. g.F.Flash.device b.now) c.new-store.ensures.flash) c.entry_count.ensures.count

pub returns-clause-damaged : goal.returns-clause-damaged
returns-clause-damaged g c =
    subst (λ (d : Device). IsErrOf c.entry_count.result Damaged → entries_in (node_of d) c.args.block ≡ None)
    (ap (λ b. g.F.Flash.device b.now) c.new-store.ensures.flash) c.entry_count.ensures.damaged

pub returns-clause-why : goal.returns-clause-why
returns-clause-why g c = let why = path_causes (Causes g.F.Flash.device c.new-store.result c.entry_count.new.nodes) c.entry_count.result read_looks c.entry_count.ensures.calls.why c.entry_count.ensures.calls.faults in search rules

pub returns-clause-faults : goal.returns-clause-faults
returns-clause-faults g c = c.entry_count.ensures.calls.faults
