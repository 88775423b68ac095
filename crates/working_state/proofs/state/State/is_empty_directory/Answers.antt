use Rattle.std.proofs.Common.{subst, length, ap, rules}
use Rattle.flash_model.specs.Device.{Device}
use Rattle.node_store.specs.NodePages.{node_of}
use Rattle.std.specs.Prelude.{◌≡◌, ◌==◌, List, Some, None, IfOk, IsErrOf}
use Rattle.fs_types.specs.declared.fault.Fault.TheVariants.{Damaged}
use Rattle.node_format.specs.Items.{Item}
use Rattle.nodes.specs.Trees.{entries_in}
use Rattle.working_state.proofs.StoreReads.{path_causes, read_looks}
use Rattle.node_store.specs.Stores.{Causes}
use Rattle.working_state.proofs.state.State.is_empty_directory.Goals as goal

pub returns-clause-empty : goal.returns-clause-empty
returns-clause-empty g c =
    subst (λ (d : Device). IfOk c.is_empty.result (λ empty. (items : List Item) → entries_in (node_of d) c.args.block ≡ Some items → empty ≡ (length items == 0)))
    (ap (λ b. g.F.Flash.device b.now) c.new-store.ensures.flash) c.is_empty.ensures.value

pub returns-clause-damaged : goal.returns-clause-damaged
returns-clause-damaged g c =
    subst (λ (d : Device). IsErrOf c.is_empty.result Damaged → entries_in (node_of d) c.args.block ≡ None)
    (ap (λ b. g.F.Flash.device b.now) c.new-store.ensures.flash) c.is_empty.ensures.damaged

pub returns-clause-why : goal.returns-clause-why
returns-clause-why g c = let why = path_causes (Causes g.F.Flash.device c.new-store.result c.is_empty.new.nodes) c.is_empty.result read_looks c.is_empty.ensures.calls.why c.is_empty.ensures.calls.faults in search rules

pub returns-clause-faults : goal.returns-clause-faults
returns-clause-faults g c = c.is_empty.ensures.calls.faults
