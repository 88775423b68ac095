use Rattle.std.proofs.Common.{◌≡◌, subst, rules, ap, sym}
use Rattle.working_state.specs.Leaves.{HasLooked}
use Rattle.working_state.proofs.StoreReads.{lookup_looks, on_flash, path_seen, store_looked}
use Rattle.flash_model.specs.Device.{Device}
use Rattle.node_store.specs.NodePages.{node_of}
use Rattle.directory.specs.Beside.{beside_nodes}
use Rattle.working_state.specs.Looking.{AsksBlocks}
use Rattle.working_state.proofs.Looks.{on_devices, store_asks}
use Rattle.std.specs.Prelude.{IfOk}
use Rattle.directory.specs.Lookups.{LeadsToDirectories}
use Rattle.directory.specs.Trails.{IsTrail}
use Rattle.block_ring.specs.Ring.{free_count}
use Rattle.bad_blocks.specs.Mode.{is_read_only}
use Rattle.node_store.specs.declared.storage.Storage.{Storage}
use Rattle.working_state.specs.Seen.{seen_of}
use Rattle.working_state.proofs.lookups.find_path_beside.Goals as goal

pub returns-clause-looked : goal.returns-clause-looked
returns-clause-looked g c =
    on_flash HasLooked _ (g.F.Flash.device c.new-store.result.flash.now) _ c.new-store.result.storage.now _ (g.F.Flash.device c.find_beside.new.nodes.flash.now) _ c.find_beside.new.nodes.storage.now
    (ap (λ b. g.F.Flash.device b.now) c.new-store.ensures.flash) (ap (λ b. b.now) c.new-store.ensures.storage) (search rules) (search rules)
    (store_looked g.F.Flash.device c.new-store.result c.find_beside.new.nodes c.find_beside.ensures.calls.looks.came c.find_beside.ensures.calls.looks.same_writes)

pub returns-clause-asks : goal.returns-clause-asks
returns-clause-asks g c =
    on_devices (λ d e. AsksBlocks d (beside_nodes (node_of d) c.args.root c.args.other.now c.args.other_trail.now c.args.path.now) e) _ (g.F.Flash.device c.new-store.result.flash.now) _ (g.F.Flash.device c.find_beside.new.nodes.flash.now)
    (ap (λ b. g.F.Flash.device b.now) c.new-store.ensures.flash) (search rules)
    (store_asks g.F.Flash.device c.new-store.result c.find_beside.new.nodes (beside_nodes (node_of (g.F.Flash.device c.new-store.result.flash.now)) c.args.root c.args.other.now c.args.other_trail.now c.args.path.now) c.find_beside.ensures.calls.looks.came c.find_beside.ensures.calls.looks.same_writes c.find_beside.ensures.calls.reads)

pub returns-clause-trail : goal.returns-clause-trail
returns-clause-trail g c =
    subst (λ (d : Device). LeadsToDirectories (node_of d) c.args.root → IfOk c.find_beside.result (λ r. IsTrail (node_of d) c.args.root c.args.path.now r.1))
    (ap (λ b. g.F.Flash.device b.now) c.new-store.ensures.flash) c.find_beside.ensures.trail

pub find_beside-requires-clause-way : goal.find_beside-requires-clause-way
find_beside-requires-clause-way g c =
    subst (λ (d : Device). IsTrail (node_of d) c.args.root c.args.other.now c.args.other_trail.now) (sym (ap (λ b. g.F.Flash.device b.now) c.new-store.ensures.flash)) c.requires.way

pub returns-clause-why : goal.returns-clause-why
returns-clause-why g c =
    let same : c.storage-1.given.0 ≡ c.find_beside.new.nodes.storage.now = search rules in
    path_seen g.F.Flash.device c.new-store.result c.find_beside.new.nodes (seen_of (g.F.Flash.device c.args.flash.now) c.args.storage.now) _ c.find_beside.result lookup_looks (ap (λ (x : Storage). free_count x.ring x.bad) same) (ap (λ (x : Storage). is_read_only x.bad) same) (search rules) (search rules) (search rules) c.find_beside.ensures.calls.why c.find_beside.ensures.calls.faults

pub returns-clause-faults : goal.returns-clause-faults
returns-clause-faults g c = c.find_beside.ensures.calls.faults
