use Rattle.std.proofs.Common.{ℕ, List, sym, subst}
use Rattle.std.specs.FinSet as set
use Rattle.std.specs.Ordering.{nat_cmp}
use Rattle.flash_model.specs.Device.{Device}
use Rattle.flash_model.specs.Geometry.{block_bytes}
use Rattle.flash_model.specs.Reading.{OnlyReads, OnlyReads_on}
use Rattle.history_machine.specs.History.{Past}
use Rattle.node_store.specs.NodePages.{node_of}
use Rattle.reclaim.specs.Verified.{AreRoots}
use Rattle.block_usage.specs.Kinds.{AreKinds, HasNewest, checkpoint_roots, other_roots, present_roots}
use Rattle.block_usage.specs.Maps.{AreMarked, Knows}
use Rattle.block_usage.proofs.MapLemmas.{checkpoints_stand, marked_before, others_stand, present_stand, ready_later, roots_later, told}
use Rattle.block_usage.proofs.maps.map_state.Goals as goal

pub find_facts-requires-clause-ready : goal.find_facts-requires-clause-ready
find_facts-requires-clause-ready g c =
    ready_later (g.F.Flash.device c.args.flash.now) (g.F.Flash.device c.newest_anchor.new.flash) c.args.state.now.storage c.in_ok-newest.ensures.only_reads c.requires.ready

pub find_facts-requires-clause-present : goal.find_facts-requires-clause-present
find_facts-requires-clause-present g c =
    let d = g.F.Flash.device c.args.flash.now in
    let limit = block_bytes d.geometry in
    roots_later d (g.F.Flash.device c.newest_anchor.new.flash) c.in_ok-roots.roots.present.items c.requires.ready.lawful c.in_ok-newest.ensures.only_reads
    (subst (AreRoots limit (node_of d)) (sym c.in_ok-roots.ensures.present) (present_stand limit (node_of d) c.args.state.now.history c.requires.trees))

pub find_facts-requires-clause-others : goal.find_facts-requires-clause-others
find_facts-requires-clause-others g c =
    let d = g.F.Flash.device c.args.flash.now in
    let limit = block_bytes d.geometry in
    roots_later d (g.F.Flash.device c.newest_anchor.new.flash) c.in_ok-roots.roots.others.items c.requires.ready.lawful c.in_ok-newest.ensures.only_reads
    (subst (AreRoots limit (node_of d)) (sym c.in_ok-roots.ensures.others) (others_stand limit (node_of d) c.args.state.now.history c.requires.trees))

pub find_facts-requires-clause-checkpoints : goal.find_facts-requires-clause-checkpoints
find_facts-requires-clause-checkpoints g c =
    let d = g.F.Flash.device c.args.flash.now in
    let limit = block_bytes d.geometry in
    roots_later d (g.F.Flash.device c.newest_anchor.new.flash) c.in_ok-roots.roots.checkpoints.items c.requires.ready.lawful c.in_ok-newest.ensures.only_reads
    (subst (AreRoots limit (node_of d)) (sym c.in_ok-roots.ensures.checkpoints) (checkpoints_stand limit (node_of d) c.args.state.now.history c.requires.trees))

pub returns-clause-kinds : goal.returns-clause-kinds
returns-clause-kinds g c =
    let d = g.F.Flash.device c.args.flash.now in
    let e = g.F.Flash.device c.newest_anchor.new.flash in
    let f = g.F.Flash.device c.find_facts.new.flash in
    let h = c.args.state.now.history in
    let lawful = c.requires.ready.lawful in
    let looked = c.in_ok-newest.ensures.only_reads in
    let facts = c.in_ok-facts.facts in
    let found = c.in_ok-facts.ensures in
    let roots = c.in_ok-roots.ensures in
    let knows : Knows d h facts = record {
      newest = subst (HasNewest d) (sym found.newest) c.in_ok-newest.ensures.newest;
      present = marked_before d e (present_roots h) facts.present.members lawful looked (subst (λ (l : List ℕ). AreMarked e l facts.present.members) roots.present found.present);
      others = marked_before d e (other_roots h) facts.others.members lawful looked (subst (λ (l : List ℕ). AreMarked e l facts.others.members) roots.others found.others);
      checkpoints = marked_before d e (checkpoint_roots h) facts.checkpoints.members lawful looked (subst (λ (l : List ℕ). AreMarked e l facts.checkpoints.members) roots.checkpoints found.checkpoints);
    } in
    told c.list_kinds.result (λ kinds. (x : Device) (p : Past ℕ) → OnlyReads x f → Knows x p facts → AreKinds x p c.find_facts.new.storage.bad kinds.items) (λ kinds. AreKinds d h c.args.state.now.storage.bad kinds.items)
    c.list_kinds.ensures.kinds
    (λ kinds are. subst (λ (bad : set.FinSet nat_cmp). AreKinds d h bad kinds.items) found.bad (are d h (OnlyReads_on d e f looked found.only_reads) knows))

pub returns-clause-only_reads : goal.returns-clause-only_reads
returns-clause-only_reads g c =
    let d = g.F.Flash.device c.args.flash.now in
    let e = g.F.Flash.device c.newest_anchor.new.flash in
    let f = g.F.Flash.device c.find_facts.new.flash in
    OnlyReads_on d f (g.F.Flash.device c.list_kinds.new.flash) (OnlyReads_on d e f c.in_ok-newest.ensures.only_reads c.in_ok-facts.ensures.only_reads) c.list_kinds.ensures.only_reads
