use Rattle.std.proofs.Common.{sym, subst, ◌∙◌, ℕ, List, true, ◌≡◌}
use Rattle.std.specs.FinSet as set
use Rattle.std.specs.Prelude.{◌↔◌}
use Rattle.flash_model.specs.Geometry.{block_bytes}
use Rattle.node_store.specs.NodePages.{node_of}
use Rattle.nodes.specs.Reached.{Reached}
use Rattle.reclaim.specs.Verified.{AreRoots}
use Rattle.working_state.specs.Moments.{moment}
use Rattle.working_state.proofs.Standing.{looked_at}
use Rattle.system.proofs.Measured.{mounted_roots, space_told}
use Rattle.mounting.specs.Costs.{AsksEach}
use Rattle.mounting.specs.Records.{working_roots}
use Rattle.mounting.proofs.Asking.{asks_none}
use Rattle.system.proofs.space.measure.Goals as goal

pub marked_on-requires-clause-trees : goal.marked_on-requires-clause-trees
marked_on-requires-clause-trees g c =
    let d = g.F.Flash.device c.args.flash.now in
    subst (AreRoots (block_bytes d.geometry) (node_of d)) (sym (c.deref.ensures.value ∙ c.in_ok-roots.ensures)) (mounted_roots d c.args.state.now c.requires)

pub returns-clause-told : goal.returns-clause-told
returns-clause-told g c =
    let d = g.F.Flash.device c.args.flash.now in
    let looked = c.marked_on.ensures.looked in
    space_told (moment d c.args.state.now) (moment (g.F.Flash.device c.marked_on.new.flash) (record c.args.state.now { storage = c.marked_on.new.storage })) c.in_ok-reached.reached.blocks c.in_ok-reached.reached.members c.tell_space.result c.requires
    (looked_at (moment d c.args.state.now) (g.F.Flash.device c.marked_on.new.flash) c.marked_on.new.storage looked) c.in_ok-reached.ensures.blocks
    (subst (λ (roots : List ℕ). (b : ℕ) → (set.contains c.in_ok-reached.reached.members b ≡ true) ↔ Reached (node_of d) roots b) (c.deref.ensures.value ∙ c.in_ok-roots.ensures) c.in_ok-reached.ensures.reached)
    c.tell_space.ensures

pub returns-in_err-roots-clause-asks : goal.returns-in_err-roots-clause-asks
returns-in_err-roots-clause-asks g c = asks_none (g.F.Flash.device c.args.flash.now) (working_roots c.args.state.now)

pub returns-in_err-reached-clause-asks : goal.returns-in_err-reached-clause-asks
returns-in_err-reached-clause-asks g c =
    subst (λ (roots : List ℕ). AsksEach (g.F.Flash.device c.args.flash.now) roots (g.F.Flash.device c.marked_on.new.flash)) (c.deref.ensures.value ∙ c.in_ok-roots.ensures) c.marked_on.ensures.asks

pub returns-clause-asks : goal.returns-clause-asks
returns-clause-asks g c =
    subst (λ (roots : List ℕ). AsksEach (g.F.Flash.device c.args.flash.now) roots (g.F.Flash.device c.marked_on.new.flash)) (c.deref.ensures.value ∙ c.in_ok-roots.ensures) c.marked_on.ensures.asks
