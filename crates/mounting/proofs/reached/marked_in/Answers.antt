use Rattle.std.proofs.Common.{◌≡◌, ◌↔◌, ℕ, true, None, Err, List, refl, sym, ap, subst, ◌∙◌}
use Rattle.std.specs.Prelude.{Contains}
use Rattle.std.specs.FinSet as set
use Rattle.std.proofs.lemmas.Result.{err_from_is_err_and}
use Rattle.block_ring.specs.Ring.{IsDataBlock}
use Rattle.flash_model.specs.Geometry.{block_bytes}
use Rattle.node_store.specs.NodePages.{node_of}
use Rattle.nodes.specs.Bodies.{Blocks}
use Rattle.reclaim.specs.Passes.{IsPass}
use Rattle.reclaim.specs.Verified.{AreRoots}
use Rattle.reclaim.proofs.KnownPasses.{begins_known}
use Rattle.reclaim.proofs.Looking.{read_look}
use Rattle.nodes.specs.Reached.{Reached}
use Rattle.mounting.proofs.Marking.{roots_hold_data, marking_why, reads_none, reads_each}
use Rattle.mounting.proofs.Asking.{asks_none, asks_each}
use Rattle.mounting.proofs.reached.marked_in.Goals as goal

pub start-requires : goal.start-requires
start-requires g c = λ b has.
    subst (λ n. IsDataBlock n b) (sym c.block_count.ensures) (roots_hold_data (g.F.Flash.device c.args.store.now.flash.now) c.args.roots.now c.requires.trees b has)

pub read_all-requires-clause-pass : goal.read_all-requires-clause-pass
read_all-requires-clause-pass g c = c.in_ok-pass.ensures.pass (node_of (g.F.Flash.device c.args.store.now.flash.now))

pub read_all-requires-clause-known : goal.read_all-requires-clause-known
read_all-requires-clause-known g c =
    let d = g.F.Flash.device c.args.store.now.flash.now in
    let limit = block_bytes d.geometry in
    let roots = c.in_ok-pass.ensures.begun.1 in
    begins_known limit (node_of d) c.in_ok-pass.pass (subst (AreRoots limit (node_of d)) (sym roots) c.requires.trees) (c.in_ok-pass.ensures.pass (node_of d))
    (λ b has. subst (λ (l : List ℕ). Contains l b) (sym roots) ((c.in_ok-pass.ensures.first b).0 has)) c.in_ok-pass.ensures.none

pub finish-requires : goal.finish-requires
finish-requires g c = c.in_ok-read_all.ensures.read.0

pub returns-clause-reached : goal.returns-clause-reached
returns-clause-reached g c =
    let d = g.F.Flash.device c.args.store.now.flash.now in
    let roots = c.read_all.ensures.on.roots ∙ c.in_ok-pass.ensures.begun.1 in
    let pass : IsPass (node_of d) c.read_all.new.self = subst (λ (f : Blocks). IsPass f c.read_all.new.self) c.read_all.ensures.calls.looks.same_nodes (c.in_ok-read_all.ensures.read.1.pass (c.in_ok-pass.ensures.pass (node_of d))) in
    λ b. subst (λ (l : List ℕ). (set.contains c.finish.result.members b ≡ true) ↔ Reached (node_of d) l b) roots (c.finish.ensures.exact (node_of d) pass b)

pub returns-clause-blocks : goal.returns-clause-blocks
returns-clause-blocks g c = c.finish.ensures.blocks ∙ c.read_all.ensures.on.blocks ∙ c.in_ok-pass.ensures.begun.0 ∙ c.block_count.ensures

pub returns-in_err-read_all-clause-why : goal.returns-in_err-read_all-clause-why
returns-in_err-read_all-clause-why g c =
    let p = err_from_is_err_and c.from_residual-in_err-read_all.result c.from_residual-in_err-read_all.ensures.1 in
    rw (p.1, p.2)
    (marking_why g.F.Flash.device c.args.store.now c.read_all.new.nodes c.args.roots.now c.in_err-read_all.field-0.0 c.requires.trees c.in_err-read_all.ensures.calls.faults
    (λ is.
    let node = node_of (g.F.Flash.device c.args.store.now.flash.now) in
    subst (λ (roots : List ℕ). (b : ℕ) × Reached node roots b × (node b ≡ None)) c.in_ok-pass.ensures.begun.1 (c.in_err-read_all.ensures.damaged (ap Err is))) (λ other. c.in_err-read_all.ensures.calls.why (read_look c.in_err-read_all.field-0.0 c.in_err-read_all.ensures.calls.faults other)))

pub returns-in_err-pass-clause-reads : goal.returns-in_err-pass-clause-reads
returns-in_err-pass-clause-reads g c = reads_none (node_of (g.F.Flash.device c.args.store.now.flash.now)) c.args.roots.now c.args.store.now.reads.n c.args.store.now.reads.n refl

pub returns-in_err-read_all-clause-reads : goal.returns-in_err-read_all-clause-reads
returns-in_err-read_all-clause-reads g c =
    reads_each (node_of (g.F.Flash.device c.args.store.now.flash.now)) c.args.roots.now c.in_ok-pass.pass c.args.store.now.reads.n c.read_all.new.nodes.reads.n c.in_ok-pass.ensures.begun.1 c.in_ok-pass.ensures.begun.2 c.read_all.ensures.calls.reads

pub returns-clause-reads : goal.returns-clause-reads
returns-clause-reads g c =
    reads_each (node_of (g.F.Flash.device c.args.store.now.flash.now)) c.args.roots.now c.in_ok-pass.pass c.args.store.now.reads.n c.read_all.new.nodes.reads.n c.in_ok-pass.ensures.begun.1 c.in_ok-pass.ensures.begun.2 c.read_all.ensures.calls.reads

pub returns-in_err-pass-clause-asks : goal.returns-in_err-pass-clause-asks
returns-in_err-pass-clause-asks g c = asks_none (g.F.Flash.device c.args.store.now.flash.now) c.args.roots.now

pub returns-in_err-read_all-clause-asks : goal.returns-in_err-read_all-clause-asks
returns-in_err-read_all-clause-asks g c =
    asks_each g.F.Flash.device c.args.store.now c.read_all.new.nodes c.args.roots.now c.read_all.ensures.calls.looks.came c.read_all.ensures.calls.looks.same_writes (returns-in_err-read_all-clause-reads g c)

pub returns-clause-asks : goal.returns-clause-asks
returns-clause-asks g c =
    asks_each g.F.Flash.device c.args.store.now c.read_all.new.nodes c.args.roots.now c.read_all.ensures.calls.looks.came c.read_all.ensures.calls.looks.same_writes (returns-clause-reads g c)
