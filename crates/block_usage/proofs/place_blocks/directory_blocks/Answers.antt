use Rattle.std.proofs.Common.{ℕ, ◌-◌, Err, List, sym, ap, subst, ◌∙◌}
use Rattle.std.proofs.lemmas.Result.{err_from_is_err_and}
use Rattle.std.specs.Prelude.{Contains}
use Rattle.block_ring.specs.Ring.{IsDataBlock}
use Rattle.node_format.specs.Headers.{body_header}
use Rattle.nodes.specs.Bodies.{Blocks}
use Rattle.reclaim.specs.Passes.{IsPass}
use Rattle.reclaim.specs.Verified.{AreRoots}
use Rattle.reclaim.proofs.KnownPasses.{begins_known}
use Rattle.block_usage.proofs.Marks.{all_marked, look_of_marks, only_root, root_is_data}
use Rattle.block_usage.proofs.place_blocks.directory_blocks.Goals as goal

pub start-requires : goal.start-requires
start-requires g c = λ root has.
    let nodes = c.args.nodes.now in
    subst (λ (n : ℕ). IsDataBlock n root) (sym c.block_count.ensures)
    (root_is_data (g.N.Nodes.limit nodes - body_header) (g.N.Nodes.node nodes) c.args.block (g.N.Nodes.blocks nodes) (λ b low. g.met.N.Nodes.none_below nodes b low) (λ b high. g.met.N.Nodes.none_beyond nodes b high) c.requires.tree root has)

pub read_all-requires-clause-pass : goal.read_all-requires-clause-pass
read_all-requires-clause-pass g c = c.in_ok-pass.ensures.pass (g.N.Nodes.node c.args.nodes.now)

pub read_all-requires-clause-known : goal.read_all-requires-clause-known
read_all-requires-clause-known g c =
    let limit = g.N.Nodes.limit c.args.nodes.now in
    let f = g.N.Nodes.node c.args.nodes.now in
    let roots = c.in_ok-pass.ensures.begun.1 in
    begins_known limit f c.in_ok-pass.pass (subst (AreRoots limit f) (sym roots) (only_root (limit - body_header) f c.args.block c.requires.tree)) (c.in_ok-pass.ensures.pass f)
    (λ b has. subst (λ (l : List ℕ). Contains l b) (sym roots) ((c.in_ok-pass.ensures.first b).0 has)) c.in_ok-pass.ensures.none

pub returns-in_err-read_all-clause-refused : goal.returns-in_err-read_all-clause-refused
returns-in_err-read_all-clause-refused g c =
    let p = err_from_is_err_and c.from_residual-in_err-read_all.result c.from_residual-in_err-read_all.ensures.1 in
    let limit = g.N.Nodes.limit c.args.nodes.now in
    let f = g.N.Nodes.node c.args.nodes.now in
    let look = look_of_marks limit f c.in_ok-pass.pass c.args.block c.in_err-read_all.field-0.0 c.in_ok-pass.ensures.begun.1 c.requires.tree c.in_err-read_all.ensures.calls.faults (λ is. c.in_err-read_all.ensures.damaged (ap Err is)) in
    rw (p.1, p.2) (look, c.in_err-read_all.ensures.calls.why look)

pub returns-clause-blocks : goal.returns-clause-blocks
returns-clause-blocks g c =
    let f = g.N.Nodes.node c.args.nodes.now in
    let roots = c.read_all.ensures.on.roots ∙ c.in_ok-pass.ensures.begun.1 in
    let pass : IsPass f c.read_all.new.self = subst (λ (h : Blocks). IsPass h c.read_all.new.self) c.read_all.ensures.calls.looks.same_nodes (c.in_ok-read_all.ensures.read.1.pass (c.in_ok-pass.ensures.pass f)) in
    all_marked f c.read_all.new.self c.args.block c.in_ok-to_vec.field-0.items pass c.in_ok-read_all.ensures.read.0 roots (c.in_ok-to_vec.ensures.items_if_clones_equal (λ x y same. same) ∙ c.marked.ensures.listed)
