use Rattle.std.proofs.Common.{◌≡◌, ◌∙◌, ℕ, ◌+◌, ◌-◌, ◌/◌, ◌<◌, Option, Some, List, [], ◌∷◌, ◌++◌, length, refl, sym, ap, subst, arith}
use Rattle.std.proofs.lemmas.List.{length-append}
use Rattle.std.proofs.lemmas.Result.{err_from_is_err_and}
use Rattle.node_format.specs.Headers.{body_header}
use Rattle.nodes.specs.Bodies.{Blocks, back, index_of, pointer_of}
use Rattle.nodes.proofs.Bodies.{back_back}
use Rattle.block_usage.proofs.BodyBlocks.{later_index}
use Rattle.block_usage.proofs.Marks.{more_listed}
use Rattle.block_usage.proofs.place_blocks.file_blocks.Goals as goal

pub block_before-requires-clause-later : goal.block_before-requires-clause-later
block_before-requires-clause-later g c =
    let f = g.N.Nodes.node c.args.nodes.now in
    let limit = g.N.Nodes.limit c.args.nodes.now in
    let now = c.loop-node.invariant in
    let k = c.loop-node._node in
    let same : g.N.Nodes.node c.loop-node.nodes c.loop-node.block ≡ f (back f c.args.head k) = ap (λ (h : Blocks). h c.loop-node.block) now.looks.same_nodes ∙ ap f now.here in
    let less = subst (λ (n : ℕ). k < (c.args.size - 1) / (n - body_header)) c.block_bytes.ensures.value c.loop-node-test.true in
    subst (λ (node : Option (List ℕ)). (x : ℕ) × (index_of node ≡ Some x) × (0 < x)) (sym same) (later_index (limit - body_header) f c.args.head c.args.size k (omega (arith, c.if-size-eq0.false)) c.requires.body less)

pub returns-in_err-block-clause-refused : goal.returns-in_err-block-clause-refused
returns-in_err-block-clause-refused g c =
    let p = err_from_is_err_and c.from_residual-in_err-block.result c.from_residual-in_err-block.ensures.1 in
    rw (p.1, p.2) (c.in_err-block.ensures.refused.0, g.met.N.Nodes.causes_on c.args.nodes.now c.loop-node.nodes c.block_before.new.nodes c.in_err-block.field-0.0 c.loop-node.invariant.looks.came c.in_err-block.ensures.refused.1)

pub returns-in_err-push-2-clause-refused : goal.returns-in_err-push-2-clause-refused
returns-in_err-push-2-clause-refused g c =
    let p = err_from_is_err_and c.from_residual-in_err-push-2.result c.from_residual-in_err-push-2.ensures.1 in
    rw (p.1, p.2) (refl, g.met.N.Nodes.memory_may_want c.args.nodes.now c.block_before.new.nodes)

pub loop-node-preserved : goal.loop-node-preserved
loop-node-preserved g c =
    let f = g.N.Nodes.node c.args.nodes.now in
    let head = c.args.head in
    let now = c.loop-node.invariant in
    let k = c.loop-node._node in
    let block = c.in_ok-block.block in
    let is : block ≡ back f head (k + 1) =
    c.in_ok-block.ensures.found ∙ ap (λ (h : Blocks). pointer_of (h c.loop-node.block) 0) now.looks.same_nodes ∙ ap (λ (b : ℕ). pointer_of (f b) 0) now.here ∙ back_back f k 1 head in
    let items : c.push-in-loop-node.new.self.items ≡ c.loop-node.blocks.items ++ block ∷ [] = c.in_ok-push-2.ensures.items in
    record {
      here = is;
      each = more_listed f head block (k + 1) c.loop-node.blocks.items c.push-in-loop-node.new.self.items items now.size is now.each;
      size = ap length items ∙ length-append c.loop-node.blocks.items (block ∷ []) ∙ ap (λ (n : ℕ). n + 1) now.size;
      looks = g.met.N.Nodes.looks_on c.args.nodes.now c.loop-node.nodes c.block_before.new.nodes now.looks c.block_before.ensures.looks;
    }
