use Rattle.std.proofs.Common.{◌≡◌, ℕ, ◌+◌, ◌-◌, Option, List, [], ◌∷◌, ◌++◌, length, sym, ap, subst, ◌∙◌, arith, length-append}
use Rattle.std.proofs.lemmas.Result.{err_from_is_err_and}
use Rattle.nodes.specs.Bodies.{Blocks, pointer_of, back}
use Rattle.tree_edits.specs.Reading.{AreBlocks}
use Rattle.nodes.specs.WordLaws.{looks_refused}
use Rattle.tree_edits.proofs.NodeCalls.{within_after}
use Rattle.tree_edits.proofs.Parts.{count_some}
use Rattle.tree_edits.proofs.Places.{HasPointer}
use Rattle.tree_edits.proofs.Kept.{more_listed, listed_pointer, listed_next}
use Rattle.tree_edits.proofs.old_nodes.list_blocks.Goals as goal

pub pointer_at-requires-clause-slot : goal.pointer_at-requires-clause-slot
pointer_at-requires-clause-slot g c =
    let f = g.N.Nodes.node c.args.nodes.now in
    let now = c.loop-step.invariant in
    let step : ℕ = c.loop-step._step - 1 in
    let there = listed_pointer c.args.capacity f c.args.body.head c.args.body.length step (omega arith) c.requires.holds.whole (omega arith) in
    let same : g.N.Nodes.node c.loop-step.nodes c.loop-step.block ≡ f (back f c.args.body.head step) = ap (λ (h : Blocks). h c.loop-step.block) now.looks.same_nodes ∙ ap f now.here in
    subst (λ (node : Option (List ℕ)). HasPointer node 0) (sym same) there

pub loop-step-preserved : goal.loop-step-preserved
loop-step-preserved g c =
    let f = g.N.Nodes.node c.args.nodes.now in
    let head = c.args.body.head in
    let now = c.loop-step.invariant in
    let done = c.in_ok-block.ensures in
    let step = c.loop-step._step in
    let block = c.in_ok-block.block in
    let before : step - 1 + 1 ≡ step = omega arith in
    let after : step ≡ step + 1 - 1 = omega arith in
    let is : block ≡ back f head step =
    done.found ∙ ap (λ (h : Blocks). pointer_of (h c.loop-step.block) 0) now.looks.same_nodes ∙ ap (λ (b : ℕ). pointer_of (f b) 0) now.here ∙ listed_next f head (step - 1) ∙ ap (back f head) before in
    let items : c.push_reserved-in-loop-step.new.self.items ≡ c.loop-step.blocks.items ++ block ∷ [] = c.push_reserved-in-loop-step.ensures.items in
    record {
      here = is ∙ ap (back f head) after;
      listed = subst (AreBlocks f head) (sym items) (more_listed f head block step c.loop-step.blocks.items now.size is now.listed);
      size = ap length items ∙ length-append c.loop-step.blocks.items (block ∷ []) ∙ ap (λ (n : ℕ). n + 1) now.size;
      long = c.push_reserved-in-loop-step.ensures.len ∙ ap (λ (n : ℕ). n + 1) now.long;
      held = c.push_reserved-in-loop-step.ensures.capacity ∙ now.held;
      reads = omega (arith, now.reads, done.calls.reads);
      asks = omega (arith, now.asks, done.asks);
      looks = g.met.N.Nodes.looks_on c.args.nodes.now c.loop-step.nodes c.pointer_at.new.nodes now.looks done.calls.looks;
    }

pub pointer_at-requires-clause-sound : goal.pointer_at-requires-clause-sound
pointer_at-requires-clause-sound g c = c.loop-step.invariant.looks.sound

pub returns-in_err-block-clause-calls : goal.returns-in_err-block-clause-calls
returns-in_err-block-clause-calls g c =
    let now = c.loop-step.invariant in
    let calls = c.in_err-block.ensures.calls in
    let count = count_some c.args.capacity c.args.from c.args.body.length (omega arith) in
    let p = err_from_is_err_and c.from_residual-in_err-block.result c.from_residual-in_err-block.ensures.1 in
    rw (p.1, p.2) (within_after g.met.N.Nodes.looks_on g.met.N.Nodes.causes_on c.args.nodes.now c.loop-step.nodes c.pointer_at.new.nodes now.looks (looks_refused calls) (omega (arith, now.reads, calls.reads, count)))

pub returns-clause-calls : goal.returns-clause-calls
returns-clause-calls g c =
    let count = count_some c.args.capacity c.args.from c.args.body.length (omega arith) in
    record { looks = c.loop-step.invariant.looks; reads = omega (arith, c.loop-step.invariant.reads, count); why = tt; faults = tt }
