use Rattle.std.proofs.Common.{◌≡◌, ℕ, ◌*◌, ◌/◌, ◌%◌, ◌^◌, ap, ◌∙◌}
use Rattle.std.proofs.lemmas.Result.{IfOk-weaker}
use Rattle.nodes.specs.Bodies.{pointer_of, back}
use Rattle.tree_edits.proofs.Marks.{odd_pointer, odd_next}
use Rattle.tree_edits.proofs.slot_table.step_back.Goals as goal

pub pointer_at-requires-clause-slot : goal.pointer_at-requires-clause-slot
pointer_at-requires-clause-slot g c =
    let most = c.args.most in
    let slot = c.args.slot in
    let odd : most / 2 ^ slot % 2 ≡ 0 → ⊥ = λ (e : most / 2 ^ slot % 2 ≡ 0). c.if-most-power-eq0.false (ap (λ (p : ℕ). most / p % 2) c.pow-power.ensures ∙ e) in
    odd_pointer c.requires.chain.0 (g.N.Nodes.node c.args.nodes.now) c.args.block most slot c.requires.few c.requires.chain.1 odd

pub returns-clause-next : goal.returns-clause-next
returns-clause-next g c =
    let f = g.N.Nodes.node c.args.nodes.now in
    let most = c.args.most in
    let slot = c.args.slot in
    let odd : most / 2 ^ slot % 2 ≡ 0 → ⊥ = λ (e : most / 2 ^ slot % 2 ≡ 0). c.if-most-power-eq0.false (ap (λ (p : ℕ). most / p % 2) c.pow-power.ensures ∙ e) in
    IfOk-weaker c.pointer_at.result (λ next. next ≡ pointer_of (f c.args.block) slot) (λ next. next ≡ back f c.args.block (most / 2 ^ slot % 2 * 2 ^ slot))
    (λ next is. odd_next f c.args.block most slot next c.requires.few c.requires.linked odd is) c.pointer_at.ensures.found
