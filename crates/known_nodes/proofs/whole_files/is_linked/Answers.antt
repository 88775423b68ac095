use Rattle.std.proofs.Common.{◌≡◌, ◌+◌, ◌-◌, suc, sym, ap, ◌∙◌, arith}
use Rattle.known_nodes.specs.Tables.{blocks_in, marks_in}
use Rattle.known_nodes.specs.WholeFiles.{are_steps}
use Rattle.known_nodes.proofs.TableLaws.{steps_on, steps_stop, steps_last, linked_is}
use Rattle.known_nodes.proofs.whole_files.is_linked.Goals as goal

pub returns-then-not-has : goal.returns-then-not-has
returns-then-not-has c = λ capacity are.
    let f = blocks_in c.args.table.now in
    let good = marks_in c.args.steps.now in
    sym (steps_stop good f (c.in-Some.index - c.loop.counter) c.loop.at (sym c.has.ensures ∙ c.if-not-has.true)) ∙ c.loop.invariant
    ∙ linked_is capacity f good c.args.block c.in-Some.index (sym c.in-Some.ensures) are

pub loop-preserved : goal.loop-preserved
loop-preserved c =
    let f = blocks_in c.args.table.now in
    let good = marks_in c.args.steps.now in
    let left = c.in-Some.index - (c.loop.counter + 1) in
    let more : c.in-Some.index - c.loop.counter ≡ suc left = let below = c.loop-test.true in omega (arith, below) in
    ap (are_steps good f left) c.pointer_at-at.ensures ∙ sym (steps_on good f (c.in-Some.index - c.loop.counter) left c.loop.at more (sym c.has.ensures ∙ c.if-not-has.false)) ∙ c.loop.invariant

pub returns : goal.returns
returns c = λ capacity are.
    let f = blocks_in c.args.table.now in
    let good = marks_in c.args.steps.now in
    let none : c.in-Some.index - c.loop.counter ≡ 0 = let past = c.loop-test.false in omega (arith, past) in
    c.has-2.ensures ∙ sym (steps_last good f (c.in-Some.index - c.loop.counter) c.loop.at none) ∙ c.loop.invariant
    ∙ linked_is capacity f good c.args.block c.in-Some.index (sym c.in-Some.ensures) are
