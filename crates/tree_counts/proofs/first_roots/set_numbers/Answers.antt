use Rattle.std.proofs.Common.{ℕ, ◌<◌, List, length, get_or, subst, sym, arith}
use Rattle.std.proofs.lemmas.List.{take_all}
use Rattle.std.proofs.lemmas.List.Elements.{Contains-get_or}
use Rattle.std.specs.Prelude.{Contains}
use Rattle.tree_counts.proofs.Numbers.{given_more, others_more}
use Rattle.tree_counts.proofs.first_roots.set_numbers.Goals as goal

pub bounds-numbers-block : goal.bounds-numbers-block
bounds-numbers-block c = omega (arith, c.requires (get_or c.args.blocks.now c.loop-block.block-index 0) (Contains-get_or c.args.blocks.now c.loop-block.block-index 0 c.loop-block-test.true))

pub loop-block-preserved : goal.loop-block-preserved
loop-block-preserved c =
    let i = c.loop-block.block-index in
    let inside : get_or c.args.blocks.now c.loop-block.block-index 0 < length c.loop-block.numbers =
    omega (arith, c.requires (get_or c.args.blocks.now i 0) (Contains-get_or c.args.blocks.now i 0 c.loop-block-test.true)) in
    record {
      given = given_more c.args.blocks.now c.args.numbers.now c.loop-block.numbers c.args.number i c.loop-block-test.true inside c.loop-block.invariant.given c.loop-block.invariant.others;
      others = others_more c.args.blocks.now c.args.numbers.now c.loop-block.numbers c.args.number i c.loop-block-test.true inside c.loop-block.invariant.given c.loop-block.invariant.others;
    }

pub returns-clause-given : goal.returns-clause-given
returns-clause-given c b has =
    c.loop-block.invariant.given b (subst (λ (l : List ℕ). Contains l b) (sym (take_all c.loop-block.block-index c.args.blocks.now (omega arith))) has)

pub returns-clause-others : goal.returns-clause-others
returns-clause-others c b none =
    c.loop-block.invariant.others b (λ has. none (subst (λ (l : List ℕ). Contains l b) (take_all c.loop-block.block-index c.args.blocks.now (omega arith)) has))
