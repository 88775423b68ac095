use Rattle.std.proofs.Common.{ℕ, List, subst, sym, refl, arith}
use Rattle.std.specs.Prelude.{Contains}
use Rattle.std.proofs.lemmas.List.{take_all}
use Rattle.std.proofs.lemmas.List.Elements.{Contains-get_or}
use Rattle.reclaim.proofs.Paths.{goes_itself, goes_on, put_more}
use Rattle.reclaim.proofs.Standing.{still_stands}
use Rattle.reclaim.proofs.levels.Levels.put_all.Goals as goal

pub loop-block-init : goal.loop-block-init
loop-block-init c = record { goes = goes_itself c.args.self.now; still = λ hold may. (hold, may); all = λ hold b has. absurd (omega (arith, has.1)) }

pub loop-block-preserved : goal.loop-block-preserved
loop-block-preserved c = record {
  goes = goes_on c.args.self.now c.loop-block.self c.put.new.self c.loop-block.invariant.goes c.in_ok-put.ensures.goes;
  still = λ hold may.
      let so_far = c.loop-block.invariant.still hold may in (
        c.in_ok-put.ensures.still so_far.0 (so_far.1 _ (Contains-get_or c.args.list.now c.loop-block.block-index 0 c.loop-block-test.true)),
        λ b has. still_stands c.loop-block.self c.put.new.self _ c.args.least b c.requires
            (record { goes = c.in_ok-put.ensures.goes; others = c.in_ok-put.ensures.others; own = c.in_ok-put.ensures.own; size = c.in_ok-put.ensures.size }) (so_far.1 b has),
      );
  all = λ hold.
      put_more c.args.list.now c.loop-block.block-index c.loop-block.self c.put.new.self c.args.least _ c.requires c.loop-block-test.true c.in_ok-put.ensures.goes (c.loop-block.invariant.all (c.in_ok-put.ensures.goes.held hold)) refl
      (c.in_ok-put.ensures.put hold);
}

pub returns-clause-goes : goal.returns-clause-goes
returns-clause-goes c = c.loop-block.invariant.goes

pub returns-clause-all : goal.returns-clause-all
returns-clause-all c hold b has =
    c.loop-block.invariant.all hold b (subst (λ (l : List ℕ). Contains l b) (sym (take_all c.loop-block.block-index c.args.list.now c.loop-block-test.false)) has)

pub returns-clause-still : goal.returns-clause-still
returns-clause-still c hold may = (c.loop-block.invariant.still hold may).0
