use Rattle.std.proofs.Common.{◌∙◌, refl, sym, subst, arith}
use Rattle.std.proofs.lemmas.Bool.{true≢false}
use Rattle.std.proofs.lemmas.List.{take_all}
use Rattle.std.proofs.lemmas.List.Elements.{All-more}
use Rattle.std.specs.Bool.{Decides}
use Rattle.std.specs.Prelude.{All}
use Rattle.fs_types.specs.declared.call.View.{View}
use Rattle.history_machine.specs.Machine.{Machine}
use Rattle.inquiries.specs.PathHistories.{IsSmallAt}
use Rattle.inquiries.specs.Readings.{shown}
use Rattle.inquiries.proofs.Readings.{unchanged-trans}
use Rattle.inquiries.proofs.path_history.are_small.Goals as goal

pub returns-then-not-small-clause-ok : goal.returns-then-not-small-clause-ok
returns-then-not-small-clause-ok g c =
    let m = shown c.args.fs.now in
    let here = subst (λ (n : Machine). Decides c.in_ok-small.small (IsSmallAt n c.args.path.now c.view-item.result)) c.loop-view.invariant.0.machine c.in_ok-small.ensures.ok in (
      λ wrong. absurd (true≢false (sym wrong)),
      λ all. absurd (true≢false (sym (here.1 (subst (IsSmallAt m c.args.path.now) (sym c.view-item.is) (all c.loop-view.view-index c.view-item.result c.loop-view-test.true))) ∙ c.if-not-small.true)),
    )

pub loop-view-preserved : goal.loop-view-preserved
loop-view-preserved g c =
    let m = shown c.args.fs.now in
    let here = subst (λ (n : Machine). Decides c.in_ok-small.small (IsSmallAt n c.args.path.now c.view-item.result)) c.loop-view.invariant.0.machine c.in_ok-small.ensures.ok in (
      unchanged-trans c.args.fs.now c.loop-view.fs c.is_small_at.new.fs c.loop-view.invariant.0 c.is_small_at.ensures.same,
      All-more (IsSmallAt m c.args.path.now) c.args.views.now c.loop-view.view-index c.view-item.result c.loop-view-test.true c.loop-view.invariant.1
          (subst (IsSmallAt m c.args.path.now) c.view-item.is (here.0 c.if-not-small.false)),
    )

pub returns-clause-ok : goal.returns-clause-ok
returns-clause-ok g c =
    let past = c.loop-view-test.false in
    (λ any. subst (All (IsSmallAt (shown c.args.fs.now) c.args.path.now)) (take_all c.loop-view.view-index c.args.views.now (omega (arith, past))) c.loop-view.invariant.1, λ all. refl)
