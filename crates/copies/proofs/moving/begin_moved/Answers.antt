use Rattle.std.proofs.Common.{◌≡◌, ◌∙◌, List, [], ◌∷◌, ◌++◌, ◌+◌, inl, refl, take, sym, ap, subst, arith}
use Rattle.std.proofs.lemmas.List.{take_all, take_more}
use Rattle.std.proofs.lemmas.Result.{err_from_is_err_and}
use Rattle.fs_types.specs.Names.{Path}
use Rattle.inquiries.specs.Readings.{shown}
use Rattle.copies.specs.Moved.{Tries}
use Rattle.copies.proofs.Doing.{call_done, call_stops}
use Rattle.copies.proofs.Renaming.{none_tried, one_tried}
use Rattle.copies.proofs.moving.begin_moved.Goals as goal

pub returns-in_err-begin-clause-err : goal.returns-in_err-begin-clause-err
returns-in_err-begin-clause-err g c =
    let p = err_from_is_err_and c.from_residual.result c.from_residual.ensures.1 in
    rw (p.1, p.2) (call_stops _ _ _ _ c.in_err-begin.ensures.step)

pub loop-one-init : goal.loop-one-init
loop-one-init g c =
    (subst (λ (made : List (Path × Path)). Tries (shown c.args.to.now) [] made (shown c.begin.new.self)) (sym c.new-made.ensures.items) (none_tried (shown c.args.to.now) (shown c.begin.new.self) (call_done _ _ _ _ c.in_ok-begin.ensures.step)), c.in_ok-begin.ensures.step.same_flash)

pub returns-in_err-try_move-clause-err : goal.returns-in_err-try_move-clause-err
returns-in_err-try_move-clause-err g c = let p = err_from_is_err_and c.from_residual-in_err-try_move.result c.from_residual-in_err-try_move.ensures.1 in rw (p.1, p.2) (inl refl)

pub loop-one-preserved : goal.loop-one-preserved
loop-one-preserved g c =
    let i = c.loop-one.one-index in
    let moves = c.args.moves.now in
    let one = c.one-item.result in
    let taken : take (i + 1) moves ≡ take i moves ++ one ∷ [] = take_more moves i one c.loop-one-test.true ∙ ap (λ (x : Path × Path). take i moves ++ x ∷ []) (sym c.one-item.is) in (
      subst (λ (l : List (Path × Path)). Tries (shown c.args.to.now) l c.try_move.new.made.items (shown c.try_move.new.to)) (sym taken)
          (one_tried (shown c.args.to.now) (shown c.loop-one.to) (shown c.try_move.new.to) (take i moves) c.loop-one.made.items c.try_move.new.made.items one c.loop-one.invariant.0 c.in_ok-try_move.ensures.ok),
      c.try_move.ensures.same_flash ∙ c.loop-one.invariant.1,
    )

pub returns-clause-ok : goal.returns-clause-ok
returns-clause-ok g c =
    let past = c.loop-one-test.false in
    subst (λ (l : List (Path × Path)). Tries (shown c.args.to.now) l c.loop-one.made.items (shown c.loop-one.to)) (take_all c.loop-one.one-index c.args.moves.now (omega (arith, past))) c.loop-one.invariant.0
