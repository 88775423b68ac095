use Rattle.std.proofs.Common.{◌≡◌, ◌∙◌, ◌++◌, ◌∷◌, [], inl, inr, refl, ap}
use Rattle.fs_types.specs.Names.{Path}
use Rattle.copies.proofs.Doing.{call_done, call_left}
use Rattle.copies.proofs.moving.try_move.Goals as goal

pub returns-in_ok-push-in-Ok-clause-ok : goal.returns-in_ok-push-in-Ok-clause-ok
returns-in_ok-push-in-Ok-clause-ok g c =
    let left = c.in_ok-clone-in-Ok.ensures in
    let right = c.in_ok-clone-in-Ok-2.ensures in
    let same : (c.in_ok-clone-in-Ok.field-0, c.in_ok-clone-in-Ok-2.field-0) ≡ c.args.one.now = λ i. (left i, right i) in
    inl (c.in_ok-push-in-Ok.ensures.items ∙ ap (λ (x : Path × Path). c.args.made.now.items ++ x ∷ []) same, call_done _ _ _ _ c.in-Ok.ensures.step)

pub returns-in-Err-clause-ok : goal.returns-in-Err-clause-ok
returns-in-Err-clause-ok g c =
    inr (refl, call_left _ _ _ _ c.in-Err.ensures.step, record { device = _; left = _; system = _; later = _; fault = _; step = c.in-Err.ensures.step.step })
