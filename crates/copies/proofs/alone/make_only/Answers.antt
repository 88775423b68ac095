use Rattle.std.proofs.Common.{[], ◌∷◌, inl, inr, refl}
use Rattle.std.proofs.lemmas.Result.{err_from_is_err_and, IfErr-weaker}
use Rattle.plain_trees.specs.Trees.{bare}
use Rattle.inquiries.specs.Readings.{shown}
use Rattle.copies.proofs.Extending.{at_rest, held_both, made_first}
use Rattle.copies.proofs.Fresh.{limit_of}
use Rattle.history_machine.specs.History.{changed}
use Rattle.copies.proofs.alone.make_only.Goals as goal
use Rattle.std.proofs.Common.{arith}

pub returns-in_err-make_version-clause-err : goal.returns-in_err-make_version-clause-err
returns-in_err-make_version-clause-err g c =
    let p = err_from_is_err_and c.from_residual.result c.from_residual.ensures.1 in
    rw (p.1, p.2) (inl c.in_err-make_version.ensures.err)

pub end_copy-requires-clause-rests : goal.end_copy-requires-clause-rests
end_copy-requires-clause-rests g c =
    let to = shown c.args.to.now in
    let t = c.requires.brings.0 in
    let done = c.in_ok-make_version.ensures.ok in
    at_rest (shown c.make_version.new.to) (changed to.history t) (made_first to (shown c.make_version.new.to) c.args.calls.now done.0 t c.args.to.now.mounted.mounted.machine c.requires.fresh c.requires.brings.1 done.1)

pub returns-clause-ok : goal.returns-clause-ok
returns-clause-ok g c = λ t brings.
    let to = shown c.args.to.now in
    let is = c.args.to.now.mounted.mounted.machine in
    let done = c.in_ok-make_version.ensures.ok in
    let made = made_first to (shown c.make_version.new.to) c.args.calls.now done.0 t is c.requires.fresh brings done.1 in
    let some = limit_of to to.history.limit is c.requires.fresh in
    c.end_copy.ensures.ok to.history.limit (bare ∷ []) (t ∷ []) [] (held_both to (shown c.make_version.new.to) t is c.requires.fresh made) refl (omega (arith, some))

pub returns-clause-err : goal.returns-clause-err
returns-clause-err g c = IfErr-weaker c.end_copy.result _ _ (λ fault stops. inr stops) c.end_copy.ensures.err
