use Rattle.std.proofs.Common.{inl, inr, refl, sym, subst}
use Rattle.shell.specs.Explained.{TellsEach, all_meant}
use Rattle.shell.proofs.explanations.explain.Goals as goal

pub returns-in-Ok : goal.returns-in-Ok
returns-in-Ok g c = inl (c.as_slice.result.now, subst (TellsEach (all_meant c.args.word.now)) (sym c.as_slice.ensures.value) c.in-Ok.ensures, c.print_any.ensures)

pub returns-in-Err : goal.returns-in-Err
returns-in-Err g c = inr (refl, refl)
