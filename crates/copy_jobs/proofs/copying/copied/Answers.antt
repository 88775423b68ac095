use Rattle.std.proofs.Common.{◌∙◌, inr, sym}
use Rattle.std.proofs.lemmas.Result.{IfErr-weaker}
use Rattle.copy_jobs.proofs.copying.copied.Goals as goal

pub returns-in-Ok-clause-err : goal.returns-in-Ok-clause-err
returns-in-Ok-clause-err c =
    IfErr-weaker c.of_sizes.result _ _
    (λ failure why. inr (record { copy = c.copy_history.new.second; copied = c.in-Ok.ensures.ok; others = λ same. why.0 (same ∙ sym c.geometry-sizes.ensures); cause = why.1 })) c.of_sizes.ensures.err
