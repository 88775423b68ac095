use Rattle.std.proofs.Common.{◌∙◌, inl, inr, sym}
use Rattle.std.proofs.lemmas.Result.{IfErr-weaker}
use Rattle.copy_jobs.proofs.RestLemmas.{adds_one, sized}
use Rattle.copy_jobs.proofs.adding.added.Goals as goal

pub returns-in-Ok-clause-ok : goal.returns-in-Ok-clause-ok
returns-in-Ok-clause-ok c =
    sized c.of_sizes.result c.args.copy c.args.one c.add_version.new.second c.geometry-sizes.result (adds_one c.args.copy c.args.one c.add_version.new.second c.in-Ok.ensures.ok) c.geometry-sizes.ensures
    c.of_sizes.ensures.ok c.of_sizes.ensures.sizes

pub returns-in-Ok-clause-err : goal.returns-in-Ok-clause-err
returns-in-Ok-clause-err c =
    IfErr-weaker c.of_sizes.result _ _
    (λ failure why. inr (record {
      more = c.add_version.new.second;
      adds = adds_one c.args.copy c.args.one c.add_version.new.second c.in-Ok.ensures.ok;
      others = λ same. why.0 (same ∙ sym c.geometry-sizes.ensures);
      cause = why.1;
    })) c.of_sizes.ensures.err
