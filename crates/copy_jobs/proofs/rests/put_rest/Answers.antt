use Rattle.std.proofs.Common.{List, inl, inr, subst, sym}
use Rattle.std.proofs.lemmas.Result.{IfErr-weaker}
use Rattle.fs_types.specs.declared.call.Call.{Call}
use Rattle.flash_simulation.specs.Simulation.{device_of}
use Rattle.plain_trees.specs.Trees.{bare}
use Rattle.tree_differences.specs.UpdateLaws.{Brings}
use Rattle.copies.specs.Added.{AloneCause}
use Rattle.copy_jobs.specs.Lefts.{LeadOn}
use Rattle.copy_jobs.proofs.RestLemmas.{rest_sized}
use Rattle.copy_jobs.proofs.rests.put_rest.Goals as goal

pub make_alone-requires-clause-brings : goal.make_alone-requires-clause-brings
make_alone-requires-clause-brings c = subst LeadOn (sym c.deref.ensures.value) c.requires.leads

pub returns-in-Ok-clause-ok : goal.returns-in-Ok-clause-ok
returns-in-Ok-clause-ok c =
    rest_sized c.of_sizes.result c.args.rest.now c.make_alone.new.flash c.args.sizes
    (λ t brings. c.in-Ok.ensures.ok c.args.rest.now.limit t c.requires.formatted (subst (λ (calls : List Call). Brings bare t calls) (sym c.deref.ensures.value) brings)) c.of_sizes.ensures.ok c.of_sizes.ensures.sizes

pub returns-in-Ok-clause-err : goal.returns-in-Ok-clause-err
returns-in-Ok-clause-err c = IfErr-weaker c.of_sizes.result _ _ (λ failure why. inr (c.make_alone.new.flash, why.0, why.1)) c.of_sizes.ensures.err

pub returns-in-Err-clause-err : goal.returns-in-Err-clause-err
returns-in-Err-clause-err c =
    let left = device_of c.make_alone.new.flash in
    inl (left, c.in-Err.why, subst (λ (calls : List Call). AloneCause calls (device_of c.args.one) left c.in-Err.why) c.deref.ensures.value c.in-Err.ensures.err, c.of_uncopied.ensures)
