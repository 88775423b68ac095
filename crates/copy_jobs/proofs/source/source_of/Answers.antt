use Rattle.std.proofs.Common.{◌∙◌, inl, sym, ap, subst}
use Rattle.std.proofs.lemmas.Result.{IfErr-weaker, IfOk-weaker}
use Rattle.std.specs.Prelude.{Bool}
use Rattle.flash_simulation.specs.Simulation.{device_of}
use Rattle.copy_jobs.specs.Copied.{sizes_of}
use Rattle.copy_jobs.specs.Sources.{IsSourceOf, UnsalvagedCause}
use Rattle.copy_jobs.proofs.RestLemmas.{leads, saved_alone, saved_with, unmade, unsaved}
use Rattle.copy_jobs.proofs.source.source_of.Goals as goal

pub returns-in-Err-clause-err : goal.returns-in-Err-clause-err
returns-in-Err-clause-err g c =
    let own = c.in-Err.ensures.err in
    subst (λ (salvages : Bool). UnsalvagedCause c.args.asked salvages c.args.flash c.in-Err.failure) (sym c.if-not-salvages.false) (inl (c.rest_of.new.damaged, own.0, own.1, own.2))

pub save_with-requires : goal.save_with-requires
save_with-requires g c = leads (device_of c.args.flash) c.in-Ok.rest c.in-Ok.ensures.rest

pub save_rest-requires : goal.save_rest-requires
save_rest-requires g c = leads (device_of c.args.flash) c.in-Ok.rest c.in-Ok.ensures.rest

pub returns-in-Ok-salvage-clause-ok : goal.returns-in-Ok-salvage-clause-ok
returns-in-Ok-salvage-clause-ok g c =
    let same = c.sizes_of-sizes.ensures ∙ ap (sizes_of c.args.asked) c.geometry.ensures in
    IfOk-weaker c.save_with.result _ _ (λ source both. subst (λ (salvages : Bool). IsSourceOf c.args.asked salvages c.args.flash source) (sym c.if-not-salvages.false)
    (saved_with c.args.asked c.args.flash c.rest_of.new.damaged c.sizes_of-sizes.result c.in-Ok-salvage.found c.in-Ok.rest source same c.rest_of.ensures.only_reads c.in-Ok-salvage.ensures.saved c.in-Ok.ensures.rest both)) c.save_with.ensures.ok

pub returns-in-Ok-salvage-clause-err : goal.returns-in-Ok-salvage-clause-err
returns-in-Ok-salvage-clause-err g c =
    let same = c.sizes_of-sizes.ensures ∙ ap (sizes_of c.args.asked) c.geometry.ensures in
    IfErr-weaker c.save_with.result _ _ (λ failure why. subst (λ (salvages : Bool). UnsalvagedCause c.args.asked salvages c.args.flash failure) (sym c.if-not-salvages.false)
    (unmade c.args.asked c.args.flash c.sizes_of-sizes.result c.in-Ok.rest failure same c.in-Ok.ensures.rest why)) c.save_with.ensures.err

pub returns-clause-ok : goal.returns-clause-ok
returns-clause-ok g c =
    let same = c.sizes_of-sizes.ensures ∙ ap (sizes_of c.args.asked) c.geometry.ensures in
    IfOk-weaker c.save_rest.result _ _ (λ source all. subst (λ (salvages : Bool). IsSourceOf c.args.asked salvages c.args.flash source) (sym c.if-not-salvages.false)
    (saved_alone c.args.asked c.args.flash c.rest_of.new.damaged c.salvage.new.flash c.sizes_of-sizes.result c.in-Err-salvage.fault c.in-Ok.rest source same c.rest_of.ensures.only_reads c.in-Err-salvage.ensures.why c.in-Ok.ensures.rest all)) c.save_rest.ensures.ok

pub returns-clause-err : goal.returns-clause-err
returns-clause-err g c =
    let same = c.sizes_of-sizes.ensures ∙ ap (sizes_of c.args.asked) c.geometry.ensures in
    IfErr-weaker c.save_rest.result _ _ (λ failure why. subst (λ (salvages : Bool). UnsalvagedCause c.args.asked salvages c.args.flash failure) (sym c.if-not-salvages.false)
    (unsaved c.args.asked c.args.flash c.rest_of.new.damaged c.salvage.new.flash c.sizes_of-sizes.result c.in-Err-salvage.fault c.in-Ok.rest failure same c.rest_of.ensures.only_reads c.in-Err-salvage.ensures.why c.in-Ok.ensures.rest why)) c.save_rest.ensures.err
