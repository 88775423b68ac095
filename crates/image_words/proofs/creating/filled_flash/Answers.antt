use Rattle.std.proofs.Common.{◌≡◌, ◌∙◌, List, [], map, ap, inl, subst}
use Rattle.flash_model.specs.declared.geometry.Geometry.{Geometry}
use Rattle.host_interface.specs.declared.source.Source.{Source}
use Rattle.std.proofs.lemmas.Result.{IfOk-weaker, IfErr-weaker}
use Rattle.host_interface.specs.Files.{readings_of}
use Rattle.host_interface.specs.Sources.{source_found}
use Rattle.image_jobs.specs.Images.{FormatFailure}
use Rattle.put_jobs.proofs.FlashLemmas.{puts_on, cause_on}
use Rattle.script_runs.specs.Flashes.{IsMade}
use Rattle.image_words.specs.Creations.{sizes_of}
use Rattle.image_words.proofs.creating.filled_flash.Goals as goal

pub returns-in-Ok-clause-ok : goal.returns-in-Ok-clause-ok
returns-in-Ok-clause-ok g c =
    let all = map source_found c.args.batch.now.sources.items in
    let there = IsMade (sizes_of c.args.image all) c.args.image.history in
    let sizes : c.sizes_of-sizes.result ≡ sizes_of c.args.image all = c.sizes_of-sizes.ensures ∙ ap (λ (x : List Source). sizes_of c.args.image (map source_found x)) c.deref.ensures.value in
    let made = subst (λ (x : Geometry). IsMade x c.args.image.history c.in-Ok.flash) sizes c.in-Ok.ensures.ok in
    IfOk-weaker c.put_on_flash.result _ _
    (λ end puts. (c.in-Ok.flash, puts_on there c.in-Ok.flash made [] (readings_of (g.F.ImageFiles.held c.args.files.now) (g.F.ImageFiles.reads_source c.args.files.now)) c.args.batch.now.base all c.in-Ok.flash end puts)) c.put_on_flash.ensures.ok

pub returns-in-Ok-clause-err : goal.returns-in-Ok-clause-err
returns-in-Ok-clause-err g c =
    let all = map source_found c.args.batch.now.sources.items in
    let there = IsMade (sizes_of c.args.image all) c.args.image.history in
    let sizes : c.sizes_of-sizes.result ≡ sizes_of c.args.image all = c.sizes_of-sizes.ensures ∙ ap (λ (x : List Source). sizes_of c.args.image (map source_found x)) c.deref.ensures.value in
    let made = subst (λ (x : Geometry). IsMade x c.args.image.history c.in-Ok.flash) sizes c.in-Ok.ensures.ok in
    IfErr-weaker c.put_on_flash.result _ _
    (λ failure cause. cause_on there (FormatFailure (sizes_of c.args.image all) c.args.image.history) c.in-Ok.flash made [] (readings_of (g.F.ImageFiles.held c.args.files.now) (g.F.ImageFiles.reads_source c.args.files.now)) c.args.batch.now.base all failure cause) c.put_on_flash.ensures.err

pub returns-in-Err-clause-err : goal.returns-in-Err-clause-err
returns-in-Err-clause-err g c =
    let all = map source_found c.args.batch.now.sources.items in
    let sizes : c.sizes_of-sizes.result ≡ sizes_of c.args.image all = c.sizes_of-sizes.ensures ∙ ap (λ (x : List Source). sizes_of c.args.image (map source_found x)) c.deref.ensures.value in
    inl (subst (λ (x : Geometry). FormatFailure x c.args.image.history c.in-Err.failure) sizes c.in-Err.ensures.err)
