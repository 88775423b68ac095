use Rattle.std.proofs.Common.{◌<◌, inl, inr, sym, subst}
use Rattle.fs_types.specs.declared.limits.TheConstants.{MIN_VERSIONS, MAX_VERSIONS}
use Rattle.script_runs.specs.Flashes.{IsNewFlash, IsFormatOf}
use Rattle.image_jobs.specs.Images.{FormatFailure}
use Rattle.image_jobs.proofs.ImageLemmas.{lawful_limit, format_refused}
use Rattle.image_jobs.proofs.images.formatted_flash.Goals as goal

pub returns-in-Ok-format_as_planned-clause-ok : goal.returns-in-Ok-format_as_planned-clause-ok
returns-in-Ok-format_as_planned-clause-ok c =
    let low : c.args.history < MIN_VERSIONS → ⊥ = λ h. let bad = c.format_as_planned.ensures.limits.1 (c.in-Ok.flash.lawful, inl h) in absurd cc in
    let high : MAX_VERSIONS < c.args.history → ⊥ = λ h. let bad = c.format_as_planned.ensures.limits.1 (c.in-Ok.flash.lawful, inr h) in absurd cc in
    let made : IsNewFlash c.args.sizes c.in-Ok.flash = record { new = c.in-Ok.ensures.new; plan = c.in-Ok.ensures.plan } in
    let holds = c.in-Ok-format_as_planned.ensures in
    let done : IsFormatOf c.args.history c.in-Ok.flash c.format_as_planned.new.flash = record { formatted = holds.ok; sizes = holds.stay; listed = holds.listed; numbered = holds.numbered } in
    (c.in-Ok.flash, lawful_limit c.args.sizes c.args.history c.in-Ok.ensures.lawful low high, made, done)

pub returns-in-Err-format_as_planned-clause-err : goal.returns-in-Err-format_as_planned-clause-err
returns-in-Err-format_as_planned-clause-err c =
    let made : IsNewFlash c.args.sizes c.in-Ok.flash = record { new = c.in-Ok.ensures.new; plan = c.in-Ok.ensures.plan } in
    subst (FormatFailure c.args.sizes c.args.history) (sym c.of_system-in-Err-format_as_planned.ensures)
    (format_refused c.args.sizes c.args.history c.in-Ok.flash c.format_as_planned.new.flash c.in-Err-format_as_planned.fault made (c.in-Err-format_as_planned.ensures.why, c.format_as_planned.ensures.plan))
