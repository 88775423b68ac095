use Rattle.std.proofs.Common.{◌∙◌, [], ◌∷◌, inr, ap, sym}
use Rattle.std.proofs.lemmas.Result.{err_from_is_err_and}
use Rattle.history_machine.specs.Machine.{Machine}
use Rattle.plain_trees.specs.Trees.{bare}
use Rattle.inquiries.specs.Readings.{shown}
use Rattle.inquiries.proofs.Readings.{unchanged-trans}
use Rattle.copies.proofs.Causing.{stops_later}
use Rattle.copies.proofs.Fresh.{fresh_holds, fresh_ready, limit_of}
use Rattle.copies.proofs.Keeping.{copied, serials_seen, whole, within_chosen}
use Rattle.copies.proofs.copying.copy_chosen.Goals as goal

pub copy_checkpoints-requires-clause-ready : goal.copy_checkpoints-requires-clause-ready
copy_checkpoints-requires-clause-ready g c = fresh_ready (shown c.args.to.now) (shown c.args.to.now).history.limit c.requires.fresh

pub returns-in_err-copy_versions-clause-same : goal.returns-in_err-copy_versions-clause-same
returns-in_err-copy_versions-clause-same g c = unchanged-trans c.args.from.now c.copy_checkpoints.new.from c.copy_versions.new.from c.copy_checkpoints.ensures.same c.copy_versions.ensures.same

pub returns-in_err-copy_versions-clause-err : goal.returns-in_err-copy_versions-clause-err
returns-in_err-copy_versions-clause-err g c =
    let p = err_from_is_err_and c.from_residual-in_err-copy_versions.result c.from_residual-in_err-copy_versions.ensures.1 in
    rw (p.1, p.2) (stops_later c.args.from.now c.copy_checkpoints.new.from (g.F.Flash.device c.copy_versions.new.from.flash.now) (g.G.Flash.device c.copy_versions.new.to.flash.now) _ c.copy_checkpoints.ensures.same c.in_err-copy_versions.ensures.err)

pub returns-in-Ok-clause-same : goal.returns-in-Ok-clause-same
returns-in-Ok-clause-same g c = unchanged-trans c.args.from.now c.copy_checkpoints.new.from c.copy_versions.new.from c.copy_checkpoints.ensures.same c.copy_versions.ensures.same

pub returns-in-Err-clause-same : goal.returns-in-Err-clause-same
returns-in-Err-clause-same g c = unchanged-trans c.args.from.now c.copy_checkpoints.new.from c.copy_versions.new.from c.copy_checkpoints.ensures.same c.copy_versions.ensures.same

pub copy_versions-requires-clause-kept : goal.copy_versions-requires-clause-kept
copy_versions-requires-clause-kept g c =
    let to = shown c.args.to.now in
    let limit = to.history.limit in
    let begun = fresh_holds to limit (limit_of to limit c.args.to.now.mounted.mounted.machine c.requires.fresh) c.requires.fresh in
    (c.in_ok-copy_checkpoints.ensures.ok limit (bare ∷ []) begun).kept ∙ sym (ap (λ (m : Machine). m.history.checkpoints) c.copy_checkpoints.ensures.same.machine)

pub copy_versions-requires-clause-serials : goal.copy_versions-requires-clause-serials
copy_versions-requires-clause-serials g c =
    serials_seen (shown c.args.to.now).history.limit (shown c.args.from.now) (shown c.copy_checkpoints.new.from) c.args.serials.now c.args.from.now.mounted.mounted.machine c.copy_checkpoints.ensures.same.machine c.requires.serials

pub end_copy-requires-clause-within : goal.end_copy-requires-clause-within
end_copy-requires-clause-within g c =
    let to = shown c.args.to.now in
    within_chosen to.history.limit (shown c.args.from.now) c.args.serials.now c.args.place c.args.from.now.mounted.mounted.machine (limit_of to to.history.limit c.args.to.now.mounted.mounted.machine c.requires.fresh) c.requires.serials c.requires.place

pub returns-in-Ok-clause-ok : goal.returns-in-Ok-clause-ok
returns-in-Ok-clause-ok g c =
    let from = shown c.args.from.now in
    let to = shown c.args.to.now in
    let limit = to.history.limit in
    let some = limit_of to limit c.args.to.now.mounted.mounted.machine c.requires.fresh in
    copied limit from _ c.args.from.now.mounted.mounted.machine
    (whole limit from (shown c.copy_checkpoints.new.from) to _ _ _ c.args.serials.now c.args.place c.args.from.now.mounted.mounted.machine some c.requires.fresh c.copy_checkpoints.ensures.same.machine
    c.requires.serials c.in_ok-copy_checkpoints.ensures.ok c.in_ok-copy_versions.ensures.ok c.in-Ok.ensures.ok c.requires.place)

pub returns-in-Ok-clause-limit : goal.returns-in-Ok-clause-limit
returns-in-Ok-clause-limit g c =
    let from = shown c.args.from.now in
    let to = shown c.args.to.now in
    let limit = to.history.limit in
    let some = limit_of to limit c.args.to.now.mounted.mounted.machine c.requires.fresh in
    (whole limit from (shown c.copy_checkpoints.new.from) to _ _ _ c.args.serials.now c.args.place c.args.from.now.mounted.mounted.machine some c.requires.fresh c.copy_checkpoints.ensures.same.machine
    c.requires.serials c.in_ok-copy_checkpoints.ensures.ok c.in_ok-copy_versions.ensures.ok c.in-Ok.ensures.ok c.requires.place).limit

pub returns-in-Err-clause-err : goal.returns-in-Err-clause-err
returns-in-Err-clause-err g c = inr c.in-Err.ensures.err
