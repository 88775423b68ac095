use Rattle.std.proofs.Common.{◌∙◌, ◌-◌, refl, sym, arith}
use Rattle.inquiries.specs.Readings.{shown}
use Rattle.inquiries.proofs.PathLemmas.{seen_at, told_if_changed}
use Rattle.inquiries.proofs.path_history.is_told.Goals as goal

pub is_changed-requires-clause-old : goal.is_changed-requires-clause-old
is_changed-requires-clause-old g c =
    let within = c.requires.place in
    seen_at (shown c.args.fs.now) (shown c.args.fs.now) c.args.views.now (c.args.place - 1) c.index-views-place-2.result c.args.fs.now.mounted.mounted.machine c.requires.views refl (omega (arith, within)) c.index-views-place-2.is

pub is_changed-requires-clause-new : goal.is_changed-requires-clause-new
is_changed-requires-clause-new g c =
    seen_at (shown c.args.fs.now) (shown c.args.fs.now) c.args.views.now c.args.place c.index-views-place-3.result c.args.fs.now.mounted.mounted.machine c.requires.views refl c.requires.place c.index-views-place-3.is

pub returns-clause-ok : goal.returns-clause-ok
returns-clause-ok g c =
    told_if_changed (shown c.args.fs.now) c.args.path.now c.args.views.now c.args.place c.index-views-place.result c.index-views-place-2.result c.index-views-place-3.result c.is_changed.result c.requires.views c.requires.place c.if-place-eq0.false
    c.index-views-place.is (sym c.is_checkpoint.ensures ∙ c.if-is_checkpoint.false) c.index-views-place-2.is c.index-views-place-3.is c.is_changed.ensures.ok
