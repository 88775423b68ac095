use Rattle.std.proofs.Common.{inl, inr, refl, sym, subst}
use Rattle.updates.specs.declared.manner.Manner.{Manner}
use Rattle.image_words.specs.ImageUpdates.{IsUpdateTold, manner_asked}
use Rattle.image_words.proofs.image_updates.tell_update.Goals as goal

pub returns-in-Err : goal.returns-in-Err
returns-in-Err g c = inl (c.in-Err.ensures.err, refl)

pub returns-in-Ok-write_out : goal.returns-in-Ok-write_out
returns-in-Ok-write_out g c = (
  c.as_slice.result.now,
  subst (IsUpdateTold (manner_asked c.args.changes) (g.F.ImageFiles.held c.args.files.now c.args.name.now) (g.F.ImageFiles.held c.args.files.now c.args.other.now)) (sym c.as_slice.ensures) (subst (λ (manner : Manner). IsUpdateTold manner (g.F.ImageFiles.held c.args.files.now c.args.name.now) (g.F.ImageFiles.held c.args.files.now c.args.other.now) c.in-Ok.bytes) c.manner_asked.ensures c.in-Ok.ensures.ok),
  c.in-Ok-write_out.ensures.ok,
)

pub returns : goal.returns
returns g c = inr (
  c.as_slice.result.now,
  c.in-Err-write_out.ensures.err.0,
  subst (IsUpdateTold (manner_asked c.args.changes) (g.F.ImageFiles.held c.args.files.now c.args.name.now) (g.F.ImageFiles.held c.args.files.now c.args.other.now)) (sym c.as_slice.ensures) (subst (λ (manner : Manner). IsUpdateTold manner (g.F.ImageFiles.held c.args.files.now c.args.name.now) (g.F.ImageFiles.held c.args.files.now c.args.other.now) c.in-Ok.bytes) c.manner_asked.ensures c.in-Ok.ensures.ok),
  refl,
  c.in-Err-write_out.ensures.err.1,
)
