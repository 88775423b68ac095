use Rattle.std.proofs.Common.{refl, sym, subst, inl}
use Rattle.flash_model.specs.declared.geometry.Geometry.{Geometry}
use Rattle.anchors.specs.Preparing.{IsPrepared, IsWithin}
use Rattle.anchors.proofs.Preparing.{newest_within}
use Rattle.anchors.proofs.anchors.Anchors.prepare.Goals as goal

pub next_unprepared-requires-clause-within : goal.next_unprepared-requires-clause-within
next_unprepared-requires-clause-within g c =
    subst (λ (h : Geometry). IsWithin h c.args.self.now) (sym c.geometry.ensures) (newest_within (g.F.Flash.device c.args.flash.now) c.args.bad.now c.args.self.now c.requires.lawful c.requires.ready)

pub returns-in_default-clause-prepares : goal.returns-in_default-clause-prepares
returns-in_default-clause-prepares g c = inl (record {
  why = inl (subst (λ (h : Geometry). IsPrepared h c.args.bad.now c.args.self.now) c.geometry.ensures (c.next_unprepared.ensures.prepared c.in_default.is));
  answers = refl;
  flash = refl;
  list = refl;
  anchors = refl;
})
