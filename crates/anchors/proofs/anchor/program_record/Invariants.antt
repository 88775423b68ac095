use Rattle.std.proofs.Common.{◌≡◌, ℕ, ◌+◌, ◌*◌, ◌<◌, ◌≤◌, Ok, vec_capacity}
use Rattle.flash_model.specs.Device.{erased}
use Rattle.anchors.specs.Anchored.{Touches}
use Rattle.anchors.specs.Programming.{HasRecordPages}
use Rattle.anchors.proofs.anchor.program_record.Given as goal

abbrev pub invariant-loop-n : goal.invariant-loop-n
invariant-loop-n g l = record {
  touches : Touches (g.F.Flash.device l.initial.flash) l.anchor (g.F.Flash.device l.flash) (Ok tt);
  operations : (g.F.Flash.device l.flash).operations ≡ (g.F.Flash.device l.initial.flash).operations + l.n;
  pages : HasRecordPages l.geometry (g.F.Flash.device l.initial.flash).pages (g.F.Flash.device l.flash).pages (l.anchor * l.geometry.pages + l.place) l.draft.sequence l.draft.payload.now l.draft.count l.n;
  blank : (m : ℕ) → l.n ≤ m → m < l.draft.count → (g.F.Flash.device l.flash).pages (l.anchor * l.geometry.pages + l.place + m) ≡ erased;
  room : l.geometry.page ≤ vec_capacity l.page;
}
