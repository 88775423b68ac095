use Rattle.std.proofs.Common.{◌≡◌, ◌+◌, ◌*◌, ◌/◌, sym, ap, ◌∙◌}
use Rattle.std.proofs.lemmas.Result.{err_from_is_err_and}
use Rattle.std.proofs.lemmas.Nat.{div-mul-add}
use Rattle.flash_model.specs.declared.geometry.Geometry.{Geometry}
use Rattle.anchors.specs.Keeping.{KeepsNewest}
use Rattle.anchors.proofs.Sparing.{erase_keeps}
use Rattle.anchors.proofs.anchor.write_anchor.Goals as goal
use Rattle.anchors.proofs.anchor.write_anchor.Goals.{After-erase_anchor}
use Rattle.std.specs.FinSet as set
use Rattle.anchors.proofs.Wrote.{erase_failed, erase_cut, wrote_on}
use Rattle.anchors.proofs.anchor.write_anchor.Given.{Over}

module _ (g : Over) (c : After-erase_anchor g) where
  keeps : KeepsNewest c.args.geometry (g.F.Flash.device c.args.flash.now).pages (g.F.Flash.device c.erase_anchor.new.flash).pages
  keeps =
      let old = g.F.Flash.device c.args.flash.now in
      erase_keeps c.args.geometry old.pages (g.F.Flash.device c.erase_anchor.new.flash).pages c.args.anchor
      (λ p apart. c.erase_anchor.ensures.changes.others p (λ here. apart (sym (ap (λ (h : Geometry). p / h.pages) c.requires.same) ∙ here))) c.erase_anchor.ensures.fades c.requires.spares

pub returns-in_err-erase_anchor-clause-wrote : goal.returns-in_err-erase_anchor-clause-wrote
returns-in_err-erase_anchor-clause-wrote g c =
    let p = err_from_is_err_and c.from_residual.result c.from_residual.ensures.1 in
    rw (p.1, p.2) (erase_cut c.args.geometry (g.F.Flash.device c.args.flash.now) (g.F.Flash.device c.erase_anchor.new.flash) c.args.bad.now c.erase_anchor.new.bad c.args.anchor c.args.draft.now
    (keeps g (goal.at.returns-in_err-erase_anchor-clause-wrote g c).After-erase_anchor) c.in_err-erase_anchor.field-0.0 c.in_err-erase_anchor.ensures.changes)

pub returns-then-not-branch-clause-wrote : goal.returns-then-not-branch-clause-wrote
returns-then-not-branch-clause-wrote g c =
    erase_failed c.args.geometry (g.F.Flash.device c.args.flash.now) (g.F.Flash.device c.erase_anchor.new.flash) c.args.bad.now c.erase_anchor.new.bad c.args.anchor c.args.draft.now
    (keeps g (goal.at.returns-then-not-branch-clause-wrote g c).After-erase_anchor) (rw c.if-not-branch.true at c.in_ok-erase_anchor.ensures.changes)

pub returns-clause-wrote : goal.returns-clause-wrote
returns-clause-wrote g c =
    wrote_on c.args.geometry (g.F.Flash.device c.args.flash.now) (g.F.Flash.device c.erase_anchor.new.flash) c.args.bad.now c.erase_anchor.new.bad c.args.anchor c.args.draft.now
    (keeps g (goal.at.returns-clause-wrote g c).After-erase_anchor) (g.F.Flash.device c.place_record.new.flash) c.place_record.new.bad c.place_record.result
    (rw c.if-not-branch.false at c.in_ok-erase_anchor.ensures.changes) c.place_record.ensures.wrote

pub place_record-requires-clause-blank : goal.place_record-requires-clause-blank
place_record-requires-clause-blank g c = λ m from below.
    c.in_ok-erase_anchor.ensures.erased c.if-not-branch.false (c.args.anchor * c.args.geometry.pages + m)
    (ap (λ (h : Geometry). (c.args.anchor * c.args.geometry.pages + m) / h.pages) c.requires.same ∙ div-mul-add c.args.anchor c.args.geometry.pages m below)

pub place_record-requires-clause-may : goal.place_record-requires-clause-may
place_record-requires-clause-may g c =
    let may = c.requires.may in
    let list : c.erase_anchor.new.bad ≡ c.args.bad.now = rw c.if-not-branch.false at c.in_ok-erase_anchor.ensures.changes.list in
    record {
      is = may.is;
      below = may.below;
      good = ap (λ bads. set.contains bads c.args.anchor) list ∙ may.good;
      room = rw list may.room;
      older = λ q head lt valid. may.older q head lt ((keeps g (goal.at.place_record-requires-clause-may g c).After-erase_anchor).heads q head valid);
    }

pub place_record-requires-clause-same : goal.place_record-requires-clause-same
place_record-requires-clause-same g c = c.erase_anchor.ensures.changes.only_anchors.geometry ∙ c.requires.same
