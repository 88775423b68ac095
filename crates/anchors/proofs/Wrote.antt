-- What writing a record on one anchor leaves.
use Rattle.std.proofs.Common.{◌≡◌, ℕ, ◌+◌, ◌*◌, ◌/◌, ◌<◌, ◌≤◌, Bool, true, false, Result, Ok, Err, refl, sym, ap, subst, ◌∙◌, inl, arith}
use Rattle.std.specs.Prelude.{IfOk}
use Rattle.std.specs.FinSet as set
use Rattle.std.specs.Ordering.{nat_cmp}
use Rattle.std.proofs.lemmas.Bool.{false≢true}
use Rattle.fs_types.specs.declared.fault.Fault.{Fault}
use Rattle.fs_types.specs.declared.limits.TheConstants.{ANCHORS}
use Rattle.flash_model.specs.declared.geometry.Geometry.{Geometry}
use Rattle.flash_model.specs.declared.flash.DevFault.{DevFault}
use Rattle.flash_model.specs.declared.flash.DevFault.TheVariants.{Failed, PowerCut}
use Rattle.flash_model.specs.Device.{Device, erased}
use Rattle.record_format.specs.Laws.{PageIsRead}
use Rattle.anchors.specs.declared.draft.Draft.{Draft}
use Rattle.anchors.specs.Anchored.{OnlyAnchors, Touches, AsksInTurn, ChangesAnchor, list_after}
use Rattle.anchors.specs.Commit.{Wrote}
use Rattle.anchors.specs.Drafts.{MayWrite}
use Rattle.anchors.specs.Keeping.{KeepsNewest}
use Rattle.anchors.specs.Programming.{HasRecordPages, EndsAt}
use Rattle.anchors.proofs.Anchoring.{OnlyAnchors_on, touched, touched_bad}
use Rattle.anchors.proofs.Asking.{tries_on}
use Rattle.anchors.proofs.Ending.{blank_for, ends_after}
use Rattle.anchors.proofs.Placing.{written_whole, written_half, written_either}
use Rattle.anchors.proofs.Sparing.{Placed_on}

-- operations on one anchor of which all were done, the last failed, or power went
module _ (old new : Device) (was : set.FinSet nat_cmp) (anchor n : ℕ) (below : anchor < ANCHORS) (few : new.operations ≤ old.operations + n) where
  pub changed_all : (u : Unit {0}) → Touches old anchor new (Ok u) → AsksInTurn old new n true → ChangesAnchor old was new was anchor n (Ok true)
  changed_all u touches tries = record {
    list = refl;
    others = touches.others;
    only_anchors = touched old new was anchor (Ok u) below touches refl;
    tries = tries;
    operations = few;
    why = tt;
  }

  pub changed_failed : (now : set.FinSet nat_cmp) → now ≡ set.insert was anchor → set.contains was anchor ≡ false → Touches old anchor new (Err Failed) → AsksInTurn old new n false → ChangesAnchor old was new now anchor n (Ok false)
  changed_failed now listed good touches tries = record {
    list = listed;
    others = touches.others;
    only_anchors = subst (λ bads. OnlyAnchors old was new bads) (sym listed) (touched_bad old new was anchor below good touches);
    tries = tries;
    operations = few;
    why = tt;
  }

  pub changed_cut : Touches old anchor new (Err PowerCut) → ChangesAnchor old was new was anchor n (Err Fault.PowerCut)
  changed_cut touches = record {
    list = refl;
    others = touches.others;
    only_anchors = touched old new was anchor (Err PowerCut) below touches refl;
    tries = tt;
    operations = few;
    why = (refl, touches.power);
  }

-- where its pages were programmed on erased ones
module _ (law : PageIsRead) (g : Geometry) (old new : Device) (was : set.FinSet nat_cmp) (anchor place : ℕ) (draft : Draft)
    (may : MayWrite g old.pages was anchor draft) (in_block : place + draft.count ≤ g.pages) (blank : (m : ℕ) → place ≤ m → m < g.pages → old.pages (anchor * g.pages + m) ≡ erased) where
  abbrev Programmed : Result (Unit {0}) DevFault → Type 0
  Programmed result = (n : ℕ) × EndsAt draft.count n result × HasRecordPages g old.pages new.pages (anchor * g.pages + place) draft.sequence draft.payload.now draft.count n

  blank_there : (m : ℕ) → m < draft.count → old.pages (anchor * g.pages + place + m) ≡ erased
  blank_there = blank_for g old.pages old.pages anchor place draft.sequence draft.payload.now draft.count blank in_block

  pub wrote_whole : (u : Unit {0}) → Programmed (Ok u) → Touches old anchor new (Ok u) → AsksInTurn old new draft.count true → new.operations ≤ old.operations + draft.count → Wrote g old was new was anchor place draft.count draft (Ok true)
  wrote_whole u programmed touches tries few = record {
    placed = written_whole law g may.is.lawful old.pages new.pages anchor place draft.sequence draft.payload.now draft.count may.below in_block may.is.sequence may.is.count may.is.fills blank_there u programmed may.older;
    end = λ done. ends_after g old.pages new.pages anchor place draft.sequence draft.payload.now draft.count blank in_block may.is.fills u programmed;
    changes = changed_all old new was anchor draft.count may.below few u touches tries;
  }

  pub wrote_half : (now : set.FinSet nat_cmp) → now ≡ set.insert was anchor → Programmed (Err Failed) → Touches old anchor new (Err Failed) → AsksInTurn old new draft.count false → new.operations ≤ old.operations + draft.count
      → Wrote g old was new now anchor place draft.count draft (Ok false)
  wrote_half now listed programmed touches tries few = record {
    placed = written_half law g may.is.lawful old.pages new.pages anchor place draft.sequence draft.payload.now draft.count may.below in_block may.is.sequence may.is.count may.is.fills blank_there programmed;
    end = λ done. absurd (false≢true done);
    changes = changed_failed old new was anchor draft.count may.below few now listed may.good touches tries;
  }

  pub wrote_either : Programmed (Err PowerCut) → Touches old anchor new (Err PowerCut) → new.operations ≤ old.operations + draft.count → Wrote g old was new was anchor place draft.count draft (Err Fault.PowerCut)
  wrote_either programmed touches few = record {
    placed = written_either law g may.is.lawful old.pages new.pages anchor place draft.sequence draft.payload.now draft.count may.below in_block may.is.sequence may.is.count may.is.fills blank_there programmed may.older;
    end = tt;
    changes = changed_cut old new was anchor draft.count may.below few touches;
  }

-- where the anchor was erased first
module _ (g : Geometry) (old mid : Device) (was between : set.FinSet nat_cmp) (anchor : ℕ) (draft : Draft) (keeps : KeepsNewest g old.pages mid.pages) where
  -- an erase that was not done is all that was asked for
  pub erase_failed : ChangesAnchor old was mid between anchor 1 (Ok false) → Wrote g old was mid between anchor 0 (1 + draft.count) draft (Ok false)
  erase_failed first = record {
    placed = keeps;
    end = λ done. absurd (false≢true done);
    changes = record {
      list = first.list;
      others = first.others;
      only_anchors = first.only_anchors;
      tries = let h = first.tries in (h.0, h.1, omega (arith, h.2));
      operations = let h = first.operations in omega arith;
      why = tt;
    };
  }

  pub erase_cut : (fault : Fault) → ChangesAnchor old was mid between anchor 1 (Err fault) → Wrote g old was mid between anchor 0 (1 + draft.count) draft (Err fault)
  erase_cut fault first = record {
    placed = rw first.why.0 (inl keeps);
    end = tt;
    changes = record {
      list = first.list;
      others = first.others;
      only_anchors = first.only_anchors;
      tries = tt;
      operations = let h = first.operations in omega arith;
      why = first.why;
    };
  }

  -- programs after an erase that was done
  pub wrote_on : (new : Device) (now : set.FinSet nat_cmp) (done : Result Bool Fault) → ChangesAnchor old was mid between anchor 1 (Ok true) → Wrote g mid between new now anchor 0 draft.count draft done
      → Wrote g old was new now anchor 0 (1 + draft.count) draft done
  wrote_on new now done first next = record {
    placed = Placed_on g old.pages mid.pages new.pages _ _ done keeps next.placed;
    end = next.end;
    changes = record {
      list = next.changes.list ∙ ap (λ (list : set.FinSet nat_cmp). list_after list anchor done) first.list;
      others = λ p apart. next.changes.others p (λ here. apart (sym (ap (λ (g : Geometry). p / g.pages) first.only_anchors.geometry) ∙ here)) ∙ first.others p apart;
      only_anchors = OnlyAnchors_on old mid new was between now first.only_anchors next.changes.only_anchors;
      tries = tries_both done first.tries next.changes.tries;
      operations = let h = first.operations in let k = next.changes.operations in omega arith;
      why = next.changes.why;
    };
  }
    where
      tries_both : (done : Result Bool Fault) → AsksInTurn old mid 1 true → IfOk done (AsksInTurn mid new draft.count) → IfOk done (AsksInTurn old new (1 + draft.count))
      tries_both (Ok done) first next = tries_on old mid new draft.count done first next
      tries_both (Err fault) first next = tt
