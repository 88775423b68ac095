-- The first record of a format stands on the lowest anchor that is not bad.
use Rattle.std.proofs.Common.{◌≡◌, ℕ, ◌+◌, ◌-◌, ◌*◌, ◌%◌, ◌<◌, ◌≤◌, true, false, true≢false, Option, Some, None, Result, Ok, Err, inl, inr, sym, ap, subst, ◌∙◌, arith}
use Rattle.std.proofs.lemmas.Bool.{cases_eq, cases_lt}
use Rattle.std.specs.Prelude.{OnOk}
use Rattle.std.specs.Option.{option_map}
use Rattle.std.specs.FinSet as set
use Rattle.std.specs.Ordering.{nat_cmp}
use Rattle.fs_types.specs.declared.fault.Fault.{Fault}
use Rattle.fs_types.specs.declared.limits.TheConstants.{ANCHORS}
use Rattle.flash_model.specs.declared.geometry.Geometry.{Geometry}
use Rattle.flash_model.specs.Device.{Device}
use Rattle.record_format.specs.declared.record.Record.{Record}
use Rattle.anchors.specs.declared.anchors.Anchors.{Anchors}
use Rattle.anchors.specs.declared.best.Found.{Found}
use Rattle.anchors.specs.Anchored.{OnlyAnchors}
use Rattle.anchors.specs.Committing.{IsLowest, IsNextAnchor, GoesTo}
use Rattle.anchors.specs.Newest.{remembered}
use Rattle.anchors.specs.Remembering.{begins_from, ReadsNone, IsPlaced}
use Rattle.mounting.specs.Formats.{BeginsOnLowest}

abbrev Bad : Type 0
Bad = set.FinSet nat_cmp

-- the next anchor after the lowest one, where that failed, is the lowest now
lowest_after : (was now : Bad) (home anchor : ℕ) → ((b : ℕ) → set.contains was b ≡ true → set.contains now b ≡ true) → IsLowest was home → set.contains now home ≡ true → IsNextAnchor now home anchor → IsLowest now anchor
lowest_after was now home anchor stays lowest failed next =
    let here : anchor ≡ (home + next.steps) % 8 = next.is in
    let few = next.below in
    let low = lowest.below in
    record {
      below = omega (arith, here);
      good = next.good;
      others = λ b less. elim (cases_lt b home) [
        | inl before ↦ stays b (lowest.others b before)
        | inr not_before ↦ elim (cases_eq b home) [
          | inl same ↦ subst (λ (x : ℕ). set.contains now x ≡ true) (sym same) failed
          | inr apart ↦ passed b less not_before apart
        ]
      ];
    }
  where
    -- the search does not come round to an anchor before the lowest one
    ahead : home + next.steps < 8
    ahead = elim (cases_lt (home + next.steps) 8) [
      | inl within ↦ within
      | inr round ↦
          let here : anchor ≡ (home + next.steps) % 8 = next.is in
          let few = next.below in
          let low = lowest.below in
          let before : anchor < home = omega (arith, here) in
          absurd (true≢false (sym (stays anchor (lowest.others anchor before)) ∙ next.good))
    ]

    passed : (b : ℕ) → b < anchor → home ≤ b → (b ≡ home → ⊥) → set.contains now b ≡ true
    passed b less after apart =
        let here : anchor ≡ (home + next.steps) % 8 = next.is in
        let same : (home + (b - home)) % 8 ≡ b = omega (arith, here, ahead) in
        subst (λ (x : ℕ). set.contains now x ≡ true) same (next.between (b - home) (omega arith) (omega (arith, here, ahead)))

-- a commit from the first page of the lowest anchor puts the record on the first page of the lowest that is not bad then
goes_first : (r : Record) (was now : Bad) (home page : ℕ) → ((b : ℕ) → set.contains was b ≡ true → set.contains now b ≡ true) → IsLowest was home → GoesTo r was now home 0 page
    → (anchor : ℕ) × IsLowest now anchor × (page ≡ anchor * r.geometry.pages)
goes_first r was now home page stays lowest (inl (there, good)) =
    (home, record { below = lowest.below; good = good; others = λ b less. stays b (lowest.others b less) }, omega arith)
goes_first r was now home page stays lowest (inr (anchor, there, next, inl failed)) = (anchor, lowest_after was now home anchor stays lowest failed next, there)
goes_first r was now home page stays lowest (inr (anchor, there, next, inr lacks)) = absurd (let past = lacks.past in let fits = lacks.fits in omega arith)

pub first_place : (old new : Device) (was now : Bad) (anchors : Anchors) (r : Record) (result : Result (Unit {0}) Fault) → r.geometry ≡ old.geometry → remembered anchors ≡ None → OnlyAnchors old was new now
    → OnOk result ((reads : ℕ) × (ReadsNone was anchors → reads ≡ 0) × (reads ≤ ANCHORS * r.geometry.pages) × IsPlaced old was anchors r reads new now) → OnOk result (BeginsOnLowest new now)
first_place old new was now anchors r (Err fault) same none only placed = tt
first_place old new was now anchors r (Ok done) same none only (reads, unread, few, placed) =
    let begins : IsLowest was placed.home × (placed.place ≡ 0) = subst (λ (o : Option Found). begins_from old.geometry was anchors.end o placed.home placed.place) none placed.begins_at in
    let goes = subst (λ (place : ℕ). GoesTo r was now placed.home place placed.found.page) begins.1 placed.goes in
    let first = goes_first r was now placed.home placed.found.page only.stays_bad begins.0 goes in
    let sizes : r.geometry ≡ new.geometry = same ∙ sym only.geometry in (
      first.0,
      first.1,
      ap (option_map (λ (found : Found). found.page)) placed.newest ∙ ap Some (first.2 ∙ ap (λ (g : Geometry). first.0 * g.pages) sizes),
    )
