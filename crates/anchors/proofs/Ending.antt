-- The pages of an anchor after those of a record.
use Rattle.std.proofs.Common.{◌≡◌, ◌≢◌, ℕ, ◌+◌, ◌-◌, ◌*◌, ◌<◌, ◌≤◌, List, Ok, sym, ap, subst, ◌∙◌, inl, inr, arith}
use Rattle.std.proofs.lemmas.Bool.{cases_eq}
use Rattle.flash_model.specs.declared.geometry.Geometry.{Geometry}
use Rattle.flash_model.specs.Device.{Page, erased, bytes_of}
use Rattle.anchors.specs.Programming.{bytes_for, Fills, HasRecordPages, EndsAt}
use Rattle.anchors.specs.Reading.{IsEnd}

bytes_not_erased : (page : Page) (bytes : List ℕ) → page ≡ bytes_of bytes → page ≢ erased
bytes_not_erased page bytes is blank = absurd (let e = sym is ∙ blank in cc)

module _ (g : Geometry) (old new : ℕ → Page) (anchor place sequence : ℕ) (payload : List ℕ) (count : ℕ) (blank : (m : ℕ) → place ≤ m → m < g.pages → old (anchor * g.pages + m) ≡ erased) where
  -- those that the record is programmed on were erased
  pub blank_for : place + count ≤ g.pages → (m : ℕ) → m < count → old (anchor * g.pages + place + m) ≡ erased
  blank_for in_block m below =
      let at : anchor * g.pages + place + m ≡ anchor * g.pages + (place + m) = omega arith in
      ap old at ∙ blank (place + m) (omega arith) (omega arith)

  -- a record that stands ends there, and the pages after it are erased still
  pub ends_after : place + count ≤ g.pages → Fills g payload count → (u : Unit {0}) → (n : ℕ) × EndsAt count n (Ok u) × HasRecordPages g old new (anchor * g.pages + place) sequence payload count n
      → IsEnd g new anchor g.pages (place + count)
  ends_after in_block fill u (n, all, has) = record {
    within = in_block;
    blank = λ m from below. has.others (anchor * g.pages + m) (inr (omega arith)) ∙ blank m (omega arith) below;
    last = λ m is. last_at m is (count_before fill.some);
  }
    where
      count_before : 0 < count → (k : ℕ) × (k + 1 ≡ count)
      count_before some = (count - 1, omega arith)

      last_at : (m : ℕ) → place + count ≡ m + 1 → (k : ℕ) × (k + 1 ≡ count) → new (anchor * g.pages + m) ≢ erased
      last_at m is (k, e) =
          let at : anchor * g.pages + m ≡ anchor * g.pages + place + k = omega arith in
          bytes_not_erased (new (anchor * g.pages + m)) (bytes_for g sequence payload count k) (ap new at ∙ has.done k (omega arith))

-- where pages that were read one after the other end
pub IsEnd_start : (g : Geometry) (pages : ℕ → Page) (anchor : ℕ) → IsEnd g pages anchor 0 0
IsEnd_start g pages anchor = record {
  within = omega arith;
  blank = λ m from below. absurd (omega arith);
  last = λ m is. absurd (omega arith);
}

pub IsEnd_blank : (g : Geometry) (pages : ℕ → Page) (anchor place end page : ℕ) → IsEnd g pages anchor place end → page ≡ anchor * g.pages + place → pages page ≡ erased → IsEnd g pages anchor (place + 1) end
IsEnd_blank g pages anchor place end page so_far at blank = record {
  within = let h = so_far.within in omega arith;
  blank = λ m from below. elim (cases_eq m place) [
    | inl same ↦ ap (λ n. pages (anchor * g.pages + n)) same ∙ ap pages (sym at) ∙ blank
    | inr apart ↦ so_far.blank m from (omega arith)
  ];
  last = so_far.last;
}

pub IsEnd_data : (g : Geometry) (pages : ℕ → Page) (anchor place page : ℕ) → page ≡ anchor * g.pages + place → pages page ≢ erased → IsEnd g pages anchor (place + 1) (place + 1)
IsEnd_data g pages anchor place page at other = record {
  within = omega arith;
  blank = λ m from below. absurd (omega arith);
  last = λ m is blank. other (ap pages at ∙ ap (λ n. pages (anchor * g.pages + n)) (let same : place ≡ m = omega arith in same) ∙ blank);
}

pub IsEnd_all : (g : Geometry) (pages : ℕ → Page) (anchor place end : ℕ) → place ≤ g.pages → g.pages ≤ place → IsEnd g pages anchor place end → IsEnd g pages anchor g.pages end
IsEnd_all g pages anchor place end most least is = subst (λ n. IsEnd g pages anchor n end) (let all : place ≡ g.pages = omega arith in all) is
