-- The newest record, as its anchor is looked for.
use Rattle.std.proofs.Common.{◌≡◌, ℕ, suc, ◌+◌, ◌-◌, ◌≤◌, Bool, true, false, cond, Option, Some, None, inl, inr, refl, sym, ap, subst, ◌∙◌, arith}
use Rattle.std.proofs.lemmas.Bool.{cases_Bool, cases_lt, lt-ltb, le-ltb, le-leb, lt-leb, true≢false}
use Rattle.std.specs.Prelude.{◌&&◌, ◌==◌, ◌%◌, nat_lt, nat_le, is_some}
use Rattle.std.specs.Option.{option_map, option_and_then}
use Rattle.flash_model.specs.declared.geometry.Geometry.{Geometry}
use Rattle.record_format.specs.declared.page_head.PageHead.{PageHead}
use Rattle.anchors.specs.Parts.{Part, head_at, are_parts, is_valid_record, record_head, considered, considered_with, best_below, best_on, newest_at}
use Rattle.anchors.specs.declared.best.Found.{Found}
use Rattle.std.proofs.lemmas.Option.{none-some, same_Some}
use Rattle.block_usage.specs.NewestRecords.{has_room, later, later_with}
use Rattle.block_usage.specs.declared.newest_records.Place.{Place}

-- ---- whether a record begins on a page

abbrev begins_with : Geometry → (ℕ → Option Part) → ℕ → PageHead → Option PageHead
begins_with g parts p = λ first. cond (is_valid_record g parts p first) (Some first) None

-- no part is there
pub no_record : (g : Geometry) (parts : ℕ → Option Part) (p : ℕ) → None ≡ head_at parts p → None ≡ record_head g parts p
no_record g parts p none = ap (option_and_then (begins_with g parts p)) none

-- a part is there, with which a record begins or not
pub begins : (g : Geometry) (parts : ℕ → Option Part) (p : ℕ) (first : PageHead) (valid : Bool) → Some first ≡ head_at parts p → is_valid_record g parts p first ≡ valid
    → cond valid (Some first) None ≡ record_head g parts p
begins g parts p first valid head is = ap (λ b. cond b (Some first) None) (sym is) ∙ ap (option_and_then (begins_with g parts p)) head

both : (a b c : Bool) → a && (b && c) ≡ (a && b) && c
both true b c = refl
both false b c = refl

-- by whether its pages have room, and follow
pub by_room : (g : Geometry) (parts : ℕ → Option Part) (p : ℕ) (first : PageHead) → is_valid_record g parts p first ≡ has_room g p first && are_parts g parts p first 0 first.count
by_room g parts p first = both (nat_lt 0 first.count) (nat_le (p % g.pages + first.count) g.pages) (are_parts g parts p first 0 first.count)

pub no_room : (g : Geometry) (parts : ℕ → Option Part) (p : ℕ) (first : PageHead) → has_room g p first ≡ false → is_valid_record g parts p first ≡ false
no_room g parts p first none = by_room g parts p first ∙ ap (λ b. b && are_parts g parts p first 0 first.count) none

pub with_room : (g : Geometry) (parts : ℕ → Option Part) (p : ℕ) (first : PageHead) (all : Bool) → has_room g p first ≡ true → all ≡ are_parts g parts p first 0 first.count → is_valid_record g parts p first ≡ all
with_room g parts p first all room are = by_room g parts p first ∙ ap (λ b. b && are_parts g parts p first 0 first.count) room ∙ sym are

both_true : (a b : Bool) → a && b ≡ true → b ≡ true
both_true true b is = is
both_true false b is = absurd (true≢false (sym is))

le_of : (a b : ℕ) → nat_le a b ≡ true → a ≤ b
le_of a b is = elim (cases_lt b a) [
  | inl more ↦ absurd (true≢false (sym is ∙ lt-leb a b more))
  | inr fits ↦ fits
]

pub room_fits : (g : Geometry) (p : ℕ) (first : PageHead) → has_room g p first ≡ true → p % g.pages + first.count ≤ g.pages
room_fits g p first is = le_of (p % g.pages + first.count) g.pages (both_true (nat_lt 0 first.count) _ is)

-- ---- the one of greatest sequence

abbrev pub place_of : Option Found → Option Place
place_of = option_map (λ (found : Found). record { page = found.page; sequence = found.head.sequence })

module _ (g : Geometry) (parts : ℕ → Option Part) (p : ℕ) where
  considers : (found : Option Found) (head : PageHead) → (best_below g parts p).found ≡ found → later_with (place_of found) p head ≡ place_of (considered_with (best_below g parts p) found p head).found
  considers None head is = refl
  considers (Some old) head is = elim (cases_lt old.head.sequence head.sequence) [
    | inl newer ↦ rw (lt-leb head.sequence old.head.sequence newer, lt-ltb old.head.sequence head.sequence newer) refl
    | inr older ↦ elim (cases_Bool (old.head.sequence == head.sequence)) [
      | inl twin ↦ rw (le-leb head.sequence old.head.sequence older, le-ltb old.head.sequence head.sequence older, twin) (sym (ap place_of is))
      | inr alone ↦ rw (le-leb head.sequence old.head.sequence older, le-ltb old.head.sequence head.sequence older, alone) (sym (ap place_of is))
    ]
  ]

  goes_on : (head : Option PageHead) → later (place_of (best_below g parts p).found) p head ≡ place_of (considered (best_below g parts p) p head).found
  goes_on None = refl
  goes_on (Some head) = considers (best_below g parts p).found head refl

  -- after one more page
  next_place : later (place_of (best_below g parts p).found) p (record_head g parts p) ≡ place_of (best_below g parts (suc p)).found
  unfolding best_below
  next_place = goes_on (record_head g parts p)

  pub newest_on : (newest : Option Place) (head : Option PageHead) (next : Option Place)
      → newest ≡ place_of (best_below g parts p).found → head ≡ record_head g parts p → next ≡ later newest p head → next ≡ place_of (best_below g parts (p + 1)).found
  newest_on newest head next so_far is made =
      let more : suc p ≡ p + 1 = omega arith in
      subst (λ (n : ℕ). next ≡ place_of (best_below g parts n).found) more
      (made ∙ ap (λ (n : Option Place). later n p head) so_far ∙ ap (λ (h : Option PageHead). later (place_of (best_below g parts p).found) p h) is ∙ next_place)

-- before the first page
pub newest_none : (g : Geometry) (parts : ℕ → Option Part) → None ≡ place_of (best_below g parts 0).found
unfolding best_below
newest_none g parts = refl

-- where there is a newest record, it is the one that was found
found_in : (twice : Bool) (found : Option Found) (place : Place) → Some place ≡ place_of found → is_some (cond twice None found) ≡ true → (f : Found) × (cond twice None found ≡ Some f) × (f.page ≡ place.page)
found_in true found place is some = absurd (true≢false (sym some))
found_in false None place is some = absurd (none-some _ (sym is))
found_in false (Some f) place is some = (f, refl, sym (ap (λ (p : Place). p.page) (same_Some _ _ is)))

pub newest_found : (g : Geometry) (parts : ℕ → Option Part) (place : Place) → Some place ≡ place_of (best_on g parts).found → is_some (newest_at g parts) ≡ true
    → (f : Found) × (newest_at g parts ≡ Some f) × (f.page ≡ place.page)
newest_found g parts place is some = found_in (best_on g parts).twice (best_on g parts).found place is some

none_in : (twice : Bool) (found : Option Found) → None ≡ place_of found → is_some (cond twice None found) ≡ true → ⊥
none_in true found is some = true≢false (sym some)
none_in false None is some = true≢false (sym some)
none_in false (Some f) is some = none-some _ is

pub none_found : (g : Geometry) (parts : ℕ → Option Part) → None ≡ place_of (best_on g parts).found → is_some (newest_at g parts) ≡ true → ⊥
none_found g parts is some = none_in (best_on g parts).twice (best_on g parts).found is some
