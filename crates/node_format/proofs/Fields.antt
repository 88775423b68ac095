-- A name or a place that is read is the one that was written, and what was written is read again.
use Rattle.std.proofs.Common.{◌≡◌, ℕ, ◌^◌, ◌<◌, ◌≤◌, true, false, cond, eqb, ltb, leb, List, ◌++◌, length, take, drop, Some, None, refl, sym, subst, arith, inl, inr}
use Rattle.std.proofs.lemmas.Bool.{ltb-false, le-ltb, eqb-true, ltb-true, lt-ltb, leb-true}
use Rattle.std.proofs.lemmas.List.{take_at, drop_at, take-append-drop, length-append, length-take}
use Rattle.fields.specs.Numbers.{IsBytes}
use Rattle.fields.proofs.Found.{passed, not_refused, chosen, some_is}
use Rattle.fields.proofs.NumberLaws.{IsBytes-drop, Takes}
use Rattle.fs_types.specs.declared.limits.TheConstants.{MAX_FILE_BYTES}
use Rattle.fs_types.specs.Names.{Name, is_name}
use Rattle.node_format.specs.Order.{both_true, and_true}
use Rattle.node_format.specs.Items.{is_place}
use Rattle.node_format.specs.Directories.{name_at, place_at, kind_of, head_of, size_of}
use Rattle.node_format.specs.declared.place.Place.{Place}
use Rattle.node_format.specs.declared.place.Place.TheVariants.{Dir, File}

-- ---- names

pub name_takes : (size : ℕ) (bytes : List ℕ) (name : Name) (rest : List ℕ) → IsBytes bytes → name_at size bytes ≡ Some (name, rest) → Takes bytes name rest × (length name ≡ size) × (is_name name ≡ true)
name_takes size bytes name rest fits e =
    let g = not_refused (ltb (length bytes) size) (cond (is_name (take size bytes)) (Some (take size bytes, drop size bytes)) None) (name, rest) e in
    let h = passed (is_name (take size bytes)) (Some (take size bytes, drop size bytes)) (name, rest) g.1 in
    let le : size ≤ length bytes = ltb-false _ _ g.0 in
    subst (λ (x : Name × List ℕ). Takes bytes x.0 x.1 × (length x.0 ≡ size) × (is_name x.0 ≡ true)) (some_is (take size bytes, drop size bytes) (name, rest) h.1)
    (record { parts = sym (take-append-drop size bytes); rest_fits = IsBytes-drop size bytes fits }, omega (arith, length-take size bytes), h.0)

pub name_again : (name : Name) (rest : List ℕ) → is_name name ≡ true → name_at (length name) (name ++ rest) ≡ Some (name, rest)
name_again name rest lawful =
    let long : ltb (length (name ++ rest)) (length name) ≡ false = le-ltb _ _ (omega (arith, length-append name rest)) in
    rw (long, take_at name rest (length name) refl, drop_at name rest (length name) refl, lawful) refl

-- ---- places

-- the place of these fields, whose head is a number of four bytes
pub record HasFields (place : Place) (k h s : ℕ) : Type 0 where
  pub kind : k ≡ kind_of place
  pub head : h ≡ head_of place
  pub size : s ≡ size_of place
  pub lawful : is_place place ≡ true

file_takes : (head size : ℕ) (place : Place) → head < 2 ^ 32 → cond (leb size MAX_FILE_BYTES) (Some (File head size)) None ≡ Some place → HasFields place 1 head size
file_takes head size place lt e =
    let g = passed (leb size MAX_FILE_BYTES) (Some (File head size)) place e in
    subst (λ (p : Place). HasFields p 1 head size) (some_is (File head size) place g.1)
    (record { kind = refl; head = refl; size = refl; lawful = and_true _ _ (lt-ltb _ _ lt) g.0 })

dir_takes : (head size : ℕ) (place : Place) → head < 2 ^ 32 → cond (eqb size 0) (Some (Dir head)) None ≡ Some place → HasFields place 2 head size
dir_takes head size place lt e =
    let g = passed (eqb size 0) (Some (Dir head)) place e in
    subst (λ (p : Place). HasFields p 2 head size) (some_is (Dir head) place g.1)
    (record { kind = refl; head = refl; size = eqb-true _ _ g.0; lawful = lt-ltb _ _ lt })

pub place_takes : (kind head size : ℕ) (place : Place) → head < 2 ^ 32 → place_at kind head size ≡ Some place → HasFields place kind head size
place_takes kind head size place lt e =
    let file = cond (leb size MAX_FILE_BYTES) (Some (File head size)) None in
    let dir = cond (eqb size 0) (Some (Dir head)) None in
    elim (chosen (eqb kind 1) file (cond (eqb kind 2) dir None) (Some place) e) [
      | inl f ↦ subst (λ (k : ℕ). HasFields place k head size) (sym (eqb-true kind 1 f.0)) (file_takes head size place lt f.1)
      | inr d ↦ let g = passed (eqb kind 2) dir place d.1 in
          subst (λ (k : ℕ). HasFields place k head size) (sym (eqb-true kind 2 g.0)) (dir_takes head size place lt g.1)
    ]

pub place_again : (place : Place) → is_place place ≡ true → place_at (kind_of place) (head_of place) (size_of place) ≡ Some place
place_again (Dir block) lawful = refl
place_again (File head size) lawful =
    let parts = both_true (ltb head (2 ^ 32)) (leb size MAX_FILE_BYTES) lawful in
    rw parts.1 refl

pub head_fits : (place : Place) → is_place place ≡ true → head_of place < 2 ^ 32
head_fits (Dir block) lawful = ltb-true _ _ lawful
head_fits (File head size) lawful = ltb-true _ _ (both_true (ltb head (2 ^ 32)) (leb size MAX_FILE_BYTES) lawful).0

pub size_fits : (place : Place) → is_place place ≡ true → size_of place < 2 ^ 32
size_fits (Dir block) lawful = omega arith
size_fits (File head size) lawful =
    let le : size ≤ MAX_FILE_BYTES = leb-true _ _ (both_true (ltb head (2 ^ 32)) (leb size MAX_FILE_BYTES) lawful).1 in
    omega arith
