-- The record of a history that is held in memory is lawful.
use Rattle.std.proofs.Common.{◌≡◌, ℕ, suc, ◌<◌, ◌≤◌, Bool, true, false, List, [], ◌∷◌, length, map, refl, ap, arith}
use Rattle.std.proofs.lemmas.Bool.{lt-ltb, le-leb}
use Rattle.std.proofs.lemmas.List.{length-map}
use Rattle.std.specs.Prelude.{◌&&◌, nat_lt, All, AllPairs}
use Rattle.std.specs.List.{list_all, AllByRecursion}
use Rattle.std.specs.List.Sorted.{IsStrictlySortedBy}
use Rattle.std.specs.Ordering.{is_lt}
use Rattle.std.specs.declared.cmp.Ordering.TheVariants.{Less}
use Rattle.fs_types.specs.Names.{Name, name_cmp, is_checkpoint_name}
use Rattle.fs_types.specs.declared.call.Version.{Version}
use Rattle.flash_model.specs.declared.geometry.Geometry.{Geometry}
use Rattle.block_ring.specs.Ring.{IsDataBlock}
use Rattle.history_machine.specs.History.{Past}
use Rattle.machine_state.specs.KeptHistories.{IsKept}
use Rattle.record_format.specs.Payloads.{is_record, has_counts, has_versions, has_checkpoints, serials_ascend, names_ascend}
use Rattle.mounting.specs.Contents.{checkpoint_of, record_of}

both_true : (a b : Bool) → (a && b) ≡ true → (a ≡ true) × (b ≡ true)
both_true true b e = (refl, e)
both_true false b e = absurd cc

and_true : (a b : Bool) → a ≡ true → b ≡ true → (a && b) ≡ true
and_true a b p q = rw (p, q) refl

-- serials that ascend by pairs ascend one after the other
ascend : (before : ℕ) (vs : List (Version ℕ)) → All (λ v. before < v.serial) vs → AllPairs (λ v w. v.serial < w.serial) vs → serials_ascend before vs ≡ true
ascend before [] above pairs = refl
ascend before (v ∷ vs) above pairs =
    and_true _ _ (lt-ltb _ _ (above 0 v (omega arith)))
    (ascend v.serial vs (λ k d lt. pairs 0 (suc k) d (omega arith) (omega (arith, lt))) (λ i j d before within. pairs (suc i) (suc j) d (omega (arith, before)) (omega (arith, within))))

below : (next : ℕ) (vs : List (Version ℕ)) → All (λ v. v.serial < next) vs → list_all (λ version. nat_lt version.serial next) vs ≡ true
below next [] all = refl
below next (v ∷ vs) all = and_true _ _ (lt-ltb _ _ (all 0 v (omega arith))) (below next vs (λ k d lt. all (suc k) d (omega (arith, lt))))

-- names that are sorted ascend one after the other
names : (before : Name) (es : List (Name × ℕ)) → AllByRecursion (λ name. name_cmp before name ≡ Less) (map (λ e. e.0) es) → IsStrictlySortedBy name_cmp (map (λ e. e.0) es) → names_ascend before (map checkpoint_of es) ≡ true
unfolding IsStrictlySortedBy
names before [] after sorted = refl
names before (e ∷ es) after sorted = and_true _ _ (ap is_lt after.0) (names e.0 es sorted.0 sorted.1)

-- a lawful name comes after the empty one
after_none : (es : List (Name × ℕ)) → list_all (λ e. is_checkpoint_name e.0) es ≡ true → AllByRecursion (λ name. name_cmp [] name ≡ Less) (map (λ e. e.0) es)
after_none [] lawful = tt
after_none (e ∷ es) lawful =
    let parts = both_true (is_checkpoint_name e.0) _ lawful in
    (one e.0 parts.0, after_none es parts.1)
  where
    one : (name : Name) → is_checkpoint_name name ≡ true → name_cmp [] name ≡ Less
    one [] is = absurd cc
    one (b ∷ name) is = refl

pub lawful : (g : Geometry) (h : Past ℕ) (last : ℕ) → IsKept h → IsDataBlock g.blocks last → IsStrictlySortedBy name_cmp (map (λ e. e.0) h.checkpoints)
    → list_all (λ e. is_checkpoint_name e.0) h.checkpoints ≡ true → is_record (record_of g h last) ≡ true
lawful g h last kept block sorted named =
    let r = record_of g h last in
    let few : length r.checkpoints ≤ 16 = omega (arith, length-map h.checkpoints checkpoint_of, kept.lawful.few) in
    let counts : has_counts r ≡ true =
    and_true _ _ (and_true _ _ (and_true _ _ (and_true _ _ (and_true _ _ (and_true _ _ (and_true _ _
    (and_true _ _ refl (le-leb _ _ kept.lawful.some_limit)) (le-leb _ _ kept.at_most)) (le-leb _ _ kept.lawful.within)) (lt-ltb _ _ kept.lawful.cursor_in))
    (le-leb _ _ few)) refl) (le-leb _ _ block.0)) (lt-ltb _ _ block.1) in
    let versions : has_versions r ≡ true = and_true _ _ (ascend 0 h.versions kept.from_one kept.lawful.ascending) (below h.next h.versions kept.lawful.below_next) in
    let checkpoints : has_checkpoints r ≡ true = names [] h.checkpoints (after_none h.checkpoints named) sorted in
    and_true _ _ counts (and_true _ _ versions (and_true _ _ checkpoints refl))
