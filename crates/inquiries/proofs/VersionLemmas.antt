-- The versions and checkpoints that are kept can be seen.
use Rattle.std.proofs.Common.{◌≡◌, ◌∙◌, ℕ, zero, suc, ◌<◌, ◌≤◌, Bool, true, false, cond, Some, None, List, [], ◌∷◌, length, get_or, refl, sym, ap, subst, arith}
use Rattle.std.proofs.lemmas.Bool.{true≢false, eqb-false, ltb-false, le-ltb, lt-leb}
use Rattle.std.proofs.lemmas.List.Elements.{All-map}
use Rattle.std.proofs.lemmas.List.Sums.{fails_before_first}
use Rattle.std.specs.Prelude.{All, AllPairs, ◌==◌, nat_lt, nat_le, is_none, slice_get, unwrap_or, if◌then◌else◌}
use Rattle.std.specs.List.{position_or_len}
use Rattle.std.specs.Map.{lookup}
use Rattle.std.specs.BTreeMap.{is_at}
use Rattle.std.specs.Cmp.{tied_itself}
use Rattle.std.specs.Option.{option_map}
use Rattle.std.specs.Ordering.{is_eq}
use Rattle.fs_types.specs.Names.{Name, name_cmp}
use Rattle.fs_types.specs.declared.call.Version.{Version}
use Rattle.fs_types.specs.declared.fault.Fault.{Fault}
use Rattle.fs_types.proofs.Orders.{names_total}
use Rattle.plain_trees.specs.Trees.{Tree}
use Rattle.history_machine.specs.History.{Past, IsLawful, first_serial, version_place, serial_refusal, name_refusal}
use Rattle.history_machine.specs.Machine.{Machine, IsMachine}
use Rattle.inquiries.specs.Versions.{kept_serials, kept_names}

-- a test that one element passes finds a place
found_place : {X : Type 0} (test : X → Bool) (xs : List X) (k : ℕ) (d : X) → k < length xs → test (get_or xs k d) ≡ true → nat_lt (position_or_len test xs) (length xs) ≡ true
found_place test xs k d within passes = go (nat_lt (position_or_len test xs) (length xs)) refl
  where
    go : (b : Bool) → nat_lt (position_or_len test xs) (length xs) ≡ b → nat_lt (position_or_len test xs) (length xs) ≡ true
    go true e = e
    go false e =
        let past : length xs ≤ position_or_len test xs = ltb-false _ _ e in
        absurd (true≢false (sym passes ∙ fails_before_first test xs k d (omega arith)))

same_serial : (n : ℕ) → (n == n) ≡ true
same_serial n = go (n == n) refl
  where
    go : (b : Bool) → (n == n) ≡ b → (n == n) ≡ true
    go true e = e
    go false e = absurd (eqb-false n n e refl)

-- the oldest version has the least serial
first_least : (vs : List (Version Tree)) (k : ℕ) (d : Version Tree) → AllPairs (λ v w. v.serial < w.serial) vs → k < length vs → unwrap_or (option_map (λ (v : Version Tree). v.serial) (slice_get vs 0)) 0 ≤ (get_or vs k d).serial
first_least [] k d ascending within = absurd (omega arith)
first_least (w ∷ ws) zero d ascending within = omega arith
first_least (w ∷ ws) (suc k) d ascending within = let later : w.serial < (get_or ws k d).serial = ascending 0 (suc k) d (omega arith) within in omega arith

unrefused : (a b c : Bool) (x y z : Fault) → a ≡ false → b ≡ false → c ≡ false → (if a then Some x else if b then Some y else if c then Some z else None) ≡ None
unrefused true b c x y z first second third = absurd (true≢false first)
unrefused false true c x y z first second third = absurd (true≢false second)
unrefused false false true x y z first second third = absurd (true≢false third)
unrefused false false false x y z first second third = refl

version_seen : (p : Past Tree) → IsLawful p → (k : ℕ) (d : Version Tree) → k < length p.versions → serial_refusal p (get_or p.versions k d).serial ≡ None
version_seen p lawful k d within =
    let serial : ℕ = (get_or p.versions k d).serial in
    let below : serial < p.next = lawful.below_next k d within in
    let place : nat_lt (position_or_len (λ (v : Version Tree). v.serial == serial) p.versions) (length p.versions) ≡ true = found_place (λ (v : Version Tree). v.serial == serial) p.versions k d within (same_serial serial) in
    unrefused (nat_lt serial (first_serial p)) (nat_le p.next serial) (is_none (version_place p serial)) Fault.TooOld Fault.NoSuchVersion Fault.Discarded
    (le-ltb serial (first_serial p) (first_least p.versions k d lawful.ascending within)) (lt-leb p.next serial below)
    (ap (λ (b : Bool). is_none (cond b (Some (position_or_len (λ (v : Version Tree). v.serial == serial) p.versions)) None)) place)

checkpoint_seen : (es : List (Name × Tree)) (k : ℕ) (d : Name × Tree) → k < length es → is_none (lookup (is_at (name_cmp (get_or es k d).0)) es) ≡ false
checkpoint_seen [] k d within = absurd (omega arith)
checkpoint_seen (e ∷ es) zero d within = ap (λ o. is_none (cond (is_eq o) (Some e.1) (lookup (is_at (name_cmp e.0)) es))) (tied_itself names_total e.0)
checkpoint_seen (e ∷ es) (suc k) d within = go (is_at (name_cmp (get_or es k d).0) e.0) (checkpoint_seen es k d (omega arith))
  where
    go : (b : Bool) → is_none (lookup (is_at (name_cmp (get_or es k d).0)) es) ≡ false → is_none (cond b (Some e.1) (lookup (is_at (name_cmp (get_or es k d).0)) es)) ≡ false
    go true rest = refl
    go false rest = rest

module _ (m n : Machine) (is : IsMachine m) (same : n ≡ m) where
  -- each kept version can be seen by its serial
  pub serial_seen : (serials : List ℕ) (i d : ℕ) → serials ≡ kept_serials m → i < length serials → serial_refusal n.history (get_or serials i d) ≡ None
  serial_seen serials i d are within =
      subst (λ (x : Machine). serial_refusal x.history (get_or serials i d) ≡ None) (sym same)
      (subst (All (λ serial. serial_refusal m.history serial ≡ None)) (sym are) (All-map (λ serial. serial_refusal m.history serial ≡ None) (λ (v : Version Tree). v.serial) m.history.versions (version_seen m.history is.lawful)) i d within)

  -- and each checkpoint by its name
  pub name_seen : (names : List Name) (i : ℕ) (name : Name) → names ≡ kept_names m → i < length names → name ≡ get_or names i name → name_refusal n.history name ≡ None
  name_seen names i name are within at =
      subst (λ (x : Machine). name_refusal x.history name ≡ None) (sym same)
      (subst (λ (q : Name). name_refusal m.history q ≡ None) (sym at)
      (subst (All (λ q. name_refusal m.history q ≡ None)) (sym are)
      (All-map (λ q. name_refusal m.history q ≡ None) (λ (e : Name × Tree). e.0) m.history.checkpoints
      (λ k d inside. ap (λ (b : Bool). if b then Some Fault.NoSuchVersion else None) (checkpoint_seen m.history.checkpoints k d inside))) i name within))
