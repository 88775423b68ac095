-- The roots of what a history keeps beside a view are among its roots.
use Rattle.std.proofs.Common.{◌≡◌, ◌∙◌, ◌⊎◌, inl, inr, ℕ, suc, ◌+◌, ◌<◌, ◌≤◌, Bool, true, false, List, [], ◌∷◌, ◌++◌, length, map, take, get_or, sym, ap, append-nil, subst, arith}
use Rattle.std.proofs.lemmas.List.Elements.{Contains-append_cases}
use Rattle.std.proofs.lemmas.List.Concat.{flat_map-cons}
use Rattle.std.proofs.lemmas.List.{flat_map_more, take_more, take_all}
use Rattle.std.proofs.lemmas.List.FromFn.{length-enumerate_from, get_or-enumerate_from}
use Rattle.std.specs.List.{flat_map, enumerate_from}
use Rattle.std.specs.Prelude.{Contains, ◌==◌, if◌then◌else◌}
use Rattle.fs_types.specs.Names.{Name}
use Rattle.fs_types.specs.declared.call.Version.{Version}
use Rattle.fs_types.specs.declared.call.View.{View}
use Rattle.history_machine.specs.History.{Past}
use Rattle.block_usage.specs.OtherRoots.{other_checkpoint, other_checkpoints, other_roots, other_version, other_versions, shows_checkpoint, shows_version}

later : {X : Type 0} (x y : X) (xs : List X) → Contains xs y → Contains (x ∷ xs) y
later x y xs (k, within, e) = (suc k, omega (arith, within), e)

one_or_none : (b : Bool) (root other : ℕ) → Contains (if b then [] else root ∷ []) other → root ≡ other
one_or_none true root other has = absurd (omega (arith, has.1))
one_or_none false root other (k, within, e) = let first : k ≡ 0 = omega (arith, within) in ap (λ (j : ℕ). get_or (root ∷ []) j other) (sym first) ∙ e

of_versions : (h : Past ℕ) (view : View) (i : ℕ) (versions : List (Version ℕ)) (root : ℕ) → Contains (flat_map (other_version h view) (enumerate_from i versions)) root → Contains (map (λ (v : Version ℕ). v.root) versions) root
of_versions h view i [] root has = absurd (omega (arith, has.1))
of_versions h view i (v ∷ versions) root has =
    elim (Contains-append_cases (other_version h view (i, v)) (flat_map (other_version h view) (enumerate_from (i + 1) versions)) root
    (subst (λ (l : List ℕ). Contains l root) (flat_map-cons (other_version h view) (i, v) (enumerate_from (i + 1) versions)) has)) [
      | inl here ↦ (0, omega arith, one_or_none (shows_version view v.serial (i == h.cursor)) v.root root here)
      | inr there ↦ later v.root root (map (λ (w : Version ℕ). w.root) versions) (of_versions h view (i + 1) versions root there)
    ]

of_checkpoints : (view : View) (checkpoints : List (Name × ℕ)) (root : ℕ) → Contains (flat_map (other_checkpoint view) checkpoints) root → Contains (map (λ (e : Name × ℕ). e.1) checkpoints) root
of_checkpoints view [] root has = absurd (omega (arith, has.1))
of_checkpoints view (e ∷ checkpoints) root has =
    elim (Contains-append_cases (other_checkpoint view e) (flat_map (other_checkpoint view) checkpoints) root
    (subst (λ (l : List ℕ). Contains l root) (flat_map-cons (other_checkpoint view) e checkpoints) has)) [
      | inl here ↦ (0, omega arith, one_or_none (shows_checkpoint view e.0) e.1 root here)
      | inr there ↦ later e.1 root (map (λ (x : Name × ℕ). x.1) checkpoints) (of_checkpoints view checkpoints root there)
    ]

pub others_among : (h : Past ℕ) (view : View) (root : ℕ) → Contains (other_roots h view) root
    → Contains (map (λ (v : Version ℕ). v.root) h.versions) root ⊎ Contains (map (λ (e : Name × ℕ). e.1) h.checkpoints) root
others_among h view root has = elim (Contains-append_cases (other_versions h view) (other_checkpoints h view) root has) [
  | inl version ↦ inl (of_versions h view 0 h.versions root version)
  | inr checkpoint ↦ inr (of_checkpoints view h.checkpoints root checkpoint)
]

-- ---- rows that are added one after the other

module _ {X : Type 0} (roots : ℕ × X → List ℕ) (xs : List X) (start : List ℕ) where
  pub row_more : (i : ℕ) (d : X) (mid new : List ℕ) → i < length xs → mid ≡ start ++ flat_map roots (take i (enumerate_from 0 xs)) → new ≡ mid ++ roots (i, get_or xs i d)
      → new ≡ start ++ flat_map roots (take (i + 1) (enumerate_from 0 xs))
  row_more i d mid new within so_far grown =
      let long : i < length (enumerate_from 0 xs) = omega (arith, length-enumerate_from 0 xs) in
      let start_at : 0 + i ≡ i = omega arith in
      let here : get_or (enumerate_from 0 xs) i (0, d) ≡ (i, get_or xs i d) = get_or-enumerate_from 0 xs i (0, d) within ∙ ap (λ (n : ℕ). (n, get_or xs i d)) start_at in
      grown ∙ ap (λ (l : List ℕ). l ++ roots (i, get_or xs i d)) so_far ∙ flat_map_more roots start (take i (enumerate_from 0 xs)) (i, get_or xs i d)
      ∙ ap (λ (rows : List (ℕ × X)). start ++ flat_map roots rows) (sym (take_more (enumerate_from 0 xs) i (0, d) long ∙ ap (λ (row : ℕ × X). take i (enumerate_from 0 xs) ++ row ∷ []) here))

  pub rows_all : (i : ℕ) (new : List ℕ) → length xs ≤ i → new ≡ start ++ flat_map roots (take i (enumerate_from 0 xs)) → new ≡ start ++ flat_map roots (enumerate_from 0 xs)
  rows_all i new past so_far =
      let long : length (enumerate_from 0 xs) ≤ i = omega (arith, length-enumerate_from 0 xs) in
      so_far ∙ ap (λ (rows : List (ℕ × X)). start ++ flat_map roots rows) (take_all i (enumerate_from 0 xs) long)

-- ---- versions that are looked at one after the other

module _ (h : Past ℕ) (view : View) (versions : List (Version ℕ)) (same : versions ≡ h.versions) (start : List ℕ) (i cursor : ℕ) (d : Version ℕ) (at : cursor ≡ h.cursor) (is_shown : Bool)
    (shown : is_shown ≡ shows_version view (get_or versions i d).serial (i == cursor)) (mid new : List ℕ) (within : i < length versions)
    (so_far : mid ≡ start ++ flat_map (other_version h view) (take i (enumerate_from 0 h.versions))) where
  shown_there : is_shown ≡ shows_version view (get_or h.versions i d).serial (i == h.cursor)
  shown_there = shown ∙ ap (λ (l : List (Version ℕ)). shows_version view (get_or l i d).serial (i == cursor)) same ∙ ap (λ (n : ℕ). shows_version view (get_or h.versions i d).serial (i == n)) at

  more : new ≡ mid ++ other_version h view (i, get_or h.versions i d) → new ≡ start ++ flat_map (other_version h view) (take (i + 1) (enumerate_from 0 h.versions))
  more grown = let inside : i < length h.versions = omega (arith, within, ap length same) in row_more (other_version h view) h.versions start i d mid new inside so_far grown

  -- the next one is another one than the view shows
  pub version_added : is_shown ≡ false → new ≡ mid ++ (get_or versions i d).root ∷ [] → new ≡ start ++ flat_map (other_version h view) (take (i + 1) (enumerate_from 0 h.versions))
  version_added other added =
      more (added ∙ ap (λ (l : List (Version ℕ)). mid ++ (get_or l i d).root ∷ []) same ∙ ap (λ (b : Bool). mid ++ (if b then [] else (get_or h.versions i d).root ∷ [])) (sym other ∙ shown_there))

  -- it is the one that the view shows
  pub version_passed : is_shown ≡ true → new ≡ mid → new ≡ start ++ flat_map (other_version h view) (take (i + 1) (enumerate_from 0 h.versions))
  version_passed own left =
      more (left ∙ sym (append-nil mid) ∙ ap (λ (b : Bool). mid ++ (if b then [] else (get_or h.versions i d).root ∷ [])) (sym own ∙ shown_there))
