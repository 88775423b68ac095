-- What stands at the places of a history: versions by their serials, checkpoints by their names.
use Rattle.std.proofs.Common.{◌≡◌, ◌∙◌, ℕ, zero, suc, ◌+◌, ◌<◌, Bool, true, false, cond, Option, Some, None, List, [], ◌∷◌, length, map, take, drop, get_or, refl, ap, subst, arith}
use Rattle.std.proofs.lemmas.Bool.{ltb-false, ne_eqb, eqb-false}
use Rattle.std.proofs.lemmas.List.Elements.{All-append, All-take, All-drop, All-head, All-tail}
use Rattle.std.proofs.lemmas.List.Sums.{position_or_len_is}
use Rattle.std.specs.Prelude.{◌==◌, All, nat_lt, slice_get, unwrap_or}
use Rattle.std.specs.BTreeMap.{insert_entry, is_at}
use Rattle.std.specs.Cmp.{tied_itself}
use Rattle.std.specs.List.{AllByRecursion, position_or_len}
use Rattle.std.specs.List.Sorted.{IsStrictlySortedBy}
use Rattle.std.specs.Map.{lookup}
use Rattle.std.specs.Option.{option_map, option_and_then}
use Rattle.std.specs.Ordering.{is_eq, match_ordering, ordering_reverse}
use Rattle.std.specs.declared.cmp.Ordering.{Ordering}
use Rattle.std.specs.declared.cmp.Ordering.TheVariants.{Less, Greater}
use Rattle.fs_types.specs.Names.{Name, name_cmp}
use Rattle.fs_types.specs.declared.call.Version.{Version}
use Rattle.fs_types.specs.declared.call.View.{View}
use Rattle.fs_types.proofs.Orders.{names_total}
use Rattle.plain_trees.specs.Trees.{Tree, bare}
use Rattle.history_machine.specs.History.{IsLawful, version_place}
use Rattle.history_machine.specs.Machine.{Machine, view_tree}
use Rattle.history_copies.specs.Copies.{roots_in, first_kept, others_kept, kept_versions}

got : {A : Type 0} (xs : List A) (k : ℕ) (d : A) → k < length xs → slice_get xs k ≡ Some (get_or xs k d)
got [] k d within = absurd (omega arith)
got (x ∷ xs) zero d within = refl
got (x ∷ xs) (suc k) d within = got xs k d (omega arith)

-- ---- versions

module _ (m : Machine) (lawful : IsLawful m.history) where
  pub version_found : (k : ℕ) (d : Version Tree) → k < length m.history.versions → version_place m.history (get_or m.history.versions k d).serial ≡ Some k
  version_found k d within =
      let serial : ℕ = (get_or m.history.versions k d).serial in
      let at : position_or_len (λ (v : Version Tree). v.serial == serial) m.history.versions ≡ k =
      position_or_len_is (λ (v : Version Tree). v.serial == serial) m.history.versions k d (omega arith)
      (λ i below. let less : (get_or m.history.versions i d).serial < serial = lawful.ascending i k d below within in ne_eqb (get_or m.history.versions i d).serial serial (λ e. omega arith)) (λ inside. same serial) in
      ap (λ (n : ℕ). cond (nat_lt n (length m.history.versions)) (Some n) None) at ∙ ap (λ (b : Bool). cond b (Some k) None) (there (nat_lt k (length m.history.versions)) refl)
    where
      same : (n : ℕ) → (n == n) ≡ true
      same n = go (n == n) refl
        where
          go : (b : Bool) → (n == n) ≡ b → b ≡ true
          go true e = refl
          go false e = absurd (eqb-false n n e refl)

      there : (b : Bool) → nat_lt k (length m.history.versions) ≡ b → b ≡ true
      there true e = refl
      there false e = absurd (let past = ltb-false k (length m.history.versions) e in omega arith)

  version_tree : All (λ v. view_tree m (View.Serial v.serial) ≡ v.root) m.history.versions
  version_tree k d within =
      ap (λ (o : Option ℕ). unwrap_or (option_map (λ (v : Version Tree). v.root) (option_and_then (slice_get m.history.versions) o)) bare) (version_found k d within)
      ∙ ap (λ (o : Option (Version Tree)). unwrap_or (option_map (λ (v : Version Tree). v.root) o) bare) (got m.history.versions k d within)

  all_trees : (vs : List (Version Tree)) → All (λ v. view_tree m (View.Serial v.serial) ≡ v.root) vs → map (λ serial. view_tree m (View.Serial serial)) (map (λ v. v.serial) vs) ≡ roots_in vs
  all_trees [] all = refl
  all_trees (v ∷ vs) all =
      let first : view_tree m (View.Serial v.serial) ≡ v.root = All-head (λ (w : Version Tree). view_tree m (View.Serial w.serial) ≡ w.root) v vs all in
      let rest = all_trees vs (All-tail (λ (w : Version Tree). view_tree m (View.Serial w.serial) ≡ w.root) v vs all) in
      λ i. first i ∷ rest i

  -- the trees that the serials of the versions show that are copied
  pub kept_trees : (limit : ℕ) → map (λ serial. view_tree m (View.Serial serial)) (map (λ v. v.serial) (kept_versions limit m.history)) ≡ roots_in (kept_versions limit m.history)
  kept_trees limit = all_trees (kept_versions limit m.history)
      (All-append (λ (v : Version Tree). view_tree m (View.Serial v.serial) ≡ v.root) (take 1 (drop (first_kept limit m.history) m.history.versions)) (drop (others_kept limit m.history) m.history.versions)
      (All-take (λ (v : Version Tree). view_tree m (View.Serial v.serial) ≡ v.root) 1 (drop (first_kept limit m.history) m.history.versions)
      (All-drop (λ (v : Version Tree). view_tree m (View.Serial v.serial) ≡ v.root) (first_kept limit m.history) m.history.versions version_tree))
      (All-drop (λ (v : Version Tree). view_tree m (View.Serial v.serial) ≡ v.root) (others_kept limit m.history) m.history.versions version_tree))

-- ---- checkpoints

abbrev names : List (Name × Tree) → List Name
names es = map (λ e. e.0) es

-- a later name is greater
later : (n : Name) (es : List (Name × Tree)) (k : ℕ) (d : Name × Tree) → AllByRecursion (λ q. name_cmp n q ≡ Less) (names es) → k < length es → name_cmp (get_or es k d).0 n ≡ Greater
later n [] k d below within = absurd (omega arith)
later n (e ∷ es) zero d below within = names_total.antisymm e.0 n ∙ ap ordering_reverse below.0
later n (e ∷ es) (suc k) d below within = later n es k d below.1 (omega arith)

-- a checkpoint that is inserted after those before it
pub insert_next : (es : List (Name × Tree)) (k : ℕ) (d : Name × Tree) → IsStrictlySortedBy name_cmp (names es) → k < length es → insert_entry name_cmp (take k es) (get_or es k d).0 (get_or es k d).1 ≡ take (k + 1) es
unfolding IsStrictlySortedBy
insert_next [] k d sorted within = absurd (omega arith)
insert_next (e ∷ es) zero d sorted within = refl
insert_next (e ∷ es) (suc k) d sorted within =
    ap (λ (o : Ordering). match_ordering o (((get_or es k d).0, (get_or es k d).1) ∷ e ∷ take k es) ((e.0, (get_or es k d).1) ∷ take k es) (e ∷ insert_entry name_cmp (take k es) (get_or es k d).0 (get_or es k d).1)) (later e.0 es k d sorted.0 (omega arith))
    ∙ ap (λ (rest : List (Name × Tree)). e ∷ rest) (insert_next es k d sorted.1 (omega arith))
    ∙ (let one : suc (k + 1) ≡ suc k + 1 = omega arith in ap (λ (n : ℕ). take n (e ∷ es)) one)

-- the tree of a checkpoint, by its name
pub name_found : (es : List (Name × Tree)) (k : ℕ) (d : Name × Tree) → IsStrictlySortedBy name_cmp (names es) → k < length es → lookup (is_at (name_cmp (get_or es k d).0)) es ≡ Some (get_or es k d).1
unfolding IsStrictlySortedBy
name_found [] k d sorted within = absurd (omega arith)
name_found (e ∷ es) zero d sorted within = ap (λ (o : Ordering). cond (is_eq o) (Some e.1) (lookup (is_at (name_cmp e.0)) es)) (tied_itself names_total e.0)
name_found (e ∷ es) (suc k) d sorted within =
    ap (λ (o : Ordering). cond (is_eq o) (Some e.1) (lookup (is_at (name_cmp (get_or es k d).0)) es)) (later e.0 es k d sorted.0 (omega arith)) ∙ name_found es k d sorted.1 (omega arith)

-- what holds of each checkpoint holds of the one that is found
pub found_all : (P : Tree → Type 0) (es : List (Name × Tree)) (name : Name) (t : Tree) → All (λ e. P e.1) es → lookup (is_at (name_cmp name)) es ≡ Some t → P t
found_all P [] name t all found = absurd cc
found_all P (e ∷ es) name t all found = go (is_at (name_cmp name) e.0) found (λ rest. found_all P es name t (All-tail (λ (x : Name × Tree). P x.1) e es all) rest)
  where
    go : (b : Bool) → cond b (Some e.1) (lookup (is_at (name_cmp name)) es) ≡ Some t → (lookup (is_at (name_cmp name)) es ≡ Some t → P t) → P t
    go true same others = let is : e.1 ≡ t = cc in subst P is (All-head (λ (x : Name × Tree). P x.1) e es all)
    go false rest others = others rest
