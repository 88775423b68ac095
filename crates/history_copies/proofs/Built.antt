-- A history that grows by one tree after another.
use Rattle.std.proofs.Common.{◌≡◌, ◌∙◌, ℕ, zero, suc, ◌+◌, ◌-◌, ◌<◌, ◌≤◌, Option, Some, None, List, [], ◌∷◌, ◌++◌, length, take, drop, refl, sym, ap, arith, length-append, length-drop}
use Rattle.std.proofs.Math.Seq.{drop-append_seam, drop-nil}
use Rattle.std.proofs.lemmas.List.{take_all, drop-map, drop-append-le, length-map, map-append}
use Rattle.std.specs.Prelude.{unwrap_or}
use Rattle.std.specs.Option.{option_map}
use Rattle.std.specs.BTreeMap.{insert_entry}
use Rattle.fs_types.specs.Names.{name_cmp}
use Rattle.fs_types.specs.declared.call.Version.{Version}
use Rattle.plain_trees.specs.Trees.{Tree, bare}
use Rattle.history_machine.specs.History.{Past, IsLawful, changed, forgotten, with_checkpoint, present_root}
use Rattle.history_machine.proofs.Versions.{version, grown, by_change, length-grown}
use Rattle.history_copies.specs.Copies.{roots_in}
use Rattle.history_copies.specs.Laws.{last_of, IsBuilt, BuildLaw}

module _ {A : Type 0} where
  drop-more : (n k : ℕ) (xs : List A) → drop n (drop k xs) ≡ drop (k + n) xs
  drop-more n zero xs = let same : n ≡ 0 + n = omega arith in ap (λ (j : ℕ). drop j xs) same
  drop-more n (suc k) [] = drop-nil n ∙ sym (drop-nil (suc k + n))
  drop-more n (suc k) (x ∷ xs) = let same : suc (k + n) ≡ suc k + n = omega arith in drop-more n k xs ∙ ap (λ (j : ℕ). drop j (x ∷ xs)) same

  -- all of a list that is no longer
  pub last_all : (n : ℕ) (xs : List A) → length xs ≤ n → last_of n xs ≡ xs
  last_all n xs few = let none : length xs - n ≡ 0 = omega arith in ap (λ (k : ℕ). drop k xs) none

  -- one more, where there is room for it
  last_pushed : (n : ℕ) (xs : List A) (x : A) → length (last_of n xs) + 1 ≤ n → last_of n xs ++ x ∷ [] ≡ last_of n (xs ++ x ∷ [])
  last_pushed n xs x room =
      let short : length xs ≤ n = omega (arith, length-drop (length xs - n) xs) in
      ap (λ (ys : List A). ys ++ x ∷ []) (last_all n xs short) ∙ sym (last_all n (xs ++ x ∷ []) (omega (arith, length-append xs (x ∷ []), length-drop (length xs - n) xs, room)))

  -- one more in the place of the first one
  last_moved : (n : ℕ) (xs : List A) (x : A) → n < length (last_of n xs) + 1 → drop 1 (last_of n xs ++ x ∷ []) ≡ last_of n (xs ++ x ∷ [])
  last_moved n xs x full =
      let k : ℕ = length xs - n in
      let long : n ≤ length xs = omega (arith, length-drop (length xs - n) xs) in
      let less : k ≤ length xs = omega arith in
      let same : length (xs ++ x ∷ []) - n ≡ k + 1 = omega (arith, length-append xs (x ∷ [])) in
      ap (drop 1) (sym (drop-append-le k xs (x ∷ []) less)) ∙ drop-more 1 k (xs ++ x ∷ []) ∙ ap (λ (j : ℕ). drop j (xs ++ x ∷ [])) (sym same)

  -- the last ones of the last ones
  last_kept : (n : ℕ) (before kept : List A) → length kept ≤ n → drop (length (last_of n (before ++ kept)) - length kept) (last_of n (before ++ kept)) ≡ kept
  last_kept n before kept few =
      let whole : length (before ++ kept) ≡ length before + length kept = length-append before kept in
      let k : ℕ = length (before ++ kept) - n in
      let left : length (last_of n (before ++ kept)) ≡ length (before ++ kept) - k = length-drop k (before ++ kept) in
      let same : k + (length (last_of n (before ++ kept)) - length kept) ≡ length before = omega (arith, whole, left, few) in
      drop-more (length (last_of n (before ++ kept)) - length kept) k (before ++ kept) ∙ ap (λ (j : ℕ). drop j (before ++ kept)) same ∙ drop-append_seam before kept

adds : (limit : ℕ) (trees : List Tree) (h : Past Tree) (t : Tree) → IsLawful h → IsBuilt limit trees h → IsBuilt limit (trees ++ t ∷ []) (changed h t)
adds limit trees h t lawful built = by_change h t (IsBuilt limit (trees ++ t ∷ []))
    (λ few. record {
      limit = built.limit;
      trees = roots ∙ last_pushed limit trees t (omega (arith, few, size, count, built.limit));
      newest = omega (arith, size);
    })
    (λ many. record {
      limit = built.limit;
      trees = sym (drop-map root_of 1 (grown h t)) ∙ ap (drop 1) roots ∙ last_moved limit trees t (omega (arith, many, size, count, built.limit));
      newest = omega (arith, size, length-drop 1 (grown h t));
    })
  where
    root_of : Version Tree → Tree
    root_of = λ v. v.root

    all : take (h.cursor + 1) h.versions ≡ h.versions
    all = take_all (h.cursor + 1) h.versions (omega (arith, built.newest))

    roots : roots_in (grown h t) ≡ last_of limit trees ++ t ∷ []
    roots = ap (λ (vs : List (Version Tree)). roots_in (vs ++ version h.next t ∷ [])) all ∙ map-append root_of h.versions (version h.next t ∷ []) ∙ ap (λ (ts : List Tree). ts ++ t ∷ []) built.trees

    size : length (grown h t) ≡ h.cursor + 2
    size = length-grown h t lawful

    count : length (last_of limit trees) ≡ h.cursor + 1
    count = ap length (sym built.trees) ∙ length-map h.versions root_of ∙ sym built.newest

keeps : (limit : ℕ) (trees : List Tree) (h : Past Tree) (name : List ℕ) → IsBuilt limit trees h → IsBuilt limit trees (with_checkpoint h name)
keeps limit trees h name built = go (present_root h)
  where
    go : (o : Option Tree) → IsBuilt limit trees (unwrap_or (option_map (λ root. record h { checkpoints = insert_entry name_cmp h.checkpoints name root }) o) h)
    go None = built
    go (Some root) = record { limit = built.limit; trees = built.trees; newest = built.newest }

forgets : (limit : ℕ) (before kept : List Tree) (h : Past Tree) → IsBuilt limit (before ++ kept) h → 1 ≤ length kept → length kept ≤ limit → IsBuilt limit kept (forgotten h (length h.versions - length kept))
forgets limit before kept h built some few = record {
  limit = built.limit;
  trees = left ∙ sym (last_all limit kept few);
  newest = omega (arith, built.newest, length-drop (length h.versions - length kept) h.versions, some);
}
  where
    root_of : Version Tree → Tree
    root_of = λ v. v.root

    count : length h.versions ≡ length (last_of limit (before ++ kept))
    count = sym (length-map h.versions root_of) ∙ ap length built.trees

    left : roots_in (drop (length h.versions - length kept) h.versions) ≡ kept
    left = sym (drop-map root_of (length h.versions - length kept) h.versions) ∙ ap (drop (length h.versions - length kept)) built.trees
        ∙ ap (λ (n : ℕ). drop (n - length kept) (last_of limit (before ++ kept))) count ∙ last_kept limit before kept few

pub build_law : BuildLaw
build_law = record {
  first = λ limit some. record { limit = refl; trees = sym (last_all limit (bare ∷ []) (omega (arith, some))); newest = refl };
  adds = adds;
  keeps = keeps;
  forgets = forgets;
}
