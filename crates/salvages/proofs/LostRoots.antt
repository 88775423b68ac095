-- The lost ones of some roots, found one after the other, and what that says of the versions and checkpoints.
use Rattle.std.proofs.Common.{◌≡◌, ℕ, ◌+◌, ◌<◌, Bool, true, false, cond, not, List, [], ◌∷◌, ◌++◌, length, map, take, get_or, refl, sym, ap, subst, ◌∙◌}
use Rattle.std.proofs.lemmas.Bool.{eq-eqb, eqb-true, true≢false}
use Rattle.std.proofs.lemmas.List.Elements.{All-nil, All-cons, All-head, All-tail, All-push, All-more, All-weaker, All-contains_itself}
use Rattle.std.specs.Prelude.{◌||◌, ◌==◌, ◌↔◌, IsTrue, filter, All, Contains}
use Rattle.flash_model.specs.Device.{Device}
use Rattle.flash_model.specs.Geometry.{IsGeometry, block_bytes}
use Rattle.flash_model.specs.Reading.{OnlyReads}
use Rattle.node_store.specs.NodePages.{node_of}
use Rattle.node_store.specs.ReadingLaws.{OnlyReads_nodes}
use Rattle.nodes.specs.Bodies.{Blocks}
use Rattle.reclaim.specs.Verified.{AreAllowed}
use Rattle.salvages.specs.Kept.{is_lost}
use Rattle.reclaim.proofs.Marking.{only_one}
use Rattle.reclaim.proofs.MoreRoots.{reached_more}
use Rattle.salvages.specs.Wholes.{AreAllWhole, IsWhole, AreLost}

-- reads change nothing of a root
pub whole_back : (plain : Bool) (d e : Device) (root : ℕ) → IsGeometry d.geometry → OnlyReads d e → IsWhole plain e root → IsWhole plain d root
whole_back plain d e root lawful reads whole =
    subst (λ (x : ℕ × Blocks). AreAllowed x.0 x.1 (root ∷ []) plain) (λ i. (block_bytes (reads.geometry i), OnlyReads_nodes d e lawful reads i)) whole

pub whole_on : (plain : Bool) (d e : Device) (root : ℕ) → IsGeometry d.geometry → OnlyReads d e → IsWhole plain d root → IsWhole plain e root
whole_on plain d e root lawful reads whole =
    subst (λ (x : ℕ × Blocks). AreAllowed x.0 x.1 (root ∷ []) plain) (λ i. (block_bytes (sym reads.geometry i), sym (OnlyReads_nodes d e lawful reads) i)) whole

-- what is not lost among more was not lost among fewer
fewer_lost : (lost : List ℕ) (next root : ℕ) → is_lost (lost ++ next ∷ []) root ≡ false → is_lost lost root ≡ false
fewer_lost [] next root none = refl
fewer_lost (x ∷ lost) next root none = on (x == root) (λ e. fewer_lost lost next root e) none
  where
    on : (b : Bool) → (is_lost (lost ++ next ∷ []) root ≡ false → is_lost lost root ≡ false) → (b || is_lost (lost ++ next ∷ []) root) ≡ false → (b || is_lost lost root) ≡ false
    on true rest e = e
    on false rest e = rest e

itself_lost : (lost : List ℕ) (root : ℕ) → is_lost (lost ++ root ∷ []) root ≡ true
itself_lost [] root = ap (λ (b : Bool). b || false) (eq-eqb root root refl)
itself_lost (x ∷ lost) root = on (x == root) (itself_lost lost root)
  where
    on : (b : Bool) → is_lost (lost ++ root ∷ []) root ≡ true → (b || is_lost (lost ++ root ∷ []) root) ≡ true
    on true rest = refl
    on false rest = rest

-- where all roots are whole each is by itself, and none is lost
pub each_whole : (plain : Bool) (d : Device) (roots : List ℕ) → AreAllWhole plain d roots → (root : ℕ) → Contains roots root → IsWhole plain d root
each_whole plain d roots whole root within = (
  λ r has. whole.0 r (among r has),
  λ is b reached. whole.1 is b (reached_more (node_of d) (root ∷ []) roots among reached),
)
  where
    among : (r : ℕ) → Contains (root ∷ []) r → Contains roots r
    among r has = subst (Contains roots) (only_one root r has) within

pub all_whole : (plain : Bool) (d : Device) (roots lost : List ℕ) → AreAllWhole plain d roots → lost ≡ [] → AreLost plain d roots lost
all_whole plain d roots lost whole none = record {
  broken = subst (All (λ (root : ℕ). IsWhole plain d root → ⊥)) (sym none) (All-nil (λ (root : ℕ). IsWhole plain d root → ⊥));
  others = All-weaker (Contains roots) (λ (root : ℕ). is_lost lost root ≡ false → IsWhole plain d root) (λ root within _. each_whole plain d roots whole root within) roots (All-contains_itself roots);
}

pub none_lost : (plain : Bool) (d : Device) (roots lost : List ℕ) → lost ≡ [] → AreLost plain d (take 0 roots) lost
none_lost plain d roots lost none = record {
  broken = subst (All (λ (root : ℕ). IsWhole plain d root → ⊥)) (sym none) (All-nil (λ (root : ℕ). IsWhole plain d root → ⊥));
  others = All-nil (λ (root : ℕ). is_lost lost root ≡ false → IsWhole plain d root);
}

module _ (plain : Bool) (d : Device) (roots lost : List ℕ) (i : ℕ) (below : i < length roots) (before : AreLost plain d (take i roots) lost) where
  -- one more is whole
  one_whole : IsWhole plain d (get_or roots i 0) → AreLost plain d (take (i + 1) roots) lost
  one_whole whole = record {
    broken = before.broken;
    others = All-more (λ (root : ℕ). is_lost lost root ≡ false → IsWhole plain d root) roots i 0 below before.others (λ none. whole);
  }

  -- one more is not
  one_lost : (IsWhole plain d (get_or roots i 0) → ⊥) → AreLost plain d (take (i + 1) roots) (lost ++ get_or roots i 0 ∷ [])
  one_lost not_whole =
      let root = get_or roots i 0 in
      record {
        broken = All-push (λ (r : ℕ). IsWhole plain d r → ⊥) lost root before.broken not_whole;
        others = All-more (λ (r : ℕ). is_lost (lost ++ root ∷ []) r ≡ false → IsWhole plain d r) roots i 0 below
            (All-weaker (λ (r : ℕ). is_lost lost r ≡ false → IsWhole plain d r) (λ (r : ℕ). is_lost (lost ++ root ∷ []) r ≡ false → IsWhole plain d r)
            (λ r whole none. whole (fewer_lost lost root r none)) (take i roots) before.others)
            (λ none. absurd (true≢false (sym (itself_lost lost root) ∙ none)));
      }

  -- one more is looked at, after reads
  pub one_looked : (e : Device) (whole : Bool) (now : List ℕ) → IsGeometry d.geometry → OnlyReads d e → (IsTrue whole ↔ IsWhole plain e (get_or roots i 0)) → now ≡ cond whole lost (lost ++ get_or roots i 0 ∷ [])
      → AreLost plain d (take (i + 1) roots) now
  one_looked e true now lawful reads is noted = subst (AreLost plain d (take (i + 1) roots)) (sym noted) (one_whole (whole_back plain d e (get_or roots i 0) lawful reads (is.0 refl)))
  one_looked e false now lawful reads is noted =
      subst (AreLost plain d (take (i + 1) roots)) (sym noted) (one_lost (λ whole. true≢false (sym (is.1 (whole_on plain d e (get_or roots i 0) lawful reads whole)))))

-- what holds of each lost root holds of one among them
pub of_lost : (P : ℕ → Type 0) (lost : List ℕ) (root : ℕ) → All P lost → is_lost lost root ≡ true → P root
of_lost P [] root all is = absurd cc
of_lost P (x ∷ lost) root all is = on (x == root) refl (λ e. of_lost P lost root (All-tail P x lost all) e) is
  where
    on : (b : Bool) → (x == root) ≡ b → (is_lost lost root ≡ true → P root) → (b || is_lost lost root) ≡ true → P root
    on true same rest e = subst P (eqb-true x root same) (All-head P x lost all)
    on false same rest e = rest e

module _ {X : Type 0} (root_of : X → ℕ) (lost : List ℕ) where
  abbrev kept : List X → List X
  kept xs = filter (λ x. not (is_lost lost (root_of x))) xs

  -- where none is kept, each is lost
  pub none_kept : (P : ℕ → Type 0) → All P lost → (xs : List X) → filter (λ x. not (is_lost lost (root_of x))) xs ≡ [] → All (λ x. P (root_of x)) xs
  none_kept P all [] none = All-nil (λ x. P (root_of x))
  none_kept P all (x ∷ xs) none = on (is_lost lost (root_of x)) refl (λ e. none_kept P all xs e) none
    where
      on : (b : Bool) → is_lost lost (root_of x) ≡ b → (kept xs ≡ [] → All (λ x. P (root_of x)) xs) → cond (not b) (x ∷ kept xs) (kept xs) ≡ [] → All (λ x. P (root_of x)) (x ∷ xs)
      on true is rest e = All-cons (λ x. P (root_of x)) x xs (of_lost P lost (root_of x) all is) (rest e)
      on false is rest e = absurd cc

  -- each that is kept is none of the lost
  pub each_kept : (P : ℕ → Type 0) → (xs : List X) → All (λ root. is_lost lost root ≡ false → P root) (map root_of xs) → All P (map root_of (filter (λ x. not (is_lost lost (root_of x))) xs))
  each_kept P [] all = All-nil P
  each_kept P (x ∷ xs) all = on (is_lost lost (root_of x)) refl (each_kept P xs (All-tail (λ root. is_lost lost root ≡ false → P root) (root_of x) (map root_of xs) all))
    where
      on : (b : Bool) → is_lost lost (root_of x) ≡ b → All P (map root_of (kept xs)) → All P (map root_of (cond (not b) (x ∷ kept xs) (kept xs)))
      on true is rest = rest
      on false is rest = All-cons P (root_of x) (map root_of (kept xs)) (All-head (λ root. is_lost lost root ≡ false → P root) (root_of x) (map root_of xs) all is) rest
