-- Renames, and the changes at paths after them.
use Rattle.std.proofs.lemmas.Bool.{true≢false}
use Rattle.std.proofs.Common.{◌≡◌, ◌≢◌, ◌∙◌, ◌⊎◌, inl, inr, true, false, Option, Some, None, IsSome, List, [], ◌∷◌, ◌++◌, refl, sym, ap, subst, append-nil}
use Rattle.std.proofs.lemmas.List.Elements.{All-head, All-tail}
use Rattle.std.specs.Prelude.{All, Contains, is_some}
use Rattle.std.specs.FinMap.{get}
use Rattle.fs_types.specs.Names.{Path}
use Rattle.plain_trees.specs.Contents.{Entry, beneath, begins, moved_at}
use Rattle.plain_trees.specs.Trees.{Tree, move, IsFileTree}
use Rattle.plain_trees.proofs.Beneath.{beneath-Some}
use Rattle.plain_trees.proofs.Edits.{get-moved}
use Rattle.plain_trees.proofs.Lookups.{above}
use Rattle.tree_differences.specs.UpdateLaws.{Brings, Covers, IsMoved, RenamesLaw, StillCovers, moved_by, renames}
use Rattle.tree_differences.specs.Updates.{edit_paths, goes}
use Rattle.tree_differences.proofs.Edited.{cover_law}
use Rattle.tree_differences.proofs.Joined.{join_law, one_rename_law}
use Rattle.tree_differences.proofs.Listed.{contains_first, contains_later}

-- ---- the renames

pub moved_brings : (old new t : Tree) (moves : List (Path × Path)) → All (λ one. IsMoved old new one.0 one.1) moves → Brings t (moved_by t moves) (renames moves)
moved_brings old new t [] all = join_law.none t
moved_brings old new t (one ∷ moves) all =
    let first = All-head (λ (m : Path × Path). IsMoved old new m.0 m.1) one moves all in
    let rest = All-tail (λ (m : Path × Path). IsMoved old new m.0 m.1) one moves all in
    let between : Tree = move t one.0 one.1 in
    join_law.both t between (moved_by between moves) (renames (one ∷ [])) (renames moves) (one_rename_law t one.0 one.1 first.apart) (moved_brings old new between moves rest)

-- ---- what stands at a path then

-- one of the moves goes to above the path
abbrev IsUnder : List (Path × Path) → Path → Type 0
IsUnder moves q = (one : Path × Path) × Contains moves one × (begins one.1 q ≡ true)

-- or it goes from above it
abbrev IsTouched : List (Path × Path) → Path → Type 0
IsTouched moves q = (one : Path × Path) × Contains moves one × ((begins one.0 q ≡ true) ⊎ (begins one.1 q ≡ true))

-- the same as before, or by a move that goes there nothing, or something
abbrev Fate : Tree → Tree → List (Path × Path) → Path → Type 0
Fate t now moves q = (get now q ≡ get t q) ⊎ (IsTouched moves q × ((get now q ≡ None) ⊎ IsUnder moves q))

later : (t between now : Tree) (one : Path × Path) (moves : List (Path × Path)) (q : Path) → Fate between now moves q → (get between q ≡ get t q) ⊎ (IsTouched (one ∷ moves) q × ((get between q ≡ None) ⊎ IsUnder (one ∷ moves) q))
    → Fate t now (one ∷ moves) q
later t between now one moves q (inl same) (inl before) = inl (same ∙ before)
later t between now one moves q (inl same) (inr (touched, inl none)) = inr (touched, inl (same ∙ none))
later t between now one moves q (inl same) (inr (touched, inr under)) = inr (touched, inr under)
later t between now one moves q (inr ((other, among, at), inl none)) before = inr ((other, contains_later other one moves among, at), inl none)
later t between now one moves q (inr ((other, among, at), inr (third, within, under))) before =
    inr ((other, contains_later other one moves among, at), inr (third, contains_later third one moves within, under))

-- a single move
once : (t : Tree) (one : Path × Path) (moves : List (Path × Path)) (q : Path) → (get (move t one.0 one.1) q ≡ get t q) ⊎ (IsTouched (one ∷ moves) q × ((get (move t one.0 one.1) q ≡ None) ⊎ IsUnder (one ∷ moves) q))
once t one moves q = go (beneath one.1 q) (beneath one.0 q) refl refl
  where
    here : Contains (one ∷ moves) one
    here = contains_first one moves

    go : (o o' : Option Path) → beneath one.1 q ≡ o → beneath one.0 q ≡ o' → (get (move t one.0 one.1) q ≡ get t q) ⊎ (IsTouched (one ∷ moves) q × ((get (move t one.0 one.1) q ≡ None) ⊎ IsUnder (one ∷ moves) q))
    go (Some r) o' is is' = let at : begins one.1 q ≡ true = ap is_some is in inr ((one, here, inr at), inr (one, here, at))
    go None (Some r) is is' =
        let at : begins one.0 q ≡ true = ap is_some is' in
        inr ((one, here, inl at), inl (get-moved t one.0 one.1 q ∙ ap (λ (o : Option Path). moved_at (get t) one.0 o (beneath one.0 q) q) is ∙ ap (λ (o : Option Path). moved_at (get t) one.0 None o q) is'))
    go None None is is' =
        inl (get-moved t one.0 one.1 q ∙ ap (λ (o : Option Path). moved_at (get t) one.0 o (beneath one.0 q) q) is ∙ ap (λ (o : Option Path). moved_at (get t) one.0 None o q) is')

fate : (t : Tree) (moves : List (Path × Path)) (q : Path) → Fate t (moved_by t moves) moves q
fate t [] q = inl refl
fate t (one ∷ moves) q = later t (move t one.0 one.1) (moved_by (move t one.0 one.1) moves) one moves q (fate (move t one.0 one.1) moves q) (once t one moves q)

-- ---- where a move goes from or to, the two trees differ

-- what goes is not what stands there in the other tree
goes_other : (o there : Option Entry) → goes o there ≡ true → o ≢ there
goes_other o there is same = true≢false (sym is ∙ ap (goes o) (sym same) ∙ own o)
  where
    own : (x : Option Entry) → goes x x ≡ false
    own None = refl
    own (Some Entry.Dir) = refl
    own (Some (Entry.File bytes)) = refl

-- and not both are directories
not_both : (o there : Option Entry) → goes o there ≡ true → o ≡ Some Entry.Dir → there ≡ Some Entry.Dir → ⊥
not_both o there is dir dir' = goes_other o there is (dir ∙ sym dir')

module _ (old new : Tree) (lawful : IsFileTree old) (lawful' : IsFileTree new) where
  differ_below : (p r : Path) → get old p ≢ get new p → (get old p ≡ Some Entry.Dir → get new p ≡ Some Entry.Dir → ⊥) → IsSome (get new (p ++ r)) → get old (p ++ r) ≢ get new (p ++ r)
  differ_below p [] other both there same =
      other (ap (get old) (sym (append-nil p)) ∙ same ∙ ap (get new) (append-nil p))
  differ_below p (n ∷ rest) other both there same =
      both (above (get old) lawful.shape p rest n (subst IsSome (sym same) there)) (above (get new) lawful'.shape p rest n there)

  differ_at : (p q : Path) → get old p ≢ get new p → (get old p ≡ Some Entry.Dir → get new p ≡ Some Entry.Dir → ⊥) → begins p q ≡ true → IsSome (get new q) → get old q ≢ get new q
  differ_at p q other both under there = go (beneath p q) refl
    where
      go : (o : Option Path) → beneath p q ≡ o → get old q ≢ get new q
      go None none = absurd (true≢false (sym under ∙ ap is_some none))
      go (Some r) is =
          let at : q ≡ p ++ r = beneath-Some p q r is in
          subst (λ (x : Path). get old x ≢ get new x) (sym at) (differ_below p r other both (subst (λ (x : Path). IsSome (get new x)) at there))

  touched_differ : (one : Path × Path) (q : Path) → IsMoved old new one.0 one.1 → (begins one.0 q ≡ true) ⊎ (begins one.1 q ≡ true) → IsSome (get new q) → get old q ≢ get new q
  touched_differ one q is (inl from) there =
      differ_at one.0 q (goes_other (get old one.0) (get new one.0) is.gone) (not_both (get old one.0) (get new one.0) is.gone) from there
  touched_differ one q is (inr to) there =
      differ_at one.1 q (λ same. goes_other (get new one.1) (get old one.1) is.come (sym same)) (λ dir dir'. not_both (get new one.1) (get old one.1) is.come dir' dir) to there

  module _ (moves : List (Path × Path)) (olds news rest : List Path) (covers : Covers old new olds news) (all : All (λ one. IsMoved old new one.0 one.1) moves) (still : StillCovers (moved_by old moves) moves olds rest) where
    abbrev now : Tree
    now = moved_by old moves

    each : (one : Path × Path) → Contains moves one → IsMoved old new one.0 one.1
    each one (k, within, at) = subst (λ (m : Path × Path). IsMoved old new m.0 m.1) at (all k one within)

    news_covered : (q : Path) → get now q ≢ get new q → IsSome (get new q) → Contains news q
    news_covered q differs there = go (fate old moves q)
      where
        go : Fate old now moves q → Contains news q
        go (inl same) = covers.from_new q (λ e. differs (same ∙ e)) there
        go (inr ((one, among, at), how)) = covers.from_new q (touched_differ one q (each one among) at there) there

    olds_covered : (q : Path) → get now q ≢ get new q → IsSome (get now q) → Contains rest q
    olds_covered q differs there = go (fate old moves q)
      where
        go : Fate old now moves q → Contains rest q
        go (inl same) = still.others q (covers.from_old q (λ e. differs (same ∙ e)) (subst IsSome same there)) there
        go (inr (touched, inl none)) = absurd (true≢false (sym (subst IsSome none there)))
        go (inr (touched, inr (one, among, under))) = still.moved one q among under there

    moves_cover : Covers now new rest news
    moves_cover = record { from_old = olds_covered; from_new = news_covered }

pub renames_law : RenamesLaw
renames_law old new moves olds news rest lawful lawful' covers all still =
    join_law.both old (moved_by old moves) new (renames moves) (edit_paths (moved_by old moves) new rest news) (moved_brings old new old moves all)
    (cover_law (moved_by old moves) new rest news (moves_cover old new lawful lawful' moves olds news rest covers all still))
