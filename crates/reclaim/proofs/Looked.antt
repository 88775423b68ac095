-- Roots have trees exactly where each look finds a node sound, and the table whole.
use Rattle.std.proofs.Common.{◌≡◌, ◌≢◌, inl, inr, ℕ, suc, ◌-◌, ◌*◌, ◌<◌, ◌≤◌, Bool, true, false, cond, Option, Some, None, List, [], length, refl, sym, ap, subst, ◌∙◌, arith}
use Rattle.std.specs.FinSet as set
use Rattle.std.specs.Prelude.{Contains, All, slice_index, nat_lt, not}
use Rattle.std.specs.Option.{option_map_or}
use Rattle.std.proofs.lemmas.Bool.{true≢false, cases_lt, and_parts, ltb-true}
use Rattle.std.proofs.lemmas.List.Elements.{Contains-get_or, All-contains}
use Rattle.node_format.specs.Items.{Item}
use Rattle.node_format.specs.Links.{Link}
use Rattle.node_format.specs.declared.place.Place.{Place}
use Rattle.node_format.specs.declared.place.Place.TheVariants.{Dir, File}
use Rattle.fs_types.specs.declared.limits.TheConstants.{MAX_FILE_BYTES}
use Rattle.node_format.specs.BodyNodes.{HasSlot}
use Rattle.nodes.specs.Bodies.{Blocks, index_of, pointer_of, data_of}
use Rattle.nodes.specs.Chains.{link_of, next_of, link_items, most_after}
use Rattle.nodes.specs.Reached.{Reached, IsNamed, Names, PlaceNames}
use Rattle.reclaim.specs.Looks.{NextHoldsLink, IsSoundFile, IsLooked}
use Rattle.reclaim.specs.Passes.{Pass, IsPass, IsFinished}
use Rattle.reclaim.specs.Sound.{HoldsLink, IsSoundPlace, IsSoundBody, IsSoundNode, IsPlain, IsPlainNode}
use Rattle.reclaim.specs.Tables.{IsTold, HasSeen, NamesDirectory, has_link, ends_after, ends_from, is_whole_at}
use Rattle.reclaim.specs.Tops.{top_of}
use Rattle.reclaim.specs.Verified.{AreRoots, AreLooked}
use Rattle.reclaim.specs.declared.table.Table.{Table}
use Rattle.reclaim.proofs.BodyChains.{told_body}
use Rattle.reclaim.proofs.Costs.{next_held}
use Rattle.reclaim.proofs.Directories.{begun_exact}
use Rattle.reclaim.proofs.Linked.{ends_go, goes_end, ends_first, directory_followed, next_is}
use Rattle.reclaim.proofs.Marking.{pass_marks}
use Rattle.reclaim.proofs.Soundness.{trees_are_sound}
use Rattle.reclaim.proofs.Verifying.{all_of, at_place}

pub list_is : (node : Option (List ℕ)) (l : Link) → link_of node ≡ Some l → link_items node ≡ l.items
list_is node l is = ap (λ (o : Option Link). option_map_or (λ k. k.items) o []) is

by_bool : (P : Type 0) (t : Bool) → (t ≡ true → P) → (t ≡ false → P) → P
by_bool P true holds fails = holds refl
by_bool P false holds fails = fails refl

-- ---- what was read

pub seen_in : (f : Blocks) (p : Pass) (b : ℕ) → IsPass f p → HasSeen p b → Contains p.order b
seen_in f p b pass (k, lt, at) = subst (Contains p.order) at (Contains-get_or p.order k 0 (omega (arith, lt, pass.within)))

pub seen_reached : (f : Blocks) (p : Pass) (b : ℕ) → IsPass f p → HasSeen p b → Reached f p.roots b
seen_reached f p b pass seen = pass.reached b (seen_in f p b pass seen)

module _ (f : Blocks) (p : Pass) (pass : IsPass f p) (end : IsFinished p) where
  pub all_seen : (b : ℕ) → Contains p.order b → HasSeen p b
  all_seen b has = let at = at_place p b has in (at.0, omega (arith, at.1, end), at.2)

  pub reached_seen : (b : ℕ) → Reached f p.roots b → HasSeen p b
  reached_seen b reached = all_seen b ((pass_marks f p pass end b).1 reached)

  pub names_seen : (a b : ℕ) → HasSeen p a → Names (f a) b → HasSeen p b
  names_seen a b seen names = reached_seen b (IsNamed (seen_reached f p a pass seen) names)

  seen_holds : (b : ℕ) → HasSeen p b → f b ≢ None
  seen_holds b (k, lt, at) none = pass.whole k lt (ap f at ∙ none)

-- ---- where all was looked at, and the table is whole

module _ (capacity : ℕ) (f : Blocks) (plain : Bool) (p : Pass) (t : Table) (pass : IsPass f p) (end : IsFinished p) (told : IsTold f p t) (high : (b : ℕ) → p.blocks ≤ b → f b ≡ None)
    (looked : AreLooked capacity f plain p) (files : (b : ℕ) (item : Item) → HasSeen p b → Contains (link_items (f b)) item → IsSoundFile capacity f item.place)
    (before : (b i : ℕ) → HasSeen p b → index_of (f b) ≡ Some (suc i) → suc i * capacity < MAX_FILE_BYTES → (index_of (f (pointer_of (f b) 0)) ≡ Some i) × (length (data_of (f (pointer_of (f b) 0))) ≡ capacity))
    (tops : (b i x : ℕ) → HasSeen p b → index_of (f b) ≡ Some i → HasSlot i (suc x) → top_of (f (pointer_of (f b) x)) ≡ pointer_of (f b) (suc x)) (whole : (b : ℕ) → b < t.links.blocks → is_whole_at t b ≡ true) where
  parts_of : (b : ℕ) → has_link t b ≡ true → (nat_lt b t.links.blocks ≡ true) × (set.contains t.links.members b ≡ true)
  parts_of b has = and_parts (nat_lt b t.links.blocks) (set.contains t.links.members b) has

  tells : (b : ℕ) → has_link t b ≡ true → HoldsLink f b × (slice_index t.words b ≡ next_of (f b))
  tells b has = let own = told.held b (parts_of b has).1 in (own.0, own.1)

  ends : (b : ℕ) → has_link t b ≡ true → ends_after t b ≡ true
  ends b has = ap (λ (s : Bool). cond s (ends_after t b) (not (set.contains t.named.members b))) (sym has) ∙ whole b (ltb-true b t.links.blocks (parts_of b has).0)

  named_held : (b : ℕ) → set.contains t.named.members b ≡ true → b < p.blocks → has_link t b ≡ true
  named_held b named below = by_bool (has_link t b ≡ true) (has_link t b) (λ has. has) other
    where
      other : has_link t b ≡ false → has_link t b ≡ true
      other lacks =
          let none : not (set.contains t.named.members b) ≡ true = ap (λ (s : Bool). cond s (ends_after t b) (not (set.contains t.named.members b))) (sym lacks) ∙ whole b (omega (arith, below, told.sized.links)) in
          absurd (true≢false (sym none ∙ ap not named))

  next_holds : (b : ℕ) → HasSeen p b → NextHoldsLink f (f b)
  next_holds b seen l is some =
      let has = told.links b seen (l, is) in
      let at : slice_index t.words b ≡ l.next = (tells b has).1 ∙ next_is (f b) l is in
      (tells l.next (ends_first 30 (has_link t) (slice_index t.words) l.next some (ap (ends_from most_after (has_link t) (slice_index t.words)) (sym at) ∙ ends b has))).0

  own : (b : ℕ) → HasSeen p b → IsLooked capacity f plain (f b)
  own b seen = looked b seen (next_holds b seen)

  entry : (b : ℕ) → HasSeen p b → (l : Link) → link_of (f b) ≡ Some l → (item : Item) → Contains l.items item → IsSoundPlace capacity f item.place
  entry b seen l is item within = subst (IsSoundPlace capacity f) refl (on item.place refl (files b item seen there))
    where
      there : Contains (link_items (f b)) item
      there = subst (λ (xs : List Item). Contains xs item) (sym (list_is (f b) l is)) within

      on : (place : Place) → item.place ≡ place → IsSoundFile capacity f place → IsSoundPlace capacity f place
      on (Dir c) at file =
          let names : Names (f b) c = inl (item, there, subst (λ (q : Place). PlaceNames q c) (sym at) refl) in
          let below : c < p.blocks = elim (cases_lt c p.blocks) [ inl less ↦ less | inr past ↦ absurd (seen_holds f p pass end c (names_seen f p pass end b c seen names) (high c past)) ] in
          (tells c (named_held c (told.named b c seen (item, there, at) below) below)).0
      on (File head size) at file = file

  short : (b i : ℕ) → Reached f p.roots b → index_of (f b) ≡ Some i → i * capacity < MAX_FILE_BYTES
  short b i reached is = (own b (reached_seen f p pass end b reached)).short i is

  bodies : (b i : ℕ) → Reached f p.roots b → index_of (f b) ≡ Some i → IsSoundBody capacity f (pointer_of (f b)) i
  bodies =
      told_body capacity f p.roots short (λ b i reached is. before b i (reached_seen f p pass end b reached) is (short b (suc i) reached is))
      (λ b i x reached is has. tops b i x (reached_seen f p pass end b reached) is has)

  pub looked_sound : (b : ℕ) → Reached f p.roots b → IsSoundNode capacity f b
  looked_sound b reached =
      let seen = reached_seen f p pass end b reached in
      record {
        names = record { entries = entry b seen; pointers = λ i is. bodies b i reached is; short = λ i is. short b i reached is };
        directory = λ (l, is).
            let has = told.links b seen (l, is) in
            let at : slice_index t.words b ≡ l.next = (tells b has).1 ∙ next_is (f b) l is in
            (begun_exact f b l is).0
            (ends_go f (has_link t) (slice_index t.words) tells (λ a own_link. (own a (told.held a (parts_of a own_link).1).2).followed) most_after b l has is
            (ap (ends_from most_after (has_link t) (slice_index t.words)) (sym at) ∙ ends b has));
      }

  pub looked_plain : plain ≡ true → IsPlain f p.roots
  looked_plain is b reached = (own b (reached_seen f p pass end b reached)).alone is

  pub linked_roots : (roots : List ℕ) → All (λ b. has_link t b ≡ true) roots → All (HoldsLink f) roots
  linked_roots roots all = all_of (HoldsLink f) roots (λ b within. (tells b (All-contains (λ b. has_link t b ≡ true) roots b all within)).0)

-- ---- where roots have trees

module _ (limit : ℕ) (f : Blocks) (roots : List ℕ) (trees : AreRoots limit f roots) where
  sound_at : (b : ℕ) → Reached f roots b → IsSoundNode (limit - 80) f b
  sound_at b reached = (trees_are_sound (limit - 80) f roots trees).nodes b reached

  pub tree_next : (b : ℕ) → Reached f roots b → NextHoldsLink f (f b)
  tree_next b reached l is some =
      let at = next_is (f b) l is in
      subst (HoldsLink f) at (next_held (limit - 80) f b (sound_at b reached) (l, is) (omega (arith, at, some)))

  pub tree_looked : (plain : Bool) (b : ℕ) → Reached f roots b → (plain ≡ true → IsPlainNode (f b)) → IsLooked (limit - 80) f plain (f b)
  tree_looked plain b reached alone =
      let own = sound_at b reached in
      record {
        short = own.names.short;
        followed = directory_followed f b own.directory;
        alone = alone;
      }

module _ (limit : ℕ) (f : Blocks) (p : Pass) (t : Table) (pass : IsPass f p) (end : IsFinished p) (told : IsTold f p t) (trees : AreRoots limit f p.roots) where
  held_at : (b : ℕ) → has_link t b ≡ true → HoldsLink f b × ((slice_index t.words b ≡ next_of (f b)) × HasSeen p b)
  held_at b has = let own = told.held b (and_parts (nat_lt b t.links.blocks) (set.contains t.links.members b) has).1 in (own.0, (own.1, own.2))

  pub tree_links : (roots : List ℕ) → p.roots ≡ roots → All (λ b. has_link t b ≡ true) roots
  tree_links roots same = all_of (λ b. has_link t b ≡ true) roots linked
    where
      linked : (b : ℕ) → Contains roots b → has_link t b ≡ true
      linked b within =
          let there : Contains p.roots b = subst (λ (l : List ℕ). Contains l b) (sym same) within in
          told.links b (all_seen f p pass end b (pass.rooted b there)) ((trees_are_sound (limit - 80) f p.roots trees).directories b there)

  on_seen : (b : ℕ) (l : Link) → HasSeen p b → link_of (f b) ≡ Some l → l.next ≢ 0 → HasSeen p l.next
  on_seen b l seen is some = let at = next_is (f b) l is in names_seen f p pass end b l.next seen (inr (inr (omega (arith, at, some), at)))

  pub tree_whole : (b : ℕ) → b < t.links.blocks → is_whole_at t b ≡ true
  tree_whole b below = by_bool (is_whole_at t b ≡ true) (has_link t b) held other
    where
      held : has_link t b ≡ true → is_whole_at t b ≡ true
      held has =
          let own = held_at b has in
          let l = own.0.0 in
          let is : link_of (f b) ≡ Some l = own.0.1 in
          let reached = seen_reached f p b pass own.1.1 in
          let goes = (begun_exact f b l is).1 ((sound_at limit f p.roots trees b reached).directory (l, is)) in
          let all : ends_from most_after (has_link t) (slice_index t.words) l.next ≡ true =
          goes_end f (has_link t) (slice_index t.words) (λ a h. (held_at a h).1.0) (HasSeen p) told.links on_seen most_after b l own.1.1 is goes in
          ap (λ (s : Bool). cond s (ends_after t b) (not (set.contains t.named.members b))) has
          ∙ ap (ends_from most_after (has_link t) (slice_index t.words)) (own.1.0 ∙ next_is (f b) l is) ∙ all

      other : has_link t b ≡ false → is_whole_at t b ≡ true
      other lacks = ap (λ (s : Bool). cond s (ends_after t b) (not (set.contains t.named.members b))) lacks ∙ by_bool (not (set.contains t.named.members b) ≡ true) (set.contains t.named.members b) named (λ none. ap not none)
        where
          named : set.contains t.named.members b ≡ true → not (set.contains t.named.members b) ≡ true
          named is =
              let (a, seen, by) = told.names b is in
              absurd (true≢false (sym (told.links b (names_seen f p pass end a b seen (inl (by.0, by.1, subst (λ (q : Place). PlaceNames q b) (sym by.2) refl))) (named_link a seen by)) ∙ lacks))
            where
              named_link : (a : ℕ) → HasSeen p a → NamesDirectory (f a) b → HoldsLink f b
              named_link a seen (item, within, at) = on (link_of (f a)) refl within
                where
                  on : (o : Option Link) → link_of (f a) ≡ o → Contains (option_map_or (λ k. k.items) o []) item → HoldsLink f b
                  on None none within = absurd (omega (arith, within.1))
                  on (Some l) own within = subst (IsSoundPlace (limit - 80) f) at ((sound_at limit f p.roots trees a (seen_reached f p a pass seen)).names.entries l own item within)
