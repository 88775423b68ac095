-- Where levels hold, no path is too long.
use Rattle.std.proofs.Common.{◌≡◌, ◌≢◌, ◌↔◌, ◌⊎◌, inl, inr, ℕ, zero, suc, ◌+◌, ◌<◌, ◌≤◌, Bool, true, false, cond, eqb, Option, Some, None, unwrap_or, List, [], ◌∷◌, length, take, refl, sym, ap, subst, ◌∙◌, arith}
use Rattle.std.specs.Prelude.{Contains, IsSome, All, slice_index}
use Rattle.std.specs.Option.{option_map_or, option_and_then}
use Rattle.std.proofs.lemmas.Bool.{true≢false, eq-eqb}
use Rattle.std.proofs.lemmas.List.Elements.{Contains-append_cases, Contains-push_cases, All-contains}
use Rattle.std.proofs.lemmas.List.{take_more, length-map}
use Rattle.fs_types.specs.Names.{Path}
use Rattle.node_format.specs.Items.{Item, named_place}
use Rattle.node_format.specs.EntryLaws.{named-contained}
use Rattle.node_format.specs.Links.{Link}
use Rattle.node_format.specs.declared.place.Place.{Place}
use Rattle.node_format.specs.declared.place.Place.TheVariants.{Dir, File}
use Rattle.nodes.specs.Bodies.{Blocks}
use Rattle.nodes.specs.Chains.{link_of, link_items, entries_after, most_after, entries_in, items_in}
use Rattle.nodes.specs.TreeLaws.{IsShallow}
use Rattle.nodes.specs.Reached.{Reached, IsFirst, PlaceNames}
use Rattle.nodes.specs.Trees.{leads}
use Rattle.nodes.proofs.Chains.{AfterParts, after_parts, first_parts, items_are}
use Rattle.reclaim.specs.Levels.{level, GoesOn, Stands, StandsIn, AreLeveled}
use Rattle.reclaim.specs.Looks.{places_of}
use Rattle.reclaim.specs.Passes.{Pass, IsPass, IsFinished, Advances}
use Rattle.reclaim.specs.Sound.{HoldsLink, IsSoundPlace, IsSoundNode}
use Rattle.reclaim.specs.Tables.{HasSeen, NamesDirectory}
use Rattle.reclaim.specs.declared.levels.Levels.{Levels}
use Rattle.reclaim.proofs.Linked.{next_is}
use Rattle.reclaim.proofs.Looked.{reached_seen, names_seen, seen_reached, list_is}
use Rattle.reclaim.proofs.Telling.{seen_back}
use Rattle.reclaim.proofs.Verifying.{all_of}

-- ---- levels go on

pub goes_itself : (v : Levels) → GoesOn v v
goes_itself v = record { keeps = λ b some. refl; held = λ is. is }

pub goes_on : (u v w : Levels) → GoesOn u v → GoesOn v w → GoesOn u w
goes_on u v w first second = record {
  keeps = λ b some. let here = first.keeps b some in second.keeps b (λ none. some (sym here ∙ none)) ∙ here;
  held = λ is. first.held (second.held is);
}

-- what has a level of so many at least keeps it
pub keeps_least : (u v : Levels) (b least : ℕ) → 0 < least → GoesOn u v → least ≤ level u b → least ≤ level v b
keeps_least u v b least some goes le = omega (arith, le, goes.keeps b (λ none. omega (arith, some, le, none)))

-- a list of blocks that have such a level
pub put_more : (list : List ℕ) (i : ℕ) (u v : Levels) (least block : ℕ) → 0 < least → i < length list → GoesOn u v → ((b : ℕ) → Contains (take i list) b → least ≤ level u b) → block ≡ slice_index list i → least ≤ level v block
    → (b : ℕ) → Contains (take (i + 1) list) b → least ≤ level v b
put_more list i u v least block some below goes so_far at here b has = elim (Contains-push_cases (take i list) (slice_index list i) b (subst (λ (l : List ℕ). Contains l b) (take_more list i 0 below) has)) [
  | inl before ↦ keeps_least u v b least some goes (so_far b before)
  | inr same ↦ subst (λ (c : ℕ). least ≤ level v c) (at ∙ same) here
]

-- ---- one node more

module _ (f : Blocks) (u v : Levels) (goes : GoesOn u v) where
  stays : (b : ℕ) (l : Link) → StandsIn f u b l → StandsIn f v b l
  stays b l own =
      let here : level v b ≡ level u b = goes.keeps b (λ none. omega (arith, own.some, none)) in
      record {
        some = omega (arith, here, own.some);
        few = omega (arith, here, own.few);
        full = λ more. omega (arith, here, own.full more);
        next = λ some. omega (arith, here, keeps_least u v l.next (level u b) own.some goes (own.next some));
        below = λ c names. omega (arith, here, keeps_least u v c (level u b + 1) (omega arith) goes (omega (arith, own.below c names)));
      }

  -- a node that stands so
  stands_in : (b : ℕ) (l : Link) (is_empty : Bool) (directories : List ℕ) → link_of (f b) ≡ Some l → (is_empty ≡ true → length l.items ≡ 0) → ((c : ℕ) → Contains directories c ↔ NamesDirectory (f b) c)
      → Stands v b l.next is_empty directories → StandsIn f v b l
  stands_in b l is_empty directories is empty named own = record {
    some = own.some;
    few = own.few;
    full = λ more. full is_empty empty own.full more;
    next = own.after;
    below = λ c names. own.below c ((named c).1 names);
  }
    where
      full : (t : Bool) → (t ≡ true → length l.items ≡ 0) → (t ≡ false → level v b ≤ 16) → 0 < length l.items → level v b ≤ 16
      full true empty own more = absurd (omega (arith, empty refl, more))
      full false empty own more = own refl

  pub leveled_on : (p q : Pass) (block : ℕ) → Advances p q → p.next < length p.order → block ≡ slice_index p.order p.next → q.next ≡ p.next + 1 → AreLeveled f p u
      → (v.hold ≡ true → (l : Link) → link_of (f block) ≡ Some l → StandsIn f v block l) → AreLeveled f q v
  leveled_on p q block on left at next leveled own hold b l seen is = by (seen_back p q block on left at next b seen)
    where
      by : HasSeen p b ⊎ (block ≡ b) → StandsIn f v b l
      by (inl before) = stays b l (leveled (goes.held hold) b l before is)
      by (inr same) = subst (λ (c : ℕ). StandsIn f v c l) same (own hold l (ap (λ (c : ℕ). link_of (f c)) same ∙ is))

pub stands_block : (f : Blocks) (v : Levels) (block : ℕ) (next : Option ℕ) (is_empty : Bool) (directories : List ℕ) → ((l : Link) → link_of (f block) ≡ Some l → next ≡ Some l.next) → (is_empty ≡ true → length (link_items (f block)) ≡ 0)
    → ((c : ℕ) → Contains directories c ↔ NamesDirectory (f block) c) → ((n : ℕ) → next ≡ Some n → v.hold ≡ true → Stands v block n is_empty directories)
    → v.hold ≡ true → (l : Link) → link_of (f block) ≡ Some l → StandsIn f v block l
stands_block f v block next is_empty directories says empty named stands hold l is =
    stands_in f v v (goes_itself v) block l is_empty directories is (λ none. ap length (sym (list_is (f block) l is)) ∙ empty none) named (stands l.next (says l is) hold)

-- no places, no entries
pub no_entries : (node : Option (List ℕ)) (places : List Place) → places ≡ places_of node → length places ≡ 0 → length (link_items node) ≡ 0
no_entries node places are none = omega (arith, none, ap length are, length-map (link_items node) (λ (item : Item). item.place))

pub leveled_none : (f : Blocks) (p : Pass) (v : Levels) → p.next ≡ 0 → AreLeveled f p v
leveled_none f p v none hold b l (k, lt, at) is = absurd (omega (arith, lt, none))

-- ---- paths

module _ (f : Blocks) (p : Pass) (v : Levels) (pass : IsPass f p) (end : IsFinished p) (hold : v.hold ≡ true) (leveled : AreLeveled f p v) (directories : (a c : ℕ) → HasSeen p a → NamesDirectory (f a) c → HoldsLink f c) where
  -- a node of a chain has an entry, and stands no higher than the first
  record IsIn (first : ℕ) (item : Item) : Type 0 where
    block : ℕ
    seen : HasSeen p block
    within : Contains (link_items (f block)) item
    lower : level v first ≤ level v block

  node_here : (b : ℕ) (l : Link) (item : Item) → HasSeen p b → link_of (f b) ≡ Some l → Contains l.items item → IsIn b item
  node_here b l item seen is within = record { block = b; seen = seen; within = subst (λ (xs : List Item). Contains xs item) (sym (items_are f b l is)) within; lower = omega arith }

  next_seen : (b : ℕ) (l : Link) → HasSeen p b → link_of (f b) ≡ Some l → l.next ≢ 0 → HasSeen p l.next
  next_seen b l seen is some = let at = next_is (f b) l is in names_seen f p pass end b l.next seen (inr (inr (omega (arith, at, some), at)))

  in_after : (n b : ℕ) (l : Link) (items : List Item) (item : Item) → HasSeen p b → link_of (f b) ≡ Some l → entries_after n f l.next ≡ Some items → Contains items item → IsIn b item
  in_after zero b l items item seen is e within = absurd (none (eqb l.next 0) e)
    where
      none : (t : Bool) → cond t (Some []) None ≡ Some items → ⊥
      none true same = omega (arith, within.1, ap (λ (o : Option (List Item)). length (unwrap_or o items)) same)
      none false same = cc
  in_after (suc n) b l items item seen is e within = on (after_parts f n l.next items e) (in_after n)
    where
      on : AfterParts f n l.next items → ((c : ℕ) (k : Link) (more : List Item) (item : Item) → HasSeen p c → link_of (f c) ≡ Some k → entries_after n f k.next ≡ Some more → Contains more item → IsIn c item) → IsIn b item
      on (inl none) again = absurd (omega (arith, within.1, ap length none.1))
      on (inr q) again =
          let some : l.next ≢ 0 = λ none. true≢false (sym (eq-eqb l.next 0 none) ∙ q.some) in
          let there = next_seen b l seen is some in
          let lower = (leveled hold b l seen is).next some in
          elim (Contains-append_cases q.l.items q.more item (subst (λ (xs : List Item). Contains xs item) q.parts within)) [
            | inl here ↦ let own = node_here l.next q.l item there q.is here in record { block = own.block; seen = own.seen; within = own.within; lower = omega (arith, lower, own.lower) }
            | inr later ↦ let own = again l.next q.l q.more item there q.is q.rest later in record { block = own.block; seen = own.seen; within = own.within; lower = omega (arith, lower, own.lower) }
          ]

  in_directory : (b : ℕ) (item : Item) → HasSeen p b → Contains (items_in f b) item → IsIn b item
  in_directory b item seen within = on (entries_in f b) refl within
    where
      on : (o : Option (List Item)) → entries_in f b ≡ o → Contains (unwrap_or o []) item → IsIn b item
      on None e within = absurd (omega (arith, within.1))
      on (Some items) e within =
          let q = first_parts f b items e in
          elim (Contains-append_cases q.l.items q.more item (subst (λ (xs : List Item). Contains xs item) q.parts within)) [
            | inl here ↦ node_here b q.l item seen q.is here
            | inr later ↦ in_after most_after b q.l q.more item seen q.is q.rest later
          ]

  -- an entry's node has a link
  linked : (b : ℕ) (item : Item) → Contains (link_items (f b)) item → (l : Link) × (link_of (f b) ≡ Some l) × (0 < length l.items)
  linked b item within = on (link_of (f b)) refl within
    where
      on : (o : Option Link) → link_of (f b) ≡ o → Contains (option_map_or (λ x. x.items) o []) item → (l : Link) × (link_of (f b) ≡ Some l) × (0 < length l.items)
      on None is within = absurd (omega (arith, within.1))
      on (Some l) is within = (l, is, omega (arith, within.1))

  short_file : (head size : ℕ) (rest : Path) → IsSome (leads f (File head size) rest) → length rest ≡ 0
  short_file head size [] some = refl
  short_file head size (n ∷ rest) some = absurd cc

  -- the path goes on by an entry
  short_entry : (b : ℕ) (path : Path) (item : Item) (place : Place) → HasSeen p b → Contains (items_in f b) item → item.place ≡ place
      → ((c : ℕ) → HasSeen p c → HoldsLink f c → IsSome (leads f (Dir c) path) → length path + level v c ≤ 17) → IsSome (leads f place path) → suc (length path) + level v b ≤ 17
  short_entry b path item (Dir c) seen within at again some =
      let node = in_directory b item seen within in
      let link = linked node.block item node.within in
      let stands = leveled hold node.block link.0 node.seen link.1 in
      let names : NamesDirectory (f node.block) c = (item, node.within, at) in
      let there = names_seen f p pass end node.block c node.seen (inl (item, node.within, subst (λ (q : Place). PlaceNames q c) (sym at) refl)) in
      omega (arith, again c there (directories node.block c node.seen names) some, stands.below c names, node.lower)
  short_entry b path item (File head size) seen within at again some =
      let node = in_directory b item seen within in
      let link = linked node.block item node.within in
      let stands = leveled hold node.block link.0 node.seen link.1 in
      omega (arith, short_file head size path some, stands.full link.2, node.lower)

  short_below : (path : Path) (b : ℕ) → HasSeen p b → HoldsLink f b → IsSome (leads f (Dir b) path) → length path + level v b ≤ 17
  short_below [] b seen (l, is) some = omega (arith, (leveled hold b l seen is).few)
  short_below (name ∷ path) b seen own some = on (named_place (items_in f b) name) refl (short_below path) some
    where
      on : (o : Option Place) → named_place (items_in f b) name ≡ o → ((c : ℕ) → HasSeen p c → HoldsLink f c → IsSome (leads f (Dir c) path) → length path + level v c ≤ 17)
          → IsSome (option_and_then (λ next. leads f next path) o) → suc (length path) + level v b ≤ 17
      on None is again some = absurd cc
      on (Some place) is again some = let found = named-contained (items_in f b) name place is in short_entry b path found.0 place seen found.1 found.2 again some

  pub leveled_shallow : (roots : List ℕ) → p.roots ≡ roots → All (HoldsLink f) roots → All (λ root. IsShallow f (Dir root) 16) roots
  leveled_shallow roots same hold_links = all_of (λ root. IsShallow f (Dir root) 16) roots shallow
    where
      shallow : (root : ℕ) → Contains roots root → IsShallow f (Dir root) 16
      shallow root within path some =
          let own = All-contains (HoldsLink f) roots root hold_links within in
          let seen = reached_seen f p pass end root (IsFirst (subst (λ (l : List ℕ). Contains l root) (sym same) within)) in
          omega (arith, short_below path root seen own some, (leveled hold root own.0 seen own.1).some)

-- what the nodes of directories name are directories, where all is sound
pub sound_names : (capacity : ℕ) (f : Blocks) (p : Pass) → IsPass f p → ((b : ℕ) → Reached f p.roots b → IsSoundNode capacity f b) → (a c : ℕ) → HasSeen p a → NamesDirectory (f a) c → HoldsLink f c
sound_names capacity f p pass sound a c seen (item, within, at) = on (link_of (f a)) refl within
  where
    on : (o : Option Link) → link_of (f a) ≡ o → Contains (option_map_or (λ k. k.items) o []) item → HoldsLink f c
    on None none within = absurd (omega (arith, within.1))
    on (Some l) own within = subst (IsSoundPlace capacity f) at ((sound a (seen_reached f p a pass seen)).names.entries l own item within)
