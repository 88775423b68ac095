-- Levels of directories: those that paths of so many names lead to.
use Rattle.std.proofs.Common.{◌≡◌, ℕ, zero, suc, ◌⊎◌, inl, inr, ◌+◌, ◌*◌, ◌<◌, ◌≤◌, Bool, true, false, cond, ◌&&◌, ◌||◌, eqb, Option, Some, None, List, [], ◌∷◌, ◌++◌, length, take, refl, sym, ap, subst, ◌∙◌, arith, rules, length-append}
use Rattle.std.specs.Prelude.{nat_lt, nat_le, IsSome, Contains, unwrap_or}
use Rattle.std.specs.Option.{is_some, option_and_then}
use Rattle.std.specs.List.{list_any}
use Rattle.std.specs.FinSet.{FinSet, contains, insert, empty, members, contains-empty}
use Rattle.std.specs.Ordering.{nat_cmp}
use Rattle.std.proofs.lemmas.Bool.{true≢false, eqb-true, eq-eqb, ltb-true, ltb-false, lt-ltb, leb-true, leb-false}
use Rattle.std.proofs.lemmas.List.{length-take-le}
use Rattle.std.proofs.lemmas.List.Elements.{Contains-append_left, Contains-push, Contains-push_cases}
use Rattle.fs_types.specs.Names.{Name, Path, same_name}
use Rattle.fs_types.proofs.Orders.{same_name-own}
use Rattle.node_format.specs.Items.{Item, named_place}
use Rattle.node_format.specs.declared.place.Place.{Place}
use Rattle.node_format.specs.declared.place.Place.TheVariants.{Dir, File}
use Rattle.nodes.specs.Bodies.{Blocks}
use Rattle.nodes.specs.Chains.{link_of, link_items, and_after, entries_after, most_after, in_order}
use Rattle.nodes.specs.Trees.{child, leads, entries_in, items_in}
use Rattle.nodes.specs.TreeLaws.{IsShallow}
use Rattle.nodes.proofs.Chains.{by_test}
use Rattle.nodes.proofs.Chained.{entry_named}
use Rattle.nodes.proofs.RootMaps.{leads-append}
use Rattle.directory.specs.Lookups.{LeadsToDirectories}
use Rattle.directory.proofs.Directories.{empty_first}
use Rattle.directory.specs.Depths.{IsDeeper, is_directory_at, names_directory, AreNamedBy, HasBlocks}

-- ---- the directories that entries name

pub any_contains : (p : Item → Bool) (items : List Item) → list_any p items ≡ true → (item : Item) × Contains items item × (p item ≡ true)
any_contains p [] some = absurd cc
any_contains p (item ∷ items) some = on (p item) refl some (any_contains p items)
  where
    on : (b : Bool) → p item ≡ b → (b || list_any p items) ≡ true → (list_any p items ≡ true → (found : Item) × Contains items found × (p found ≡ true)) → (found : Item) × Contains (item ∷ items) found × (p found ≡ true)
    on true is some again = (item, (0, omega arith, refl), is)
    on false is some again = let found = again some in (found.0, (suc found.1.0, omega (arith, found.1.1), found.1.2), found.2)

pub directory_is : (place : Place) (b : ℕ) → is_directory_at place b ≡ true → place ≡ Dir b
directory_is (Dir block) b is = ap Dir (eqb-true block b is)
directory_is (File head size) b is = absurd cc

named_child : (f : Blocks) (parent b : ℕ) → names_directory (items_in f parent) b ≡ true → (n : Name) × (child f (Dir parent) n ≡ Some (Dir b))
named_child f parent b names =
    let found = any_contains (λ item. is_directory_at item.place b) (items_in f parent) names in
    (found.0.name, entry_named f parent found.0 found.1 ∙ ap (λ (place : Place). Some place) (directory_is found.0.place b found.2))

abbrev some_place : Place → Option Place
some_place place = Some place

child_named : (items : List Item) (n : Name) (b : ℕ) → named_place items n ≡ Some (Dir b) → names_directory items b ≡ true
child_named [] n b is = absurd cc
child_named (item ∷ items) n b is = on (same_name item.name n) is (child_named items n b)
  where
    here : (place : Place) → some_place place ≡ some_place (Dir b) → is_directory_at place b ≡ true
    here place e = let is : place ≡ Dir b = cc in ap (λ (x : Place). is_directory_at x b) is ∙ eq-eqb b b refl

    either : (x y : Bool) → y ≡ true → (x || y) ≡ true
    either true y e = refl
    either false y e = e

    on : (t : Bool) → cond t (Some item.place) (named_place items n) ≡ Some (Dir b) → (named_place items n ≡ Some (Dir b) → names_directory items b ≡ true) → (is_directory_at item.place b || names_directory items b) ≡ true
    on true is again = ap (λ (x : Bool). x || names_directory items b) (here item.place is)
    on false is again = either (is_directory_at item.place b) (names_directory items b) (again is)

-- ---- levels

-- each directory that paths below the roots lead to begins one
abbrev pub AreDirectories : Blocks → List ℕ → Type 0
AreDirectories f roots = (root : ℕ) → Contains roots root → LeadsToDirectories f root

-- the set has just the directories that paths of k names below the roots lead to, as far as paths of more than `most` names go
pub record IsLevel (f : Blocks) (roots : List ℕ) (most k blocks : ℕ) (level : FinSet nat_cmp) : Type 0 where
  pub within : (b : ℕ) → contains level b ≡ true → b < blocks
  pub reached : AreDirectories f roots → (b : ℕ) → contains level b ≡ true → (root : ℕ) × Contains roots root × (p : Path) × (leads f (Dir root) p ≡ Some (Dir b)) × (length p ≡ k)
  pub covers : (root : ℕ) → Contains roots root → (p : Path) → IsSome (leads f (Dir root) p) → length p ≡ suc most → (b : ℕ) × (q : Path) × (contains level b ≡ true) × IsSome (leads f (Dir b) q) × (k + length q ≡ suc most)

pub contains_insert : (s : FinSet nat_cmp) (x b : ℕ) → contains (insert s x) b ≡ (eqb b x || contains s b)
contains_insert s x b = search (members, rules)

-- a path of two names or more goes on through a directory of the next level
abbrev GoesOn : Blocks → ℕ → ℕ → ℕ → FinSet nat_cmp → Type 0
GoesOn f most k blocks next = (b : ℕ) × (q : Path) × (contains next b ≡ true) × IsSome (leads f (Dir b) q) × ((k + 1) + length q ≡ suc most)

leads_one : (f : Blocks) (at next : Place) (n : Name) → child f at n ≡ Some next → leads f at (n ∷ []) ≡ Some next
leads_one f at next n is = ap (option_and_then (λ to. leads f to [])) is

some_leads : (f : Blocks) (at : Place) (path : Path) (n : Name) (p : Path) → path ≡ n ∷ p → IsSome (leads f at path) → IsSome (child f at n)
some_leads f at path n p is led = on (child f at n) (subst (λ (q : Path). IsSome (leads f at q)) is led)
  where
    on : (o : Option Place) → IsSome (option_and_then (λ next. leads f next p) o) → IsSome o
    on None led = absurd cc
    on (Some next) led = refl

pub no_entries : (f : Blocks) (block : ℕ) → f block ≡ None → entries_in f block ≡ None
no_entries f block none = ap (λ (node : Option (List ℕ)). option_and_then in_order (option_and_then (and_after (entries_after most_after f)) (link_of node))) none

-- a directory with a path below it is in a block
led_below : (f : Blocks) (blocks root : ℕ) (p : Path) → ((b : ℕ) → blocks ≤ b → f b ≡ None) → IsSome (leads f (Dir root) p) → 0 < length p → root < blocks
led_below f blocks root [] beyond led some = absurd (omega arith)
led_below f blocks root (n ∷ p) beyond led some = by_test (nat_lt root blocks) (λ less. ltb-true root blocks less) (λ not_less. absurd (none (ltb-false root blocks not_less)))
  where
    none : blocks ≤ root → ⊥
    none past = let no_child : child f (Dir root) n ≡ None = ap (λ (o : Option (List Item)). named_place (unwrap_or o []) n) (no_entries f root (beyond root past)) in
        true≢false (sym (some_leads f (Dir root) (n ∷ p) n p refl led) ∙ ap is_some no_child)

pub first_level : (f : Blocks) (roots : List ℕ) (most blocks : ℕ) (level : FinSet nat_cmp) → ((b : ℕ) → blocks ≤ b → f b ≡ None) → HasBlocks blocks roots level
    → IsLevel f roots most 0 blocks level
first_level f roots most blocks level beyond has = record {
  within = has.within;
  reached = λ whole b here. (b, has.listed b here, [], refl, refl);
  covers = λ root rooted p led long.
      (root, p, has.all root rooted (led_below f blocks root p beyond led (omega (arith, long))), led, omega (arith, long));
}

goes_on : (f : Blocks) (most k blocks : ℕ) (level next : FinSet nat_cmp) → k < most → ((b : ℕ) → blocks ≤ b → f b ≡ None) → AreNamedBy f blocks (contains level) next
    → (b : ℕ) (q : Path) → contains level b ≡ true → IsSome (leads f (Dir b) q) → k + length q ≡ suc most → GoesOn f most k blocks next
goes_on f most k blocks level next more beyond names b [] here led long = absurd (omega arith)
goes_on f most k blocks level next more beyond names b (m ∷ []) here led long = absurd (omega arith)
goes_on f most k blocks level next more beyond names b (m ∷ a ∷ q) here led long = on (child f (Dir b) m) refl led
  where
    below : (to : ℕ) → IsSome (leads f (Dir to) (a ∷ q)) → to < blocks
    below to led = led_below f blocks to (a ∷ q) beyond led (omega arith)

    on : (o : Option Place) → child f (Dir b) m ≡ o → IsSome (option_and_then (λ next. leads f next (a ∷ q)) o) → GoesOn f most k blocks next
    on None is led = absurd cc
    on (Some (File head size)) is led = absurd cc
    on (Some (Dir to)) is led = (to, a ∷ q, names.all b to here (below to led) (child_named (items_in f b) m to is), led, omega arith)

pub next_is_level : (f : Blocks) (roots : List ℕ) (most k blocks : ℕ) (level next : FinSet nat_cmp) → k < most → ((b : ℕ) → blocks ≤ b → f b ≡ None) → IsLevel f roots most k blocks level → AreNamedBy f blocks (contains level) next
    → IsLevel f roots most (k + 1) blocks next
next_is_level f roots most k blocks level next more beyond is names = record {
  within = names.within;
  reached = λ whole b here.
      let parent = names.named b here in
      let before = is.reached whole parent.0 parent.1 in
      let begins = whole before.0 before.1 before.2 parent.0 before.3 in
      let names_it : names_directory (items_in f parent.0) b ≡ true = ap (λ (o : Option (List Item)). names_directory (unwrap_or o []) b) begins.1 ∙ parent.2 begins.0 begins.1 in
      let goes = named_child f parent.0 b names_it in (
        before.0,
        before.1,
        before.2 ++ goes.0 ∷ [],
        leads-append f (Dir before.0) before.2 (goes.0 ∷ []) ∙ ap (option_and_then (λ to. leads f to (goes.0 ∷ []))) before.3 ∙ leads_one f (Dir parent.0) (Dir b) goes.0 goes.1,
        omega (arith, length-append before.2 (goes.0 ∷ []), before.4),
      );
  covers = λ root rooted p led long. let found = is.covers root rooted p led long in goes_on f most k blocks level next more beyond names found.0 found.1 found.2 found.3 found.4;
}

-- ---- what the last level says

front_leads : (f : Blocks) (k : ℕ) (path : Path) (at : Place) → IsSome (leads f at path) → IsSome (leads f at (take k path))
front_leads f zero path at led = refl
front_leads f (suc k) [] at led = refl
front_leads f (suc k) (n ∷ path) at led = on (child f at n) led (front_leads f k path)
  where
    on : (o : Option Place) → IsSome (option_and_then (λ next. leads f next path) o) → ((next : Place) → IsSome (leads f next path) → IsSome (leads f next (take k path))) → IsSome (option_and_then (λ next. leads f next (take k path)) o)
    on None led again = absurd cc
    on (Some next) led again = again next led

no_items : (items : List Item) (n : Name) → length items ≡ 0 → named_place items n ≡ None
no_items [] n none = refl
no_items (item ∷ items) n none = absurd (omega arith)

pub last_shallow : (f : Blocks) (roots : List ℕ) (most blocks : ℕ) (level : FinSet nat_cmp) → IsLevel f roots most most blocks level → ((b : ℕ) → contains level b ≡ true → length (items_in f b) ≡ 0)
    → (root : ℕ) → Contains roots root → IsShallow f (Dir root) most
last_shallow f roots most blocks level is none root rooted path led = by_test (nat_le (length path) most) (λ short. leb-true (length path) most short) (λ long. absurd (never (leb-false (length path) most long)))
  where
    ends : (b : ℕ) (q : Path) → contains level b ≡ true → IsSome (leads f (Dir b) q) → most + length q ≡ suc most → ⊥
    ends b [] here goes long = omega arith
    ends b (m ∷ q) here goes long = true≢false (sym (some_leads f (Dir b) (m ∷ q) m q refl goes) ∙ ap is_some (no_items (items_in f b) m (none b here)))

    never : most < length path → ⊥
    never long =
        let exact : length (take (suc most) path) ≡ suc most = length-take-le (suc most) path (omega arith) in
        let found = is.covers root rooted (take (suc most) path) (front_leads f (suc most) path (Dir root) led) exact in
        ends found.0 found.1 found.2 found.3 found.4

-- where no path of so many names leads to a directory, none has more names
pub empty_shallow : (f : Blocks) (roots : List ℕ) (most k blocks : ℕ) (level : FinSet nat_cmp) → IsLevel f roots most k blocks level → level ≡ empty → (root : ℕ) → Contains roots root → IsShallow f (Dir root) most
empty_shallow f roots most k blocks level is none root rooted path led = by_test (nat_le (length path) most) (λ short. leb-true (length path) most short) (λ long. absurd (never (leb-false (length path) most long)))
  where
    never : most < length path → ⊥
    never long =
        let exact : length (take (suc most) path) ≡ suc most = length-take-le (suc most) path (omega arith) in
        let found = is.covers root rooted (take (suc most) path) (front_leads f (suc most) path (Dir root) led) exact in
        true≢false (sym found.2 ∙ ap (λ (s : FinSet nat_cmp). contains s found.0) none ∙ contains-empty nat_cmp found.0)

first_named : (items : List Item) → 0 < length items → (n : Name) × IsSome (named_place items n)
first_named [] some = absurd (omega arith)
first_named (item ∷ items) some = (item.name, ap (λ (t : Bool). is_some (cond t (Some item.place) (named_place items item.name))) (same_name-own item.name))

-- a directory has entries where its first node has
some_items : (f : Blocks) (b : ℕ) (items : List Item) → entries_in f b ≡ Some items → 0 < length (link_items (f b)) → 0 < length (items_in f b)
some_items f b items e some =
    let size : length (items_in f b) ≡ length items = ap (λ (o : Option (List Item)). length (unwrap_or o [])) e in
    by_test (eqb (length items) 0)
    (λ none. absurd (let no = eqb-true (length (link_items (f b))) 0 (empty_first f b items e ∙ none) in omega (arith, no, some)))
    (λ more. let positive : 0 < length items = not_zero (length items) more in omega (arith, size, positive))
  where
    not_zero : (n : ℕ) → eqb n 0 ≡ false → 0 < n
    not_zero n more = grind arith

pub no_first_items : (f : Blocks) (b : ℕ) → length (link_items (f b)) ≡ 0 → length (items_in f b) ≡ 0
no_first_items f b none = on (entries_in f b) refl
  where
    on : (o : Option (List Item)) → entries_in f b ≡ o → length (unwrap_or o []) ≡ 0
    on None e = refl
    on (Some items) e = eqb-true (length items) 0 (sym (empty_first f b items e) ∙ eq-eqb (length (link_items (f b))) 0 none)

pub last_deeper : (f : Blocks) (roots : List ℕ) (most blocks b : ℕ) (level : FinSet nat_cmp) → AreDirectories f roots → IsLevel f roots most most blocks level → contains level b ≡ true → 0 < length (link_items (f b))
    → (root : ℕ) × Contains roots root × IsDeeper f (Dir root) most
last_deeper f roots most blocks b level whole is here node_some =
    let before = is.reached whole b here in
    let begins = whole before.0 before.1 before.2 b before.3 in
    let some = some_items f b begins.0 begins.1 node_some in
    let entry = first_named (items_in f b) some in (
      before.0,
      before.1,
      (
        before.2 ++ entry.0 ∷ [],
        ap is_some (leads-append f (Dir before.0) before.2 (entry.0 ∷ []) ∙ ap (option_and_then (λ to. leads f to (entry.0 ∷ []))) before.3) ∙ on (child f (Dir b) entry.0) entry.1,
        omega (arith, length-append before.2 (entry.0 ∷ []), before.4),
      ),
    )
  where
    on : (o : Option Place) → IsSome o → is_some (option_and_then (λ to. leads f to []) o) ≡ true
    on None some = absurd cc
    on (Some next) some = refl

-- ---- what entries add

pub added_one : (s : FinSet nat_cmp) (blocks x b : ℕ) (rest : Bool) → x < blocks → (contains (insert s x) b || (nat_lt b blocks && rest)) ≡ (contains s b || (nat_lt b blocks && (eqb x b || rest)))
added_one s blocks x b rest below = ap (λ (t : Bool). t || (nat_lt b blocks && rest)) (contains_insert s x b) ∙ on (eqb b x) refl
  where
    here : b ≡ x → (nat_lt b blocks && (eqb x b || rest)) ≡ true
    here same =
        (λ i. lt-ltb b blocks (subst (λ (y : ℕ). y < blocks) (sym same) below) i && (eq-eqb x b (sym same) i || rest))

    either : (c d : Bool) → d ≡ true → (c || d) ≡ true
    either true d e = refl
    either false d e = e

    on : (t : Bool) → eqb b x ≡ t → ((t || contains s b) || (nat_lt b blocks && rest)) ≡ (contains s b || (nat_lt b blocks && (eqb x b || rest)))
    on true same = sym (either (contains s b) _ (here (eqb-true b x same)))
    on false differs = ap (λ (t : Bool). contains s b || (nat_lt b blocks && (t || rest))) (sym (turned differs))
      where
        turned : eqb b x ≡ false → eqb x b ≡ false
        turned differs = by_test (eqb x b) (λ same. absurd (true≢false (sym (eq-eqb b x (sym (eqb-true x b same))) ∙ differs))) (λ other. other)

-- ---- the first level, block by block

pub no_blocks : (blocks : ℕ) (level : FinSet nat_cmp) → level ≡ empty → HasBlocks blocks [] level
no_blocks blocks level none = record {
  within = λ b here. absurd (not_here b here);
  listed = λ b here. absurd (not_here b here);
  all = λ b within below. absurd (omega (arith, within.1));
}
  where
    not_here : (b : ℕ) → contains level b ≡ true → ⊥
    not_here b here = true≢false (sym here ∙ ap (λ (s : FinSet nat_cmp). contains s b) none ∙ contains-empty nat_cmp b)

-- the list has one block more
pub block_more : (blocks x : ℕ) (list : List ℕ) (level : FinSet nat_cmp) → HasBlocks blocks list level → x < blocks → HasBlocks blocks (list ++ x ∷ []) (insert level x)
block_more blocks x list level has below = record { within = within; listed = listed; all = all }
  where
    split : (b : ℕ) → contains (insert level x) b ≡ true → (b ≡ x) ⊎ (contains level b ≡ true)
    split b here = on (eqb b x) refl (sym (contains_insert level x b) ∙ here)
      where
        on : (t : Bool) → eqb b x ≡ t → (t || contains level b) ≡ true → (b ≡ x) ⊎ (contains level b ≡ true)
        on true same e = inl (eqb-true b x same)
        on false differs e = inr e

    within : (b : ℕ) → contains (insert level x) b ≡ true → b < blocks
    within b here = elim (split b here) [ inl same ↦ omega arith | inr was ↦ has.within b was ]

    listed : (b : ℕ) → contains (insert level x) b ≡ true → Contains (list ++ x ∷ []) b
    listed b here = elim (split b here) [
      | inl same ↦ subst (Contains (list ++ x ∷ [])) (sym same) (Contains-push list x)
      | inr was ↦ Contains-append_left list (x ∷ []) b (has.listed b was)
    ]

    all : (b : ℕ) → Contains (list ++ x ∷ []) b → b < blocks → contains (insert level x) b ≡ true
    all b within less = contains_insert level x b ∙ on (Contains-push_cases list x b within)
      where
        late : (s t : Bool) → t ≡ true → (s || t) ≡ true
        late true t e = refl
        late false t e = e

        on : Contains list b ⊎ (x ≡ b) → (eqb b x || contains level b) ≡ true
        on (inl before) = late (eqb b x) (contains level b) (has.all b before less)
        on (inr same) = ap (λ (t : Bool). t || contains level b) (eq-eqb b x (sym same))

pub block_past : (blocks x : ℕ) (list : List ℕ) (level : FinSet nat_cmp) → HasBlocks blocks list level → blocks ≤ x → HasBlocks blocks (list ++ x ∷ []) level
block_past blocks x list level has past = record {
  within = has.within;
  listed = λ b here. Contains-append_left list (x ∷ []) b (has.listed b here);
  all = λ b within below. on b below (Contains-push_cases list x b within);
}
  where
    on : (b : ℕ) → b < blocks → Contains list b ⊎ (x ≡ b) → contains level b ≡ true
    on b below (inl before) = has.all b before below
    on b below (inr same) = absurd (omega (arith, same))

-- so many blocks a level
pub one_level_more : (k blocks : ℕ) → (k + 1) * blocks ≡ k * blocks + blocks
one_level_more k blocks = grind arith
