-- Trees hang from roots exactly where all that they reach is sound.
use Rattle.std.proofs.Common.{◌≡◌, ◌≢◌, ◌⊎◌, inl, inr, ℕ, zero, suc, ◌-◌, ◌*◌, ◌^◌, ◌<◌, ◌≤◌, Option, Some, None, List, [], ◌∷◌, refl, sym, ap, subst, ◌∙◌, arith}
use Rattle.std.specs.Prelude.{Contains, IsSome, unwrap_or}
use Rattle.std.specs.Option.{option_map_or, option_and_then}
use Rattle.std.proofs.lemmas.Nat.{pow_pos}
use Rattle.fs_types.specs.declared.limits.TheConstants.{MAX_FILE_BYTES, MAX_NAMES}
use Rattle.fs_types.specs.Names.{Name, Path}
use Rattle.node_format.specs.Items.{Item}
use Rattle.node_format.specs.Directories.{size_of}
use Rattle.node_format.specs.EntryLaws.{named-contained}
use Rattle.node_format.specs.Links.{Link}
use Rattle.node_format.specs.declared.place.Place.{Place}
use Rattle.node_format.specs.declared.place.Place.TheVariants.{Dir, File}
use Rattle.nodes.specs.Bodies.{Blocks, index_of, pointer_of, back, head_index, IsChain, IsLinked, IsBody}
use Rattle.nodes.specs.Chains.{link_of, next_of, link_items, chain, entries_in, items_in}
use Rattle.nodes.specs.Trees.{child, leads, IsWholePlace, HasTree, IsRoot}
use Rattle.nodes.specs.Reached.{PlaceNames, BodyNames, Names, Reached, IsFirst, IsNamed}
use Rattle.nodes.proofs.Chains.{tail_law}
use Rattle.nodes.proofs.Chained.{entry_named, IsAmong, among_chain, held_chain, reached_chain, child_names}
use Rattle.nodes.proofs.Entries.{directory_no_index, place_is}
use Rattle.nodes.proofs.Reaching.{before_named, reached_via}
use Rattle.nodes.proofs.Bodies.{chain_back, chain_node, linked_back}
use Rattle.directory.specs.Lookups.{LeadsToDirectories}
use Rattle.reclaim.specs.Sound.{HoldsLink, IsDirectoryAt, IsHead, IsSoundPlace, HoldsSlot, AreStepped, IsSoundBody, IsSoundNode, SoundHasTrees, TreesAreSound, TreesHoldNodes}
use Rattle.reclaim.specs.Kinds.{HoldsBodyNode, FileNames, NamesBody}
use Rattle.reclaim.proofs.Lengths.{entry_short, head_short, shorter}
use Rattle.reclaim.proofs.Chains.{data_length, half_slot, divides_least, fewer_slots, some_before, back_twice}
use Rattle.node_format.specs.BodyNodes.{HasSlot}

-- ---- sound nodes make chains

some_items : (o : Option (List Item)) (items : List Item) → o ≡ Some items → unwrap_or o [] ≡ items
some_items o items is = ap (λ (p : Option (List Item)). unwrap_or p []) is

-- one slot more
pub slot_more : (f : Blocks) (i block x : ℕ) → IsLinked f i (pointer_of (f block) 0) → HasSlot (suc i) (suc x)
    → pointer_of (f block) x ≡ back f block (2 ^ x) → HoldsSlot (f (pointer_of (f block) x)) x (pointer_of (f block) (suc x))
    → pointer_of (f block) (suc x) ≡ back f block (2 ^ suc x)
slot_more f i block x linked has so_far holds = on (2 ^ x) refl (suc i - 2 ^ x) refl
  where
    on : (power : ℕ) → 2 ^ x ≡ power → (j : ℕ) → suc i - 2 ^ x ≡ j → pointer_of (f block) (suc x) ≡ back f block (2 ^ suc x)
    on zero p j e = absurd (omega (arith, pow_pos x))
    on (suc before) p zero e = absurd (omega (arith, some_before x i has))
    on (suc before) p (suc j) e =
        let le : before ≤ i = omega (arith, some_before x i has) in
        let there : back f block (2 ^ x) ≡ back f (pointer_of (f block) 0) before = ap (back f block) p in
        let left : i - before ≡ suc j = omega arith in
        let own : IsLinked f (suc j) (back f block (2 ^ x)) =
        subst (λ (b : ℕ). IsLinked f (suc j) b) (sym there)
        (subst (λ (k : ℕ). IsLinked f k (back f (pointer_of (f block) 0) before)) left (linked_back f before i (pointer_of (f block) 0) le linked)) in
        let step : pointer_of (f (back f block (2 ^ x))) x ≡ back f (back f block (2 ^ x)) (2 ^ x) =
        own.0 x (half_slot x (suc i) j e has) in
        sym holds.names ∙ ap (λ (b : ℕ). pointer_of (f b) x) so_far ∙ step ∙ back_twice f x block

-- each slot of a node names the node so many before it, where what is before it is linked
slots_linked : (f : Blocks) (i block : ℕ) → IsLinked f i (pointer_of (f block) 0) → AreStepped f (pointer_of (f block)) (suc i)
    → (x : ℕ) → HasSlot (suc i) x → pointer_of (f block) x ≡ back f block (2 ^ x)
slots_linked f i block linked stepped zero has = refl
slots_linked f i block linked stepped (suc x) has =
    slot_more f i block x linked has (slots_linked f i block linked stepped x (fewer_slots x (suc i) has)) (stepped x has)

-- the node in a block is part of a linked chain, of full nodes before it
pub record IsLinkedChain (capacity : ℕ) (f : Blocks) (i block : ℕ) : Type 0 where
  pub chain : IsChain capacity f i block
  pub linked : IsLinked f i block
  pub short : i * capacity < MAX_FILE_BYTES

chain_sound : (capacity : ℕ) (f : Blocks) (roots : List ℕ) → ((b : ℕ) → Reached f roots b → IsSoundNode capacity f b)
    → (i block : ℕ) → Reached f roots block → index_of (f block) ≡ Some i → IsLinkedChain capacity f i block
chain_sound capacity f roots sound zero block reached is = record { chain = is; linked = tt; short = (sound block reached).names.short 0 is }
chain_sound capacity f roots sound (suc i) block reached is =
    let own = (sound block reached).names.pointers (suc i) is in
    let before = chain_sound capacity f roots sound i (pointer_of (f block) 0) (IsNamed reached (before_named f i block is)) own.0 in
    record {
      chain = (is, own.1, before.chain);
      linked = (slots_linked f i block before.linked own.2, before.linked);
      short = (sound block reached).names.short (suc i) is;
    }

-- ---- sound trees

-- what a path of a sound tree leads to
abbrev IsGood : ℕ → Blocks → List ℕ → Place → Type 0
IsGood capacity f roots (Dir block) = Reached f roots block × IsDirectoryAt f block
IsGood capacity f roots (File head size) = IsBody capacity f head size

head_body : (capacity : ℕ) (f : Blocks) (roots : List ℕ) → ((b : ℕ) → Reached f roots b → IsSoundNode capacity f b)
    → (head size : ℕ) → ((b : ℕ) → PlaceNames (File head size) b → Reached f roots b) → IsHead capacity f head size → IsBody capacity f head size
head_body capacity f roots sound head zero reached is = is
head_body capacity f roots sound head (suc n) reached is =
    let whole = chain_sound capacity f roots sound (head_index capacity (suc n)) head (reached head (omega arith, refl)) is.0 in
    (whole.chain, omega (arith, is.1, data_length capacity f (head_index capacity (suc n)) head whole.chain), whole.linked)

good_place : (capacity : ℕ) (f : Blocks) (roots : List ℕ) → ((b : ℕ) → Reached f roots b → IsSoundNode capacity f b)
    → (at : Place) → ((b : ℕ) → PlaceNames at b → Reached f roots b) → IsSoundPlace capacity f at → IsGood capacity f roots at
good_place capacity f roots sound (Dir next) reached (l, is) = let here = reached next refl in (here, (sound next here).directory (l, is))
good_place capacity f roots sound (File head size) reached is = head_body capacity f roots sound head size reached is

-- the node that has an entry
holds_item : (node : Option (List ℕ)) (item : Item) → Contains (link_items node) item → (l : Link) × (link_of node ≡ Some l) × Contains l.items item
holds_item node item within = on (link_of node) refl within
  where
    on : (o : Option Link) → link_of node ≡ o → Contains (option_map_or (λ l. l.items) o []) item → (l : Link) × (link_of node ≡ Some l) × Contains l.items item
    on None is h = absurd (omega (arith, h.1))
    on (Some l) is h = (l, is, h)

good_child : (capacity : ℕ) (f : Blocks) (roots : List ℕ) → ((b : ℕ) → Reached f roots b → IsSoundNode capacity f b)
    → (from : Place) (name : Name) (at : Place) → IsGood capacity f roots from → child f from name ≡ Some at → IsGood capacity f roots at
good_child capacity f roots sound (File head size) name at good is = absurd cc
good_child capacity f roots sound (Dir block) name at good is =
    let found = named-contained (items_in f block) name at is in
    let items = good.1.0 in
    let within : Contains items found.0 = subst (λ (l : List Item). Contains l found.0) (some_items (entries_in f block) items good.1.1) found.1 in
    let held = held_chain f block items good.1.1 found.0 within in
    let reached : Reached f roots held.node = reached_via f roots block good.0 (reached_chain f block held.node held.listed) in
    let own = holds_item (f held.node) found.0 held.holds in
    good_place capacity f roots sound at (λ b names. reached_via f roots block good.0 (child_names f block name at b is names))
    (subst (IsSoundPlace capacity f) found.2 ((sound held.node reached).names.entries own.0 own.1 found.0 own.2))

-- a path of one name more
through : (capacity : ℕ) (f : Blocks) (roots : List ℕ) → ((b : ℕ) → Reached f roots b → IsSoundNode capacity f b)
    → (from : Place) (name : Name) (at : Place) → IsGood capacity f roots from → (path : Path) (o : Option Place) → child f from name ≡ o
    → option_and_then (λ next. leads f next path) o ≡ Some at
    → ((from at : Place) → IsGood capacity f roots from → leads f from path ≡ Some at → IsGood capacity f roots at) → IsGood capacity f roots at
through capacity f roots sound from name at good path None e is again = absurd cc
through capacity f roots sound from name at good path (Some next) e is again = again next at (good_child capacity f roots sound from name next good e) is

good_leads : (capacity : ℕ) (f : Blocks) (roots : List ℕ) → ((b : ℕ) → Reached f roots b → IsSoundNode capacity f b)
    → (path : Path) (from at : Place) → IsGood capacity f roots from → leads f from path ≡ Some at → IsGood capacity f roots at
good_leads capacity f roots sound [] from at good is = subst (IsGood capacity f roots) (place_is from at is) good
good_leads capacity f roots sound (name ∷ path) from at good is =
    through capacity f roots sound from name at good path (child f from name) refl is (good_leads capacity f roots sound path)

good_whole : (capacity : ℕ) (f : Blocks) (roots : List ℕ) (at : Place) → IsGood capacity f roots at → IsWholePlace capacity f at
good_whole capacity f roots (Dir block) good = good.1
good_whole capacity f roots (File head size) good = good

leads_some : (o : Option Place) (at : Place) → o ≡ Some at → IsSome o
leads_some o at is = subst IsSome (sym is) refl

-- a root that holds a node of a directory
good_root : (capacity : ℕ) (f : Blocks) (roots : List ℕ) → ((b : ℕ) → Reached f roots b → IsSoundNode capacity f b) → (root : ℕ) → Contains roots root → HoldsLink f root → IsGood capacity f roots (Dir root)
good_root capacity f roots sound root within (l, is) = (IsFirst within, (sound root (IsFirst within)).directory (l, is))

-- each directory that paths below it lead to begins one
pub sound_directories : (capacity : ℕ) (f : Blocks) (roots : List ℕ) → ((b : ℕ) → Reached f roots b → IsSoundNode capacity f b) → (root : ℕ) → Contains roots root → HoldsLink f root → LeadsToDirectories f root
sound_directories capacity f roots sound root within holds path block is = (good_leads capacity f roots sound path (Dir root) (Dir block) (good_root capacity f roots sound root within holds) is).1

pub sound_has_trees : SoundHasTrees
sound_has_trees capacity f roots are root within path at is = (
  good_whole capacity f roots at (good_leads capacity f roots are.nodes path (Dir root) at (good_root capacity f roots are.nodes root within (are.directories root within)) is),
  are.shallow root within path (leads_some (leads f (Dir root) path) at is),
)

-- ---- trees are sound

tree_directory : (capacity : ℕ) (f : Blocks) (block depth : ℕ) → HasTree capacity f (Dir block) depth → IsDirectoryAt f block
tree_directory capacity f block depth tree = (tree [] (Dir block) refl).0

tree_body : (capacity : ℕ) (f : Blocks) (head size depth : ℕ) → HasTree capacity f (File head size) depth → IsBody capacity f head size
tree_body capacity f head size depth tree = (tree [] (File head size) refl).0

-- what an entry of a tree's directory leads to has a tree
entry_tree : (capacity : ℕ) (f : Blocks) (block depth : ℕ) (item : Item) → HasTree capacity f (Dir block) depth → Contains (items_in f block) item → HasTree capacity f item.place depth
entry_tree capacity f block depth item tree within = λ path at is.
    let whole = tree (item.name ∷ path) at (ap (option_and_then (λ next. leads f next path)) (entry_named f block item within) ∙ is) in
    (whole.0, omega (arith, whole.1))

-- a block has a node of a directory with a tree below it
record IsInTree (capacity : ℕ) (f : Blocks) (block : ℕ) : Type 0 where
  first : ℕ
  depth : ℕ
  tree : HasTree capacity f (Dir first) depth
  listed : Contains (chain f first) block

-- what its node says
own_node : (capacity : ℕ) (f : Blocks) (block : ℕ) (t : IsInTree capacity f block) → IsAmong f block (tree_directory capacity f t.first t.depth t.tree).0 (chain f t.first)
own_node capacity f block t = let own = tree_directory capacity f t.first t.depth t.tree in among_chain f t.first own.0 own.1 block t.listed

abbrev some_link : Link → Option Link
some_link l = Some l

link_is : (k l : Link) → some_link k ≡ some_link l → k ≡ l
link_is k l e = cc

-- what an entry of it leads to has a tree
own_tree : (capacity : ℕ) (f : Blocks) (block : ℕ) (t : IsInTree capacity f block) (l : Link) (item : Item) → link_of (f block) ≡ Some l → Contains l.items item → HasTree capacity f item.place t.depth
own_tree capacity f block t l item is within =
    let own = tree_directory capacity f t.first t.depth t.tree in
    let a = own_node capacity f block t in
    let here : Contains own.0 item = a.entries item (subst (λ (k : Link). Contains k.items item) (link_is l a.l (sym is ∙ a.is)) within) in
    entry_tree capacity f t.first t.depth item t.tree (subst (λ (xs : List Item). Contains xs item) (sym (some_items (entries_in f t.first) own.0 own.1)) here)

-- a block with a node of a tree's directory, or in a linked chain
abbrev IsShaped : ℕ → Blocks → ℕ → Type 0
IsShaped capacity f block = IsInTree capacity f block ⊎ ((i : ℕ) × IsLinkedChain capacity f i block)

begins_tree : (capacity : ℕ) (f : Blocks) (block depth : ℕ) → HasTree capacity f (Dir block) depth → IsInTree capacity f block
begins_tree capacity f block depth tree = record { first = block; depth = depth; tree = tree; listed = (0, omega arith, refl) }

body_shape : (capacity : ℕ) (f : Blocks) (head n : ℕ) → suc n ≤ MAX_FILE_BYTES → IsBody capacity f head (suc n) → IsShaped capacity f head
body_shape capacity f head n few whole = inr (head_index capacity (suc n), record { chain = whole.0; linked = whole.2; short = head_short capacity n few })

place_shape : (capacity : ℕ) (f : Blocks) (place : Place) (depth next : ℕ) → size_of place ≤ MAX_FILE_BYTES → HasTree capacity f place depth → PlaceNames place next → IsShaped capacity f next
place_shape capacity f (Dir block) depth next few tree same = subst (IsShaped capacity f) same (inl (begins_tree capacity f block depth tree))
place_shape capacity f (File head zero) depth next few tree names = absurd (omega (arith, names.0))
place_shape capacity f (File head (suc n)) depth next few tree names =
    subst (IsShaped capacity f) names.1 (body_shape capacity f head n few (tree_body capacity f head (suc n) depth tree))

abbrev some_number : ℕ → Option ℕ
some_number n = Some n

number_is : (m n : ℕ) → some_number m ≡ some_number n → m ≡ n
number_is m n e = cc

no_number : (n : ℕ) → some_number n ≡ None → ⊥
no_number n e = cc

-- a body node is none of a directory
pub no_link : (node : Option (List ℕ)) (i : ℕ) → index_of node ≡ Some i → link_of node ≡ None
no_link node i is = on (link_of node) refl
  where
    on : (o : Option Link) → link_of node ≡ o → o ≡ None
    on None e = refl
    on (Some l) e = absurd (no_number i (sym is ∙ directory_no_index node l e))

-- so it has no entries, and no node comes after it
pub no_entry : (node : Option (List ℕ)) (i : ℕ) (item : Item) → index_of node ≡ Some i → Contains (link_items node) item → ⊥
no_entry node i item is within =
    let h : Contains [] item = subst (λ (o : Option Link). Contains (option_map_or (λ l. l.items) o []) item) (no_link node i is) within in
    omega (arith, h.1)

pub no_next : (node : Option (List ℕ)) (i : ℕ) → index_of node ≡ Some i → 0 < next_of node → ⊥
no_next node i is some =
    let none : next_of node ≡ 0 = ap (λ (o : Option Link). option_map_or (λ l. l.next) o 0) (no_link node i is) in
    omega (arith, none, some)

-- a node before one of a chain, by a slot
pointed : (capacity : ℕ) (f : Blocks) (i block x next : ℕ) → IsLinkedChain capacity f i block → HasSlot i x → pointer_of (f block) x ≡ next → IsShaped capacity f next
pointed capacity f zero block x next c has is = absurd (omega (arith, has.1))
pointed capacity f (suc i) block x next c has is =
    let le : 2 ^ x ≤ suc i = divides_least x (suc i) has.1 has.2 in
    subst (IsShaped capacity f) (sym (c.linked.0 x has) ∙ is)
    (inr (suc i - 2 ^ x, record { chain = chain_back capacity f (2 ^ x) (suc i) block le c.chain; linked = linked_back f (2 ^ x) (suc i) block le c.linked; short = shorter capacity (suc i) (suc i - 2 ^ x) (omega arith) c.short }))

named_shape : (capacity : ℕ) (f : Blocks) (block next : ℕ) → IsShaped capacity f block → Names (f block) next → IsShaped capacity f next
named_shape capacity f block next (inl t) (inl (item, within, names)) =
    let own = holds_item (f block) item within in
    place_shape capacity f item.place t.depth next (entry_short (f block) item within) (own_tree capacity f block t own.0 item own.1 own.2) names
named_shape capacity f block next (inl t) (inr (inl names)) =
    let a = own_node capacity f block t in
    absurd (subst (λ (o : Option ℕ). BodyNames o (pointer_of (f block)) next) (directory_no_index (f block) a.l a.is) names)
named_shape capacity f block next (inl t) (inr (inr (some, same))) =
    let a = own_node capacity f block t in
    let is : next_of (f block) ≡ a.l.next = ap (λ (o : Option Link). option_map_or (λ l. l.next) o 0) a.is in
    inl (record { first = t.first; depth = t.depth; tree = t.tree; listed = subst (Contains (chain f t.first)) (sym is ∙ same) (a.on (omega (arith, is, some))) })
named_shape capacity f block next (inr (i, c)) (inl (item, within, names)) = absurd (no_entry (f block) i item (chain_node capacity i block f c.chain) within)
named_shape capacity f block next (inr (i, c)) (inr (inl names)) =
    let own = subst (λ (o : Option ℕ). BodyNames o (pointer_of (f block)) next) (chain_node capacity i block f c.chain) names in
    pointed capacity f i block own.0 next c own.1 own.2
named_shape capacity f block next (inr (i, c)) (inr (inr (some, same))) = absurd (no_next (f block) i (chain_node capacity i block f c.chain) some)

reached_shape : (capacity : ℕ) (f : Blocks) (roots : List ℕ) → ((root : ℕ) → Contains roots root → IsRoot capacity f root) → {b : ℕ} → Reached f roots b → IsShaped capacity f b
reached_shape capacity f roots trees {b} (IsFirst within) = inl (begins_tree capacity f b MAX_NAMES (trees b within))
reached_shape capacity f roots trees {b} (IsNamed {block = block} reached names) = named_shape capacity f block b (reached_shape capacity f roots trees reached) names

-- a reached node of a body is part of a linked chain
pub reached_linked : (capacity : ℕ) (f : Blocks) (roots : List ℕ) → ((root : ℕ) → Contains roots root → IsRoot capacity f root) → (b i : ℕ) → Reached f roots b → index_of (f b) ≡ Some i → IsLinkedChain capacity f i b
reached_linked capacity f roots trees b i reached is = on (reached_shape capacity f roots trees reached)
  where
    on : IsShaped capacity f b → IsLinkedChain capacity f i b
    on (inl t) = let a = own_node capacity f b t in absurd (no_number i (sym is ∙ directory_no_index (f b) a.l a.is))
    on (inr (k, c)) = subst (λ (j : ℕ). IsLinkedChain capacity f j b) (number_is k i (sym (chain_node capacity k b f c.chain) ∙ is)) c

-- ---- what has such a shape is sound

body_head : (capacity : ℕ) (f : Blocks) (head size : ℕ) → IsBody capacity f head size → IsHead capacity f head size
body_head capacity f head zero is = is
body_head capacity f head (suc n) is =
    (chain_node capacity (head_index capacity (suc n)) head f is.0, omega (arith, is.1, data_length capacity f (head_index capacity (suc n)) head is.0))

directory_held : (f : Blocks) (block : ℕ) → IsDirectoryAt f block → HoldsLink f block
directory_held f block (items, is) = let a = among_chain f block items is block (0, omega arith, refl) in (a.l, a.is)

place_sound : (capacity : ℕ) (f : Blocks) (place : Place) (depth : ℕ) → HasTree capacity f place depth → IsSoundPlace capacity f place
place_sound capacity f (Dir block) depth tree = directory_held f block (tree_directory capacity f block depth tree)
place_sound capacity f (File head size) depth tree = body_head capacity f head size (tree_body capacity f head size depth tree)

place_held : (node : Option (List ℕ)) (x next i : ℕ) → index_of node ≡ Some i → pointer_of node x ≡ next → HoldsSlot node x next
place_held node x next i is at = record { index = i; is_body = is; names = at }

pub chain_stepped : (capacity : ℕ) (f : Blocks) (i block : ℕ) → IsLinkedChain capacity f (suc i) block → AreStepped f (pointer_of (f block)) (suc i)
chain_stepped capacity f i block c x has = on (suc i - 2 ^ x) refl
  where
    on : (j : ℕ) → suc i - 2 ^ x ≡ j → HoldsSlot (f (pointer_of (f block) x)) x (pointer_of (f block) (suc x))
    on zero e = absurd (omega (arith, some_before x i has))
    on (suc j) e =
        let le : 2 ^ x ≤ suc i = omega (arith, some_before x i has) in
        let here : pointer_of (f block) x ≡ back f block (2 ^ x) = c.linked.0 x (fewer_slots x (suc i) has) in
        let chain = chain_back capacity f (2 ^ x) (suc i) block le c.chain in
        let own : IsLinked f (suc j) (back f block (2 ^ x)) =
        subst (λ (k : ℕ). IsLinked f k (back f block (2 ^ x))) e (linked_back f (2 ^ x) (suc i) block le c.linked) in
        let step : pointer_of (f (back f block (2 ^ x))) x ≡ back f (back f block (2 ^ x)) (2 ^ x) =
        own.0 x (half_slot x (suc i) j e has) in
        subst (λ (b : ℕ). HoldsSlot (f b) x (pointer_of (f block) (suc x))) (sym here)
        (place_held (f (back f block (2 ^ x))) x (pointer_of (f block) (suc x)) (suc i - 2 ^ x)
        (chain_node capacity (suc i - 2 ^ x) (back f block (2 ^ x)) f chain)
        (step ∙ back_twice f x block ∙ sym (c.linked.0 (suc x) has)))

pub chain_body : (capacity : ℕ) (f : Blocks) (i block : ℕ) → IsLinkedChain capacity f i block → IsSoundBody capacity f (pointer_of (f block)) i
chain_body capacity f zero block c = tt
chain_body capacity f (suc i) block c =
    (chain_node capacity i (pointer_of (f block) 0) f c.chain.2, c.chain.1, chain_stepped capacity f i block c)

shape_sound : (capacity : ℕ) (f : Blocks) (block : ℕ) → IsShaped capacity f block → IsSoundNode capacity f block
shape_sound capacity f block (inl t) =
    let own = tree_directory capacity f t.first t.depth t.tree in
    let a = own_node capacity f block t in
    let none : index_of (f block) ≡ None = directory_no_index (f block) a.l a.is in
    record {
      names = record {
        entries = λ l is item within. place_sound capacity f item.place t.depth (own_tree capacity f block t l item is within);
        pointers = λ index is. absurd (no_number index (sym is ∙ none));
        short = λ index is. absurd (no_number index (sym is ∙ none));
      };
      directory = λ holds. tail_law f t.first own.0 block own.1 t.listed;
    }
shape_sound capacity f block (inr (i, c)) =
    let node = chain_node capacity i block f c.chain in
    record {
      names = record {
        entries = λ l is item within. absurd (no_number i (sym node ∙ directory_no_index (f block) l is));
        pointers = λ index is.
            subst (IsSoundBody capacity f (pointer_of (f block))) (number_is i index (sym node ∙ is)) (chain_body capacity f i block c);
        short = λ index is. subst (λ (k : ℕ). k * capacity < MAX_FILE_BYTES) (number_is i index (sym node ∙ is)) c.short;
      };
      directory = λ (l, is). absurd (no_number i (sym node ∙ directory_no_index (f block) l is));
    }

found_place : (o : Option Place) → IsSome o → (at : Place) × (o ≡ Some at)
found_place None some = absurd cc
found_place (Some at) some = (at, refl)

pub trees_are_sound : TreesAreSound
trees_are_sound capacity f roots trees = record {
  nodes = λ b reached. shape_sound capacity f b (reached_shape capacity f roots trees reached);
  directories = λ root within. directory_held f root (tree_directory capacity f root MAX_NAMES (trees root within));
  shallow = λ root within path some. let found = found_place (leads f (Dir root) path) some in (trees root within path found.0 found.1).1;
}

no_node : (l : Link) → some_link l ≡ None → ⊥
no_node l e = cc

shape_holds : (capacity : ℕ) (f : Blocks) (block : ℕ) → IsShaped capacity f block → f block ≢ None
shape_holds capacity f block (inl t) none = let a = own_node capacity f block t in no_node a.l (sym a.is ∙ ap link_of none)
shape_holds capacity f block (inr (i, c)) none = no_number i (sym (chain_node capacity i block f c.chain) ∙ ap index_of none)

pub trees_hold_nodes : TreesHoldNodes
trees_hold_nodes capacity f roots trees b reached = shape_holds capacity f b (reached_shape capacity f roots trees reached)

-- ---- what it names as a body holds one, and what it names otherwise does not

-- a directory's node has no index
in_tree_no_index : (capacity : ℕ) (f : Blocks) (block : ℕ) → IsInTree capacity f block → index_of (f block) ≡ None
in_tree_no_index capacity f block t = let a = own_node capacity f block t in directory_no_index (f block) a.l a.is

place_body : (capacity : ℕ) (f : Blocks) (place : Place) (depth next : ℕ) → HasTree capacity f place depth → FileNames place next → HoldsBodyNode f next
place_body capacity f (Dir block) depth next tree names = absurd names
place_body capacity f (File head zero) depth next tree names = absurd (omega (arith, names.0))
place_body capacity f (File head (suc n)) depth next tree names =
    let body = tree_body capacity f head (suc n) depth tree in
    (head_index capacity (suc n), ap (λ (b : ℕ). index_of (f b)) (sym names.1) ∙ chain_node capacity (head_index capacity (suc n)) head f body.0)

pointed_body : (capacity : ℕ) (f : Blocks) (i block x next : ℕ) → IsLinkedChain capacity f i block → HasSlot i x → pointer_of (f block) x ≡ next → HoldsBodyNode f next
pointed_body capacity f zero block x next c has is = absurd (omega (arith, has.1))
pointed_body capacity f (suc i) block x next c has is =
    let le : 2 ^ x ≤ suc i = divides_least x (suc i) has.1 has.2 in
    let chain = chain_back capacity f (2 ^ x) (suc i) block le c.chain in
    let at : back f block (2 ^ x) ≡ next = sym (c.linked.0 x has) ∙ is in
    (suc i - 2 ^ x, ap (λ (b : ℕ). index_of (f b)) (sym at) ∙ chain_node capacity (suc i - 2 ^ x) (back f block (2 ^ x)) f chain)

shape_body : (capacity : ℕ) (f : Blocks) (block next : ℕ) → IsShaped capacity f block → NamesBody (f block) next → HoldsBodyNode f next
shape_body capacity f block next (inl t) (inl (item, within, names)) =
    let own = holds_item (f block) item within in
    place_body capacity f item.place t.depth next (own_tree capacity f block t own.0 item own.1 own.2) names
shape_body capacity f block next (inl t) (inr names) =
    absurd (subst (λ (o : Option ℕ). BodyNames o (pointer_of (f block)) next) (in_tree_no_index capacity f block t) names)
shape_body capacity f block next (inr (i, c)) (inl (item, within, names)) = absurd (no_entry (f block) i item (chain_node capacity i block f c.chain) within)
shape_body capacity f block next (inr (i, c)) (inr names) =
    let own = subst (λ (o : Option ℕ). BodyNames o (pointer_of (f block)) next) (chain_node capacity i block f c.chain) names in
    pointed_body capacity f i block own.0 next c own.1 own.2

pub named_body : (capacity : ℕ) (f : Blocks) (roots : List ℕ) → ((root : ℕ) → Contains roots root → IsRoot capacity f root) → {b : ℕ} → Reached f roots b → (next : ℕ) → NamesBody (f b) next → HoldsBodyNode f next
named_body capacity f roots trees {b} reached next names = shape_body capacity f b next (reached_shape capacity f roots trees reached) names

-- a named block is named as a body, or holds no body
place_kind : (capacity : ℕ) (f : Blocks) (place : Place) (depth next : ℕ) → HasTree capacity f place depth → PlaceNames place next → FileNames place next ⊎ (index_of (f next) ≡ None)
place_kind capacity f (Dir block) depth next tree same =
    inr (ap (λ (b : ℕ). index_of (f b)) (sym same) ∙ in_tree_no_index capacity f block (begins_tree capacity f block depth tree))
place_kind capacity f (File head size) depth next tree names = inl names

with_item : (held : Option (List ℕ)) (item : Item) (next : ℕ) (none : Type 0) → Contains (link_items held) item → FileNames item.place next ⊎ none → NamesBody held next ⊎ none
with_item held item next none within (inl names) = inl (inl (item, within, names))
with_item held item next none within (inr is) = inr is

shape_kind : (capacity : ℕ) (f : Blocks) (block next : ℕ) → IsShaped capacity f block → Names (f block) next → NamesBody (f block) next ⊎ (index_of (f next) ≡ None)
shape_kind capacity f block next (inl t) (inl (item, within, names)) =
    let own = holds_item (f block) item within in
    with_item (f block) item next (index_of (f next) ≡ None) within (place_kind capacity f item.place t.depth next (own_tree capacity f block t own.0 item own.1 own.2) names)
shape_kind capacity f block next (inl t) (inr (inl names)) = inl (inr names)
shape_kind capacity f block next (inl t) (inr (inr (some, same))) =
    let a = own_node capacity f block t in
    let is : next_of (f block) ≡ a.l.next = ap (λ (o : Option Link). option_map_or (λ l. l.next) o 0) a.is in
    let after : IsInTree capacity f next = record { first = t.first; depth = t.depth; tree = t.tree; listed = subst (Contains (chain f t.first)) (sym is ∙ same) (a.on (omega (arith, is, some))) } in
    inr (in_tree_no_index capacity f next after)
shape_kind capacity f block next (inr (i, c)) (inl (item, within, names)) = absurd (no_entry (f block) i item (chain_node capacity i block f c.chain) within)
shape_kind capacity f block next (inr (i, c)) (inr (inl names)) = inl (inr names)
shape_kind capacity f block next (inr (i, c)) (inr (inr (some, same))) = absurd (no_next (f block) i (chain_node capacity i block f c.chain) some)

pub named_kind : (capacity : ℕ) (f : Blocks) (roots : List ℕ) → ((root : ℕ) → Contains roots root → IsRoot capacity f root) → {b : ℕ} → Reached f roots b → (next : ℕ) → Names (f b) next → NamesBody (f b) next ⊎ (index_of (f next) ≡ None)
named_kind capacity f roots trees {b} reached next names = shape_kind capacity f b next (reached_shape capacity f roots trees reached) names

pub root_kind : (capacity : ℕ) (f : Blocks) (root : ℕ) → IsRoot capacity f root → index_of (f root) ≡ None
root_kind capacity f root tree = in_tree_no_index capacity f root (begins_tree capacity f root MAX_NAMES tree)
