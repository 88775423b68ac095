-- The blocks that a node names, and the list of them.
use Rattle.std.proofs.Common.{◌≡◌, ◌↔◌, ◌⊎◌, inl, inr, ℕ, zero, suc, ◌+◌, ◌/◌, ◌%◌, ◌^◌, ◌<◌, Bool, true, false, cond, Option, Some, None, List, [], ◌∷◌, ◌++◌, refl, sym, ap, subst, ◌∙◌, arith}
use Rattle.std.specs.Prelude.{◌==◌, nat_lt, Contains}
use Rattle.std.specs.List.{flat_map}
use Rattle.std.proofs.Math.Nat.{div-add-mod', mul-mod_left}
use Rattle.std.proofs.lemmas.Bool.{and_parts, and_from, ltb-true, lt-ltb, eqb-true, eq-eqb, cases_lt}
use Rattle.std.proofs.lemmas.List.Elements.{Contains-append_left, Contains-append_right, Contains-append_cases, Contains-push, Contains-push_cases}
use Rattle.node_format.specs.Items.{Item}
use Rattle.node_format.specs.declared.place.Place.{Place}
use Rattle.node_format.specs.declared.place.Place.TheVariants.{Dir, File}
use Rattle.nodes.specs.Bodies.{index_of, pointer_of}
use Rattle.nodes.specs.Chains.{link_items, next_of}
use Rattle.nodes.specs.Reached.{PlaceNames, BodyNames, Names}
use Rattle.reclaim.specs.Kinds.{FileNames, NamesBody}
use Rattle.reclaim.specs.Naming.{place_names, item_names, place_heads, item_heads, place_directories, item_directories, next_names, has_slot, slots_named, body_named}
use Rattle.reclaim.specs.Tables.{NamesDirectory}
use Rattle.node_format.specs.BodyNodes.{Divides}
use Rattle.node_format.specs.declared.headers.TheConstants.{SLOTS}

-- ---- entries

in_none : (b : ℕ) → Contains [] b → ⊥
in_none b (k, lt, is) = omega arith

in_one : (x b : ℕ) → Contains (x ∷ []) b → x ≡ b
in_one x b h = one (Contains-push_cases [] x b h)
  where
    one : Contains [] b ⊎ (x ≡ b) → x ≡ b
    one (inl none) = absurd (in_none b none)
    one (inr same) = same

own_in : (x b : ℕ) → x ≡ b → Contains (x ∷ []) b
own_in x b same = subst (Contains (x ∷ [])) same (Contains-push [] x)

place_to : (place : Place) (b : ℕ) → Contains (place_names place) b → PlaceNames place b
place_to (Dir block) b h = in_one block b h
place_to (File head zero) b h = absurd (in_none b h)
place_to (File head (suc n)) b h = (omega arith, in_one head b h)

place_from : (place : Place) (b : ℕ) → PlaceNames place b → Contains (place_names place) b
place_from (Dir block) b same = own_in block b same
place_from (File head zero) b h = absurd (omega (arith, h.0))
place_from (File head (suc n)) b h = own_in head b h.1

-- an entry of a list names the block
abbrev SomeNames : List Item → ℕ → Type 0
SomeNames items b = (item : Item) × Contains items item × PlaceNames item.place b

head_in : {X : Type 0} (x : X) (xs : List X) → Contains (x ∷ xs) x
head_in x xs = (0, omega arith, refl)

tail_in : {X : Type 0} (x y : X) (xs : List X) → Contains xs y → Contains (x ∷ xs) y
tail_in x y xs (k, lt, is) = (suc k, omega arith, is)

items_to : (items : List Item) (b : ℕ) → Contains (flat_map item_names items) b → SomeNames items b
items_to [] b h = absurd (in_none b h)
items_to (item ∷ items) b h = either (Contains-append_cases (item_names item) (flat_map item_names items) b h) (items_to items b)
  where
    either : Contains (item_names item) b ⊎ Contains (flat_map item_names items) b → (Contains (flat_map item_names items) b → SomeNames items b)
        → SomeNames (item ∷ items) b
    either (inl first) again = (item, head_in item items, place_to item.place b first)
    either (inr rest) again = let found = again rest in (found.0, tail_in item found.0 items found.1, found.2)

items_from : (items : List Item) (item : Item) (b : ℕ) → Contains items item → PlaceNames item.place b → Contains (flat_map item_names items) b
items_from [] item b (k, lt, is) names = absurd (omega arith)
items_from (first ∷ items) item b (zero, lt, is) names =
    Contains-append_left (item_names first) (flat_map item_names items) b (place_from first.place b (subst (λ (i : Item). PlaceNames i.place b) (sym is) names))
items_from (first ∷ items) item b (suc k, lt, is) names =
    Contains-append_right (item_names first) (flat_map item_names items) b (items_from items item b (k, omega arith, is) names)

-- ---- slots

-- one slot more
pub slots_named-has : (index : ℕ) (pointer : ℕ → ℕ) (x : ℕ) → has_slot index x ≡ true
    → slots_named index pointer (x + 1) ≡ slots_named index pointer x ++ pointer x ∷ []
unfolding slots_named
slots_named-has index pointer x has =
    let e : x + 1 ≡ suc x = omega arith in
    ap (slots_named index pointer) e ∙ ap (λ b. cond b (slots_named index pointer x ++ pointer x ∷ []) (slots_named index pointer x)) has

pub slots_named-lacks : (index : ℕ) (pointer : ℕ → ℕ) (x : ℕ) → has_slot index x ≡ false
    → slots_named index pointer (x + 1) ≡ slots_named index pointer x
unfolding slots_named
slots_named-lacks index pointer x lacks =
    let e : x + 1 ≡ suc x = omega arith in
    ap (slots_named index pointer) e ∙ ap (λ b. cond b (slots_named index pointer x ++ pointer x ∷ []) (slots_named index pointer x)) lacks

pub slots_named-none : (index : ℕ) (pointer : ℕ → ℕ) → slots_named index pointer 0 ≡ []
unfolding slots_named
slots_named-none index pointer = refl

-- the node has a pointer at a slot below n, to the block
abbrev HasPointer : ℕ → (ℕ → ℕ) → ℕ → ℕ → Type 0
HasPointer index pointer n b = (x : ℕ) × (x < n) × (has_slot index x ≡ true) × (pointer x ≡ b)

slots_to : (index : ℕ) (pointer : ℕ → ℕ) (n b : ℕ) → Contains (slots_named index pointer n) b → HasPointer index pointer n b
unfolding slots_named
slots_to index pointer zero b h = absurd (in_none b h)
slots_to index pointer (suc n) b h = on (has_slot index n) refl h (slots_to index pointer n b)
  where
    more : HasPointer index pointer n b → HasPointer index pointer (suc n) b
    more (x, lt, has, is) = (x, omega arith, has, is)

    last : has_slot index n ≡ true → Contains (slots_named index pointer n) b ⊎ (pointer n ≡ b)
        → (Contains (slots_named index pointer n) b → HasPointer index pointer n b) → HasPointer index pointer (suc n) b
    last has (inl before) again = more (again before)
    last has (inr same) again = (n, omega arith, has, same)

    on : (t : Bool) → has_slot index n ≡ t → Contains (cond t (slots_named index pointer n ++ pointer n ∷ []) (slots_named index pointer n)) b
        → (Contains (slots_named index pointer n) b → HasPointer index pointer n b) → HasPointer index pointer (suc n) b
    on true has h again = last has (Contains-push_cases (slots_named index pointer n) (pointer n) b h) again
    on false lacks h again = more (again h)

slots_from : (index : ℕ) (pointer : ℕ → ℕ) (n x : ℕ) → x < n → has_slot index x ≡ true → Contains (slots_named index pointer n) (pointer x)
unfolding slots_named
slots_from index pointer zero x lt has = absurd (omega arith)
slots_from index pointer (suc n) x lt has =
    elim (cases_lt x n) [
      | inl before ↦ on (has_slot index n) (slots_from index pointer n x before has)
      | inr past ↦
          let same : n ≡ x = omega arith in
          let here : has_slot index n ≡ true = ap (has_slot index) same ∙ has in
          subst (λ (t : Bool). Contains (cond t (slots_named index pointer n ++ pointer n ∷ []) (slots_named index pointer n)) (pointer x)) (sym here)
          (subst (λ (k : ℕ). Contains (slots_named index pointer n ++ pointer n ∷ []) (pointer k)) same (Contains-push (slots_named index pointer n) (pointer n)))
    ]
  where
    on : (t : Bool) → Contains (slots_named index pointer n) (pointer x)
        → Contains (cond t (slots_named index pointer n ++ pointer n ∷ []) (slots_named index pointer n)) (pointer x)
    on true h = Contains-append_left (slots_named index pointer n) (pointer n ∷ []) (pointer x) h
    on false h = h

-- the test of a slot
pub has_slot-divides : (index x : ℕ) → has_slot index x ≡ true → (0 < index) × Divides x index
has_slot-divides index x has =
    let parts = and_parts (nat_lt 0 index) (index % 2 ^ x == 0) has in
    let e : index % 2 ^ x ≡ 0 = eqb-true (index % 2 ^ x) 0 parts.1 in
    (ltb-true 0 index parts.0, (index / 2 ^ x, omega (arith, e, div-add-mod' index (2 ^ x))))

pub divides-has_slot : (index x : ℕ) → 0 < index → Divides x index → has_slot index x ≡ true
divides-has_slot index x some (m, is) =
    let e : index % 2 ^ x ≡ 0 = ap (λ (n : ℕ). n % 2 ^ x) is ∙ mul-mod_left m (2 ^ x) in
    and_from (nat_lt 0 index) (index % 2 ^ x == 0) (lt-ltb 0 index some) (eq-eqb (index % 2 ^ x) 0 e)

body_to : (o : Option ℕ) (pointer : ℕ → ℕ) (b : ℕ) → Contains (body_named o pointer) b → BodyNames o pointer b
body_to None pointer b h = absurd (in_none b h)
body_to (Some index) pointer b h =
    let found = slots_to index pointer SLOTS b h in
    let has = has_slot-divides index found.0 found.2 in
    (found.0, (found.1, has.0, has.1), found.3)

body_from : (o : Option ℕ) (pointer : ℕ → ℕ) (b : ℕ) → BodyNames o pointer b → Contains (body_named o pointer) b
body_from None pointer b h = absurd h
body_from (Some index) pointer b (x, has, is) =
    subst (Contains (slots_named index pointer SLOTS)) is
    (slots_from index pointer SLOTS x has.0 (divides-has_slot index x has.1 has.2))

-- ---- both

-- the node after
next_to : (next b : ℕ) → Contains (next_names next) b → (0 < next) × (next ≡ b)
next_to next b h = on (next == 0) refl h
  where
    on : (t : Bool) → (next == 0) ≡ t → Contains (cond t [] (next ∷ [])) b → (0 < next) × (next ≡ b)
    on true none h = absurd (in_none b h)
    on false some h = (grind arith, in_one next b h)

next_from : (next b : ℕ) → 0 < next → next ≡ b → Contains (next_names next) b
next_from next b some same =
    let differs : (next == 0) ≡ false = grind arith in
    subst (λ (t : Bool). Contains (cond t [] (next ∷ [])) b) (sym differs) (own_in next b same)

-- the list has what the node names, and nothing else
pub named_all : (bytes list : List ℕ) → list ≡ (flat_map item_names (link_items (Some bytes)) ++ next_names (next_of (Some bytes))) ++ body_named (index_of (Some bytes)) (pointer_of (Some bytes))
    → (b : ℕ) → Contains list b ↔ Names (Some bytes) b
named_all bytes list is b = (
  λ h. to (Contains-append_cases (entries ++ after) slots b (subst (λ (xs : List ℕ). Contains xs b) is h)),
  λ h. subst (λ (xs : List ℕ). Contains xs b) (sym is) (from h),
)
  where
    entries : List ℕ
    entries = flat_map item_names (link_items (Some bytes))

    after : List ℕ
    after = next_names (next_of (Some bytes))

    slots : List ℕ
    slots = body_named (index_of (Some bytes)) (pointer_of (Some bytes))

    chained : Contains entries b ⊎ Contains after b → Names (Some bytes) b
    chained (inl h) = inl (items_to (link_items (Some bytes)) b h)
    chained (inr h) = inr (inr (next_to (next_of (Some bytes)) b h))

    to : Contains (entries ++ after) b ⊎ Contains slots b → Names (Some bytes) b
    to (inl h) = chained (Contains-append_cases entries after b h)
    to (inr h) = inr (inl (body_to (index_of (Some bytes)) (pointer_of (Some bytes)) b h))

    from : Names (Some bytes) b → Contains ((entries ++ after) ++ slots) b
    from (inl (item, within, names)) =
        Contains-append_left (entries ++ after) slots b (Contains-append_left entries after b (items_from (link_items (Some bytes)) item b within names))
    from (inr (inl h)) = Contains-append_right (entries ++ after) slots b (body_from (index_of (Some bytes)) (pointer_of (Some bytes)) b h)
    from (inr (inr h)) = Contains-append_left (entries ++ after) slots b (Contains-append_right entries after b (next_from (next_of (Some bytes)) b h.0 h.1))

-- ---- bodies alone

heads_to_place : (place : Place) (b : ℕ) → Contains (place_heads place) b → FileNames place b
heads_to_place (Dir block) b h = absurd (in_none b h)
heads_to_place (File head zero) b h = absurd (in_none b h)
heads_to_place (File head (suc n)) b h = (omega arith, in_one head b h)

heads_from_place : (place : Place) (b : ℕ) → FileNames place b → Contains (place_heads place) b
heads_from_place (Dir block) b h = absurd h
heads_from_place (File head zero) b h = absurd (omega (arith, h.0))
heads_from_place (File head (suc n)) b h = own_in head b h.1

abbrev SomeHeads : List Item → ℕ → Type 0
SomeHeads items b = (item : Item) × Contains items item × FileNames item.place b

heads_to : (items : List Item) (b : ℕ) → Contains (flat_map item_heads items) b → SomeHeads items b
heads_to [] b h = absurd (in_none b h)
heads_to (item ∷ items) b h = either (Contains-append_cases (item_heads item) (flat_map item_heads items) b h) (heads_to items b)
  where
    either : Contains (item_heads item) b ⊎ Contains (flat_map item_heads items) b → (Contains (flat_map item_heads items) b → SomeHeads items b) → SomeHeads (item ∷ items) b
    either (inl first) again = (item, head_in item items, heads_to_place item.place b first)
    either (inr rest) again = let found = again rest in (found.0, tail_in item found.0 items found.1, found.2)

heads_from : (items : List Item) (item : Item) (b : ℕ) → Contains items item → FileNames item.place b → Contains (flat_map item_heads items) b
heads_from [] item b (k, lt, is) names = absurd (omega arith)
heads_from (first ∷ items) item b (zero, lt, is) names =
    Contains-append_left (item_heads first) (flat_map item_heads items) b (heads_from_place first.place b (subst (λ (i : Item). FileNames i.place b) (sym is) names))
heads_from (first ∷ items) item b (suc k, lt, is) names =
    Contains-append_right (item_heads first) (flat_map item_heads items) b (heads_from items item b (k, omega arith, is) names)

pub bodies_all : (bytes list : List ℕ) → list ≡ flat_map item_heads (link_items (Some bytes)) ++ body_named (index_of (Some bytes)) (pointer_of (Some bytes))
    → (b : ℕ) → Contains list b ↔ NamesBody (Some bytes) b
bodies_all bytes list is b = (
  λ h. to (Contains-append_cases heads slots b (subst (λ (xs : List ℕ). Contains xs b) is h)),
  λ h. subst (λ (xs : List ℕ). Contains xs b) (sym is) (from h),
)
  where
    heads : List ℕ
    heads = flat_map item_heads (link_items (Some bytes))

    slots : List ℕ
    slots = body_named (index_of (Some bytes)) (pointer_of (Some bytes))

    to : Contains heads b ⊎ Contains slots b → NamesBody (Some bytes) b
    to (inl h) = inl (heads_to (link_items (Some bytes)) b h)
    to (inr h) = inr (body_to (index_of (Some bytes)) (pointer_of (Some bytes)) b h)

    from : NamesBody (Some bytes) b → Contains (heads ++ slots) b
    from (inl (item, within, names)) = Contains-append_left heads slots b (heads_from (link_items (Some bytes)) item b within names)
    from (inr h) = Contains-append_right heads slots b (body_from (index_of (Some bytes)) (pointer_of (Some bytes)) b h)

-- ---- the directories alone

directory_to : (place : Place) (b : ℕ) → Contains (place_directories place) b → place ≡ Dir b
directory_to (Dir block) b h = ap (λ (k : ℕ). Dir k) (in_one block b h)
directory_to (File head size) b h = absurd (in_none b h)

directory_from : (place : Place) (b : ℕ) → place ≡ Dir b → Contains (place_directories place) b
directory_from place b is = subst (λ (p : Place). Contains (place_directories p) b) (sym is) (own_in b b refl)

directories_to : (items : List Item) (b : ℕ) → Contains (flat_map item_directories items) b → (item : Item) × Contains items item × (item.place ≡ Dir b)
directories_to [] b h = absurd (in_none b h)
directories_to (item ∷ items) b h = either (Contains-append_cases (item_directories item) (flat_map item_directories items) b h) (directories_to items b)
  where
    either : Contains (item_directories item) b ⊎ Contains (flat_map item_directories items) b → (Contains (flat_map item_directories items) b → (i : Item) × Contains items i × (i.place ≡ Dir b)) → (i : Item) × Contains (item ∷ items) i × (i.place ≡ Dir b)
    either (inl first) again = (item, head_in item items, directory_to item.place b first)
    either (inr later) again = let found = again later in (found.0, tail_in item found.0 items found.1, found.2)

directories_from : (items : List Item) (item : Item) (b : ℕ) → Contains items item → item.place ≡ Dir b → Contains (flat_map item_directories items) b
directories_from [] item b (k, lt, is) names = absurd (omega arith)
directories_from (first ∷ items) item b (zero, lt, is) names =
    Contains-append_left (item_directories first) (flat_map item_directories items) b (directory_from first.place b (ap (λ (i : Item). i.place) is ∙ names))
directories_from (first ∷ items) item b (suc k, lt, is) names =
    Contains-append_right (item_directories first) (flat_map item_directories items) b (directories_from items item b (k, omega arith, is) names)

pub directories_all : (node : Option (List ℕ)) (list : List ℕ) → list ≡ flat_map item_directories (link_items node) → (b : ℕ) → Contains list b ↔ NamesDirectory node b
directories_all node list is b = (
  λ h. directories_to (link_items node) b (subst (λ (xs : List ℕ). Contains xs b) is h),
  λ (item, within, names). subst (λ (xs : List ℕ). Contains xs b) (sym is) (directories_from (link_items node) item b within names),
)
