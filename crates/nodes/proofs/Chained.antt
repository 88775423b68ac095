-- What the nodes of a chain say, and what they reach.
use Rattle.std.proofs.Common.{◌≡◌, ℕ, zero, suc, ◌<◌, ◌⊎◌, inl, inr, Bool, true, false, cond, eqb, Option, Some, None, unwrap_or, List, [], ◌∷◌, ◌++◌, refl, sym, ap, subst, ◌∙◌, arith}
use Rattle.std.specs.Prelude.{Contains}
use Rattle.std.proofs.lemmas.Bool.{eqb-true}
use Rattle.std.proofs.lemmas.List.Elements.{Contains-append_left, Contains-append_right, Contains-append_cases}
use Rattle.fs_types.specs.Names.{Name, same_name}
use Rattle.node_format.specs.Items.{Item, named_place, are_ascending}
use Rattle.node_format.specs.EntryLaws.{named-contained, contained-named_place}
use Rattle.node_format.specs.Links.{Link}
use Rattle.node_format.specs.declared.place.Place.{Place}
use Rattle.node_format.specs.declared.place.Place.TheVariants.{Dir}
use Rattle.nodes.specs.Bodies.{Blocks}
use Rattle.nodes.specs.Chains.{link_of, next_of, entries_after, most_after, link_items, entries_in, items_in, blocks_after, chain}
use Rattle.nodes.specs.Trees.{child}
use Rattle.nodes.specs.Reached.{Reached, IsFirst, IsNamed, PlaceNames}
use Rattle.nodes.specs.ChainLaws.{ReachedLaw, EntryLaw, NamedLaw}
use Rattle.nodes.proofs.Chains.{by_test, head_of, tail_of, either_of, kept, same_items, AfterParts, after_parts, first_parts, items_are, listed_after, chain_is}

-- ---- entries

pub directory_ascends : (f : Blocks) (block : ℕ) → are_ascending (items_in f block) ≡ true
directory_ascends f block = on (entries_in f block) refl
  where
    on : (o : Option (List Item)) → entries_in f block ≡ o → are_ascending (unwrap_or o []) ≡ true
    on None is = refl
    on (Some items) is = (first_parts f block items is).order

pub entry_named : EntryLaw
entry_named f block item inside = contained-named_place (items_in f block) item (directory_ascends f block) inside

-- ---- what the nodes of a chain say

-- a node of a chain: its entries are among these, and the node after it is among these blocks
pub record IsAmong (f : Blocks) (b : ℕ) (items : List Item) (blocks : List ℕ) : Type 0 where
  pub l : Link
  pub is : link_of (f b) ≡ Some l
  pub entries : (item : Item) → Contains l.items item → Contains items item
  pub on : 0 < l.next → Contains blocks l.next

head_in : (f : Blocks) (n next : ℕ) (items : List Item) → entries_after n f next ≡ Some items → 0 < next → Contains (blocks_after n f next) next
head_in f zero next items e some = absurd (let k = kept (eqb next 0) (Some []) items e in let none = eqb-true next 0 k.0 in omega (arith, none, some))
head_in f (suc n) next items e some =
    let not_zero : eqb next 0 ≡ false = grind arith in
    rw not_zero (head_of next (blocks_after n f (next_of (f next))))

among_after : (f : Blocks) (n next : ℕ) (items : List Item) → entries_after n f next ≡ Some items → (b : ℕ) → Contains (blocks_after n f next) b → IsAmong f b items (blocks_after n f next)
among_after f zero next items e b (k, lt, is) = absurd (omega (arith, lt))
among_after f (suc n) next items e b inside = on (after_parts f n next items e) (among_after f n)
  where
    on : AfterParts f n next items → ((c : ℕ) (more : List Item) → entries_after n f c ≡ Some more → (b : ℕ) → Contains (blocks_after n f c) b → IsAmong f b more (blocks_after n f c)) → IsAmong f b items (blocks_after (suc n) f next)
    on (inl none) again = absurd (empty (subst (λ (t : Bool). Contains (cond t [] (next ∷ blocks_after n f (next_of (f next)))) b) none.0 inside))
      where
        empty : Contains [] b → ⊥
        empty (k, lt, is) = omega (arith, lt)
    on (inr p) again =
        let all = listed_after f n next p.some p.l p.is in
        subst (IsAmong f b items) (sym all) (elim (either_of next b (blocks_after n f p.l.next) (subst (λ (bs : List ℕ). Contains bs b) all inside)) [
          | inl here ↦ subst (λ (c : ℕ). IsAmong f c items (next ∷ blocks_after n f p.l.next)) here (record {
            l = p.l;
            is = p.is;
            entries = λ item within. subst (λ (xs : List Item). Contains xs item) (sym p.parts) (Contains-append_left p.l.items p.more item within);
            on = λ some. tail_of next p.l.next (blocks_after n f p.l.next) (head_in f n p.l.next p.more p.rest some);
          })
          | inr later ↦ let a = again p.l.next p.more p.rest b later in record {
            l = a.l;
            is = a.is;
            entries = λ item within. subst (λ (xs : List Item). Contains xs item) (sym p.parts) (Contains-append_right p.l.items p.more item (a.entries item within));
            on = λ some. tail_of next a.l.next (blocks_after n f p.l.next) (a.on some);
          }
        ])

pub among_chain : (f : Blocks) (block : ℕ) (items : List Item) → entries_in f block ≡ Some items → (b : ℕ) → Contains (chain f block) b → IsAmong f b items (chain f block)
among_chain f block items e b inside =
    let p = first_parts f block items e in
    let all = chain_is f block p.l p.is in
    subst (IsAmong f b items) (sym all) (elim (either_of block b (blocks_after most_after f p.l.next) (subst (λ (bs : List ℕ). Contains bs b) all inside)) [
      | inl here ↦ subst (λ (c : ℕ). IsAmong f c items (block ∷ blocks_after most_after f p.l.next)) here (record {
        l = p.l;
        is = p.is;
        entries = λ item within. subst (λ (xs : List Item). Contains xs item) (sym p.parts) (Contains-append_left p.l.items p.more item within);
        on = λ some. tail_of block p.l.next (blocks_after most_after f p.l.next) (head_in f most_after p.l.next p.more p.rest some);
      })
      | inr later ↦ let a = among_after f most_after p.l.next p.more p.rest b later in record {
        l = a.l;
        is = a.is;
        entries = λ item within. subst (λ (xs : List Item). Contains xs item) (sym p.parts) (Contains-append_right p.l.items p.more item (a.entries item within));
        on = λ some. tail_of block a.l.next (blocks_after most_after f p.l.next) (a.on some);
      }
    ])

-- an entry of a directory is one of one of its nodes
pub record IsHeldBy (f : Blocks) (blocks : List ℕ) (item : Item) : Type 0 where
  pub node : ℕ
  pub listed : Contains blocks node
  pub holds : Contains (link_items (f node)) item

held_after : (f : Blocks) (n next : ℕ) (items : List Item) → entries_after n f next ≡ Some items → (item : Item) → Contains items item → IsHeldBy f (blocks_after n f next) item
held_after f zero next items e item inside = absurd (let k = kept (eqb next 0) (Some []) items e in none (subst (λ (xs : List Item). Contains xs item) (sym (same_items [] items k.1)) inside))
  where
    none : Contains [] item → ⊥
    none (k, lt, is) = omega (arith, lt)
held_after f (suc n) next items e item inside = on (after_parts f n next items e) (held_after f n)
  where
    none : Contains [] item → ⊥
    none (k, lt, is) = omega (arith, lt)

    on : AfterParts f n next items → ((c : ℕ) (more : List Item) → entries_after n f c ≡ Some more → (item : Item) → Contains more item → IsHeldBy f (blocks_after n f c) item) → IsHeldBy f (blocks_after (suc n) f next) item
    on (inl empty) again = absurd (none (subst (λ (xs : List Item). Contains xs item) empty.1 inside))
    on (inr p) again =
        subst (λ (bs : List ℕ). IsHeldBy f bs item) (sym (listed_after f n next p.some p.l p.is)) (elim (Contains-append_cases p.l.items p.more item (subst (λ (xs : List Item). Contains xs item) p.parts inside)) [
          | inl here ↦ record { node = next; listed = head_of next (blocks_after n f p.l.next); holds = subst (λ (xs : List Item). Contains xs item) (sym (items_are f next p.l p.is)) here }
          | inr later ↦ let h = again p.l.next p.more p.rest item later in record { node = h.node; listed = tail_of next h.node (blocks_after n f p.l.next) h.listed; holds = h.holds }
        ])

pub held_chain : (f : Blocks) (block : ℕ) (items : List Item) → entries_in f block ≡ Some items → (item : Item) → Contains items item → IsHeldBy f (chain f block) item
held_chain f block items e item inside =
    let p = first_parts f block items e in
    let all = chain_is f block p.l p.is in
    subst (λ (bs : List ℕ). IsHeldBy f bs item) (sym all) (elim (Contains-append_cases p.l.items p.more item (subst (λ (xs : List Item). Contains xs item) p.parts inside)) [
      | inl here ↦ record { node = block; listed = head_of block (blocks_after most_after f p.l.next); holds = subst (λ (xs : List Item). Contains xs item) (sym (items_are f block p.l p.is)) here }
      | inr later ↦ let h = held_after f most_after p.l.next p.more p.rest item later in record { node = h.node; listed = tail_of block h.node (blocks_after most_after f p.l.next) h.listed; holds = h.holds }
    ])

-- ---- what is reached

reached_after : (f : Blocks) (roots : List ℕ) (n next : ℕ) → (0 < next → Reached f roots next) → (b : ℕ) → Contains (blocks_after n f next) b → Reached f roots b
reached_after f roots zero next here b (k, lt, is) = absurd (omega (arith, lt))
reached_after f roots (suc n) next here b inside = by_test (eqb next 0)
    (λ none. absurd (empty (subst (λ (t : Bool). Contains (cond t [] (next ∷ blocks_after n f (next_of (f next)))) b) none inside)))
    (λ some. on (here (positive some)) (either_of next b (blocks_after n f (next_of (f next))) (subst (λ (t : Bool). Contains (cond t [] (next ∷ blocks_after n f (next_of (f next)))) b) some inside)) (reached_after f roots n (next_of (f next))))
  where
    empty : Contains [] b → ⊥
    empty (k, lt, is) = omega (arith, lt)

    positive : eqb next 0 ≡ false → 0 < next
    positive some = grind arith

    on : Reached f roots next → (next ≡ b) ⊎ Contains (blocks_after n f (next_of (f next))) b → ((0 < next_of (f next) → Reached f roots (next_of (f next))) → (b : ℕ) → Contains (blocks_after n f (next_of (f next))) b → Reached f roots b) → Reached f roots b
    on there (inl is) again = subst (Reached f roots) is there
    on there (inr later) again = again (λ some. IsNamed there (inr (inr (some, refl)))) b later

-- the nodes of a directory are reached
pub reached_chain : ReachedLaw
reached_chain f block b inside =
    let own : Reached f (block ∷ []) block = IsFirst (head_of block []) in
    elim (either_of block b (blocks_after most_after f (next_of (f block))) inside) [
      | inl is ↦ subst (Reached f (block ∷ [])) is own
      | inr later ↦ reached_after f (block ∷ []) most_after (next_of (f block)) (λ some. IsNamed own (inr (inr (some, refl)))) b later
    ]

-- so is what their entries name
pub child_names : NamedLaw
child_names f block name place root is names = on (entries_in f block) refl
  where
    on : (o : Option (List Item)) → entries_in f block ≡ o → Reached f (block ∷ []) root
    on None none = absurd (let e : named_place (unwrap_or (entries_in f block) []) name ≡ named_place [] name = ap (λ (o : Option (List Item)). named_place (unwrap_or o []) name) none in let x : None ≡ Some place = sym e ∙ is in cc)
    on (Some items) some =
        let found = named-contained items name place (sym (ap (λ (o : Option (List Item)). named_place (unwrap_or o []) name) some) ∙ is) in
        let h = held_chain f block items some found.0 found.1 in
        IsNamed (reached_chain f block h.node h.listed) (inl (found.0, h.holds, subst (λ (p : Place). PlaceNames p root) (sym found.2) names))

-- ---- what a name leads to is an entry of a node

named_either : (front back : List Item) (n : Name) (place : Place) → named_place (front ++ back) n ≡ Some place → (named_place front n ≡ Some place) ⊎ (named_place back n ≡ Some place)
named_either [] back n place e = inr e
named_either (item ∷ front) back n place e = by_test (same_name item.name n)
    (λ same. inl (rw same (sym (ap (λ (t : Bool). cond t (Some item.place) (named_place (front ++ back) n)) same) ∙ e)))
    (λ differs. elim (named_either front back n place (sym (ap (λ (t : Bool). cond t (Some item.place) (named_place (front ++ back) n)) differs) ∙ e)) [ inl here ↦ inl (rw differs here) | inr later ↦ inr later ])

-- a name that leads to a place leads to it in one of the nodes
abbrev pub IsInNode : Blocks → Name → Place → Type 0
IsInNode f n place = (b : ℕ) × (l : Link) × (link_of (f b) ≡ Some l) × (named_place l.items n ≡ Some place)

named_after : (f : Blocks) (n next : ℕ) (items : List Item) (name : Name) (place : Place) → entries_after n f next ≡ Some items → named_place items name ≡ Some place → IsInNode f name place
named_after f zero next items name place e leads = absurd (let k = kept (eqb next 0) (Some []) items e in let none : None ≡ Some place = ap (λ (xs : List Item). named_place xs name) (same_items [] items k.1) ∙ leads in cc)
named_after f (suc n) next items name place e leads = on (after_parts f n next items e) (named_after f n)
  where
    on : AfterParts f n next items → ((c : ℕ) (more : List Item) (name : Name) (place : Place) → entries_after n f c ≡ Some more → named_place more name ≡ Some place → IsInNode f name place) → IsInNode f name place
    on (inl none) again = absurd (let nothing : None ≡ Some place = sym (ap (λ (xs : List Item). named_place xs name) none.1) ∙ leads in cc)
    on (inr p) again = elim (named_either p.l.items p.more name place (sym (ap (λ (xs : List Item). named_place xs name) p.parts) ∙ leads)) [
      | inl here ↦ (next, p.l, p.is, here)
      | inr later ↦ again p.l.next p.more name place p.rest later
    ]

pub child_in_node : (f : Blocks) (block : ℕ) (name : Name) (place : Place) → child f (Dir block) name ≡ Some place → IsInNode f name place
child_in_node f block name place leads = on (entries_in f block) refl leads
  where
    on : (o : Option (List Item)) → entries_in f block ≡ o → named_place (unwrap_or o []) name ≡ Some place → IsInNode f name place
    on None is e = absurd cc
    on (Some items) is e =
        let p = first_parts f block items is in
        elim (named_either p.l.items p.more name place (sym (ap (λ (xs : List Item). named_place xs name) p.parts) ∙ e)) [
          | inl here ↦ (block, p.l, p.is, here)
          | inr later ↦ named_after f most_after p.l.next p.more name place p.rest later
        ]
