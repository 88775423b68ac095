-- How many entries and how many nodes a directory has.
use Rattle.std.proofs.Common.{◌≡◌, ℕ, zero, suc, ◌+◌, ◌*◌, ◌<◌, ◌≤◌, inl, inr, true, false, eqb, Option, Some, None, unwrap_or, List, [], ◌∷◌, length, refl, sym, ap, subst, ◌∙◌, arith, length-append}
use Rattle.std.specs.Prelude.{Contains, nat_lt}
use Rattle.std.proofs.lemmas.Bool.{ltb-true}
use Rattle.fs_types.specs.declared.limits.TheConstants.{NODE_ENTRIES, MAX_ENTRIES}
use Rattle.node_format.specs.Items.{Item}
use Rattle.node_format.specs.Order.{both_true}
use Rattle.node_format.specs.Links.{Link}
use Rattle.node_format.proofs.LinkLaws.{IsFilled, link_filled}
use Rattle.nodes.specs.Bodies.{Blocks}
use Rattle.nodes.specs.Chains.{link_of, next_of, is_later, entries_after, most_after, entries_in, items_in, blocks_after, chain}
use Rattle.nodes.specs.ChainLaws.{CountLaw}
use Rattle.nodes.proofs.Chains.{kept, same_items, either_of, AfterParts, none_after, after_parts, first_parts, next_is, listed_after, chain_is}

pub linked_filled : (node : Option (List ℕ)) (l : Link) → link_of node ≡ Some l → IsFilled l
linked_filled None l e = absurd cc
linked_filled (Some bytes) l e = link_filled bytes l e

-- ---- how many entries there are

after_most : (f : Blocks) (n next : ℕ) (items : List Item) → entries_after n f next ≡ Some items → length items ≤ NODE_ENTRIES * n
after_most f zero next items e = let k = kept (eqb next 0) (Some []) items e in omega (arith, ap length (same_items [] items k.1))
after_most f (suc n) next items e = on (after_parts f n next items e) (after_most f n)
  where
    on : AfterParts f n next items → ((c : ℕ) (more : List Item) → entries_after n f c ≡ Some more → length more ≤ NODE_ENTRIES * n) → length items ≤ NODE_ENTRIES * suc n
    on (inl none) again = omega (arith, ap length none.1)
    on (inr p) again = omega (arith, again p.l.next p.more p.rest, (linked_filled (f next) p.l p.is).few, ap length p.parts, length-append p.l.items p.more)

pub most_of : (f : Blocks) (block : ℕ) → length (items_in f block) ≤ MAX_ENTRIES
most_of f block = on (entries_in f block) refl
  where
    on : (o : Option (List Item)) → entries_in f block ≡ o → length (unwrap_or o []) ≤ MAX_ENTRIES
    on None is = omega arith
    on (Some items) is =
        let p = first_parts f block items is in
        omega (arith, after_most f most_after p.l.next p.more p.rest, (linked_filled (f block) p.l p.is).few, ap length p.parts, length-append p.l.items p.more)

later_some : (l : Link) → is_later l ≡ true → 0 < length l.items
later_some l e = ltb-true _ _ (both_true l.chained (nat_lt 0 (length l.items)) e).1

-- ---- how many nodes there are

-- so many nodes after the first have so many entries, all but the last of them full and none empty
record HasLater (nodes count : ℕ) : Type 0 where
  enough : count ≤ NODE_ENTRIES * nodes
  needed : NODE_ENTRIES * nodes < count + NODE_ENTRIES

after_count : (f : Blocks) (n next : ℕ) (items : List Item) → entries_after n f next ≡ Some items → HasLater (length (blocks_after n f next)) (length items) × ((next ≡ 0) → items ≡ [])
after_count f zero next items e =
    let none = none_after f next items e in
    (record { enough = omega (arith, ap length none.1); needed = omega arith }, λ _. none.1)
after_count f (suc n) next items e = on (after_parts f n next items e) (after_count f n)
  where
    on : AfterParts f n next items → ((b : ℕ) (more : List Item) → entries_after n f b ≡ Some more → HasLater (length (blocks_after n f b)) (length more) × ((b ≡ 0) → more ≡ []))
        → HasLater (length (blocks_after (suc n) f next)) (length items) × ((next ≡ 0) → items ≡ [])
    on (inl none) again =
        let no_block : length (blocks_after (suc n) f next) ≡ 0 = rw none.0 refl in
        (record { enough = omega (arith, ap length none.1); needed = omega (arith, no_block) }, λ _. none.1)
    on (inr p) again =
        let filled = linked_filled (f next) p.l p.is in
        let below = again p.l.next p.more p.rest in
        let some = later_some p.l p.good in
        let blocks : length (blocks_after (suc n) f next) ≡ suc (length (blocks_after n f p.l.next)) = ap length (listed_after f n next p.some p.l p.is) in
        let size : length items ≡ length p.l.items + length p.more = ap length p.parts ∙ length-append p.l.items p.more in (
          elim filled.full [
            | inl last ↦
                let no_more = below.1 last in
                let at_end : length (blocks_after n f p.l.next) ≡ 0 = let most = below.0.needed in omega (arith, most, ap length no_more) in
                record { enough = omega (arith, blocks, size, filled.few, at_end); needed = omega (arith, blocks, size, at_end, some) }
            | inr full ↦ record { enough = omega (arith, blocks, size, full, below.0.enough); needed = omega (arith, blocks, size, full, below.0.needed) }
          ],
          λ zero_is. absurd (let e : eqb next 0 ≡ true = rw zero_is refl in let f : true ≡ false = sym e ∙ p.some in cc),
        )

pub count_law : CountLaw
count_law f block items e =
    let p = first_parts f block items e in
    let filled = linked_filled (f block) p.l p.is in
    let below = after_count f most_after p.l.next p.more p.rest in
    let blocks : length (chain f block) ≡ suc (length (blocks_after most_after f p.l.next)) = ap length (chain_is f block p.l p.is) in
    let size : length items ≡ length p.l.items + length p.more = ap length p.parts ∙ length-append p.l.items p.more in
    elim filled.full [
      | inl last ↦
          let no_more = below.1 last in
          let at_end : length (blocks_after most_after f p.l.next) ≡ 0 = let most = below.0.needed in omega (arith, most, ap length no_more) in
          omega (arith, blocks, size, filled.few, at_end, ap length no_more)
      | inr full ↦ omega (arith, blocks, size, full, below.0.enough, below.0.needed)
    ]

-- an empty directory is one node
pub empty_alone : (f : Blocks) (block : ℕ) → entries_in f block ≡ Some [] → (b : ℕ) → Contains (chain f block) b → b ≡ block
empty_alone f block e b inside =
    let p = first_parts f block [] e in
    let none : length p.l.items ≡ 0 = omega (arith, ap length p.parts, length-append p.l.items p.more) in
    let filled = linked_filled (f block) p.l p.is in
    let last : p.l.next ≡ 0 = elim filled.full [ inl none ↦ none | inr all ↦ absurd (omega (arith, none, all)) ] in
    let to : next_of (f block) ≡ 0 = next_is f block p.l p.is ∙ last in
    let alone : chain f block ≡ block ∷ [] = ap (λ (c : ℕ). block ∷ blocks_after most_after f c) to ∙ ap (λ (bs : List ℕ). block ∷ bs) (no_more most_after) in
    elim (either_of block b [] (subst (λ (bs : List ℕ). Contains bs b) alone inside)) [
      | inl is ↦ sym is
      | inr (k, lt, is) ↦ absurd (omega (arith, lt))
    ]
  where
    no_more : (n : ℕ) → blocks_after n f 0 ≡ []
    no_more zero = refl
    no_more (suc n) = refl
