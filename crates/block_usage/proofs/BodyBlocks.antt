-- The blocks of a body are what the block of its last node reaches.
use Rattle.std.proofs.Common.{◌≡◌, inl, inr, ℕ, zero, suc, ◌+◌, ◌-◌, ◌*◌, ◌^◌, ◌<◌, ◌≤◌, Option, Some, None, List, [], ◌∷◌, length, refl, sym, ap, subst, ◌∙◌, arith}
use Rattle.std.proofs.Math.Nat.{suc-mul}
use Rattle.std.proofs.lemmas.Grind.{get_or_default_zero}
use Rattle.std.proofs.lemmas.List.Elements.{Contains-get_or}
use Rattle.std.specs.Prelude.{Contains}
use Rattle.std.specs.Option.{option_map_or}
use Rattle.node_format.specs.BodyNodes.{HasSlot}
use Rattle.node_format.specs.Items.{Item}
use Rattle.node_format.specs.Links.{Link}
use Rattle.node_format.specs.declared.place.Place.TheVariants.{File}
use Rattle.nodes.specs.Bodies.{Blocks, index_of, pointer_of, back, head_index, IsBody, IsChain, IsLinked}
use Rattle.nodes.specs.Chains.{link_of, link_items, next_of}
use Rattle.nodes.specs.Reached.{Reached, IsFirst, IsNamed, Names, BodyNames}
use Rattle.nodes.proofs.Bodies.{back_back, chain_back, chain_node, linked_back}
use Rattle.nodes.proofs.Entries.{directory_no_index}
use Rattle.nodes.proofs.Reaching.{before_named, reached_own}
use Rattle.reclaim.proofs.Marking.{only_one}
use Rattle.block_usage.specs.Usages.{AreBlocksOf, AreChainBlocks, PlaceReaches}

abbrev some_index : ℕ → Option ℕ
some_index n = Some n

same_index : (m n : ℕ) → some_index m ≡ some_index n → m ≡ n
same_index m n e = cc

no_index : (m : ℕ) → some_index m ≡ None → ⊥
no_index m e = cc

divides_le : (m power n : ℕ) → 0 < n → n ≡ m * power → power ≤ n
divides_le zero power n some e = absurd (omega (arith, some, e))
divides_le (suc m) power n some e = omega (arith, e, suc-mul m power)

-- slot x of a node leads so many nodes back
slot_back : (f : Blocks) (x i block : ℕ) → HasSlot i x → IsLinked f i block → pointer_of (f block) x ≡ back f block (2 ^ x)
slot_back f x zero block has linked = absurd (omega (arith, has.1))
slot_back f x (suc i) block has linked = linked.0 x has

-- the node of a body names no block but by a slot
only_slots : (node : Option (List ℕ)) (index next : ℕ) → index_of node ≡ Some index → Names node next → (x : ℕ) × HasSlot index x × (pointer_of node x ≡ next)
only_slots node index next is names = on (link_of node) refl names
  where
    no_link : (l : Link) → link_of node ≡ Some l → ⊥
    no_link l e = no_index index (sym is ∙ directory_no_index node l e)

    items_none : link_of node ≡ None → link_items node ≡ []
    items_none e = ap (λ (o : Option Link). option_map_or (λ link. link.items) o []) e

    next_none : link_of node ≡ None → next_of node ≡ 0
    next_none e = ap (λ (o : Option Link). option_map_or (λ link. link.next) o 0) e

    on : (o : Option Link) → link_of node ≡ o → Names node next → (x : ℕ) × HasSlot index x × (pointer_of node x ≡ next)
    on (Some l) e names = absurd (no_link l e)
    on None e (inl (item, has, named)) = absurd (let inside = subst (λ (items : List Item). Contains items item) (items_none e) has in omega (arith, inside.1))
    on None e (inr (inl body)) = subst (λ (o : Option ℕ). BodyNames o (pointer_of node) next) is body
    on None e (inr (inr (some, after))) = absurd (omega (arith, some, next_none e))

module _ (capacity : ℕ) (f : Blocks) (i head : ℕ) (chain : IsChain capacity f i head) (linked : IsLinked f i head) where
  index_at : (k : ℕ) → k ≤ i → index_of (f (back f head k)) ≡ Some (i - k)
  index_at k le = chain_node capacity (i - k) (back f head k) f (chain_back capacity f k i head le chain)

  abbrev IsOn : ℕ → Type 0
  IsOn b = (k : ℕ) × (k ≤ i) × (b ≡ back f head k)

  named_on : (block next : ℕ) → IsOn block → Names (f block) next → IsOn next
  named_on block next (k, le, is) names =
      let here : index_of (f block) ≡ Some (i - k) = ap (λ (b : ℕ). index_of (f b)) is ∙ index_at k le in
      let (x, has, to) = only_slots (f block) (i - k) next here names in
      let own : IsLinked f (i - k) block = subst (IsLinked f (i - k)) (sym is) (linked_back f k i head le linked) in
      let far : 2 ^ x ≤ i - k = divides_le has.2.0 (2 ^ x) (i - k) has.1 has.2.1 in
      (k + 2 ^ x, omega (arith, far, le), sym to ∙ slot_back f x (i - k) block has own ∙ ap (λ (b : ℕ). back f b (2 ^ x)) is ∙ back_back f k (2 ^ x) head)

  pub reached_on : {b : ℕ} → Reached f (head ∷ []) b → IsOn b
  reached_on {b} (IsFirst first) = (0, omega arith, sym (only_one head b first))
  reached_on {b} (IsNamed {block = block} before names) = named_on block b (reached_on before) names

  pub on_reached : (k : ℕ) → k ≤ i → Reached f (head ∷ []) (back f head k)
  on_reached zero le = reached_own f head
  on_reached (suc k) le =
      let step : k + 1 ≡ suc k = omega arith in
      let more : i - k ≡ suc (i - suc k) = omega (arith, le) in
      let names = before_named f (i - suc k) (back f head k) (index_at k (omega (arith, le)) ∙ ap some_index more) in
      subst (Reached f (head ∷ [])) (back_back f k 1 head ∙ ap (back f head) step) (IsNamed (on_reached k (omega (arith, le))) names)

  pub apart : (j k : ℕ) → j < k → k ≤ i → back f head j ≡ back f head k → ⊥
  apart j k less le same =
      let e : i - j ≡ i - k = same_index (i - j) (i - k) (sym (index_at j (omega (arith, less, le))) ∙ ap (λ (b : ℕ). index_of (f b)) same ∙ index_at k le) in
      omega (arith, e, less, le)

-- a body with bytes is a linked chain of nodes
body_chain : (capacity : ℕ) (f : Blocks) (head size : ℕ) → 0 < size → IsBody capacity f head size → IsChain capacity f (head_index capacity size) head
body_chain capacity f head zero some body = absurd (omega (arith, some))
body_chain capacity f head (suc n) some body = body.0

-- each node of it but the first has an index past 0
pub later_index : (capacity : ℕ) (f : Blocks) (head size k : ℕ) → 0 < size → IsBody capacity f head size → k < head_index capacity size
    → (x : ℕ) × (index_of (f (back f head k)) ≡ Some x) × (0 < x)
later_index capacity f head size k some body less =
    let i = head_index capacity size in
    (i - k, chain_node capacity (i - k) (back f head k) f (chain_back capacity f k i head (omega (arith, less)) (body_chain capacity f head size some body)), omega (arith, less))

pub body_blocks : (capacity : ℕ) (f : Blocks) (head size : ℕ) (blocks : List ℕ) → IsBody capacity f head size → AreChainBlocks f capacity head size blocks → AreBlocksOf f (File head size) blocks
body_blocks capacity f head zero blocks body are = record {
  distinct = λ p q less within same. omega (arith, are.so_many, less, within);
  all = λ b. (λ has. absurd (omega (arith, has.1, are.so_many)), λ reaches. absurd (omega (arith, reaches.1.0)));
}
body_blocks capacity f head (suc n) blocks body are = record {
  distinct = λ p q less within same. apart capacity f (head_index capacity (suc n)) head body.0 body.2 p q less (below q within) (sym (are.each p (omega (arith, less, within))) ∙ same ∙ are.each q within);
  all = λ b. (λ has. there b has, λ reaches. here b reaches);
}
  where
    below : (k : ℕ) → k < length blocks → k ≤ head_index capacity (suc n)
    below k within = omega (arith, within, are.so_many)

    there : (b : ℕ) → Contains blocks b → PlaceReaches f (File head (suc n)) b
    there b (k, within, at) =
        let is : back f head k ≡ b = sym (are.each k within) ∙ sym (get_or_default_zero blocks k b within) ∙ at in
        (head, (omega arith, refl), subst (Reached f (head ∷ [])) is (on_reached capacity f (head_index capacity (suc n)) head body.0 body.2 k (below k within)))

    here : (b : ℕ) → PlaceReaches f (File head (suc n)) b → Contains blocks b
    here b (first, (some, same), reached) =
        let (k, le, is) = reached_on capacity f (head_index capacity (suc n)) head body.0 body.2 (subst (λ (x : ℕ). Reached f (x ∷ []) b) (sym same) reached) in
        let within : k < length blocks = omega (arith, le, are.so_many) in
        subst (Contains blocks) (are.each k within ∙ sym is) (Contains-get_or blocks k 0 within)
