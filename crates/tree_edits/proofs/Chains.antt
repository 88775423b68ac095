-- Chains of nodes: what stands so many nodes before another, and the bytes of the nodes there.
use Rattle.std.proofs.Common.{◌≡◌, ℕ, zero, suc, ◌+◌, ◌-◌, ◌*◌, ◌^◌, ◌<◌, ◌≤◌, Bool, true, false, cond, eqb, ltb, leb, Option, Some, None, List, length, refl, sym, ap, subst, ◌∙◌, arith}
use Rattle.std.proofs.lemmas.Bool.{eqb-true, ltb-true}
use Rattle.node_format.specs.Headers.{field, body_magic, body_size, IsNode}
use Rattle.node_format.specs.BodyNodes.{IsBodyNode, HasSlot}
use Rattle.nodes.specs.Bodies.{Blocks, index_of, pointer_of, back, IsChain, IsLinked}
use Rattle.nodes.proofs.Bodies.{back_back, chain_back, linked_back}
use Rattle.tree_edits.specs.Reading.{IsUseful, IsLargest, HasDigits}
use Rattle.tree_edits.proofs.Hops.{Hops, next_hop}

-- ---- one node

abbrev some_number : ℕ → Option ℕ
some_number n = Some n

number_is : (m n : ℕ) → some_number m ≡ some_number n → m ≡ n
number_is m n e = cc

test_passed : (b : Bool) (x y : ℕ) → cond b (Some x) None ≡ Some y → (b ≡ true) × (x ≡ y)
test_passed true x y e = (refl, number_is x y e)
test_passed false x y e = absurd cc

size_parts : (limit used size : ℕ) → body_size limit used ≡ Some size → (0 < used) × (size ≡ 80 + used)
size_parts limit used size e = on (ltb 0 used) refl (leb (80 + used) limit) e
  where
    on : (b : Bool) → ltb 0 used ≡ b → (c : Bool) → cond b (cond c (Some (80 + used)) None) None ≡ Some size → (0 < used) × (size ≡ 80 + used)
    on true is c e = (ltb-true _ _ is, sym (test_passed c (80 + used) size e).1)
    on false is c e = absurd cc

-- the node in a block is the body node of an index
pub record IsBodyAt (held : Option (List ℕ)) (index : ℕ) (bytes : List ℕ) : Type 0 where
  pub is_node : IsBodyNode bytes
  pub index_is : field bytes 4 ≡ index
  pub bytes_are : held ≡ Some bytes

pub body_at : (limit index : ℕ) (held : Option (List ℕ)) (bytes : List ℕ) → held ≡ Some bytes → IsNode limit bytes → index_of held ≡ Some index → IsBodyAt held index bytes
body_at limit index held bytes is whole indexed =
    let found : cond (eqb (field bytes 0) body_magic) (Some (field bytes 4)) None ≡ Some index = ap index_of (sym is) ∙ indexed in
    let magic = test_passed (eqb (field bytes 0) body_magic) (field bytes 4) index found in
    let sized : body_size limit (field bytes 8) ≡ Some (length bytes) = sym (rw magic.0 refl) ∙ whole in
    let size = size_parts limit (field bytes 8) (length bytes) sized in
    record { is_node = record { magic = eqb-true _ _ magic.0; some = omega (arith, size.0); size = size.1 }; index_is = magic.1; bytes_are = is }

-- the block before a node that is not the first
pub slot_zero : (held : Option (List ℕ)) (index : ℕ) (bytes : List ℕ) (found : Option ℕ) → IsBodyAt held index bytes → 0 < index → (HasSlot (field bytes 4) 0 → found ≡ Some (field bytes (16 + 4 * 0))) → found ≡ Some (pointer_of held 0)
slot_zero held index bytes found at some only =
    only (omega arith, omega (arith, at.index_is), (field bytes 4, omega arith)) ∙ ap (λ (n : Option (List ℕ)). Some (pointer_of n 0)) (sym at.bytes_are)

-- ---- nodes before

pub pointer_back : (f : Blocks) (x i block : ℕ) → HasSlot i x → IsLinked f i block → pointer_of (f block) x ≡ back f block (2 ^ x)
pointer_back f x zero block has linked = absurd (omega (arith, has.1))
pointer_back f x (suc i) block has linked = linked.0 x has

-- ---- the way to a node

-- the node of an index was come to, on the way from a head to a node before it
pub record IsOnWay (capacity : ℕ) (f : Blocks) (head head_index index at block : ℕ) : Type 0 where
  pub chain : IsChain capacity f at block
  pub linked : IsLinked f at block
  pub back_is : block ≡ back f head (head_index - at)
  pub above : index ≤ at
  pub below : at ≤ head_index

pub way_on : (capacity : ℕ) (f : Blocks) (head head_index index at block x next : ℕ) → IsOnWay capacity f head head_index index at block → IsUseful x at index → next ≡ pointer_of (f block) x → IsOnWay capacity f head head_index index (at - 2 ^ x) next
way_on capacity f head head_index index at block x next way useful is =
    let le : 2 ^ x ≤ at = omega (arith, useful.1) in
    let to : next ≡ back f block (2 ^ x) = is ∙ pointer_back f x at block useful.0 way.linked in
    let e : (head_index - at) + 2 ^ x ≡ head_index - (at - 2 ^ x) = omega (arith, way.below) in
    record {
      chain = subst (λ (b : ℕ). IsChain capacity f (at - 2 ^ x) b) (sym to) (chain_back capacity f (2 ^ x) at block le way.chain);
      linked = subst (λ (b : ℕ). IsLinked f (at - 2 ^ x) b) (sym to) (linked_back f (2 ^ x) at block le way.linked);
      back_is = to ∙ ap (λ (b : ℕ). back f b (2 ^ x)) way.back_is ∙ back_back f (head_index - at) (2 ^ x) head ∙ ap (back f head) e;
      above = omega (arith, useful.1);
      below = omega (arith, way.below);
    }

-- the hops that were read, and those that are left, are at most two for each digit
abbrev pub FewReads : ℕ → ℕ → ℕ → ℕ → ℕ → Type 0
FewReads head_index index at before now = (digits : ℕ) → HasDigits head_index digits → (n : ℕ) × Hops at index n × (now + n ≤ before + 2 * digits)

pub few_on : (head_index index at before now now' x : ℕ) → index < at → IsLargest x at index → now' ≤ now + 1 → FewReads head_index index at before now → FewReads head_index index (at - 2 ^ x) before now'
few_on head_index index at before now now' x lt largest is few = λ digits small.
    let so_far = few digits small in
    let rest = next_hop x at index so_far.0 lt largest so_far.1 in
    (rest.0, rest.2, omega (arith, so_far.2, rest.1))
