-- What the nodes of bodies tell of one another makes linked chains, and what linked chains have is what they tell.
use Rattle.std.proofs.Common.{◌≡◌, ◌≢◌, inl, inr, ℕ, zero, suc, ◌+◌, ◌-◌, ◌*◌, ◌^◌, ◌<◌, ◌≤◌, Bool, true, false, Option, Some, None, List, length, refl, sym, ap, subst, ◌∙◌, arith, suc-mul}
use Rattle.std.specs.Prelude.{Contains}
use Rattle.std.proofs.lemmas.Bool.{cases_lt}
use Rattle.std.proofs.lemmas.Nat.{pow_pos, mul-le}
use Rattle.fs_types.specs.declared.limits.TheConstants.{MAX_FILE_BYTES}
use Rattle.node_format.specs.BodyNodes.{Divides, HasSlot}
use Rattle.node_format.specs.declared.headers.TheConstants.{SLOTS}
use Rattle.nodes.specs.Bodies.{Blocks, index_of, pointer_of, data_of, back, IsChain, IsLinked}
use Rattle.nodes.specs.Reached.{BodyNames, Reached, IsNamed, Names}
use Rattle.nodes.proofs.Bodies.{chain_back, chain_node}
use Rattle.nodes.proofs.Reaching.{before_named}
use Rattle.reclaim.specs.Naming.{has_slot}
use Rattle.reclaim.specs.Sound.{HoldsSlot, IsSoundBody}
use Rattle.reclaim.specs.Tops.{top_by, top_of, steps_by, steps_of, FitsTop}
use Rattle.reclaim.specs.Verified.{AreRoots}
use Rattle.reclaim.proofs.Chains.{power_double, half_divides, fewer_divides, fewer_slots, some_before}
use Rattle.reclaim.proofs.NamedLaws.{has_slot-divides, divides-has_slot}
use Rattle.reclaim.proofs.Soundness.{IsLinkedChain, slot_more, chain_body, chain_stepped, reached_linked, trees_hold_nodes}
use Rattle.reclaim.proofs.Steps.{top_is, steps_to}

-- ---- the last slot of a node that another one leads to

-- an odd multiple of a power is none of the next power
odd : (m n power i j : ℕ) → 0 < power → i ≡ m * (power + power) → j ≡ n * (power + power) → j + power ≡ i → ⊥
odd m n power i j some first second sum = elim (cases_lt n m) [
  | inl less ↦
      let more : suc n * (power + power) ≤ m * (power + power) = mul-le (suc n) (power + power) m (power + power) less (omega arith) in
      omega (arith, more, suc-mul n (power + power), first, second, sum, some)
  | inr past ↦
      let most : m * (power + power) ≤ n * (power + power) = mul-le m (power + power) n (power + power) past (omega arith) in
      omega (arith, most, first, second, sum, some)
]

least_divides : (x z index : ℕ) → x ≤ z → Divides z index → Divides x index
least_divides x zero index le divides = let same : zero ≡ x = omega (arith, le) in subst (λ (k : ℕ). Divides k index) same divides
least_divides x (suc z) index le divides = elim (cases_lt x (suc z)) [
  | inl less ↦ least_divides x z index (omega (arith, less)) (fewer_divides z index divides)
  | inr past ↦ let same : suc z ≡ x = omega (arith, le, past) in subst (λ (k : ℕ). Divides k index) same divides
]

-- where a slot of an index has another after it, the node that it leads to has none after it
last_slot : (x i j : ℕ) → HasSlot i (suc x) → i - 2 ^ x ≡ suc j → (z : ℕ) → x < z → has_slot (suc j) z ≡ false
last_slot x i j has left z more = on (has_slot (suc j) z) refl
  where
    on : (t : Bool) → has_slot (suc j) z ≡ t → t ≡ false
    on false is = refl
    on true is =
        let own = least_divides (suc x) z (suc j) (omega (arith, more)) (has_slot-divides (suc j) z is).1 in
        absurd (odd has.2.0 own.0 (2 ^ x) i (suc j) (pow_pos x) (has.2.1 ∙ ap (λ (p : ℕ). has.2.0 * p) (power_double x)) (own.1 ∙ ap (λ (p : ℕ). own.0 * p) (power_double x)) (omega (arith, left)))

top_slot : (node : Option (List ℕ)) (x i j : ℕ) → HasSlot i (suc x) → i - 2 ^ x ≡ suc j → HasSlot (suc j) x → index_of node ≡ Some (suc j) → top_of node ≡ pointer_of node x
top_slot node x i j has left own is =
    ap (top_by (pointer_of node)) is
    ∙ top_is (pointer_of node) (suc j) x SLOTS (omega (arith, has.0)) (divides-has_slot (suc j) x own.1 own.2) (λ z more below. last_slot x i j has left z more)

-- ---- what nodes tell makes chains

module _ (capacity : ℕ) (f : Blocks) (roots : List ℕ) (short : (b i : ℕ) → Reached f roots b → index_of (f b) ≡ Some i → i * capacity < MAX_FILE_BYTES)
    (before : (b i : ℕ) → Reached f roots b → index_of (f b) ≡ Some (suc i) → (index_of (f (pointer_of (f b) 0)) ≡ Some i) × (length (data_of (f (pointer_of (f b) 0))) ≡ capacity))
    (tops : (b i x : ℕ) → Reached f roots b → index_of (f b) ≡ Some i → HasSlot i (suc x) → top_of (f (pointer_of (f b) x)) ≡ pointer_of (f b) (suc x)) where
  -- one slot more
  told_more : (i block x : ℕ) → Reached f roots block → IsChain capacity f (suc i) block → IsLinked f i (pointer_of (f block) 0) → HasSlot (suc i) (suc x) → pointer_of (f block) x ≡ back f block (2 ^ x)
      → HoldsSlot (f (pointer_of (f block) x)) x (pointer_of (f block) (suc x))
  told_more i block x reached chain linked has so_far = on (suc i - 2 ^ x) refl
    where
      on : (j : ℕ) → suc i - 2 ^ x ≡ j → HoldsSlot (f (pointer_of (f block) x)) x (pointer_of (f block) (suc x))
      on zero e = absurd (omega (arith, some_before x i has))
      on (suc j) e =
          let le : 2 ^ x ≤ suc i = omega (arith, some_before x i has) in
          let own : index_of (f (pointer_of (f block) x)) ≡ Some (suc j) =
          ap (λ (b : ℕ). index_of (f b)) so_far ∙ chain_node capacity (suc i - 2 ^ x) (back f block (2 ^ x)) f (chain_back capacity f (2 ^ x) (suc i) block le chain) ∙ ap (λ (n : ℕ). Some n) e in
          let slot : HasSlot (suc j) x = (omega (arith, has.0), omega arith, subst (Divides x) e (half_divides x (suc i) has.2)) in
          record {
            index = suc j;
            is_body = own;
            names = sym (top_slot (f (pointer_of (f block) x)) x (suc i) j has e slot own) ∙ tops block (suc i) x reached (chain_node capacity (suc i) block f chain) has;
          }

  told_slots : (i block : ℕ) → Reached f roots block → IsChain capacity f (suc i) block → IsLinked f i (pointer_of (f block) 0) → (x : ℕ) → HasSlot (suc i) x → pointer_of (f block) x ≡ back f block (2 ^ x)
  told_slots i block reached chain linked zero has = refl
  told_slots i block reached chain linked (suc x) has =
      let so_far = told_slots i block reached chain linked x (fewer_slots x (suc i) has) in
      slot_more f i block x linked has so_far (told_more i block x reached chain linked has so_far)

  told_chain : (i block : ℕ) → Reached f roots block → index_of (f block) ≡ Some i → IsLinkedChain capacity f i block
  told_chain zero block reached is = record { chain = is; linked = tt; short = short block 0 reached is }
  told_chain (suc i) block reached is =
      let own = before block i reached is in
      let rest = told_chain i (pointer_of (f block) 0) (IsNamed reached (before_named f i block is)) own.0 in
      let chain : IsChain capacity f (suc i) block = (is, own.1, rest.chain) in
      record { chain = chain; linked = (told_slots i block reached chain rest.linked, rest.linked); short = short block (suc i) reached is }

  pub told_body : (block i : ℕ) → Reached f roots block → index_of (f block) ≡ Some i → IsSoundBody capacity f (pointer_of (f block)) i
  told_body block i reached is = chain_body capacity f i block (told_chain i block reached is)

-- ---- what chains have is what nodes tell

pub slot_names : (f : Blocks) (b i x : ℕ) → index_of (f b) ≡ Some i → HasSlot i x → Names (f b) (pointer_of (f b) x)
slot_names f b i x is has = inr (inl (subst (λ (o : Option ℕ). BodyNames o (pointer_of (f b)) (pointer_of (f b) x)) (sym is) (x, has, refl)))

module _ (limit : ℕ) (f : Blocks) (roots : List ℕ) (trees : AreRoots limit f roots) (none : f 0 ≡ None) where
  held_step : (b i x : ℕ) → Reached f roots b → index_of (f b) ≡ Some i → HasSlot i (suc x) → FitsTop (λ c. top_of (f c)) (pointer_of (f b) x, pointer_of (f b) (suc x))
  held_step b zero x reached is has = absurd (omega (arith, has.1))
  held_step b (suc i) x reached is has = (some, on (suc i - 2 ^ x) refl)
    where
      linked : IsLinkedChain (limit - 80) f (suc i) b
      linked = reached_linked (limit - 80) f roots trees b (suc i) reached is

      some : pointer_of (f b) (suc x) ≢ 0
      some zero_is =
          trees_hold_nodes (limit - 80) f roots trees (pointer_of (f b) (suc x)) (IsNamed reached (slot_names f b (suc i) (suc x) is has)) (ap f zero_is ∙ none)

      on : (j : ℕ) → suc i - 2 ^ x ≡ j → top_of (f (pointer_of (f b) x)) ≡ pointer_of (f b) (suc x)
      on zero e = absurd (omega (arith, some_before x i has))
      on (suc j) e =
          let le : 2 ^ x ≤ suc i = omega (arith, some_before x i has) in
          let at : pointer_of (f b) x ≡ back f b (2 ^ x) = linked.linked.0 x (fewer_slots x (suc i) has) in
          let own : index_of (f (pointer_of (f b) x)) ≡ Some (suc j) =
          ap (λ (c : ℕ). index_of (f c)) at ∙ chain_node (limit - 80) (suc i - 2 ^ x) (back f b (2 ^ x)) f (chain_back (limit - 80) f (2 ^ x) (suc i) b le linked.chain) ∙ ap (λ (n : ℕ). Some n) e in
          let slot : HasSlot (suc j) x = (omega (arith, has.0), omega arith, subst (Divides x) e (half_divides x (suc i) has.2)) in
          top_slot (f (pointer_of (f b) x)) x (suc i) j has e slot own ∙ (chain_stepped (limit - 80) f i b linked x has).names

  -- all that a node tells of last slots is so
  pub tree_step : (b : ℕ) → Reached f roots b → (one : ℕ × ℕ) → Contains (steps_of (f b)) one → FitsTop (λ c. top_of (f c)) one
  tree_step b reached one has = on (index_of (f b)) refl has
    where
      on : (o : Option ℕ) → index_of (f b) ≡ o → Contains (steps_by (pointer_of (f b)) o) one → FitsTop (λ c. top_of (f c)) one
      on None is within = absurd (omega (arith, within.1))
      on (Some i) is within =
          let (x, below, slot, at, next) = steps_to (pointer_of (f b)) i 15 one within in
          let own = has_slot-divides i (suc x) slot in
          let fits = held_step b i x reached is (omega (arith, below), own.0, own.1) in
          (λ zero_is. fits.0 (next ∙ zero_is), ap (λ (c : ℕ). top_of (f c)) (sym at) ∙ fits.1 ∙ next)
