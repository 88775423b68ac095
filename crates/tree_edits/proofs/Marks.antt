-- The table of the last blocks, while nodes are written.
use Rattle.std.proofs.Common.{◌≡◌, ℕ, zero, suc, ◌+◌, ◌-◌, ◌*◌, ◌/◌, ◌%◌, ◌^◌, ◌<◌, ◌≤◌, ◌==◌, if◌then◌else◌, ◌⊎◌, inl, inr, List, length, slice_index, refl, sym, ap, subst, ◌∙◌, arith}
use Rattle.std.specs.Prelude.{slice_set}
use Rattle.std.proofs.lemmas.Bool.{cases_lt}
use Rattle.std.proofs.lemmas.Bool.Decides.{nat_tests}
use Rattle.std.proofs.lemmas.List.{get_or-set_same, get_or-set_other}
use Rattle.std.proofs.lemmas.Nat.{pow_pos, mul-le, le-div, mod_below, mod-mul-add, div-add-mod'}
use Rattle.std.proofs.Math.Nat.{div-mul-le_self}
use Rattle.std.proofs.Math.Pow.{pow_mono}
use Rattle.nodes.specs.Bodies.{Blocks, pointer_of, back, IsChain, IsLinked}
use Rattle.nodes.proofs.Bodies.{back_back, chain_node}
use Rattle.tree_edits.specs.Writing.{slot_before, AreLinked, IsTable}
use Rattle.tree_edits.proofs.Chains.{pointer_back}
use Rattle.tree_edits.proofs.Fronts.{front_chain, front_linked}
use Rattle.tree_edits.proofs.Appended.{power_double}
use Rattle.tree_edits.proofs.Places.{HasPointer, divides_by, divides_below, split_power}
use Rattle.node_format.specs.BodyNodes.{Divides, HasSlot}
use Rattle.node_format.specs.declared.headers.TheConstants.{SLOTS}

-- ---- what is left after a power, and after twice the power

mod_double : (n p : ℕ) → 0 < p → n % (p + p) ≡ n % p + n / p % 2 * p
mod_double n p some =
    let q : ℕ = n / p in
    let half : q ≡ q / 2 * 2 + q % 2 = sym (div-add-mod' q 2) in
    let rest : n % p < p = mod_below n p some in
    let bit : q % 2 < 2 = mod_below q 2 (omega arith) in
    on (q / 2) (q % 2) half bit rest
  where
    split : n ≡ n / p * p + n % p
    split = sym (div-add-mod' n p)

    on : (k b : ℕ) → n / p ≡ k * 2 + b → b < 2 → n % p < p → n % (p + p) ≡ n % p + b * p
    on k zero e bit rest =
        let rows : n / p * p ≡ (k * 2 + 0) * p = ap (λ (m : ℕ). m * p) e in
        let parts : n ≡ k * (p + p) + n % p = omega (arith, split, rows) in
        ap (λ (m : ℕ). m % (p + p)) parts ∙ mod-mul-add k (p + p) (n % p) (omega arith) ∙ (let e : n % p ≡ n % p + 0 * p = omega arith in e)
    on k (suc zero) e bit rest =
        let rows : n / p * p ≡ (k * 2 + 1) * p = ap (λ (m : ℕ). m * p) e in
        let parts : n ≡ k * (p + p) + (n % p + p) = omega (arith, split, rows) in
        ap (λ (m : ℕ). m % (p + p)) parts ∙ mod-mul-add k (p + p) (n % p + p) (omega arith) ∙ (let e : n % p + p ≡ n % p + 1 * p = omega arith in e)
    on k (suc (suc b)) e bit rest = absurd (omega arith)

pub mod_next : (n x : ℕ) → n % 2 ^ suc x ≡ n % 2 ^ x + n / 2 ^ x % 2 * 2 ^ x
mod_next n x = ap (λ (p : ℕ). n % p) (power_double x) ∙ mod_double n (2 ^ x) (pow_pos x)

-- ---- the nodes that a power divides

pub linked_before : (capacity : ℕ) (f : Blocks) (head index : ℕ) → 0 < index → AreLinked capacity f head index → IsChain capacity f (index - 1) head × IsLinked f (index - 1) head
linked_before capacity f head zero some linked = absurd (omega arith)
linked_before capacity f head (suc i) some linked =
    let e : i ≡ suc i - 1 = omega arith in
    (subst (λ (k : ℕ). IsChain capacity f k head) e linked.0, subst (λ (k : ℕ). IsLinked f k head) e linked.1)

pub mark_chain : (capacity : ℕ) (f : Blocks) (head n x : ℕ) → IsChain capacity f n head → IsChain capacity f (n / 2 ^ x * 2 ^ x) (back f head (n % 2 ^ x))
mark_chain capacity f head n x chain = front_chain capacity f (n % 2 ^ x) (n / 2 ^ x * 2 ^ x) n head (omega (arith, div-add-mod' n (2 ^ x))) chain

pub mark_linked : (f : Blocks) (head n x : ℕ) → IsLinked f n head → IsLinked f (n / 2 ^ x * 2 ^ x) (back f head (n % 2 ^ x))
mark_linked f head n x linked = front_linked f (n % 2 ^ x) (n / 2 ^ x * 2 ^ x) n head (omega (arith, div-add-mod' n (2 ^ x))) linked

pub mark_next : (f : Blocks) (head n x block next : ℕ) → block ≡ back f head (n % 2 ^ x) → next ≡ back f block (n / 2 ^ x % 2 * 2 ^ x) → next ≡ back f head (n % 2 ^ suc x)
mark_next f head n x block next here is =
    is ∙ ap (λ (b : ℕ). back f b (n / 2 ^ x % 2 * 2 ^ x)) here ∙ back_back f (n % 2 ^ x) (n / 2 ^ x % 2 * 2 ^ x) head ∙ ap (back f head) (sym (mod_next n x))

-- an odd multiple of a power is not 0
some_multiple : (q p : ℕ) → 0 < p → (q % 2 ≡ 0 → ⊥) → 0 < q * p
some_multiple zero p some odd = absurd (odd (omega arith))
some_multiple (suc q) p some odd = omega (arith, mul-le 1 p (suc q) p (omega arith) (omega arith))

pub odd_pointer : (capacity : ℕ) (f : Blocks) (block n x : ℕ) → x < SLOTS → IsChain capacity f (n / 2 ^ x * 2 ^ x) block → (n / 2 ^ x % 2 ≡ 0 → ⊥) → HasPointer (f block) x
odd_pointer capacity f block n x few chain odd = (n / 2 ^ x * 2 ^ x, chain_node capacity (n / 2 ^ x * 2 ^ x) block f chain, (few, some_multiple (n / 2 ^ x) (2 ^ x) (pow_pos x) odd, (n / 2 ^ x, refl)))

pub odd_next : (f : Blocks) (block n x next : ℕ) → x < SLOTS → IsLinked f (n / 2 ^ x * 2 ^ x) block → (n / 2 ^ x % 2 ≡ 0 → ⊥) → next ≡ pointer_of (f block) x → next ≡ back f block (n / 2 ^ x % 2 * 2 ^ x)
odd_next f block n x next few linked odd is =
    let one : n / 2 ^ x % 2 ≡ 1 = one_of (n / 2 ^ x % 2) odd (mod_below (n / 2 ^ x) 2 (omega arith)) in
    let e : 2 ^ x ≡ n / 2 ^ x % 2 * 2 ^ x = sym (ap (λ (b : ℕ). b * 2 ^ x) one ∙ (let again : 1 * 2 ^ x ≡ 2 ^ x = omega arith in again)) in
    is ∙ pointer_back f x (n / 2 ^ x * 2 ^ x) block (few, some_multiple (n / 2 ^ x) (2 ^ x) (pow_pos x) odd, (n / 2 ^ x, refl)) linked ∙ ap (back f block) e
  where
    one_of : (b : ℕ) → (b ≡ 0 → ⊥) → b < 2 → b ≡ 1
    one_of zero not lt = absurd (not refl)
    one_of (suc b) not lt = omega arith

-- ---- which places are wanted

pub none_farther : (index last place x k : ℕ) → 0 < index → index ≤ k → k ≤ last → last / 2 ^ place ≡ (index - 1) / 2 ^ place → Divides x k → x < place
none_farther index last place x k some from to same (m, e) = on (cases_lt x place)
  where
    on : (x < place) ⊎ (place ≤ x) → x < place
    on (inl lt) = lt
    on (inr le) =
        let p : ℕ = 2 ^ place in
        let n : ℕ = m * 2 ^ (x - place) in
        let rows : k ≡ n * p = e ∙ ap (λ (q : ℕ). m * q) (split_power place x le) ∙ (let again : m * (2 ^ (x - place) * 2 ^ place) ≡ m * 2 ^ (x - place) * 2 ^ place = grind arith in again) in
        let above : n ≤ last / p = le-div n last p (pow_pos place) (omega arith) in
        let below : n * p ≤ (index - 1) / p * p = mul-le n p ((index - 1) / p) p (omega arith) (omega arith) in
        absurd (omega (arith, div-mul-le_self (index - 1) p))

-- ---- the table

pub set_named : (f : Blocks) (head before place at : ℕ) (table : List ℕ) → place < length table → at ≡ back f head (before % 2 ^ place) → ((x : ℕ) → x < place → slice_index table x ≡ back f head (before % 2 ^ x))
    → (x : ℕ) → x < place + 1 → slice_index (slice_set table place at) x ≡ back f head (before % 2 ^ x)
set_named f head before place at table within at_is named x lt = on (cases_lt x place)
  where
    on : (x < place) ⊎ (place ≤ x) → slice_index (slice_set table place at) x ≡ back f head (before % 2 ^ x)
    on (inl below) = get_or-set_other table place x at 0 (omega arith) ∙ named x below
    on (inr not_below) =
        let same : x ≡ place = omega arith in
        ap (slice_index (slice_set table place at)) same ∙ get_or-set_same table place at 0 within ∙ at_is ∙ ap (λ (y : ℕ). back f head (before % 2 ^ y)) (sym same)

-- what is left of the index before a multiple
before_multiple : (x index : ℕ) → 0 < index → Divides x index → (index - 1) % 2 ^ x ≡ 2 ^ x - 1
before_multiple x index some (zero, e) = absurd (omega arith)
before_multiple x index some (suc m, e) =
    let p : ℕ = 2 ^ x in
    let least : 0 < p = pow_pos x in
    let rows : suc m * p ≡ m * p + p = grind arith in
    let parts : index - 1 ≡ m * p + (p - 1) = omega (arith, rows) in
    ap (λ (n : ℕ). n % p) parts ∙ mod-mul-add m p (p - 1) (omega arith)

-- the slots of the next node
pub table_slots : (f : Blocks) (head index last : ℕ) (table : List ℕ) → index ≤ last → IsTable f head index last table → (x : ℕ) → HasSlot index x → slice_index table x ≡ slot_before f head x
table_slots f head index last table le is x has = is x index has.1 (omega arith) le has ∙ ap (back f head) (before_multiple x index has.1 has.2)

chosen : (n block old : ℕ) → n ≡ 0 → (if n == 0 then block else old) ≡ block
chosen n block old e = ap (λ (m : ℕ). if m == 0 then block else old) e

pub left_out : (n block old : ℕ) → (n ≡ 0 → ⊥) → (if n == 0 then block else old) ≡ old
left_out zero block old not = absurd (not refl)
left_out (suc n) block old not = grind (arith, nat_tests)

-- the table after a write
pub moved_at : (index block place x now old : ℕ) → (x < place → index % 2 ^ x ≡ 0) → (x < place → now ≡ block) → (place ≤ x → now ≡ old) → (place ≤ x → index % 2 ^ x ≡ 0 → ⊥) → now ≡ (if index % 2 ^ x == 0 then block else old)
moved_at index block place x now old zero_below below above not_above = on (cases_lt x place)
  where
    on : (x < place) ⊎ (place ≤ x) → now ≡ (if index % 2 ^ x == 0 then block else old)
    on (inl lt) = below lt ∙ sym (chosen (index % 2 ^ x) block old (zero_below lt))
    on (inr le) = above le ∙ sym (left_out (index % 2 ^ x) block old (not_above le))

pub not_after : (index place x : ℕ) → (index % 2 ^ place ≡ 0 → ⊥) → place ≤ x → index % 2 ^ x ≡ 0 → ⊥
not_after index place x not le e = omega (arith, divides_below x place index not (divides_by x index e))

-- what is left of an index that a power does not divide
mod_after : (n p : ℕ) → 0 < p → 0 < n → (n % p ≡ 0 → ⊥) → n % p ≡ suc ((n - 1) % p)
mod_after n p some more not = on (n % p) refl
  where
    on : (r : ℕ) → n % p ≡ r → n % p ≡ suc ((n - 1) % p)
    on zero e = absurd (not e)
    on (suc r) e =
        let rest : n % p < p = mod_below n p some in
        let parts : n - 1 ≡ n / p * p + r = omega (arith, div-add-mod' n p) in
        e ∙ ap suc (sym (ap (λ (m : ℕ). m % p) parts ∙ mod-mul-add (n / p) p r (omega arith)))

-- a table goes on with the node that was written
pub table_on : (f f' : Blocks) (head next index last : ℕ) (table table' : List ℕ) → IsTable f head index last table → ((x : ℕ) → x < SLOTS → slice_index table' x ≡ (if index % 2 ^ x == 0 then next else slice_index table x))
    → (0 < index → pointer_of (f' next) 0 ≡ head) → ((n : ℕ) → 0 < index → n < index → back f' head n ≡ back f head n) → IsTable f' next (index + 1) last table'
table_on f f' head next index last table table' is moved before stays x k some from to has =
    let same : index + 1 - 1 ≡ index = omega arith in
    moved x has.0 ∙ at_index (index % 2 ^ x) refl ∙ ap (λ (n : ℕ). back f' next (n % 2 ^ x)) (sym same)
  where
    at_index : (r : ℕ) → index % 2 ^ x ≡ r → (if index % 2 ^ x == 0 then next else slice_index table x) ≡ back f' next (index % 2 ^ x)
    at_index zero e = chosen (index % 2 ^ x) next (slice_index table x) e ∙ ap (back f' next) (sym e)
    at_index (suc r) e =
        let not : index % 2 ^ x ≡ 0 → ⊥ = λ (z : index % 2 ^ x ≡ 0). omega arith in
        let more : 0 < index = positive index e in
        let rest : (index - 1) % 2 ^ x ≡ r = (let after = mod_after index (2 ^ x) (pow_pos x) more not in omega (arith, after)) in
        let less : r < index = omega (arith, mod_le (index - 1) (2 ^ x)) in
        left_out (index % 2 ^ x) next (slice_index table x) not
        ∙ is x k more (omega arith) to has ∙ ap (back f head) rest ∙ sym (stays r more less)
        ∙ ap (λ (b : ℕ). back f' b r) (sym (before more)) ∙ ap (back f' next) (sym e)
      where
        positive : (n : ℕ) → n % 2 ^ x ≡ suc r → 0 < n
        positive zero z = absurd (zero_rest z)
          where
            zero_rest : 0 % 2 ^ x ≡ suc r → ⊥
            zero_rest z = omega (arith, div-add-mod' 0 (2 ^ x))
        positive (suc n) z = omega arith

        mod_le : (n p : ℕ) → n % p ≤ n
        mod_le n p = omega (arith, div-add-mod' n p)

-- the reads of a start, at most one for each power and each binary digit
pub few_more : (index digits place before now now' : ℕ) → 0 < index → index ≤ 2 ^ digits → 1 ≤ place → now ≤ before + (place - 1) → now ≤ before + digits → now' ≤ now + 1 → (index - 1 < 2 ^ (place - 1) → now' ≡ now) → now' ≤ before + digits
few_more index digits place before now now' some small from by_place by_digits one none = on (cases_lt (place - 1) digits)
  where
    on : (place - 1 < digits) ⊎ (digits ≤ place - 1) → now' ≤ before + digits
    on (inl lt) = omega arith
    on (inr le) =
        let above : 2 ^ digits ≤ 2 ^ (place - 1) = pow_mono {i = digits} {j = place - 1} le in
        let same : now' ≡ now = none (omega arith) in
        omega arith
