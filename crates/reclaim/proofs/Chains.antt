-- Chains of nodes: what stands so many nodes before another.
use Rattle.std.proofs.Common.{◌≡◌, ℕ, zero, suc, ◌+◌, ◌-◌, ◌*◌, ◌^◌, ◌<◌, ◌≤◌, length, sym, ap, subst, ◌∙◌, arith, suc-mul}
use Rattle.std.proofs.lemmas.List.{length-append}
use Rattle.std.proofs.lemmas.Nat.{pow_pos}
use Rattle.nodes.specs.Bodies.{Blocks, pointer_of, data_of, data_to, back, IsChain}
use Rattle.nodes.proofs.Bodies.{back_back}
use Rattle.node_format.specs.BodyNodes.{Divides, HasSlot}

pub data_length : (capacity : ℕ) (f : Blocks) (i block : ℕ) → IsChain capacity f i block → length (data_to f i block) ≡ i * capacity + length (data_of (f block))
data_length capacity f zero block chain = omega arith
data_length capacity f (suc i) block chain =
    let before = data_length capacity f i (pointer_of (f block) 0) chain.2 in
    omega (arith, length-append (data_to f i (pointer_of (f block) 0)) (data_of (f block)), before, chain.1, suc-mul i capacity)

-- ---- slots

pub power_double : (x : ℕ) → 2 ^ suc x ≡ 2 ^ x + 2 ^ x
power_double x = omega arith

pub divides_least : (x index : ℕ) → 0 < index → Divides x index → 2 ^ x ≤ index
divides_least x index some (zero, e) = absurd (omega arith)
divides_least x index some (suc m, e) = omega (arith, suc-mul m (2 ^ x))

halved : (m power n : ℕ) → n ≡ suc m * (power + power) → n - power ≡ suc (m + m) * power
halved m power n e = omega arith

-- the node that slot x leads to has slot x too
pub half_divides : (x index : ℕ) → Divides (suc x) index → Divides x (index - 2 ^ x)
half_divides x index (zero, e) = (0, omega arith)
half_divides x index (suc m, e) = (suc (m + m), halved m (2 ^ x) index (e ∙ ap (λ (p : ℕ). suc m * p) (power_double x)))

-- a node that has a slot has each slot before it
doubled : (m power n : ℕ) → n ≡ m * (power + power) → n ≡ (m + m) * power
doubled m power n e = omega arith

pub fewer_divides : (x index : ℕ) → Divides (suc x) index → Divides x index
fewer_divides x index (m, e) = (m + m, doubled m (2 ^ x) index (e ∙ ap (λ (p : ℕ). m * p) (power_double x)))

-- the same of the slots that nodes have
pub half_slot : (x i j : ℕ) → i - 2 ^ x ≡ suc j → HasSlot i (suc x) → HasSlot (suc j) x
half_slot x i j e has = (omega (arith, has.0), omega arith, subst (Divides x) e (half_divides x i has.2))

pub fewer_slots : (x index : ℕ) → HasSlot index (suc x) → HasSlot index x
fewer_slots x index has = (omega (arith, has.0), has.1, fewer_divides x index has.2)

-- the node before a slot is not the first one, where there is a slot more
pub some_before : (x i : ℕ) → HasSlot (suc i) (suc x) → 2 ^ x ≤ i
some_before x i has = omega (arith, divides_least (suc x) (suc i) (omega arith) has.2, power_double x, pow_pos x)

-- so many nodes before, in two parts of the same length
pub back_twice : (f : Blocks) (x block : ℕ) → back f (back f block (2 ^ x)) (2 ^ x) ≡ back f block (2 ^ suc x)
back_twice f x block = back_back f (2 ^ x) (2 ^ x) block ∙ ap (back f block) (sym (power_double x))
