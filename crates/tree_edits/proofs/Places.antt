-- Which powers of 2 divide an index.
use Rattle.std.proofs.Common.{◌≡◌, ℕ, ◌+◌, ◌-◌, ◌*◌, ◌/◌, ◌%◌, ◌^◌, ◌<◌, ◌≤◌, ◌⊎◌, inl, inr, Option, Some, List, ap, ◌∙◌, arith}
use Rattle.std.proofs.lemmas.Bool.{cases_lt}
use Rattle.std.proofs.lemmas.Nat.{pow_pos, pow-add, mod-mul-add, div-add-mod'}
use Rattle.node_format.specs.BodyNodes.{HasSlot, Divides}
use Rattle.nodes.specs.Bodies.{index_of}

-- ---- which powers of 2 divide an index

pub divides_by : (x index : ℕ) → index % 2 ^ x ≡ 0 → Divides x index
divides_by x index e = (index / 2 ^ x, omega (arith, div-add-mod' index (2 ^ x)))

pub split_power : (p x : ℕ) → p ≤ x → 2 ^ x ≡ 2 ^ (x - p) * 2 ^ p
split_power p x le = let sum : x ≡ x - p + p = omega arith in ap (λ (n : ℕ). 2 ^ n) sum ∙ pow-add 2 (x - p) p

multiple : (m a b n : ℕ) → n ≡ m * (a * b) → 0 < b → n % b ≡ 0
multiple m a b n e some =
    let again : n ≡ m * a * b + 0 = omega arith in
    ap (λ (k : ℕ). k % b) again ∙ mod-mul-add (m * a) b 0 some

pub divides_below : (x place index : ℕ) → (index % 2 ^ place ≡ 0 → ⊥) → Divides x index → x < place
divides_below x place index not (m, e) = on (cases_lt x place)
  where
    on : (x < place) ⊎ (place ≤ x) → x < place
    on (inl lt) = lt
    on (inr le) = absurd (not (multiple m (2 ^ (x - place)) (2 ^ place) index (e ∙ ap (λ (p : ℕ). m * p) (split_power place x le)) (pow_pos place)))

-- ---- one slot

-- a body node has a pointer at a slot
abbrev pub HasPointer : Option (List ℕ) → ℕ → Type 0
HasPointer node x = (i : ℕ) × (index_of node ≡ Some i) × HasSlot i x
