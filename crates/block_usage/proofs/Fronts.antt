-- The first page of a node of a body has the block of the node before it.
use Rattle.std.proofs.Common.{◌≡◌, ℕ, suc, ◌+◌, ◌≤◌, Bool, true, false, cond, eqb, ltb, leb, Option, Some, None, List, length, refl, sym, ◌∙◌, arith}
use Rattle.node_format.specs.Headers.{field, body_magic, body_size, IsNode}
use Rattle.nodes.specs.Parts.{IsFront}
use Rattle.nodes.specs.FrontLaws.{front_at}
use Rattle.nodes.specs.Bodies.{index_of, pointer_of}

number_is : (m n : ℕ) → (let o : Option ℕ = Some m in o ≡ Some n) → m ≡ n
number_is m n e = cc

passed : (b : Bool) (x y : ℕ) → cond b (Some x) None ≡ Some y → (b ≡ true) × (x ≡ y)
passed true x y e = (refl, number_is x y e)
passed false x y e = absurd cc

size_parts : (limit used size : ℕ) → body_size limit used ≡ Some size → size ≡ 80 + used
size_parts limit used size e = on (ltb 0 used) refl (leb (80 + used) limit) e
  where
    on : (b : Bool) → ltb 0 used ≡ b → (c : Bool) → cond b (cond c (Some (80 + used)) None) None ≡ Some size → size ≡ 80 + used
    on true is c e = sym (passed c (80 + used) size e).1
    on false is c e = absurd cc

body_long : (limit index : ℕ) (bytes : List ℕ) → IsNode limit bytes → index_of (Some bytes) ≡ Some index → 80 ≤ length bytes
body_long limit index bytes whole indexed =
    let magic = passed (eqb (field bytes 0) body_magic) (field bytes 4) index indexed in
    let sized : body_size limit (field bytes 8) ≡ Some (length bytes) = sym (rw magic.0 refl) ∙ whole in
    omega (arith, size_parts limit (field bytes 8) (length bytes) sized)

front_number : (page : ℕ) (front bytes : List ℕ) → IsFront page front bytes → (place : ℕ) → place + 4 ≤ page → place + 4 ≤ length bytes → field front place ≡ field bytes place
front_number page front bytes is place within below =
    let a = front_at page front bytes is place (omega arith) (omega arith) in
    let b = front_at page front bytes is (suc place) (omega arith) (omega arith) in
    let c = front_at page front bytes is (suc (suc place)) (omega arith) (omega arith) in
    let d = front_at page front bytes is (suc (suc (suc place))) (omega arith) (omega arith) in
    rw (a, b, c, d) refl

pub front_before : (page limit index : ℕ) (held : Option (List ℕ)) (front : List ℕ) → 256 ≤ page → ((bytes : List ℕ) → held ≡ Some bytes → IsFront page front bytes)
    → ((bytes : List ℕ) → held ≡ Some bytes → IsNode limit bytes) → index_of held ≡ Some index → field front 16 ≡ pointer_of held 0
front_before page limit index None front least begins whole indexed = absurd cc
front_before page limit index (Some bytes) front least begins whole indexed =
    let long = body_long limit index bytes (whole bytes refl) indexed in
    front_number page front bytes (begins bytes refl) 16 (omega (arith, least)) (omega (arith, long))
