-- The bytes of a node that has an index.
use Rattle.std.proofs.Common.{◌≡◌, ℕ, ◌+◌, ◌-◌, ◌≤◌, Bool, true, false, eqb, cond, Option, Some, None, List, length, if◌then◌else◌, refl, sym, ap, ◌∙◌, arith, length-drop}
use Rattle.std.specs.Prelude.{nat_le, nat_lt}
use Rattle.std.proofs.lemmas.Bool.{leb-true}
use Rattle.node_format.specs.Headers.{field, body_header, body_magic, directory_magic, chain_magic, body_size, directory_size, IsNode}
use Rattle.nodes.specs.Bodies.{index_of, data_of}

if_some : {A : Type 0} (b : Bool) (o : Option A) (x : A) → (if b then o else None) ≡ Some x → (b ≡ true) × (o ≡ Some x)
if_some true o x e = (refl, e)
if_some false o x e = absurd cc

some_is : (x y : ℕ) → (let a : Option ℕ = Some x in let b : Option ℕ = Some y in a ≡ b) → x ≡ y
some_is x y e = cc

-- the data of a body node fit in its block
pub data_fits : (block : ℕ) (node : Option (List ℕ)) (i : ℕ) → ((bytes : List ℕ) → node ≡ Some bytes → IsNode block bytes) → index_of node ≡ Some i → length (data_of node) ≤ block - body_header
data_fits block None i whole is = omega arith
data_fits block (Some bytes) i whole is =
    let magic = if_some (eqb (field bytes 0) body_magic) (Some (field bytes 4)) i is in
    let size : body_size block (field bytes 8) ≡ Some (length bytes) =
    sym (ap (λ (b : Bool). cond b (body_size block (field bytes 8)) (cond (eqb (field bytes 0) directory_magic) (directory_size block (field bytes 4) (field bytes 8)) (cond (eqb (field bytes 0) chain_magic) (directory_size block (field bytes 4) (field bytes 8)) None))) magic.0) ∙ whole bytes refl in
    let used = if_some (nat_lt 0 (field bytes 8)) _ (length bytes) size in
    let within = if_some (nat_le (body_header + field bytes 8) block) (Some (body_header + field bytes 8)) (length bytes) used.1 in
    let is_whole : body_header + field bytes 8 ≡ length bytes = some_is (body_header + field bytes 8) (length bytes) within.1 in
    let most : body_header + field bytes 8 ≤ block = leb-true (body_header + field bytes 8) block within.0 in
    omega (arith, length-drop body_header bytes)
