-- Reading a part of a body node's data, and of a range that one node holds.
use Rattle.std.proofs.Common.{◌≡◌, ℕ, ◌+◌, ◌-◌, ◌*◌, ◌/◌, ◌%◌, ◌<◌, ◌≤◌, Option, Some, None, Result, Ok, Err, List, length, take, drop, refl, sym, ap, ◌∙◌, arith}
use Rattle.std.specs.Prelude.{max, OnOk}
use Rattle.std.proofs.lemmas.List.{length-drop, drop-drop}
use Rattle.fs_types.specs.declared.fault.Fault.{Fault}
use Rattle.node_format.specs.Headers.{body_header, IsNode}
use Rattle.nodes.specs.SizeLaws.{size_within}
use Rattle.nodes.specs.Parts.{HasPart, LacksPart}
use Rattle.nodes.specs.Bodies.{index_of, data_of}
use Rattle.tree_edits.proofs.Chains.{body_at}

-- a node has so many data bytes from a place on
pub record HoldsData (limit : ℕ) (held : Option (List ℕ)) (from count : ℕ) : Type 0 where
  pub bytes : List ℕ
  pub is : held ≡ Some bytes
  pub fits : body_header + from + count ≤ length bytes
  pub most : length bytes ≤ limit

pub holds_data : (limit index from count : ℕ) (held : Option (List ℕ)) → ((bytes : List ℕ) → held ≡ Some bytes → IsNode limit bytes)
    → index_of held ≡ Some index → from + count ≤ length (data_of held) → HoldsData limit held from count
holds_data limit index from count None whole indexed within = cc
holds_data limit index from count (Some bytes) whole indexed within =
    let at = body_at limit index (Some bytes) bytes refl (whole bytes refl) indexed in
    record {
      bytes = bytes;
      is = refl;
      fits = omega (arith, at.is_node.size, length-drop body_header bytes);
      most = (size_within limit (length bytes) bytes (whole bytes refl)).most;
    }

module _ (limit : ℕ) (held : Option (List ℕ)) (from count : ℕ) (has : HoldsData limit held from count) where
  -- the bytes that are copied are those of its data
  pub data_copied : (out : List ℕ) (result : Result (Unit {0}) Fault) → OnOk result (HasPart held (body_header + from) count out)
      → OnOk result (out ≡ take count (drop from (data_of held)))
  data_copied out (Err fault) copied = tt
  data_copied out (Ok u) copied =
      copied has.bytes has.is has.fits ∙ ap (take count) (sym (drop-drop from body_header has.bytes))
      ∙ ap (λ (o : Option (List ℕ)). take count (drop from (data_of o))) (sym has.is)

  -- so it does not lack them
  pub data_lacks : LacksPart held (body_header + from) count → ⊥
  data_lacks lacks = let short = lacks has.bytes has.is in let fits = has.fits in omega arith

-- where one node holds the bytes from a start to an end
pub record IsWithinOne (capacity start end from : ℕ) : Type 0 where
  pub from_is : from ≡ start
  pub place_is : from - (end - 1) / capacity * capacity ≡ start % capacity
  pub first : (end - 1) / capacity * capacity ≤ start

pub within_one : (capacity start end from : ℕ) → 0 < capacity → start / capacity ≡ (end - 1) / capacity → from ≡ max start ((end - 1) / capacity * capacity)
    → IsWithinOne capacity start end from
within_one capacity start end from some one is =
    let begins : start / capacity * capacity ≡ (end - 1) / capacity * capacity = ap (λ (n : ℕ). n * capacity) one in
    record { from_is = omega arith; place_is = omega arith; first = omega arith }
