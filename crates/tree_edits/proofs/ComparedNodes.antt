-- A node of a body, beside the part of the bytes that it is compared with.
use Rattle.std.proofs.Common.{◌≡◌, ℕ, ◌+◌, ◌-◌, ◌*◌, ◌/◌, ◌<◌, ◌≤◌, min, List, length, take, drop, sym, ap, ◌∙◌, arith}
use Rattle.std.proofs.lemmas.List.{length-take-le, length-drop}
use Rattle.nodes.specs.Bodies.{Blocks, data_of, back, body, IsBody}
use Rattle.tree_edits.proofs.Growth.{starts_within}
use Rattle.tree_edits.proofs.Kept.{part_of}

abbrev pub part_at : ℕ → ℕ → List ℕ → List ℕ
part_at start n bytes = take (start + n - start) (drop start bytes)

pub record IsCompared (capacity : ℕ) (f h : Blocks) (head size index n block : ℕ) (bytes : List ℕ) : Type 0 where
  pub within : index * capacity < size
  pub count : length (part_at (index * capacity) n bytes) ≡ n
  pub long : n ≤ length (data_of (h block))
  pub shown : take (length (part_at (index * capacity) n bytes)) (data_of (h block)) ≡ part_at (index * capacity) n (body capacity f head size)

-- the node was found where all nodes are as before
pub compared_with : (capacity : ℕ) (f h : Blocks) (head size index n block : ℕ) (bytes : List ℕ) → 0 < capacity → 0 < size → IsBody capacity f head size → index ≤ (size - 1) / capacity → n ≡ min capacity (size - index * capacity)
    → length bytes ≡ size → h ≡ f → block ≡ back f head ((size - 1) / capacity - index) → IsCompared capacity f h head size index n block bytes
compared_with capacity f h head size index n block bytes least some is below n_is counted same found =
    let start : ℕ = index * capacity in
    let within : start < size = starts_within capacity index size least some (omega arith) in
    let part = part_of capacity f head size index n block least is (omega arith) (omega arith) (omega arith) found in
    let n_again : start + n - start ≡ n = omega arith in
    let count : length (part_at start n bytes) ≡ n = length-take-le (start + n - start) (drop start bytes) (omega (arith, length-drop start bytes)) ∙ n_again in
    record {
      within = within;
      count = count;
      long = omega (arith, part.long, ap (λ (k : Blocks). length (data_of (k block))) same);
      shown = ap (λ (k : ℕ). take k (data_of (h block))) count ∙ ap (λ (k : Blocks). take n (data_of (k block))) same ∙ part.bytes
          ∙ ap (λ (k : ℕ). take k (drop start (body capacity f head size))) (sym n_again);
    }
