-- What the beginning of a node tells of it.
use Rattle.std.specs.Prelude.{◌≡◌, ℕ, ◌<◌, ◌≤◌, List, length, take, slice_index, refl}
use Rattle.std.proofs.Common.{sym, ◌∙◌, ap, arith, get_or-take}
use Rattle.std.proofs.lemmas.List.{take_all}
use Rattle.node_format.specs.Headers.{node_size}
use Rattle.nodes.specs.Parts.{IsFront}
use Rattle.nodes.specs.SizeLaws.{node_size-take}

module _ (page : ℕ) (front bytes : List ℕ) (is : IsFront page front bytes) where
  -- within the first page the front has the bytes of the node
  pub front_at : (i : ℕ) → i < page → i < length bytes → slice_index front i ≡ slice_index bytes i
  front_at i within below =
      let enough = is.enough in
      sym (get_or-take (length bytes) front i 0 below) ∙ ap (λ (l : List ℕ). slice_index l i) is.alike
      ∙ get_or-take (length front) bytes i 0 (omega arith)

  -- it tells the size of the node
  pub front_size : (block : ℕ) → 12 ≤ page → 12 ≤ length bytes → node_size block front ≡ node_size block bytes
  front_size block room header =
      let enough = is.enough in
      sym (node_size-take block (length bytes) front header) ∙ ap (node_size block) is.alike
      ∙ node_size-take block (length front) bytes (omega arith)

  -- a front that is as long as the node has it whole
  pub front_whole : length bytes ≤ length front → take (length bytes) front ≡ bytes
  front_whole covers = is.alike ∙ take_all (length front) bytes covers

-- a node is its own front
pub front_itself : (page : ℕ) (bytes : List ℕ) → IsFront page bytes bytes
front_itself page bytes = record { alike = refl; enough = omega arith }
