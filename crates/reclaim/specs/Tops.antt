-- The last pointers of body nodes: what each node has at the last slot of its index, and what other nodes tell of it.
use Rattle.std.specs.Prelude.{◌≡◌, ◌≢◌, ℕ, zero, suc, ◌≤◌, Bool, true, false, Option, Some, None, List, [], ◌∷◌, ◌++◌, length, slice_index, take, Contains, if◌then◌else◌}
use Rattle.std.specs.List.{flat_map}
use Rattle.std.specs.FinSet as set
use Rattle.node_format.specs.declared.headers.TheConstants.{SLOTS}
use Rattle.nodes.specs.Bodies.{Blocks, index_of, pointer_of}
use Rattle.reclaim.specs.Naming.{has_slot}
use Rattle.reclaim.specs.Passes.{Pass}
use Rattle.reclaim.specs.declared.tops.Tops.{Tops}

-- what stands at the last of the slots below n that an index has; 0 where it has none of these
unfoldable pub top_below : (ℕ → ℕ) → ℕ → ℕ → ℕ
top_below pointer index zero = 0
top_below pointer index (suc x) = if has_slot index x then pointer x else top_below pointer index x

-- at the last slot of an index; 0 where there is no index
abbrev pub top_by : (ℕ → ℕ) → Option ℕ → ℕ
top_by pointer None = 0
top_by pointer (Some index) = top_below pointer index SLOTS

-- of a node
abbrev pub top_of : Option (List ℕ) → ℕ
top_of node = top_by (pointer_of node) (index_of node)

-- what the slots of an index below n tell, with the slot after each: a block, and what the last slot of the node in it names
unfoldable pub steps_below : (ℕ → ℕ) → ℕ → ℕ → List (ℕ × ℕ)
steps_below pointer index zero = []
steps_below pointer index (suc x) = if has_slot index (suc x) then steps_below pointer index x ++ (pointer x, pointer (suc x)) ∷ [] else steps_below pointer index x

-- what all slots of an index tell
abbrev pub steps_by : (ℕ → ℕ) → Option ℕ → List (ℕ × ℕ)
steps_by pointer None = []
steps_by pointer (Some index) = steps_below pointer index 15

-- of a node
abbrev pub steps_of : Option (List ℕ) → List (ℕ × ℕ)
steps_of node = steps_by (pointer_of node) (index_of node)

-- the node in a block has at its last slot the block that was told of it
abbrev pub FitsTop : (ℕ → ℕ) → ℕ × ℕ → Type 0
FitsTop top told = (told.1 ≢ 0) × (top told.0 ≡ told.1)

-- all that was told
abbrev pub FitTops : (ℕ → ℕ) → List (ℕ × ℕ) → Type 0
FitTops top told = (one : ℕ × ℕ) → Contains told one → FitsTop top one

-- the words and the set are of a flash of so many blocks
pub record HasSize (blocks : ℕ) (t : Tops) : Type 0 where
  pub words : length t.words ≡ blocks
  pub read : t.read.blocks ≡ blocks

-- the word of a block that was read is what its node has at its last slot, and that of another what was told of it
pub record KeepsTops (top : ℕ → ℕ) (seen : List ℕ) (told : List (ℕ × ℕ)) (t : Tops) : Type 0 where
  pub beyond : (b : ℕ) → length t.words ≤ b → top b ≡ 0
  pub all : (b : ℕ) → Contains seen b → set.contains t.read.members b ≡ true
  pub read : (b : ℕ) → set.contains t.read.members b ≡ true → slice_index t.words b ≡ top b
  pub kept : (one : ℕ × ℕ) → Contains told one → (one.1 ≢ 0) × (slice_index t.words one.0 ≡ one.1)
  pub from : (b : ℕ) → set.contains t.read.members b ≡ false → slice_index t.words b ≢ 0 → Contains told (b, slice_index t.words b)

-- what a node tells of others was taken in: it is kept, or not all that was told can be so
pub record TakesSteps (steps : List (ℕ × ℕ)) (old new : Tops) (good : Bool) : Type 0 where
  pub kept : (top : ℕ → ℕ) (seen : List ℕ) (told : List (ℕ × ℕ)) → KeepsTops top seen told old → good ≡ true → KeepsTops top seen (told ++ steps) new
  pub bad : (top : ℕ → ℕ) (seen : List ℕ) (told : List (ℕ × ℕ)) → KeepsTops top seen told old → good ≡ false → FitTops top (told ++ steps) → ⊥

-- and what the node in a block has at its own last slot
pub record TakesTop (block own : ℕ) (steps : List (ℕ × ℕ)) (old new : Tops) (good : Bool) : Type 0 where
  pub kept : (top : ℕ → ℕ) (seen : List ℕ) (told : List (ℕ × ℕ)) → KeepsTops top seen told old → top block ≡ own → good ≡ true → KeepsTops top (seen ++ block ∷ []) (told ++ steps) new
  pub bad : (top : ℕ → ℕ) (seen : List ℕ) (told : List (ℕ × ℕ)) → KeepsTops top seen told old → top block ≡ own → good ≡ false → FitTops top (told ++ steps) → ⊥

-- what the nodes that a pass has read told
abbrev pub steps_read : Blocks → Pass → List (ℕ × ℕ)
steps_read f p = flat_map (λ b. steps_of (f b)) (take p.next p.order)

-- is kept
abbrev pub TopsAreTold : Blocks → Pass → Tops → Type 0
TopsAreTold f p t = KeepsTops (λ b. top_of (f b)) (take p.next p.order) (steps_read f p) t
