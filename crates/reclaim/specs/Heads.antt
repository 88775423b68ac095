-- The heads of files: what entries tell of the lengths of these, and what the nodes in them have.
use Rattle.std.specs.Prelude.{◌≡◌, ◌≢◌, ℕ, zero, suc, ◌+◌, ◌*◌, ◌^◌, ◌<◌, ◌==◌, ◌&&◌, nat_le, nat_lt, Bool, true, false, Option, is_some, List, [], ◌∷◌, ◌++◌, length, slice_index, take, Contains, if◌then◌else◌}
use Rattle.std.specs.List.{flat_map}
use Rattle.std.specs.Option.{option_map_or}
use Rattle.std.specs.FinSet as set
use Rattle.fs_types.specs.declared.limits.TheConstants.{MAX_FILE_BYTES}
use Rattle.node_format.specs.declared.place.Place.{Place}
use Rattle.node_format.specs.declared.place.Place.TheVariants.{Dir, File}
use Rattle.nodes.specs.Bodies.{Blocks, index_of, pointer_of, data_of, head_index}
use Rattle.reclaim.specs.Looks.{places_of}
use Rattle.reclaim.specs.Passes.{Pass}
use Rattle.reclaim.specs.declared.looks.Parts.{Parts}
use Rattle.reclaim.specs.declared.table.Table.{Table}

-- a file of a length ends in the same node as one of a greater length
abbrev pub fits : ℕ → ℕ → ℕ → Bool
fits capacity size most = nat_le size most && (head_index capacity size == head_index capacity most)

-- a number that four bytes can hold, else 0
abbrev pub in_word : ℕ → ℕ
in_word n = if nat_lt n (2 ^ 32) then n else 0

-- the greatest length of a file whose last node has this index and so many data bytes; 0 where there is no index
abbrev pub longest_by : ℕ → Option ℕ → ℕ → ℕ
longest_by capacity index used = option_map_or (λ i. in_word (i * capacity + used)) index 0

-- the greatest length of a file whose head is this node
abbrev pub longest : ℕ → Option (List ℕ) → ℕ
longest capacity node = longest_by capacity (index_of node) (length (data_of node))

-- the bytes of full nodes before the node of an index, where a file can have so many; else 0
abbrev pub length_before : ℕ → Option ℕ → ℕ
length_before capacity index = option_map_or (λ i. if nat_lt (i * capacity) MAX_FILE_BYTES then i * capacity else 0) index 0

-- what is told of the block of the node before: a file of these bytes has its head there
abbrev pub before_told : ℕ → ℕ → List Place
before_told before zero = []
before_told before (suc n) = File before (suc n) ∷ []

-- what parts tell of heads: the entries, and the node before
abbrev pub told_in : ℕ → Parts → List Place
told_in capacity parts = parts.places.items ++ before_told (slice_index parts.pointers.items 0) (length_before capacity parts.index)

-- what a node tells of them
abbrev pub told_by : ℕ → Option (List ℕ) → List Place
told_by capacity node = places_of node ++ before_told (pointer_of node 0) (length_before capacity (index_of node))

-- an entry's file is no longer than its head allows, and ends in it; an empty one has head 0
abbrev pub FitsHead : ℕ → (ℕ → ℕ) → Place → Type 0
FitsHead capacity most (Dir block) = Unit {0}
FitsHead capacity most (File head zero) = head ≡ 0
FitsHead capacity most (File head (suc n)) = fits capacity (suc n) (most head) ≡ true

-- an entry's file is no longer than its head's word in a table says, and ends in the same node
abbrev pub IsKept : ℕ → Table → Place → Type 0
IsKept capacity t (Dir block) = Unit {0}
IsKept capacity t (File head zero) = head ≡ 0
IsKept capacity t (File head (suc n)) =
    (head < t.links.blocks) × (set.contains t.links.members head ≡ false) × (fits capacity (suc n) (slice_index t.words head) ≡ true)

-- a table keeps what entries told of heads, where each block allows a file of so many bytes at most: blocks that were seen are
-- read, the word of one that was read is what it allows, and the word of another is the length of an entry
pub record KeepsHeads (capacity : ℕ) (most : ℕ → ℕ) (seen : List ℕ) (told : List Place) (t : Table) : Type 0 where
  pub beyond : (b : ℕ) → (b < t.links.blocks → ⊥) → most b ≡ 0
  pub links : (b : ℕ) → set.contains t.links.members b ≡ true → most b ≡ 0
  pub all : (b : ℕ) → Contains seen b → set.contains t.read.members b ≡ true
  pub read : (b : ℕ) → set.contains t.read.members b ≡ true → set.contains t.links.members b ≡ false → slice_index t.words b ≡ most b
  pub kept : (place : Place) → Contains told place → IsKept capacity t place
  pub from : (b : ℕ) → set.contains t.links.members b ≡ false → set.contains t.read.members b ≡ false → slice_index t.words b ≢ 0
      → Contains told (File b (slice_index t.words b))

-- all entries of a list
abbrev pub FitHeads : ℕ → (ℕ → ℕ) → List Place → Type 0
FitHeads capacity most told = (place : Place) → Contains told place → FitsHead capacity most place

-- a node with these parts in a block that is not known: the block allows what the parts tell, and nothing where it is one of a
-- directory
pub record IsNew (capacity : ℕ) (most : ℕ → ℕ) (parts : Parts) (block : ℕ) (t : Table) : Type 0 where
  pub allows : most block ≡ longest_by capacity parts.index parts.used
  pub link : is_some parts.edge ≡ true → most block ≡ 0
  pub fresh : set.contains t.links.members block ≡ false

-- a table took in what entries told of the heads of their files: it keeps that, or not all entries can be so
pub record TakesHeads (capacity : ℕ) (entries : List Place) (old new : Table) (good : Bool) : Type 0 where
  pub kept : (most : ℕ → ℕ) (seen : List ℕ) (told : List Place) → KeepsHeads capacity most seen told old → good ≡ true → KeepsHeads capacity most seen (told ++ entries) new
  pub bad : (most : ℕ → ℕ) (seen : List ℕ) (told : List Place) → KeepsHeads capacity most seen told old → good ≡ false → FitHeads capacity most (told ++ entries) → ⊥

-- and what the node in a block allows, which is not known
pub record TakesNode (capacity block : ℕ) (parts : Parts) (old new : Table) (good : Bool) : Type 0 where
  pub kept : (most : ℕ → ℕ) (seen : List ℕ) (told : List Place) → KeepsHeads capacity most seen told old → IsNew capacity most parts block old → good ≡ true
      → KeepsHeads capacity most (seen ++ block ∷ []) (told ++ told_in capacity parts) new
  pub bad : (most : ℕ → ℕ) (seen : List ℕ) (told : List Place) → KeepsHeads capacity most seen told old → IsNew capacity most parts block old → good ≡ false → FitHeads capacity most (told ++ told_in capacity parts) → ⊥

-- a table whose words changed, but those of nodes of directories
pub record KeepsLinks (old new : Table) : Type 0 where
  pub same : new ≡ record old { words = new.words }
  pub count : length new.words ≡ length old.words
  pub stay : (b : ℕ) → set.contains old.links.members b ≡ true → slice_index new.words b ≡ slice_index old.words b

-- what the nodes that a pass has read tell
abbrev pub places_read : ℕ → Blocks → Pass → List Place
places_read capacity f p = flat_map (λ b. told_by capacity (f b)) (take p.next p.order)

-- a table keeps what these told, on blocks of so many data bytes
abbrev pub HeadsAreTold : ℕ → Blocks → Pass → Table → Type 0
HeadsAreTold capacity f p t = KeepsHeads capacity (λ b. longest capacity (f b)) (take p.next p.order) (places_read capacity f p) t
