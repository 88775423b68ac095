-- Reading a range of a file's bytes: which pointers lead to its last node, and how many nodes hold it.
use Rattle.std.specs.Prelude.{◌≡◌, ◌<◌, List, length, slice_index, ℕ, ◌+◌, ◌-◌, ◌/◌, ◌%◌, ◌^◌, ◌≤◌, min, nat_lt, if◌then◌else◌, Option, Some}
use Rattle.std.specs.Option.{option_map}
use Rattle.nodes.specs.Bodies.{Blocks, back, data_to, head_index, IsBody, IsChain}
use Rattle.node_format.specs.Headers.{body_header}
use Rattle.node_format.specs.BodyNodes.{HasSlot}
use Rattle.node_format.specs.declared.headers.TheConstants.{SLOTS}
use Rattle.tree_edits.specs.declared.file_body.Body.{Body}
use Rattle.tree_edits.specs.declared.known_node.KnownNode.{KnownNode}
use Rattle.tree_edits.specs.declared.range_reads.TheConstants.{LEAST_SCAN}

-- slot x, which the node of index i has, leads towards index j, and not past it
abbrev pub IsUseful : ℕ → ℕ → ℕ → Type 0
IsUseful x i j = HasSlot i x × (j + 2 ^ x ≤ i)

-- it is the one that leads farthest
abbrev pub IsLargest : ℕ → ℕ → ℕ → Type 0
IsLargest x i j = IsUseful x i j × ((y : ℕ) → IsUseful y i j → y ≤ x)

-- an index has at most so many binary digits, and no more than a node has slots: each file's has at most 13
abbrev pub HasDigits : ℕ → ℕ → Type 0
HasDigits index digits = (digits ≤ SLOTS) × (index < 2 ^ digits)

-- how many nodes hold the bytes from one place to another
abbrev pub nodes_between : ℕ → ℕ → ℕ → ℕ
nodes_between capacity from to = if nat_lt from to then (to - 1) / capacity + 1 - from / capacity else 0

-- how many nodes hold what is read from an offset on of a file of this length, at most so many bytes
abbrev pub nodes_of_range : ℕ → ℕ → ℕ → ℕ → ℕ
nodes_of_range capacity size offset count = nodes_between capacity offset (min size (offset + count))

-- the bytes that are read of a file of this length are in one node; where they begin with its first byte, they are too few
-- for a scan and not the last of the file
pub record IsPartOfNode (capacity size offset count : ℕ) : Type 0 where
  pub some : offset < min size (offset + count)
  pub one_node : offset / capacity ≡ (min size (offset + count) - 1) / capacity
  pub few : offset % capacity ≡ 0 → (count < LEAST_SCAN) × (offset + count < size)

-- the block of the node that holds the byte at an offset
abbrev pub block_of_byte : Blocks → ℕ → Body → ℕ → ℕ
block_of_byte f capacity body offset = back f body.head (head_index capacity body.length - offset / capacity)

-- the node of an index of a body is in this block
pub record IsNodeOf (capacity : ℕ) (f : Blocks) (body : Body) (node : KnownNode) : Type 0 where
  pub within : node.index ≤ head_index capacity body.length
  pub there : node.block ≡ back f body.head (head_index capacity body.length - node.index)

-- the known node holds the last of what is read from an offset on of a file of this length, at most so many bytes
abbrev pub IsAtHand : ℕ → ℕ → Option KnownNode → ℕ → ℕ → Type 0
IsAtHand capacity size known offset count = option_map (λ node. node.index) known ≡ Some ((min size (offset + count) - 1) / capacity)

-- the chain from a block has the bytes from a start to an end, and the last of them is in the block's node
pub record HoldsRange (capacity : ℕ) (f : Blocks) (start end block : ℕ) : Type 0 where
  pub order : start < end
  pub chain : IsChain capacity f ((end - 1) / capacity) block
  pub within : end ≤ length (data_to f ((end - 1) / capacity) block)

-- blocks of the last nodes of a body, from its head back
abbrev pub AreBlocks : Blocks → ℕ → List ℕ → Type 0
AreBlocks f head blocks = (k : ℕ) → k < length blocks → slice_index blocks k ≡ back f head k

-- a body is whole in blocks of this limit, whose nodes have so many data bytes
pub record HoldsBody (limit : ℕ) (f : Blocks) (capacity : ℕ) (body : Body) : Type 0 where
  pub capacity_is : capacity ≡ limit - body_header
  pub least : 0 < capacity
  pub whole : IsBody capacity f body.head body.length

-- a call asks the flash for at most one page for each read
abbrev pub AsksPageEach : {S : Type 0} → (S → ℕ) → (S → ℕ) → S → S → Type 0
AsksPageEach asked reads old new = asked new + reads old ≤ asked old + reads new
