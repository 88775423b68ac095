-- The bodies of files: lists of nodes, each with pointers to nodes before it. `capacity` is the number of
-- data bytes that a node has where it is full.
use Rattle.std.specs.Prelude.{◌≡◌, ℕ, zero, suc, ◌+◌, ◌-◌, ◌*◌, ◌/◌, ◌^◌, ◌≤◌, ◌==◌, Option, Some, None, List, [], ◌++◌, length, take, drop, if◌then◌else◌}
use Rattle.node_format.specs.Headers.{field, body_header, body_magic}
use Rattle.node_format.specs.BodyNodes.{HasSlot}

-- the bytes of the node in each block, none where it holds none
abbrev pub Blocks : Type 0
Blocks = ℕ → Option (List ℕ)

-- a body node's index in its file
abbrev pub index_of : Option (List ℕ) → Option ℕ
index_of None = None
index_of (Some bytes) = if field bytes 0 == body_magic then Some (field bytes 4) else None

-- the block that slot `x` of a body node names
abbrev pub pointer_of : Option (List ℕ) → ℕ → ℕ
pointer_of None x = 0
pointer_of (Some bytes) x = field bytes (16 + 4 * x)

-- the data bytes of a body node
abbrev pub data_of : Option (List ℕ) → List ℕ
data_of None = []
data_of (Some bytes) = drop body_header bytes

-- the block that slot 0 leads to in so many steps
abbrev pub back : Blocks → ℕ → ℕ → ℕ
back f block zero = block
back f block (suc n) = back f (pointer_of (f block) 0) n

-- the data of the nodes from index 0 to the node of this index in a block
abbrev pub data_to : Blocks → ℕ → ℕ → List ℕ
data_to f zero block = data_of (f block)
data_to f (suc i) block = data_to f i (pointer_of (f block) 0) ++ data_of (f block)

-- slot 0 leads from the node of an index in a block down to index 0, through full nodes
abbrev pub IsChain : ℕ → Blocks → ℕ → ℕ → Type 0
IsChain capacity f zero block = index_of (f block) ≡ Some 0
IsChain capacity f (suc i) block = (index_of (f block) ≡ Some (suc i)) × (length (data_of (f (pointer_of (f block) 0))) ≡ capacity) × IsChain capacity f i (pointer_of (f block) 0)

-- the index of a file's last node
abbrev pub head_index : ℕ → ℕ → ℕ
head_index capacity size = (size - 1) / capacity

-- the bytes of a file of this head and length; bytes that an earlier length left behind are not shown
abbrev pub body : ℕ → Blocks → ℕ → ℕ → List ℕ
body capacity f head zero = []
body capacity f head (suc n) = take (suc n) (data_to f (head_index capacity (suc n)) head)

-- each slot x that a node has names the node 2 to the x before it, which slot 0 leads to
abbrev pub IsLinked : Blocks → ℕ → ℕ → Type 0
IsLinked f zero block = Unit {0}
IsLinked f (suc i) block = ((x : ℕ) → HasSlot (suc i) x → pointer_of (f block) x ≡ back f block (2 ^ x)) × IsLinked f i (pointer_of (f block) 0)

-- a file of this head and length has a body: an empty one has head 0 and no node
abbrev pub IsBody : ℕ → Blocks → ℕ → ℕ → Type 0
IsBody capacity f head zero = head ≡ 0
IsBody capacity f head (suc n) =
    IsChain capacity f (head_index capacity (suc n)) head × (suc n ≤ length (data_to f (head_index capacity (suc n)) head))
    × IsLinked f (head_index capacity (suc n)) head
