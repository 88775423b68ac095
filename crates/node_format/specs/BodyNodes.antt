-- The bytes of a body node: a header, 16 slots, and data; numbers are little-endian.
use Rattle.std.specs.Prelude.{◌≡◌, ℕ, ◌+◌, ◌*◌, ◌^◌, ◌<◌, ◌≤◌, List, length, drop, slice_index}
use Rattle.node_format.specs.Headers.{field, body_header, body_magic}
use Rattle.node_format.specs.declared.headers.TheConstants.{SLOTS}

-- the bytes are those of one body node: the magic, and as many data bytes as its header says, at least one
pub record IsBodyNode (bytes : List ℕ) : Type 0 where
  pub magic : field bytes 0 ≡ body_magic
  pub some : 1 ≤ field bytes 8
  pub size : length bytes ≡ body_header + field bytes 8

-- 2 to the x divides the index
abbrev pub Divides : ℕ → ℕ → Type 0
Divides x index = (m : ℕ) × (index ≡ m * 2 ^ x)

-- the node of an index has a pointer at slot x, of 16, where 2 to the x divides the index; the first node has none
abbrev pub HasSlot : ℕ → ℕ → Type 0
HasSlot index x = (x < SLOTS) × (0 < index) × Divides x index

-- the number in a slot of the node of an index: the pointer where the index has that slot, else 0
pub record IsSlot (index : ℕ) (pointers : List ℕ) (x number : ℕ) : Type 0 where
  pub pointer : HasSlot index x → number ≡ slice_index pointers x
  pub empty : (HasSlot index x → ⊥) → number ≡ 0

-- the bytes spell the body node of an index, with pointers in the slots that it has, 0 in the others, and data
pub record IsBodySpelling (bytes : List ℕ) (index : ℕ) (pointers data_bytes : List ℕ) : Type 0 where
  pub node : IsBodyNode bytes
  pub index_is : field bytes 4 ≡ index
  pub used : field bytes 8 ≡ length data_bytes
  pub unread : field bytes 12 ≡ 0
  pub slots : (x : ℕ) → x < SLOTS → IsSlot index pointers x (field bytes (16 + 4 * x))
  pub size : length bytes ≡ body_header + length data_bytes
  pub data_is : drop body_header bytes ≡ data_bytes
