-- The header of a node: 16 bytes, and in a body node its slots after them; numbers are little-endian.
use Rattle.std.specs.Prelude.{◌≡◌, ℕ, ◌+◌, ◌==◌, nat_lt, nat_le, Option, Some, None, List, length, codes, if◌then◌else◌}
use Rattle.byteorder.specs.Endian.{little_from}
use Rattle.fs_types.specs.declared.limits.TheConstants.{NODE_ENTRIES}

-- how many bytes a body node has before its data: the first 16, and 16 slots of 4 bytes
abbrev pub body_header : ℕ
body_header = 80

-- how many bytes a node of a directory has before its entries
abbrev pub directory_header : ℕ
directory_header = 16

-- the number in the four bytes from an offset
abbrev pub field : List ℕ → ℕ → ℕ
field bytes offset = little_from offset 4 bytes

-- a body node's first 16 bytes: magic, index, used bytes, zero
abbrev pub body_magic : ℕ
body_magic = little_from 0 4 (codes "UFNB")

-- the first 16 bytes of a directory's only node: magic, count of entries, used bytes, zero
abbrev pub directory_magic : ℕ
directory_magic = little_from 0 4 (codes "UFND")

-- the first 16 bytes of a node of a chain: magic, count of entries, used bytes, the block of the node after it (0: none)
abbrev pub chain_magic : ℕ
chain_magic = little_from 0 4 (codes "UFNE")

-- a body node uses at least one byte, and fits in its block
abbrev pub body_size : ℕ → ℕ → Option ℕ
body_size block used = if nat_lt 0 used then (if nat_le (body_header + used) block then Some (body_header + used) else None) else None

-- a node of a directory has at most 32 entries, and fits in its block
abbrev pub directory_size : ℕ → ℕ → ℕ → Option ℕ
directory_size block count used = if nat_le count NODE_ENTRIES then (if nat_le (directory_header + used) block then Some (directory_header + used) else None) else None

-- the size of the node that begins with these bytes, in a block of so many; none where its header is not well formed
abbrev pub node_size : ℕ → List ℕ → Option ℕ
node_size block bytes =
    if field bytes 0 == body_magic then body_size block (field bytes 8)
    else if field bytes 0 == directory_magic then directory_size block (field bytes 4) (field bytes 8)
    else if field bytes 0 == chain_magic then directory_size block (field bytes 4) (field bytes 8)
    else None

-- the bytes are those of one node, in a block of so many
abbrev pub IsNode : ℕ → List ℕ → Type 0
IsNode block bytes = node_size block bytes ≡ Some (length bytes)
