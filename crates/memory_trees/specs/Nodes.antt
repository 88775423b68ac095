-- A node by its bytes.
use Rattle.std.specs.Prelude.{◌≡◌, ℕ, Option, Some, None, List, refl}
use Rattle.plain_trees.specs.Contents.{Entry}
use Rattle.plain_trees.specs.Contents.Entry.{Dir, File}

-- a directory has no bytes
abbrev pub entry_of : Option (List ℕ) → Entry
entry_of None = Dir
entry_of (Some bytes) = File bytes

abbrev pub bytes_in : Entry → Option (List ℕ)
bytes_in Dir = None
bytes_in (File bytes) = Some bytes

pub entry_of-bytes_in : (x : Entry) → entry_of (bytes_in x) ≡ x
entry_of-bytes_in Dir = refl
entry_of-bytes_in (File bytes) = refl
