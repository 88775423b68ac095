-- Trees of which all paths may be kept, and all that has a block of its own looked up.
use Rattle.std.specs.Prelude.{◌≡◌, ◌⊎◌, ◌<◌, ℕ, ◌+◌, Option, Some, None}
use Rattle.plain_trees.specs.Trees.{Tree}
use Rattle.inquiries.specs.Owners.{HasFewOwners}
use Rattle.inquiries.specs.PathBytes.{HasShortPaths}
use Rattle.inquiries.specs.declared.path_room.Room.{Room}

-- its paths have few enough bytes, and few enough lead to what has a block of its own
pub record IsListable (t : Tree) : Type 0 where
  pub paths : HasShortPaths t
  pub owners : HasFewOwners t

-- so many are left by so many; none where these are more
abbrev pub IsLeft : ℕ → ℕ → Option ℕ → Type 0
IsLeft all taken (Some left) = left + taken ≡ all
IsLeft all taken None = all < taken

-- so much room is left by so many bytes of paths and so many owners; none where one of these is more
abbrev pub IsRoomLeft : Room → ℕ → ℕ → Option Room → Type 0
IsRoomLeft room bytes owners (Some left) = (left.bytes + bytes ≡ room.bytes) × (left.owners + owners ≡ room.owners)
IsRoomLeft room bytes owners None = (room.bytes < bytes) ⊎ (room.owners < owners)
