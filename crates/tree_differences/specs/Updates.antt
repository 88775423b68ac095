-- The calls that bring one tree to another.
use Rattle.std.specs.Prelude.{ℕ, zero, suc, ◌*◌, ◌/◌, ◌-◌, ◌==◌, min, nat_le, Bool, true, false, Option, Some, None, List, [], ◌∷◌, ◌++◌, length, take, drop, map, reverse, if◌then◌else◌}
use Rattle.std.specs.Int.{div_ceil}
use Rattle.std.specs.List.{flat_map, range_with_len}
use Rattle.std.specs.FinMap.{get}
use Rattle.fs_types.specs.Names.{Path}
use Rattle.fs_types.specs.declared.call.Call.{Call}
use Rattle.fs_types.specs.declared.limits.TheConstants.{MAX_NAMES}
use Rattle.fs_types.specs.declared.open_flags.OpenFlags.{OpenFlags}
use Rattle.plain_trees.specs.Contents.{Entry, same_bytes}
use Rattle.plain_trees.specs.Trees.{Tree, children}
use Rattle.history_machine.specs.Laws.{anew}
use Rattle.tree_differences.specs.declared.laws_of_updates.TheConstants.{PIECE_BYTES}

-- what stands at a path in the old tree has to go: in the new one nothing stands there, or what is of another kind
abbrev pub goes : Option Entry → Option Entry → Bool
goes None there = false
goes (Some Entry.Dir) (Some Entry.Dir) = false
goes (Some (Entry.File bytes)) (Some (Entry.File others)) = false
goes (Some entry) there = true

abbrev pub removal : Path → Option Entry → List Call
removal path (Some Entry.Dir) = Call.Rmdir path ∷ []
removal path (Some (Entry.File bytes)) = Call.Unlink path ∷ []
removal path None = []

abbrev pub removal_at : Tree → Tree → Path → List Call
removal_at old new path = if goes (get old path) (get new path) then removal path (get old path) else []

-- a piece of a file's bytes, at its place in the file that is open
abbrev pub piece : List ℕ → ℕ → Call
piece bytes i = Call.Pwrite 0 (i * PIECE_BYTES) (take PIECE_BYTES (drop (i * PIECE_BYTES) bytes))

-- a file is opened anew, which cuts it or makes it, is written piece by piece, and closed
abbrev pub pieces_of : Path → List ℕ → List Call
pieces_of path bytes = Call.Open path anew ∷ (map (piece bytes) (range_with_len 0 (div_ceil (length bytes) PIECE_BYTES)) ++ Call.Close 0 ∷ [])

-- a file gets these bytes: by one call, or piece by piece, where it has more than a piece
abbrev pub writing : Path → List ℕ → List Call
writing path bytes =
    if nat_le (length bytes) PIECE_BYTES then Call.WriteFile path bytes ∷ []
    else pieces_of path bytes

-- what makes what stands at a path in the new tree of what stands there in the old one
abbrev pub making : Path → Option Entry → Option Entry → List Call
making path there None = []
making path (Some Entry.Dir) (Some Entry.Dir) = []
making path (Some (Entry.File bytes)) (Some (Entry.File others)) = if same_bytes bytes others then [] else writing path others
making path there (Some Entry.Dir) = Call.Mkdir path ∷ []
making path there (Some (Entry.File others)) = writing path others

abbrev pub making_at : Tree → Tree → Path → List Call
making_at old new path = making path (get old path) (get new path)

-- how many bytes two files have in common at their beginning
abbrev pub common_length : List ℕ → List ℕ → ℕ
common_length [] others = 0
common_length (byte ∷ bytes) [] = 0
common_length (byte ∷ bytes) (other ∷ others) = if byte == other then suc (common_length bytes others) else 0

-- the flag of an open for writing, which leaves the file as it is
abbrev pub for_writing : OpenFlags
for_writing = record { 0 = 2 }

-- a file that has some bytes gets others: it is cut where it has more, and written from the first byte on that differs
abbrev pub editing : Path → List ℕ → List ℕ → List Call
editing path bytes others = Call.Open path for_writing ∷ Call.Ftruncate 0 (min (length bytes) (length others))
    ∷ Call.Pwrite 0 (common_length bytes others) (drop (common_length bytes others) others) ∷ Call.Close 0 ∷ []

-- the same as `making`, but that a file in the place of a file keeps what the two have in common
abbrev pub adapting : Path → Option Entry → Option Entry → List Call
adapting path (Some (Entry.File bytes)) (Some (Entry.File others)) = if same_bytes bytes others then [] else editing path bytes others
adapting path there entry = making path there entry

abbrev pub adapting_at : Tree → Tree → Path → List Call
adapting_at old new path = adapting path (get old path) (get new path)

-- a byte that is the same in both, or not, before so many up to the last one that differs
abbrev pub end_before : Bool → ℕ → ℕ
end_before true zero = 0
end_before same n = suc n

-- how many bytes of two files there are up to the last place at which they differ
abbrev pub changed_end : List ℕ → List ℕ → ℕ
changed_end [] others = 0
changed_end (byte ∷ bytes) [] = 0
changed_end (byte ∷ bytes) (other ∷ others) = end_before (byte == other) (changed_end bytes others)

-- what differs in the second file: from the first byte on that differs, to the last one where both are as long
abbrev pub changed_bytes : List ℕ → List ℕ → List ℕ
changed_bytes bytes others = drop (common_length bytes others) (if length bytes == length others then take (changed_end bytes others) others else others)

-- a file keeps so many pieces, and the others are written behind them
abbrev pub rewriting : Path → ℕ → List ℕ → List Call
rewriting path kept bytes = Call.Open path for_writing ∷ Call.Ftruncate 0 (kept * PIECE_BYTES)
    ∷ (map (piece bytes) (range_with_len kept (div_ceil (length bytes) PIECE_BYTES - kept)) ++ Call.Close 0 ∷ [])

-- a file that has some bytes gets others by short lines: what differs is put over it, and it is cut or ends there; where that is more
-- than a piece, the pieces before it stay
abbrev pub patching : Path → List ℕ → List ℕ → List Call
patching path bytes others =
    if nat_le (length (changed_bytes bytes others)) PIECE_BYTES
    then Call.Open path for_writing ∷ Call.Pwrite 0 (common_length bytes others) (changed_bytes bytes others) ∷ Call.Ftruncate 0 (length others) ∷ Call.Close 0 ∷ []
    else rewriting path (common_length bytes others / PIECE_BYTES) others

-- the same as `making`, but that of a file in the place of a file only what differs is written
abbrev pub amending : Path → Option Entry → Option Entry → List Call
amending path (Some (Entry.File bytes)) (Some (Entry.File others)) = if same_bytes bytes others then [] else patching path bytes others
amending path there entry = making path there entry

abbrev pub amending_at : Tree → Tree → Path → List Call
amending_at old new path = amending path (get old path) (get new path)

-- the paths of what stands below a directory, in so many levels: a directory's before those of what stands in it, and names in byte
-- order
unfoldable pub paths_below : Tree → ℕ → Path → List Path
paths_below t zero directory = []
paths_below t (suc levels) directory = flat_map (λ entry. (directory ++ entry.0 ∷ []) ∷ (if entry.1 then paths_below t levels (directory ++ entry.0 ∷ []) else [])) (children t directory)

-- those of all that stands below the root: no path has more names
abbrev pub paths_of : Tree → List Path
paths_of t = paths_below t MAX_NAMES []

-- the changes: what goes is removed first, what stands in a directory before that; then what came or changed is made
abbrev pub update_changes : Tree → Tree → List Call
update_changes old new = flat_map (removal_at old new) (reverse (paths_of old)) ++ flat_map (making_at old new) (paths_of new)

-- the changes at some paths of the two trees, where each file of both keeps what it can
abbrev pub edit_paths : Tree → Tree → List Path → List Path → List Call
edit_paths old new olds news = flat_map (removal_at old new) (reverse olds) ++ flat_map (adapting_at old new) news

-- those at all paths
abbrev pub edit_changes : Tree → Tree → List Call
edit_changes old new = edit_paths old new (paths_of old) (paths_of new)

-- the same, where of each file of both trees only what differs is written
abbrev pub patch_changes : Tree → Tree → List Call
patch_changes old new = flat_map (removal_at old new) (reverse (paths_of old)) ++ flat_map (amending_at old new) (paths_of new)

-- all of it in one change group, which is brought to the flash
abbrev pub update_calls : Tree → Tree → List Call
update_calls old new = Call.Begin ∷ (update_changes old new ++ Call.End ∷ Call.Sync ∷ [])

abbrev pub patch_calls : Tree → Tree → List Call
patch_calls old new = Call.Begin ∷ (patch_changes old new ++ Call.End ∷ Call.Sync ∷ [])
