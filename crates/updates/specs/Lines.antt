-- The lines of an update.
use Rattle.std.specs.Prelude.{◌≡◌, ℕ, List, [], ◌∷◌, ◌++◌, codes, decimal, map}
use Rattle.std.specs.List.{flat_map}
use Rattle.hex.specs.Hex.{encode_lower}
use Rattle.fs_types.specs.declared.call.Call.{Call}
use Rattle.plain_trees.specs.Trees.{Tree}
use Rattle.inquiries.specs.Items.{items_of}
use Rattle.inquiries.specs.Printed.{path_text}
use Rattle.inquiries.specs.declared.items.Item.{Item}
use Rattle.tree_differences.specs.Updates.{paths_of}
use Rattle.updates.specs.Changes.{group_by}
use Rattle.updates.specs.declared.manner.Manner.{Manner}

-- data as a word of a script
abbrev pub data_word : List ℕ → List ℕ
data_word [] = codes "-"
data_word (b ∷ bytes) = encode_lower (b ∷ bytes)

-- the line of a script that asks for a call of an update
abbrev pub call_line : Call → List ℕ
call_line Call.Begin = codes "begin\n"
call_line Call.End = codes "end\n"
call_line Call.Sync = codes "sync\n"
call_line (Call.Mkdir path) = codes "mkdir " ++ path_text path ++ codes "\n"
call_line (Call.Rmdir path) = codes "rmdir " ++ path_text path ++ codes "\n"
call_line (Call.Unlink path) = codes "unlink " ++ path_text path ++ codes "\n"
call_line (Call.WriteFile path bytes) = codes "write " ++ path_text path ++ codes " " ++ data_word bytes ++ codes "\n"
call_line (Call.Open path flags) = codes "open " ++ path_text path ++ codes " " ++ decimal flags.0 ++ codes "\n"
call_line (Call.Pwrite descriptor offset bytes) = codes "pwrite " ++ decimal descriptor ++ codes " " ++ decimal offset ++ codes " " ++ data_word bytes ++ codes "\n"
call_line (Call.Ftruncate descriptor size) = codes "ftruncate " ++ decimal descriptor ++ codes " " ++ decimal size ++ codes "\n"
call_line (Call.Close descriptor) = codes "close " ++ decimal descriptor ++ codes "\n"
call_line _ = []

-- the lines of calls
abbrev pub lines_of : List Call → List ℕ
lines_of calls = flat_map call_line calls

-- the script that brings one tree to another
abbrev pub update_text : Manner → Tree → Tree → List ℕ
update_text manner old new = lines_of (group_by manner old new)

-- what is told of all that stands in a tree names the paths by which an update goes
abbrev pub PathsLaw : Type 0
PathsLaw = (t : Tree) → map (λ (item : Item). item.path) (items_of t) ≡ paths_of t
