-- Things that are put one after the other, in lots: files of one directory whose names ascend, not too many and not too
-- long together.
use Rattle.std.specs.Prelude.{ℕ, ◌+◌, Bool, ◌&&◌, nat_lt, nat_le, Option, Some, None, List, [], ◌∷◌, ◌++◌, length, sum_by, if◌then◌else◌}
use Rattle.fs_types.specs.Names.{Name, Path, same_path, is_after}
use Rattle.fs_types.specs.declared.named_file.NamedFile.{NamedFile}
use Rattle.plain_trees.specs.Contents.{parent_of}
use Rattle.put_lots.specs.declared.lots.TheConstants.{MOST_FILES, MOST_BYTES}
use Rattle.put_lots.specs.declared.lots.Taken.{Taken}
use Rattle.put_lots.specs.declared.thing.Thing.{Thing}

-- the name that a path ends in
abbrev pub last_name : Path → Name
last_name [] = []
last_name (n ∷ []) = n
last_name (n ∷ m ∷ p) = last_name (m ∷ p)

-- the name of the last of some files
abbrev pub name_of_last : List NamedFile → Option Name
name_of_last [] = None
name_of_last (file ∷ []) = Some file.name
name_of_last (file ∷ next ∷ files) = name_of_last (next ∷ files)

-- so many bytes they have
abbrev pub bytes_in : List NamedFile → ℕ
bytes_in files = sum_by (λ file. length file.bytes) files

-- a file of a directory may join a lot: it is the lot's directory, the name comes after the lot's last one, and
-- together they are not too many and not too long
abbrev pub joins : Path → List NamedFile → Path → NamedFile → Bool
joins lot files directory file =
    same_path lot directory && is_after (name_of_last files) file.name
    && nat_lt (length files) MOST_FILES && nat_le (bytes_in files + length file.bytes) MOST_BYTES

-- a file begins a lot, and what waited is ready
abbrev pub lot_started : Option Thing → Path → NamedFile → Taken
lot_started last directory file = record { ready = last; last = Thing.Files directory (file ∷ []) }

-- a file after what waits
abbrev pub taken_file : Option Thing → Path → NamedFile → Taken
taken_file (Some (Thing.Files lot files)) directory file =
    if joins lot files directory file then record { ready = None; last = Thing.Files lot (files ++ file ∷ []) }
    else lot_started (Some (Thing.Files lot files)) directory file
taken_file last directory file = lot_started last directory file

-- a thing after what waits: only a file joins a lot, and none stands at the root
abbrev pub taken_in : Option Thing → Thing → Taken
taken_in last (Thing.File (n ∷ p) bytes) =
    taken_file last (parent_of (n ∷ p)) (record { name = last_name (n ∷ p); bytes = bytes })
taken_in last thing = record { ready = last; last = thing }

abbrev pub listed : Option Thing → List Thing
listed None = []
listed (Some thing) = thing ∷ []

-- what is put of things after what waits, in order
abbrev pub lots_from : Option Thing → List Thing → List Thing
lots_from last [] = listed last
lots_from last (thing ∷ things) = listed (taken_in last thing).ready ++ lots_from (Some (taken_in last thing).last) things

-- what is put of things: those that may go together are
abbrev pub lots_of : List Thing → List Thing
lots_of things = lots_from None things
