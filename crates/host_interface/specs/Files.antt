-- Files by their names.
use Rattle.std.specs.Prelude.{◌≡◌, ◌≢◌, ◌⊎◌, ◌||◌, ℕ, Bool, Option, IfSome, List, ◌++◌, take, codes}
use Rattle.std.specs.Str.{bytes_eq}
use Rattle.host_interface.specs.declared.image_files.FileFault.{FileFault}
use Rattle.host_interface.specs.declared.image_files.TheConstants.{MOST_BYTES}

-- the bytes of each file by its name, where they are known
abbrev pub Held : Type 0
Held = List ℕ → Option (List ℕ)

-- the name of the new file that is written beside one
abbrev pub new_name : List ℕ → List ℕ
new_name name = name ++ codes ".new"

-- to replace the file of a name takes the file of another one away, as the names tell: they are the same, or the other is that of
-- the new file
abbrev pub takes_away : List ℕ → List ℕ → Bool
takes_away name other = bytes_eq other name || bytes_eq other (new_name name)

-- these bytes are what a read of the file of a name gives while the name is claimed
abbrev pub ReadsClaimed : {S : Type 0} → (S → List ℕ → Type 0) → (S → List ℕ → List ℕ → Type 0) → List ℕ → List ℕ → Type 0
ReadsClaimed {S} Claims Reads name bytes = (files : S) × Claims files name × Reads files name bytes

-- and these what a read of another name gives then
abbrev pub ReadsBeside : {S : Type 0} → (S → List ℕ → Type 0) → (S → List ℕ → List ℕ → Type 0) → List ℕ → List ℕ → List ℕ → Type 0
ReadsBeside {S} Claims Reads claimed name bytes = (files : S) × Claims files claimed × Reads files name bytes

-- every file but the one of a name, and the new one beside it, holds what it held
abbrev pub KeepsOthers : List ℕ → Held → Held → Type 0
KeepsOthers name held saved = (other : List ℕ) → other ≢ name → other ≢ new_name name → saved other ≡ held other

-- what a file holds where it was not replaced by one of these bytes, or not for good
abbrev pub LeavesFile : Option (List ℕ) → Option (List ℕ) → List ℕ → FileFault → Type 0
LeavesFile was now bytes FileFault.Unsynced = IfSome now (λ all. all ≡ bytes)
LeavesFile was now bytes _ = now ≡ was

-- the bytes of a file that are read, where those of the file are known
abbrev pub AreBytesRead : Option (List ℕ) → List ℕ → Type 0
AreBytesRead held bytes = IfSome held (λ all. bytes ≡ take MOST_BYTES all)

-- what reads of files give: the bytes of each, where they are known, and those that a read of its name gives
pub record Readings : Type 1 where
  pub held : Held
  pub gives : List ℕ → List ℕ → Type 0

abbrev pub readings_of : Held → (List ℕ → List ℕ → Type 0) → Readings
readings_of held Reads = record { held = held; gives = Reads }

-- no file changes, or what has a name is brought to the disk
abbrev pub KeepsOrSyncs : Held → Held → Type 0 → Type 0
KeepsOrSyncs held saved IsSynced = (saved ≡ held) ⊎ IsSynced
