-- Folders of the host that are made whole.
use Rattle.std.specs.Prelude.{◌≡◌, ◌⊎◌, ℕ, IfSome, List, All, ◌++◌, codes, ⊤}
use Rattle.host_interface.specs.Files.{Held, new_name}
use Rattle.host_interface.specs.declared.image_files.FileFault.{FileFault}

-- what is made in a folder: a folder, or a file of bytes, each with the way that leads to it from the folder, as `/a/b`
pub data Made : Type 0 where
  Folder : List ℕ → Made
  File : List ℕ → List ℕ → Made

-- the name of what stands in a folder, by the way to it, which begins with a slash
abbrev pub name_in : List ℕ → List ℕ → List ℕ
name_in folder way = folder ++ way

-- a name is that of a folder, or of something in it
abbrev pub IsWithin : List ℕ → List ℕ → Type 0
IsWithin folder name = (name ≡ folder) ⊎ ((way : List ℕ) × (name ≡ folder ++ (codes "/" ++ way)))

-- every file that is not in the folder of a name holds what it held
abbrev pub KeepsOutside : List ℕ → Held → Held → Type 0
KeepsOutside folder held saved = (name : List ℕ) → (IsWithin folder name → ⊥) → saved name ≡ held name

-- every file holds what it held that stands neither in the folder of a name nor in the new one that becomes it
abbrev pub KeepsBeside : List ℕ → Held → Held → Type 0
KeepsBeside folder held saved = (name : List ℕ) → (IsWithin folder name → ⊥) → (IsWithin (new_name folder) name → ⊥) → saved name ≡ held name

-- a file that was made in a folder holds its bytes
abbrev pub HoldsOne : List ℕ → Held → Made → Type 0
HoldsOne folder saved (Made.Folder way) = ⊤
HoldsOne folder saved (Made.File way bytes) = IfSome (saved (name_in folder way)) (λ all. all ≡ bytes)

-- each file that was made in a folder holds its bytes
abbrev pub HoldsMade : List ℕ → Held → List Made → Type 0
HoldsMade folder saved made = All (HoldsOne folder saved) made

-- the folder of a name is not there, and nothing outside the new one changed; or it is there, whole, and was not brought to the disk
abbrev pub LeavesFolder : List ℕ → Held → Held → (List Made → Type 0) → FileFault → Type 0
LeavesFolder folder held saved IsMade FileFault.Unsynced = ((made : List Made) → IsMade made → HoldsMade folder saved made) × KeepsBeside folder held saved
LeavesFolder folder held saved IsMade _ = KeepsOutside (new_name folder) held saved
