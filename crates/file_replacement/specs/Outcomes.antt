-- What is left where a file was to be replaced.
use Rattle.std.specs.Prelude.{◌≡◌, ◌⊎◌, ℕ, true, List, [], ◌∷◌, ◌++◌, All, None, Some, Result, Ok, Err}
use Rattle.file_replacement.specs.Folder.{Folder, Left, Exactly, grown}
use Rattle.file_replacement.specs.declared.replacement.Unreplaced.{Unreplaced}
use Rattle.file_replacement.specs.declared.replacement.Unreplaced.TheVariants.{Unmade, Failed, Unsynced}

-- nothing changed but the new file, at whose end these bytes are
abbrev pub HasWritten : List ℕ → Folder → Folder → Type 0
HasWritten bytes old new = new ≡ record old { beside = grown bytes old.beside; file = new.file; has_failed = new.has_failed }

-- nothing changed but the new file, and a call failed
abbrev pub StaysBeside : Folder → Folder → Type 0
StaysBeside old new = new ≡ record old { beside = new.beside; file = new.file; has_failed = true }

-- the new file has the name, with exactly these bytes, of which each is on the disk
abbrev pub IsReplaced : List ℕ → Folder → Folder → Type 0
IsReplaced bytes old new = new ≡ record old {
  shown = Some bytes;
  beside = None;
  file = new.file;
  left = old.left ++ Exactly bytes ∷ [];
  ever = old.ever ++ Exactly bytes ∷ [];
  has_failed = new.has_failed;
}

-- the name shows these bytes, or what it showed
abbrev pub Shows : Result (Unit {0}) Unreplaced → List ℕ → Folder → Folder → Type 0
Shows (Ok _) bytes old new = new.shown ≡ Some bytes
Shows (Err (Unsynced _)) bytes old new = new.shown ≡ Some bytes
Shows (Err _) bytes old new = new.shown ≡ old.shown

-- a power cut leaves these bytes at the name
abbrev pub IsOnDisk : List ℕ → Folder → Folder → Type 0
IsOnDisk bytes old new = new.left ≡ Exactly bytes ∷ []

-- no new file is left, where it was made and its removal did not fail
abbrev pub LeavesNew : Result (Unit {0}) Unreplaced → Folder → Folder → Type 0
LeavesNew (Err (Unmade _)) old new = (new.beside ≡ old.beside) ⊎ ((new.beside ≡ None) ⊎ (new.is_unremoved ≡ true))
LeavesNew (Err (Failed _)) old new = (new.beside ≡ None) ⊎ (new.is_unremoved ≡ true)
LeavesNew _ old new = new.beside ≡ None

abbrev pub KeepsOthers : Folder → Folder → Type 0
KeepsOthers old new = new.others ≡ old.others

-- nothing became possible at the name after a power cut but a file of exactly these bytes
pub record AddsOnly (bytes : List ℕ) (old new : Folder) : Type 0 where
  pub added : List Left
  pub ever : new.ever ≡ old.ever ++ added
  pub each : All (λ one. one ≡ Exactly bytes) added

abbrev pub HasFailed : Folder → Folder → Type 0
HasFailed old new = new.has_failed ≡ true
