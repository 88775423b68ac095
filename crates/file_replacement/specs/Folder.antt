-- A folder in which one file is replaced, and what each call of the host leaves of it.
use Rattle.std.specs.Prelude.{◌≡◌, ◌⊎◌, ℕ, Bool, true, List, [], ◌∷◌, ◌++◌, take, Option, None, Some, IfSome, IsSome}

-- what a power cut may leave: a file of exactly these bytes, or anything, no file too
pub data Left : Type 0 where
  Exactly : List ℕ → Left
  Anything : Left

-- what is shown at the name, at that of the new file and at each other name; what a power cut may leave of the new file, and at the
-- name, the newest last; all that a power cut could leave at the name since it was first known, each as it became possible; whether
-- a call failed so far, and whether one that was to remove the new file
pub record Folder : Type 0 where
  pub shown : Option (List ℕ)
  pub beside : Option (List ℕ)
  pub others : List ℕ → Option (List ℕ)
  pub file : Left
  pub left : List Left
  pub ever : List Left
  pub has_failed : Bool
  pub is_unremoved : Bool

-- a folder becomes another one that is related to it so; what is known stays known, and what is not does not become so
abbrev pub Leads : (Folder → Folder → Type 0) → Option Folder → Option Folder → Type 0
Leads R None new = new ≡ None
Leads R (Some old) None = ⊥
Leads R (Some old) (Some new) = R old new

-- the new file is there; it is there with no bytes
abbrev pub HasNew : Option Folder → Type 0
HasNew folder = IfSome folder (λ f. IsSome f.beside)

abbrev pub HasEmptyNew : Option Folder → Type 0
HasEmptyNew folder = IfSome folder (λ f. f.beside ≡ Some [])

-- a file, if there is one, with bytes at its end
abbrev pub grown : List ℕ → Option (List ℕ) → Option (List ℕ)
grown bytes None = None
grown bytes (Some old) = Some (old ++ bytes)

-- what a power cut leaves of a file that was brought to the disk
abbrev pub filed : Option (List ℕ) → Left
filed None = Anything
filed (Some bytes) = Exactly bytes

-- the newest of what a power cut may leave
abbrev pub newest : List Left → List Left
newest [] = []
newest (one ∷ []) = one ∷ []
newest (one ∷ two ∷ more) = newest (two ∷ more)

abbrev pub IsSame : Folder → Folder → Type 0
IsSame old new = new ≡ old

abbrev pub Fails : Folder → Folder → Type 0
Fails old new = new ≡ record old { has_failed = true }

abbrev pub IsMade : Folder → Folder → Type 0
IsMade old new = new ≡ record old { beside = Some []; file = Anything }

-- what stood at the name of the new file stays or is gone, or what was made was not removed
pub record IsUnmade (old new : Folder) : Type 0 where
  pub rest : new ≡ record old { beside = new.beside; file = new.file; has_failed = true; is_unremoved = new.is_unremoved }
  pub beside : (new.beside ≡ old.beside) ⊎ ((new.beside ≡ None) ⊎ (new.is_unremoved ≡ true))

-- so many of these bytes are written, which are on no disk yet
pub record Writes (count : ℕ) (bytes : List ℕ) (old new : Folder) : Type 0 where
  pub rest : new ≡ record old { beside = grown (take count bytes) old.beside; file = Anything; has_failed = new.has_failed }
  pub stalls : count ≡ 0 → new.has_failed ≡ true

abbrev pub FailsWrite : Folder → Folder → Type 0
FailsWrite old new = new ≡ record old { beside = new.beside; file = Anything; has_failed = true }

abbrev pub IsFiled : Folder → Folder → Type 0
IsFiled old new = new ≡ record old { file = filed old.beside }

abbrev pub IsUnfiled : Folder → Folder → Type 0
IsUnfiled old new = new ≡ record old { file = Anything; has_failed = true }

-- the new file has the name, and a power cut leaves it there, or what it could leave before
abbrev pub IsRenamed : Folder → Folder → Type 0
IsRenamed old new = new ≡ record old { shown = old.beside; beside = None; left = old.left ++ old.file ∷ []; ever = old.ever ++ old.file ∷ [] }

abbrev pub IsRemoved : Folder → Folder → Type 0
IsRemoved old new = new ≡ record old { beside = None }

abbrev pub IsUnremoved : Folder → Folder → Type 0
IsUnremoved old new = new ≡ record old { has_failed = true; is_unremoved = true }

-- a power cut leaves what is newest
abbrev pub IsSettled : Folder → Folder → Type 0
IsSettled old new = new ≡ record old { left = newest old.left }
