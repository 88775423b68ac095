-- What is told where something is refused, what it means, and the texts that tell of the program itself.
use Rattle.std.specs.Prelude.{◌≡◌, ◌⊎◌, ℕ, Bool, false, ◌||◌, Option, Some, None, Result, Ok, Err, List, [], ◌∷◌, ◌++◌, take, map, codes, decimal}
use Rattle.std.specs.List.{filter}
use Rattle.std.specs.Str.{bytes_eq, str_eq_ignore_ascii_case}
use Rattle.std.specs.Io.KnownBytes.{Appends}
use Rattle.fs_types.specs.Faults.{number_of, word_of}
use Rattle.fs_types.specs.declared.fault.Fault.{Fault}
use Rattle.fs_types.specs.declared.fault.Fault.TheVariants.{NoEntry, NotDirectory, IsDirectory, Exists, NotEmpty, NotPermitted, Invalid, NameTooLong, TooBig, BadDescriptor, TooManyOpen, Busy, DirectoryFull, CheckpointsFull, FlashFull, ReadOnly, NothingToUndo, TooOld, NothingToRedo, NoSuchVersion, Discarded, Overflow, ReadFailed, PowerCut, NoMemory, Damaged, NoRecord, BadGeometry, NoAnchors, NoGroup, InGroup}
use Rattle.image_jobs.specs.declared.failure.Failure.{Failure}
use Rattle.script_runs.specs.declared.scripts.Refusal.{Refusal}
use Rattle.shell.specs.declared.explanations.Told.{Told}

-- all refusals, in the order of their numbers
abbrev pub faults : List Fault
faults = NoEntry ∷ NotDirectory ∷ IsDirectory ∷ Exists ∷ NotEmpty ∷ NotPermitted ∷ Invalid ∷ NameTooLong ∷ TooBig ∷ BadDescriptor ∷ TooManyOpen ∷ Busy ∷ DirectoryFull
    ∷ CheckpointsFull ∷ FlashFull ∷ ReadOnly ∷ NothingToUndo ∷ TooOld ∷ NothingToRedo ∷ NoSuchVersion ∷ Discarded ∷ Overflow ∷ ReadFailed ∷ PowerCut ∷ NoMemory ∷ Damaged
    ∷ NoRecord ∷ BadGeometry ∷ NoAnchors ∷ NoGroup ∷ InGroup ∷ []

-- the word that is told
abbrev pub word_told : Told → List ℕ
word_told (Told.Fault fault) = word_of fault
word_told Told.Syntax = codes "SYNTAX"
word_told Told.TooManyLines = codes "TOOMANYLINES"
word_told Told.Unmounted = codes "unmounted"
word_told Told.NotImage = codes "NotImage"
word_told Told.NotPart = codes "NotPart"
word_told Told.BadGeometry = codes "BadGeometry"
word_told Told.BadState = codes "BadState"
word_told Told.Truncated = codes "Truncated"
word_told Told.Trailing = codes "Trailing"

-- a refusal is told with its number
abbrev pub number_told : Told → Option ℕ
number_told (Told.Fault fault) = Some (number_of fault)
number_told _ = None

-- all that is told: the refusals, and then what has no number
abbrev pub all_told : List Told
all_told = map Told.Fault faults ++ Told.Syntax ∷ Told.TooManyLines ∷ Told.Unmounted ∷ Told.NotImage ∷ Told.NotPart ∷ Told.BadGeometry ∷ Told.BadState ∷ Told.Truncated
    ∷ Told.Trailing ∷ []

-- a word is a number, as it is printed
abbrev pub is_number : List ℕ → Option ℕ → Bool
is_number word (Some number) = bytes_eq (decimal number) word
is_number word None = false

-- it is meant by its number, as it is printed, or by its word, in capitals or in small letters
abbrev pub is_meant : List ℕ → Told → Bool
is_meant word told = is_number word (number_told told) || str_eq_ignore_ascii_case (word_told told) word

abbrev pub all_meant : List ℕ → List Told
all_meant word = filter (is_meant word) all_told

-- a number with a space before it, if there is one
abbrev pub number_text : Option ℕ → List ℕ
number_text (Some number) = codes " " ++ decimal number
number_text None = []

-- what is printed of it: its word, its number if it has one, and what it means
abbrev pub explanation : Told → List ℕ → List ℕ
explanation told meaning = word_told told ++ number_text (number_told told) ++ codes ": " ++ meaning ++ codes "\n"

-- a text tells each of these, in order, by its line
abbrev pub TellsEach : List Told → List ℕ → Type 0
TellsEach [] text = text ≡ []
TellsEach (told ∷ more) text = (meaning : List ℕ) × (rest : List ℕ) × TellsEach more rest × (text ≡ explanation told meaning ++ rest)

-- a text is written; or memory is wanted, and nothing is; or the output fails
abbrev pub PrintEnds : List ℕ → Result (Unit {0}) Failure → Option (List ℕ) → Option (List ℕ) → Type 0
PrintEnds text (Ok done) old new = Appends old new text
PrintEnds text (Err Failure.Memory) old new = new ≡ old
PrintEnds text (Err Failure.Output) old new = (n : ℕ) × Appends old new (take n text)
PrintEnds text (Err _) old new = ⊥

-- a text is written; where it has no byte it is refused in its place
abbrev pub PrintsAny : List ℕ → Result (Unit {0}) Failure → Option (List ℕ) → Option (List ℕ) → Type 0
PrintsAny [] result old new = (result ≡ Err (Failure.Refused (Refusal.Fault Fault.Invalid))) × (new ≡ old)
PrintsAny (byte ∷ bytes) result old new = PrintEnds (byte ∷ bytes) result old new

-- each that is meant is told; where none is, it is refused, and where memory is wanted, nothing is written
abbrev pub ExplainEnds : List ℕ → Result (Unit {0}) Failure → Option (List ℕ) → Option (List ℕ) → Type 0
ExplainEnds word result old new = ((text : List ℕ) × TellsEach (all_meant word) text × PrintsAny text result old new) ⊎ ((result ≡ Err Failure.Memory) × (new ≡ old))

-- what can be asked for is written; what it says is not told here
abbrev pub HelpEnds : Result (Unit {0}) Failure → Option (List ℕ) → Option (List ℕ) → Type 0
HelpEnds result old new = (text : List ℕ) × PrintEnds text result old new

-- the program and its version
abbrev pub version_line : List ℕ
version_line = codes "uffs 0.1.0\n"
