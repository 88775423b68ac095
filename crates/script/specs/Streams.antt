-- What is taken from a reader, line by line, and what is left to a writer.
use Rattle.std.specs.Prelude.{◌≡◌, ◌≢◌, ℕ, ◌<◌, ◌≤◌, ◌==◌, Option, None, Some, Result, Ok, Err, List, [], ◌∷◌, ◌++◌, length, All, ⊤, ◌⊎◌, if◌then◌else◌}
use Rattle.std.specs.List.{onto_first}
use Rattle.std.specs.Io.KnownBytes.{Consumes, IsAtEnd}
use Rattle.script.specs.declared.line_reader.Taken.{Taken}
use Rattle.script.specs.declared.line_reader.Taken.TheVariants.{Line, TooLong, End}

-- no LF among the bytes
abbrev pub IsWithoutLf : List ℕ → Type 0
IsWithoutLf bytes = All (λ b. b ≢ 10) bytes

-- a read that gave a byte, or found the end
abbrev pub TakesByte : Option (List ℕ) → Option (List ℕ) → Option ℕ → Type 0
TakesByte old new (Some byte) = Consumes old new (byte ∷ [])
TakesByte old new None = Consumes old new [] × IsAtEnd new

-- the reader lost these bytes of a line, and its LF or all that was left
abbrev pub TakesRest : Option (List ℕ) → Option (List ℕ) → List ℕ → Type 0
TakesRest old new bytes = IsWithoutLf bytes × (Consumes old new (bytes ++ 10 ∷ []) ⊎ (Consumes old new bytes × IsAtEnd new))

-- the reader lost a line: its bytes and its LF, or at least one byte and all that was left
abbrev pub TakesLine : Option (List ℕ) → Option (List ℕ) → List ℕ → Type 0
TakesLine old new line = IsWithoutLf line × (Consumes old new (line ++ 10 ∷ []) ⊎ (Consumes old new line × IsAtEnd new × (0 < length line)))

-- the reader lost some bytes of a line
abbrev pub TakesPart : Option (List ℕ) → Option (List ℕ) → Type 0
TakesPart old new = (part : List ℕ) × IsWithoutLf part × Consumes old new part

-- what a read of a line took, and left in the buffer
abbrev pub TakesLineBytes : {E : Type 0} → Option (List ℕ) → Option (List ℕ) → Result Taken E → List ℕ → Type 0
TakesLineBytes old new (Ok Line) line = TakesLine old new line × (length line ≤ 65536)
TakesLineBytes old new (Ok TooLong) line = (long : List ℕ) × TakesLine old new long × (65536 < length long)
TakesLineBytes old new (Ok End) line = Consumes old new [] × IsAtEnd new
TakesLineBytes old new (Err error) line = TakesPart old new

-- the lines of a script: each ends with LF, and the last may end with the input
abbrev pub lines_of : List ℕ → List (List ℕ)
lines_of [] = []
lines_of (b ∷ bytes) = if b == 10 then [] ∷ lines_of bytes else onto_first b (lines_of bytes)

-- known bytes begin with these lines, and the lines of the rest follow
abbrev pub BeginsWithLines : Option (List ℕ) → List (List ℕ) → Option (List ℕ) → Type 0
BeginsWithLines None first rest = ⊤
BeginsWithLines (Some xs) first None = ⊥
BeginsWithLines (Some xs) first (Some ys) = lines_of xs ≡ first ++ lines_of ys

-- the lines that a read of a line took
abbrev pub TakesLines : {E : Type 0} → Option (List ℕ) → Option (List ℕ) → Result Taken E → List ℕ → Type 0
TakesLines old new (Ok Line) line = BeginsWithLines old (line ∷ []) new
TakesLines old new (Ok TooLong) line = (long : List ℕ) × (65536 < length long) × BeginsWithLines old (long ∷ []) new
TakesLines old new (Ok End) line = BeginsWithLines old [] new
TakesLines old new (Err error) line = ⊤
