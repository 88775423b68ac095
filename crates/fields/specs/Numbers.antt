-- Reading bytes from the front: a number, its lowest byte first, and the bytes after it; none where they
-- are too few.
use Rattle.std.specs.Prelude.{ℕ, ◌<◌, Option, Some, None, nat_lt, List, [], ◌∷◌, length, drop, slice_index, if◌then◌else◌}
use Rattle.byteorder.specs.Endian.{little_number}

-- each item is a byte
abbrev pub IsBytes : List ℕ → Type 0
IsBytes bytes = (i : ℕ) → slice_index bytes i < 256

-- a step of reading that follows one that found something
infixl 10 ◌>>=◌
abbrev pub ◌>>=◌ : {A B : Type 0} → Option A → (A → Option B) → Option B
None >>= f = None
(Some x) >>= f = f x

-- a byte
abbrev pub byte_at : List ℕ → Option (ℕ × List ℕ)
byte_at [] = None
byte_at (byte ∷ rest) = Some (byte, rest)

-- a number of n bytes
abbrev pub number_at : ℕ → List ℕ → Option (ℕ × List ℕ)
number_at n bytes = if nat_lt (length bytes) n then None else Some (little_number n bytes, drop n bytes)
