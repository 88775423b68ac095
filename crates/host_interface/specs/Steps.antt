-- What is done to bytes in place, in order.
use Rattle.std.specs.Prelude.{◌≡◌, ℕ, ◌+◌, ◌≤◌, List, [], ◌∷◌, ◌++◌, length, take, drop, Option, None, Some, ⊤}

-- bytes are written from a place on, or all that was written is brought to the medium
pub data Step : Type 0 where
  writes : ℕ → List ℕ → Step
  barrier : Step

-- these steps are done, where steps are known
abbrev pub Does : Option (List Step) → List Step → Option (List Step) → Type 0
Does None steps new = ⊤
Does (Some old) steps None = ⊥
Does (Some old) steps (Some new) = new ≡ old ++ steps

-- bytes with others written over them from a place on
abbrev pub overwritten : ℕ → List ℕ → List ℕ → List ℕ
overwritten place new bytes = take place bytes ++ (new ++ drop (place + length new) bytes)

-- the bytes after a step, and after steps in order
abbrev pub bytes_after : Step → List ℕ → List ℕ
bytes_after (writes place new) bytes = overwritten place new bytes
bytes_after barrier bytes = bytes

abbrev pub all_after : List Step → List ℕ → List ℕ
all_after [] bytes = bytes
all_after (step ∷ more) bytes = all_after more (bytes_after step bytes)

-- bytes become others by these steps, where they are known; what is not known stays unknown
abbrev pub Becomes : Option (List ℕ) → List Step → Option (List ℕ) → Type 0
Becomes None steps new = new ≡ None
Becomes (Some old) steps None = ⊥
Becomes (Some old) steps (Some new) = new ≡ all_after steps old

-- what stands outside of a place of so many bytes stays, and where the place ends in the bytes they are as many as before
pub record StaysOutside (place count : ℕ) (old new : List ℕ) : Type 0 where
  pub before : take place new ≡ take place old
  pub after : drop (place + count) new ≡ drop (place + count) old
  pub long : place + count ≤ length old → length new ≡ length old

-- this is so, where the bytes are known; what is not known stays unknown
abbrev pub KeepsOutside : ℕ → ℕ → Option (List ℕ) → Option (List ℕ) → Type 0
KeepsOutside place count None new = new ≡ None
KeepsOutside place count (Some old) None = ⊥
KeepsOutside place count (Some old) (Some new) = StaysOutside place count old new
