-- What is printed is read again.
use Rattle.std.specs.Prelude.{◌≡◌, ℕ, ◌<◌, ◌^◌, Some, List, All, decimal, ◌↔◌}
use Rattle.script.specs.Words.{number_from, unescaped}
use Rattle.script.specs.Replies.{escaped}

-- a word spells a number just where it is what is printed for that number
abbrev pub NumbersLaw : Type 0
NumbersLaw = (word : List ℕ) (n : ℕ) → (number_from word ≡ Some n) ↔ ((n < 2 ^ 64) × (word ≡ decimal n))

-- what is printed for a name spells that name
abbrev pub NamesLaw : Type 0
NamesLaw = (name : List ℕ) → All (λ b. b < 256) name → unescaped (escaped name) ≡ Some name
