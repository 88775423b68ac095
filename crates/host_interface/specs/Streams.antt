-- Streams that join the program to another one.
use Rattle.std.specs.Prelude.{ℕ, Option, List}

-- what another program writes under each name, where it is known
abbrev pub Written : Type 0
Written = List ℕ → Option (List ℕ)
