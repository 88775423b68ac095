-- The word `memory`.
use Rattle.std.proofs.Common.{◌≡◌, [], ◌∷◌, Some, codes, refl}
use Rattle.clap.specs.Words.{fault_of}
use Rattle.clap.proofs.OnLiterals.{clap_on_literals}
use Rattle.command_words.specs.Grammar.{uffs}
use Rattle.command_line.specs.Jobs.{given}

pub memory_fault : fault_of uffs (codes "memory" ∷ []) ≡ []
unfolding clap_on_literals
memory_fault = refl

pub memory_given : given (codes "memory" ∷ []) ≡ Some (codes "memory", [])
unfolding clap_on_literals
memory_given = refl
