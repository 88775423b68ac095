-- Why what is left of a tree is not made.
use Rattle.std.specs.Prelude.{◌≡◌, ◌⊎◌, ◌<◌, ℕ}
use Rattle.fs_types.specs.declared.fault.Fault.TheVariants.{NoMemory}
use Rattle.salvages.specs.declared.found.TheConstants.{MAX_COST}
use Rattle.salvages.specs.declared.losses.LossFault.{LossFault}
use Rattle.salvages.specs.declared.making.TheConstants.{MAX_BYTES}

-- memory was wanted, or its files have more bytes than they may
abbrev pub Overfull : ℕ → LossFault → Type 0
Overfull bytes (LossFault.Refused fault) = fault ≡ NoMemory
Overfull bytes LossFault.TooManyLines = MAX_BYTES < bytes

-- memory was wanted, or it costs more to look through than it may, or its files have more bytes
abbrev pub Unmade : ℕ → ℕ → LossFault → Type 0
Unmade cost bytes (LossFault.Refused fault) = fault ≡ NoMemory
Unmade cost bytes LossFault.TooManyLines = (MAX_COST < cost) ⊎ (MAX_BYTES < bytes)
