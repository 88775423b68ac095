-- What passes between a flash and its driver over two streams, where these tell their bytes.
use Rattle.std.specs.Prelude.{◌≡◌, ◌≢◌, ◌⊎◌, ℕ, Bool, true, false, List, [], ◌∷◌, take, Option, Result, Ok, Err}
use Rattle.std.specs.Io.KnownBytes.{Appends, Consumes, Keeps}
use Rattle.flash_model.specs.declared.flash.DevFault.{DevFault}
use Rattle.flash_model.specs.declared.flash.DevFault.TheVariants.{Failed, PowerCut}

-- what a driver has still to answer, what it was ordered, and whether its power is lost for good
pub record Streams : Type 0 where
  pub answers : Option (List ℕ)
  pub orders : Option (List ℕ)
  pub lost : Bool

-- a beginning of an order is given
abbrev pub AppendsPart : Option (List ℕ) → Option (List ℕ) → List ℕ → Type 0
AppendsPart old new order = (n : ℕ) × Appends old new (take n order)

-- an order is given whole, and this byte answers it
pub record IsAnswered (old : Streams) (order : List ℕ) (byte : ℕ) (new : Streams) : Type 0 where
  pub given : Appends old.orders new.orders order
  pub answer : Consumes old.answers new.answers (byte ∷ [])

-- an order is given whole or in part, and nothing answers it
pub record IsUnanswered (old : Streams) (order : List ℕ) (new : Streams) : Type 0 where
  pub given : AppendsPart old.orders new.orders order
  pub silent : Keeps old.answers new.answers

-- an order is given whole, and neither 1 nor 2 answers it
pub record IsAnsweredOtherwise (old : Streams) (order : List ℕ) (new : Streams) : Type 0 where
  pub byte : ℕ
  pub undone : byte ≢ 1
  pub unfailed : byte ≢ 2
  pub answered : IsAnswered old order byte new

-- how an order that is given ends: 1 says that it is done and 2 that it failed; else power is lost
abbrev pub EndsBy : Streams → List ℕ → Streams → Result (Unit {0}) DevFault → Type 0
EndsBy old order new (Ok _) = IsAnswered old order 1 new × (new.lost ≡ false)
EndsBy old order new (Err Failed) = IsAnswered old order 2 new × (new.lost ≡ false)
EndsBy old order new (Err PowerCut) = (IsUnanswered old order new ⊎ IsAnsweredOtherwise old order new) × (new.lost ≡ true)

-- a driver is told to carry out an order; where its power is lost, it is told nothing
pub record Tells (old : Streams) (order : List ℕ) (new : Streams) (result : Result (Unit {0}) DevFault) : Type 0 where
  pub on : old.lost ≡ false → EndsBy old order new result
  pub off : old.lost ≡ true → (new ≡ old) × (result ≡ Err PowerCut)
