-- Programs and erases one after the other, and what passes between a flash and its driver in them.
use Rattle.std.specs.Prelude.{◌≡◌, ◌≢◌, ◌⊎◌, ℕ, Bool, true, false, List, [], ◌∷◌, ◌++◌, take, All, Option, Some, Result, Ok, Err, if◌then◌else◌}
use Rattle.std.specs.Io.KnownBytes.{Appends, Consumes}
use Rattle.flash_model.specs.declared.flash.DevFault.{DevFault}
use Rattle.flash_model.specs.declared.flash.DevFault.TheVariants.{Failed, PowerCut}
use Rattle.flash_model.specs.declared.geometry.Geometry.{Geometry}
use Rattle.remote_flash.specs.Orders.{IsOrder}
use Rattle.remote_flash.specs.Streams.{Streams, Tells}

-- a program or an erase: its order, and how it ended
pub record Attempt : Type 0 where
  pub order : List ℕ
  pub result : Result (Unit {0}) DevFault

-- a driver is told to carry out these in turn
abbrev pub TellsAll : Streams → List Attempt → Streams → Type 0
TellsAll old [] new = new ≡ old
TellsAll old (first ∷ more) new = (mid : Streams) × Tells old first.order mid first.result × TellsAll mid more new

-- power went
abbrev pub is_cut : Result (Unit {0}) DevFault → Bool
is_cut (Ok _) = false
is_cut (Err Failed) = false
is_cut (Err PowerCut) = true

-- the byte that says so
abbrev pub answer_of : Result (Unit {0}) DevFault → List ℕ
answer_of (Ok _) = 1 ∷ []
answer_of (Err Failed) = 2 ∷ []
answer_of (Err PowerCut) = []

-- the orders up to the one in which power went
abbrev pub orders_before_cut : List Attempt → List ℕ
orders_before_cut [] = []
orders_before_cut (first ∷ more) = if is_cut first.result then [] else first.order ++ orders_before_cut more

-- the order in which power went
abbrev pub cut_order : List Attempt → List ℕ
cut_order [] = []
cut_order (first ∷ more) = if is_cut first.result then first.order else cut_order more

-- what answers the orders up to the one in which power went
abbrev pub answers_before_cut : List Attempt → List ℕ
answers_before_cut [] = []
answers_before_cut (first ∷ more) = if is_cut first.result then [] else answer_of first.result ++ answers_before_cut more

-- what may answer the order in which power went: nothing, or a byte that is neither 1 nor 2
abbrev pub IsNoAnswer : List ℕ → Type 0
IsNoAnswer bytes = (bytes ≡ []) ⊎ ((byte : ℕ) × (byte ≢ 1) × (byte ≢ 2) × (bytes ≡ byte ∷ []))

-- all orders are given in turn and answered up to the one in which power went, of which a beginning is given
pub record ArePassed (old : Streams) (attempts : List Attempt) (new : Streams) : Type 0 where
  pub given : (n : ℕ) × Appends old.orders new.orders (orders_before_cut attempts ++ take n (cut_order attempts))
  pub answered : (last : List ℕ) × IsNoAnswer last × Consumes old.answers new.answers (answers_before_cut attempts ++ last)

-- each writer of a kind tells its bytes
abbrev pub TellsAlways : {W : Type 0} → (W → Option (List ℕ)) → Type 0
TellsAlways {W} contents = (writer : W) → (bytes : List ℕ) × (contents writer ≡ Some bytes)

-- the streams of a driver that was told to carry out programs and erases of a flash in turn, and was given nothing else
pub record HasOrdered {W : Type 0} (g : Geometry) (contents : W → Option (List ℕ)) (now : Streams) : Type 0 where
  pub first : Streams
  pub live : first.lost ≡ false
  pub unused : TellsAlways contents → first.orders ≡ Some []
  pub attempts : List Attempt
  pub lawful : All (λ attempt. IsOrder g attempt.order) attempts
  pub told : TellsAll first attempts now

-- all that a driver was given: the orders of attempts in turn up to one that was cut, of which a beginning was given. None was cut
-- where power is not lost
pub record AreOrders (g : Geometry) (lost : Bool) (bytes : List ℕ) : Type 0 where
  pub attempts : List Attempt
  pub lawful : All (λ attempt. IsOrder g attempt.order) attempts
  pub live : lost ≡ false → All (λ attempt. is_cut attempt.result ≡ false) attempts
  pub given : (n : ℕ) × (bytes ≡ orders_before_cut attempts ++ take n (cut_order attempts))
