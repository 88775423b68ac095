-- The parts of a driver.
use Rattle.std.specs.Prelude.{ℕ, Bool, List, Option}
use Rattle.remote_flash.specs.declared.driver.Driver.{Driver}
use Rattle.remote_flash.specs.Streams.{Streams}

-- the stream of its answers
abbrev pub driver_answers : {R W : Type 0} → Driver R W → R
driver_answers driver = driver.answers

-- the stream of its orders
abbrev pub driver_orders : {R W : Type 0} → Driver R W → W
driver_orders driver = driver.orders

-- whether its power is lost for good
abbrev pub driver_lost : {R W : Type 0} → Driver R W → Bool
driver_lost driver = driver.is_lost

-- both streams, where they tell their bytes
abbrev pub driver_streams : {R W : Type 0} → (R → Option (List ℕ)) → (W → Option (List ℕ)) → Driver R W → Streams
driver_streams remaining contents driver = record {
  answers = remaining driver.answers;
  orders = contents driver.orders;
  lost = driver.is_lost;
}
