-- The pages of a record that stands on the first ones of a flash.
use Rattle.std.specs.Prelude.{ℕ, List}
use Rattle.flash_model.specs.Device.{Device}
use Rattle.anchors.specs.Programming.{HasRecordPages}

-- of the first `count` pages, those of a record, the ones before the n-th are there; the others hold no part
abbrev pub HasFirstPages : Device → Device → ℕ → List ℕ → ℕ → ℕ → Type 0
HasFirstPages old new sequence payload count n = HasRecordPages old.geometry old.pages new.pages 0 sequence payload count n
