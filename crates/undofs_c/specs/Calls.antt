-- What each call answers and leaves: 0 and what was done, or the number of why nothing was.
use Rattle.std.specs.Prelude.{◌≡◌, ℕ, Result, Ok, Err, List}
use Rattle.flash_model.specs.declared.geometry.Geometry.{Geometry}
use Rattle.image_buffer.specs.Buffers.{Buffers, BufferFormatEnds, BufferCheckEnds, BufferRunEnds}
use Rattle.image_buffer.specs.Faults.{buffer_fault_number}
use Rattle.image_buffer.specs.declared.buffer_fault.BufferFault.{BufferFault}
use Rattle.image_buffer.specs.declared.buffers.Written.{Written}

-- the sizes of a flash
abbrev pub flash_sizes : ℕ → ℕ → ℕ → Geometry
flash_sizes page pages blocks = record { page = page; pages = pages; blocks = blocks }

-- 0, or the number of why nothing was done
abbrev pub call_status : {A : Type 0} → Result A BufferFault → ℕ
call_status (Ok done) = 0
call_status (Err fault) = buffer_fault_number fault

-- a length that is told where something was done, and else stays
abbrev pub length_told : Result ℕ BufferFault → ℕ → ℕ
length_told (Ok count) length = count
length_told (Err fault) length = length

-- an image of a new flash was made in a buffer, and its length was told; or nothing was done
abbrev pub FormatAnswers : Geometry → ℕ → List ℕ → ℕ → ℕ → List ℕ → ℕ → Type 0
FormatAnswers sizes history old length answer new told =
    (result : Result ℕ BufferFault) × BufferFormatEnds sizes history old result new × (answer ≡ call_status result) × (told ≡ length_told result length)

-- an image was mounted; or it was not
abbrev pub CheckAnswers : List ℕ → ℕ → Type 0
CheckAnswers image answer = (result : Result (Unit {0}) BufferFault) × BufferCheckEnds image result × (answer ≡ call_status result)

-- the lengths of the image and of the replies
pub record Lengths : Type 0 where
  pub image : ℕ
  pub replies : ℕ

abbrev pub lengths : ℕ → ℕ → Lengths
lengths image replies = record { image = image; replies = replies }

-- the lengths that are told where a script was run, and else stay
abbrev pub lengths_told : Result Written BufferFault → Lengths → Lengths
lengths_told (Ok written) old = lengths written.image written.replies
lengths_told (Err fault) old = old

-- a script was run on an image, whose length is told, with that of the replies; or nothing was done
abbrev pub RunAnswers : Buffers → Lengths → List ℕ → ℕ → Buffers → Lengths → Type 0
RunAnswers old length script answer new told =
    (result : Result Written BufferFault) × BufferRunEnds old length.image script result new × (answer ≡ call_status result) × (told ≡ lengths_told result length)
