-- What is done with an image in a buffer, for each way it ends.
use Rattle.std.specs.Prelude.{◌≡◌, ◌⊎◌, ℕ, ◌<◌, ◌≤◌, Option, Some, Result, Ok, Err, List, [], ◌++◌, take, drop, length}
use Rattle.fs_types.specs.declared.fault.Fault.{Fault}
use Rattle.flash_model.specs.Geometry.{IsGeometry}
use Rattle.flash_simulation.specs.Simulation.{device_of}
use Rattle.flash_simulation.specs.declared.sim_flash.SimFlash.{SimFlash}
use Rattle.flash_model.specs.declared.geometry.Geometry.{Geometry}
use Rattle.flash_simulation.specs.Images.{image_of, IsFault}
use Rattle.system.specs.Mounts.{IsMountOf}
use Rattle.system.specs.declared.systems.System.{System}
use Rattle.script_runs.specs.Flashes.{IsNewFlash, IsDecoded, IsMade, IsUnformatted}
use Rattle.script_runs.specs.Scripts.{streams_at, EndsOnSimFlash, IsUnmounted}
use Rattle.script_runs.specs.declared.scripts.ScriptFault.{ScriptFault}
use Rattle.image_buffer.specs.Faults.{buffer_fault_of_script}
use Rattle.image_buffer.specs.declared.buffer_fault.BufferFault.{BufferFault}
use Rattle.image_buffer.specs.declared.buffers.Played.{Played}
use Rattle.image_buffer.specs.declared.buffers.Written.{Written}

-- a buffer has these bytes at its front, so many, and after them what it had there
pub record HoldsAtFront (old bytes : List ℕ) (count : ℕ) (new : List ℕ) : Type 0 where
  pub told : count ≡ length bytes
  pub fits : length bytes ≤ length old
  pub left : new ≡ bytes ++ drop (length bytes) old

-- the image of a flash stands at the front of a buffer
abbrev pub HoldsImage : List ℕ → SimFlash → ℕ → List ℕ → Type 0
HoldsImage old flash count new = HoldsAtFront old (image_of (device_of flash)) count new

-- why no new flash was formatted: for want of memory, or since the sizes or the limit are refused, or a format is
abbrev pub MakeRefusal : Geometry → ℕ → BufferFault → Type 0
MakeRefusal sizes limit BufferFault.Memory = Unit {0}
MakeRefusal sizes limit (BufferFault.System fault) = ((fault ≡ Fault.BadGeometry) × (IsGeometry sizes → ⊥))
    ⊎ ((start : SimFlash) × (end : SimFlash) × IsNewFlash sizes start × IsUnformatted limit start end fault)
MakeRefusal sizes limit _ = ⊥

-- why no image of one stands in a buffer of so many bytes: there is none, or it has more bytes
abbrev pub FormatRefusal : Geometry → ℕ → ℕ → BufferFault → Type 0
FormatRefusal sizes limit room BufferFault.ImageRoom = (flash : SimFlash) × IsMade sizes limit flash × (room < length (image_of (device_of flash)))
FormatRefusal sizes limit room fault = MakeRefusal sizes limit fault

-- the image of a new flash of these sizes that was formatted stands at the front of a buffer; or the buffer is as it was, for
-- a cause
abbrev pub BufferFormatEnds : Geometry → ℕ → List ℕ → Result ℕ BufferFault → List ℕ → Type 0
BufferFormatEnds sizes limit old (Ok count) new = (flash : SimFlash) × IsMade sizes limit flash × HoldsImage old flash count new
BufferFormatEnds sizes limit old (Err fault) new = FormatRefusal sizes limit (length old) fault × (new ≡ old)

-- why bytes spell no flash: for want of memory, or by their fault
abbrev pub DecodeRefusal : List ℕ → BufferFault → Type 0
DecodeRefusal image BufferFault.Memory = Unit {0}
DecodeRefusal image (BufferFault.Image fault) = IsFault fault image
DecodeRefusal image _ = ⊥

-- why an image is not mounted: its bytes spell no flash, or the mount was refused
abbrev pub CheckRefusal : List ℕ → BufferFault → Type 0
CheckRefusal image (BufferFault.System fault) = (start : SimFlash) × (end : SimFlash) × IsDecoded image start × IsUnmounted start end fault
CheckRefusal image fault = DecodeRefusal image fault

-- the flash that bytes spell is mounted; or it is not, for a cause
abbrev pub BufferCheckEnds : List ℕ → Result (Unit {0}) BufferFault → Type 0
BufferCheckEnds image (Ok done) = (start : SimFlash) × (end : SimFlash) × (system : System) × IsDecoded image start × IsMountOf (device_of start) (device_of end) system
BufferCheckEnds image (Err fault) = CheckRefusal image fault

-- a script was run on the flash that bytes spell, and so ended, with the flash that is left and the replies
abbrev pub BufferPlays : List ℕ → List ℕ → Result (Unit {0}) ScriptFault → SimFlash → List ℕ → Type 0
BufferPlays image script result end replies = (start : SimFlash) × (left : Option (List ℕ)) × IsDecoded image start × EndsOnSimFlash start end (streams_at (Some script) (Some [])) result (streams_at left (Some replies))

-- what a script leaves that ran to its end: the image of the flash, and the replies
abbrev pub IsPlayed : List ℕ → List ℕ → Played → Type 0
IsPlayed image script played = (end : SimFlash) × BufferPlays image script (Ok tt) end played.replies.items × (played.image.items ≡ image_of (device_of end))

-- it was not run to its end, for this
abbrev pub BufferBreaksOff : List ℕ → List ℕ → BufferFault → Type 0
BufferBreaksOff image script fault = (end : SimFlash) × (replies : List ℕ) × (why : ScriptFault) × BufferPlays image script (Err why) end replies × (buffer_fault_of_script why ≡ fault)

-- why a script was not run to its end on the flash that bytes spell: they spell none, there is no system, or the input failed
abbrev pub PlayRefusal : List ℕ → List ℕ → BufferFault → Type 0
PlayRefusal image script (BufferFault.System fault) = BufferBreaksOff image script (BufferFault.System fault)
PlayRefusal image script BufferFault.Input = BufferBreaksOff image script BufferFault.Input
PlayRefusal image script fault = DecodeRefusal image fault

-- it was, and the image of the flash that is left and the replies fail to fit so
abbrev pub Overflows : List ℕ → List ℕ → (ℕ → ℕ → Type 0) → Type 0
Overflows image script Fails = (end : SimFlash) × (replies : List ℕ) × BufferPlays image script (Ok tt) end replies × Fails (length (image_of (device_of end))) (length replies)

-- why a script on the image at the front of a buffer has no effect: the image is told to be longer than the buffer; or the
-- script is not run to its end; or the new image is longer than the buffer, or it is not and the replies are longer than theirs
abbrev pub RunRefusal : List ℕ → ℕ → List ℕ → ℕ → BufferFault → Type 0
RunRefusal buffer count script reply_room BufferFault.Length = length buffer < count
RunRefusal buffer count script reply_room BufferFault.ImageRoom = (count ≤ length buffer) × Overflows (take count buffer) script (λ image replies. length buffer < image)
RunRefusal buffer count script reply_room BufferFault.ReplyRoom =
    (count ≤ length buffer) × Overflows (take count buffer) script (λ image replies. (image ≤ length buffer) × (reply_room < replies))
RunRefusal buffer count script reply_room fault = (count ≤ length buffer) × PlayRefusal (take count buffer) script fault

-- the buffers of an image and of replies
pub record Buffers : Type 0 where
  pub image : List ℕ
  pub replies : List ℕ

abbrev pub buffers : List ℕ → List ℕ → Buffers
buffers image replies = record { image = image; replies = replies }

-- a script was run to its end on the image of so many bytes at the front of a buffer: the image of the flash that is left stands
-- there, and the replies stand at the front of theirs; or both buffers are as they were, for a cause
abbrev pub BufferRunEnds : Buffers → ℕ → List ℕ → Result Written BufferFault → Buffers → Type 0
BufferRunEnds old count script (Ok written) new = (count ≤ length old.image) × ((end : SimFlash) × (replies : List ℕ) × BufferPlays (take count old.image) script (Ok tt) end replies
    × HoldsImage old.image end written.image new.image × HoldsAtFront old.replies replies written.replies new.replies)
BufferRunEnds old count script (Err fault) new = RunRefusal old.image count script (length old.replies) fault × (new ≡ old)
