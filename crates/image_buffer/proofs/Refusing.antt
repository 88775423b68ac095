-- Refusals of a part, as refusals of the whole.
use Rattle.std.proofs.Common.{◌≡◌, ◌⊎◌, ◌<◌, ◌≤◌, ℕ, List, Err, take, length, inl, inr, refl, arith}
use Rattle.fs_types.specs.declared.limits.TheConstants.{MIN_VERSIONS, MAX_VERSIONS}
use Rattle.fs_types.specs.declared.fault.Fault.{Fault}
use Rattle.flash_model.specs.Geometry.{IsGeometry}
use Rattle.flash_simulation.specs.Simulation.{device_of}
use Rattle.flash_model.specs.declared.geometry.Geometry.{Geometry}
use Rattle.flash_simulation.specs.declared.sim_flash.SimFlash.{SimFlash}
use Rattle.flash_simulation.specs.Images.{IsFault}
use Rattle.flash_simulation.specs.declared.image_fault.ImageFault.{ImageFault}
use Rattle.script_runs.specs.Flashes.{IsNewFlash, IsDecoded, AreLawful, IsUnformatted}
use Rattle.script_runs.specs.Scripts.{IsUnmounted}
use Rattle.script_runs.specs.declared.scripts.ScriptFault.{ScriptFault}
use Rattle.image_buffer.specs.Faults.{buffer_fault_of_image, buffer_fault_of_system, buffer_fault_of_script}
use Rattle.image_buffer.specs.Buffers.{MakeRefusal, FormatRefusal, DecodeRefusal, CheckRefusal, BufferPlays, PlayRefusal, RunRefusal}
use Rattle.image_buffer.specs.declared.buffer_fault.BufferFault.{BufferFault}

-- a limit that is not refused
pub lawful_limit : (sizes : Geometry) (limit : ℕ) → IsGeometry sizes → (limit < MIN_VERSIONS → ⊥) → (MAX_VERSIONS < limit → ⊥) → AreLawful sizes limit
lawful_limit sizes limit lawful low high = record { geometry = lawful; least = omega arith; most = omega arith }

-- a format that is refused
pub format_refused : (sizes : Geometry) (limit : ℕ) (start end : SimFlash) (fault : Fault) → IsNewFlash sizes start → IsUnformatted limit start end fault
    → MakeRefusal sizes limit (buffer_fault_of_system fault)
format_refused sizes limit start end Fault.NoMemory new cause = tt
format_refused sizes limit start end fault new cause = inr (start, end, new, cause)

-- sizes that are refused
pub sizes_refused : (sizes : Geometry) (limit : ℕ) → (IsGeometry sizes → ⊥) → MakeRefusal sizes limit (buffer_fault_of_system Fault.BadGeometry)
sizes_refused sizes limit unlawful = inl (refl, unlawful)

pub make_refused : (sizes : Geometry) (limit room : ℕ) (fault : BufferFault) → MakeRefusal sizes limit fault → FormatRefusal sizes limit room fault
make_refused sizes limit room BufferFault.ImageRoom cause = absurd cause
make_refused sizes limit room fault cause = cause

-- bytes that are no image
pub bytes_refused : (bytes : List ℕ) (fault : ImageFault) → (fault ≡ ImageFault.Memory) ⊎ IsFault fault bytes → DecodeRefusal bytes (buffer_fault_of_image fault)
bytes_refused bytes ImageFault.Memory cause = tt
bytes_refused bytes ImageFault.NotImage (inl is) = absurd cc
bytes_refused bytes ImageFault.NotImage (inr cause) = cause
bytes_refused bytes ImageFault.BadGeometry (inl is) = absurd cc
bytes_refused bytes ImageFault.BadGeometry (inr cause) = cause
bytes_refused bytes ImageFault.BadState (inl is) = absurd cc
bytes_refused bytes ImageFault.BadState (inr cause) = cause
bytes_refused bytes ImageFault.Truncated (inl is) = absurd cc
bytes_refused bytes ImageFault.Truncated (inr cause) = cause
bytes_refused bytes ImageFault.Trailing (inl is) = absurd cc
bytes_refused bytes ImageFault.Trailing (inr cause) = cause

-- bytes that spell no flash are not mounted
pub decode_refused : (bytes : List ℕ) (fault : BufferFault) → DecodeRefusal bytes fault → CheckRefusal bytes fault
decode_refused bytes (BufferFault.System fault) cause = absurd cause
decode_refused bytes fault cause = cause

-- a mount that is refused
pub mount_refused : (bytes : List ℕ) (start end : SimFlash) (fault : Fault) → IsDecoded bytes start → IsUnmounted start end fault → CheckRefusal bytes (buffer_fault_of_system fault)
mount_refused bytes start end Fault.NoMemory decoded cause = tt
mount_refused bytes start end fault decoded cause = (start, end, decoded, cause)

-- no script is run on bytes that spell no flash
pub unplayed : (bytes script : List ℕ) (fault : BufferFault) → DecodeRefusal bytes fault → PlayRefusal bytes script fault
unplayed bytes script (BufferFault.System fault) cause = absurd cause
unplayed bytes script BufferFault.Input cause = absurd cause
unplayed bytes script fault cause = cause

-- a script that is not run to its end
pub broken_off : (bytes script replies : List ℕ) (end : SimFlash) (why : ScriptFault) → BufferPlays bytes script (Err why) end replies → PlayRefusal bytes script (buffer_fault_of_script why)
broken_off bytes script replies end (ScriptFault.Mount Fault.NoMemory) plays = tt
broken_off bytes script replies end (ScriptFault.Mount fault) plays = (end, replies, ScriptFault.Mount fault, plays, refl)
broken_off bytes script replies end ScriptFault.Read plays = (end, replies, ScriptFault.Read, plays, refl)
broken_off bytes script replies end ScriptFault.Write plays = tt
broken_off bytes script replies end ScriptFault.Memory plays = tt

-- and has no effect on its buffers
pub play_refused : (buffer : List ℕ) (count : ℕ) (script : List ℕ) (reply_room : ℕ) (fault : BufferFault)
    → count ≤ length buffer → PlayRefusal (take count buffer) script fault → RunRefusal buffer count script reply_room fault
play_refused buffer count script reply_room BufferFault.Length fits cause = absurd cause
play_refused buffer count script reply_room BufferFault.ImageRoom fits cause = absurd cause
play_refused buffer count script reply_room BufferFault.ReplyRoom fits cause = absurd cause
play_refused buffer count script reply_room fault fits cause = (fits, cause)
