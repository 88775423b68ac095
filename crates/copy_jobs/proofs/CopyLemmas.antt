-- How a flash is copied to a new one, step by step.
use Rattle.std.proofs.Common.{◌≡◌, ◌∙◌, ℕ, Some, ap, inl, inr, subst}
use Rattle.flash_model.specs.Device.{Device}
use Rattle.flash_model.specs.Reading.{OnlyReads}
use Rattle.flash_simulation.specs.Simulation.{device_of}
use Rattle.flash_model.specs.declared.geometry.Geometry.{Geometry}
use Rattle.flash_simulation.specs.declared.sim_flash.SimFlash.{SimFlash}
use Rattle.history_machine.specs.History.{Past}
use Rattle.mounting.specs.Saved.{record_in, saved_on}
use Rattle.system.specs.Mounts.{IsMountOf}
use Rattle.system.specs.declared.systems.System.{System}
use Rattle.copies.specs.Copied.{IsCopied}
use Rattle.script_runs.specs.Flashes.{IsMade}
use Rattle.image_jobs.specs.Images.{FormatFailure}
use Rattle.image_jobs.specs.declared.failure.Failure.{Failure}
use Rattle.copy_jobs.specs.Copied.{limit_of, sizes_of}
use Rattle.copy_jobs.specs.Copying.{IsAskedCopy, StopsCopy, UncopiedCause}
use Rattle.copy_jobs.specs.declared.asked_sizes.AskedSizes.{AskedSizes}

-- the newest record of a flash is the one that was mounted
pub saved_by : (first read : Device) (system : System) (mounted : IsMountOf first read system) → saved_on first ≡ Some mounted.newest
saved_by first read system mounted = ap record_in mounted.holds

-- the limit is that of the newest record, where none is asked for
pub limit_by : (asked : AskedSizes) (first read : Device) (system : System) (limit kept : ℕ) (mounted : IsMountOf first read system) → limit ≡ limit_of asked kept → kept ≡ system.state.history.limit
    → limit ≡ limit_of asked mounted.newest.limit
limit_by asked first read system limit kept mounted is same = is ∙ ap (limit_of asked) (same ∙ ap (λ (h : Past ℕ). h.limit) mounted.loaded.history)

-- a new flash has the sizes that it was made with
pub made_sizes : (sizes : Geometry) (limit : ℕ) (flash : SimFlash) → IsMade sizes limit flash → (device_of flash).geometry ≡ sizes
made_sizes sizes limit flash (start, lawful, new, formatted) = formatted.sizes ∙ new.new.geometry

-- a new flash is made, and gets the copy
pub copied_by : (asked : AskedSizes) (first read second copy : SimFlash) (system : System) (sizes given : Geometry) (limit : ℕ) (mounted : IsMountOf (device_of first) (device_of read) system)
    → OnlyReads (device_of first) (device_of read) → sizes ≡ sizes_of asked given → given ≡ (device_of first).geometry → limit ≡ limit_of asked mounted.newest.limit → IsMade sizes limit second
    → IsCopied limit (device_of read) (device_of copy) → (device_of copy).geometry ≡ (device_of second).geometry → IsAskedCopy asked first copy
copied_by asked first read second copy system sizes given limit mounted reads sizes_is same is made copied kept = (
  mounted.newest,
  saved_by (device_of first) (device_of read) system mounted,
  record {
    read = read;
    reads = reads;
    copied = subst (λ (n : ℕ). IsCopied n (device_of read) (device_of copy)) is copied;
    sizes = kept ∙ made_sizes sizes limit second made ∙ sizes_is ∙ ap (sizes_of asked) same;
  },
)

-- no new flash is made
pub unmade_by : (asked : AskedSizes) (first read : SimFlash) (system : System) (sizes given : Geometry) (limit : ℕ) (failure : Failure) (mounted : IsMountOf (device_of first) (device_of read) system)
    → sizes ≡ sizes_of asked given → given ≡ (device_of first).geometry → limit ≡ limit_of asked mounted.newest.limit → FormatFailure sizes limit failure → UncopiedCause asked first failure
unmade_by asked first read system sizes given limit failure mounted sizes_is same is cause =
    let at_sizes = subst (λ (s : Geometry). FormatFailure s limit failure) (sizes_is ∙ ap (sizes_of asked) same) cause in
    inr (mounted.newest, saved_by (device_of first) (device_of read) system mounted, inl (subst (λ (n : ℕ). FormatFailure (sizes_of asked (device_of first).geometry) n failure) is at_sizes))

-- the copying to it stops
pub stopped_by : (asked : AskedSizes) (first read second : SimFlash) (system : System) (sizes given : Geometry) (limit : ℕ) (failure : Failure) (mounted : IsMountOf (device_of first) (device_of read) system)
    → OnlyReads (device_of first) (device_of read) → sizes ≡ sizes_of asked given → given ≡ (device_of first).geometry → limit ≡ limit_of asked mounted.newest.limit → IsMade sizes limit second
    → StopsCopy limit read second failure → UncopiedCause asked first failure
stopped_by asked first read second system sizes given limit failure mounted reads sizes_is same is made cause =
    let at_sizes = subst (λ (s : Geometry). IsMade s limit second) (sizes_is ∙ ap (sizes_of asked) same) made in
    inr (
      mounted.newest,
      saved_by (device_of first) (device_of read) system mounted,
      inr (record {
        read = read;
        reads = reads;
        second = second;
        made = subst (λ (n : ℕ). IsMade (sizes_of asked (device_of first).geometry) n second) is at_sizes;
        cause = subst (λ (n : ℕ). StopsCopy n read second failure) is cause;
      }),
    )
