-- Why a look at nodes is refused.
use Rattle.std.proofs.Common.{◌≡◌, ◌≢◌, refl, sym, subst, arith}
use Rattle.std.proofs.lemmas.Bool.{true≢false}
use Rattle.fs_types.specs.declared.fault.Fault.{Fault}
use Rattle.fs_types.specs.declared.fault.Fault.TheVariants.{Damaged, ReadFailed, PowerCut, NoMemory}
use Rattle.flash_model.specs.Device.{Device}
use Rattle.flash_model.specs.Reading.{OnlyReads}
use Rattle.node_store.specs.Faults.{IsReadFault}
use Rattle.node_store.specs.Stores.{Causes}
use Rattle.node_store.specs.declared.store.Store.{Store}
use Rattle.salvages.specs.Causes.{ReadCause}

pub look_cause : {F : Type 0} (device : F → Device) (s t : Store F) (fault : Fault) → IsReadFault fault → fault ≢ Damaged → (fault ≢ Damaged → Causes device s t fault) → ReadCause (device s.flash.now) (device t.flash.now) fault
look_cause device s t ReadFailed is apart why = (why apart).reason
look_cause device s t PowerCut is apart why = (why apart).reason
look_cause device s t NoMemory is apart why = tt
look_cause device s t Damaged is apart why = absurd (apart refl)
look_cause device s t _ is apart why = absurd (true≢false (sym is))

-- want of memory is told as such
pub memory_cause : (old new : Device) (fault : Fault) → fault ≡ NoMemory → ReadCause old new fault
memory_cause old new fault is = subst (ReadCause old new) (sym is) tt

-- why a read is refused, after other reads
pub later_cause : (old mid new : Device) (fault : Fault) → OnlyReads old mid → ReadCause mid new fault → ReadCause old new fault
later_cause old mid new ReadFailed reads why = let l = reads.failed_reads in omega arith
later_cause old mid new PowerCut reads why = why
later_cause old mid new NoMemory reads why = tt
later_cause old mid new _ reads why = absurd why
