-- How a look at what the history keeps of the flash ended.
use Rattle.std.proofs.Common.{◌≡◌, ℕ, ◌≤◌, Bool, true, false, Result, Ok, Err, refl, sym, subst, arith}
use Rattle.std.specs.Prelude.{IfOk, IfErr}
use Rattle.fs_types.specs.declared.fault.Fault.{Fault}
use Rattle.fs_types.specs.declared.fault.Fault.TheVariants.{PowerCut}
use Rattle.flash_model.specs.Device.{Device}
use Rattle.working_state.specs.Seen.{machine_on, seen_on}
use Rattle.working_state.specs.Worked.{ReadCause}
use Rattle.system.specs.HistorySpace.{Looks}
use Rattle.system.specs.Systems.{IsSystem}
use Rattle.system.specs.VersionSpace.{IsHistorySpace, TellsHistorySpace}
use Rattle.system.specs.declared.systems.System.{System}
use Rattle.system.specs.declared.version_space.HistorySpace.{HistorySpace}
use Rattle.system.proofs.ToldBefore.{told_before}
use Rattle.inquiries.specs.Readings.{Meets}
use Rattle.inquiries.proofs.Counted.{cause_meets}

-- how a look at what the history keeps ended
pub record LookEnded (d : Device) (m : System) (result : Result HistorySpace Fault) (e : Device) (n : System) : Type 0 where
  pub machine : machine_on e n.state ≡ machine_on d m.state
  pub pages : (p : ℕ) → e.pages p ≡ d.pages p
  pub failed_reads : d.failed_reads ≤ e.failed_reads
  pub space : IfOk result (IsHistorySpace d m.state)
  pub err : IfErr result (Meets d e)

module _ (d : Device) (m : System) (result : Result HistorySpace Fault) (e : Device) (n : System) (s : IsSystem d m) (tells : TellsHistorySpace d m result e n) where
  stopped : (result ≡ Err PowerCut) × (e ≡ d) × (n ≡ m) → d.powered ≡ false → LookEnded d m result e n
  stopped (is, same, kept) dark =
      subst (λ (r : Result HistorySpace Fault). LookEnded d m r e n) (sym is)
      (subst (λ (x : Device). LookEnded d m (Err PowerCut) x n) (sym same)
      (subst (λ (y : System). LookEnded d m (Err PowerCut) d y) (sym kept)
      (record { machine = refl; pages = λ p. refl; failed_reads = omega arith; space = tt; err = dark })))

  looked : (r : Result HistorySpace Fault) → Looks d m r e n → IfOk r (IsHistorySpace e n.state) → IfErr r (Meets d e) → LookEnded d m r e n
  looked r looks told why = record {
    machine = looks.stays.machine;
    pages = looks.stays.reads.pages;
    failed_reads = looks.stays.reads.failed_reads;
    space = told_before d m r e n s.mounted.lawful looks told;
    err = why;
  }

  met : m.state.is_off ≡ false → IfErr result (Meets d e)
  met on = by result (tells.why on)
    where
      by : (r : Result HistorySpace Fault) → IfErr r (λ fault. ReadCause (seen_on d m.state) fault (seen_on e n.state)) → IfErr r (Meets d e)
      by (Ok space) why = tt
      by (Err fault) why = cause_meets d e m n fault why

  pub look_ended : LookEnded d m result e n
  look_ended = by m.state.is_off refl
    where
      by : (off : Bool) → m.state.is_off ≡ off → LookEnded d m result e n
      by true off = stopped (tells.stopped off) (s.mounted.off off)
      by false on = looked result (tells.looks on) tells.told (met on)
