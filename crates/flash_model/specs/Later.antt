-- Later states of one flash, with no power put on between: a relation that every operation meets, and that composes.
use Rattle.std.specs.Prelude.{◌≡◌, ℕ, ◌≤◌, true, false, List, Result, Ok, Err, refl}
use Rattle.std.proofs.Common.{◌∙◌, ap, inl, inr, arith}
use Rattle.std.proofs.lemmas.Bool.{cases_eq}
use Rattle.flash_model.specs.declared.flash.DevFault.{DevFault}
use Rattle.flash_model.specs.declared.flash.DevFault.TheVariants.{Failed, PowerCut}
use Rattle.flash_model.specs.declared.flash.PageState.{PageState}
use Rattle.flash_model.specs.Device.{Device, Operates, Reads, Programs, Erases, Wears, block_of}

-- sizes stay, counts grow, a worn block stays worn, and with the power off nothing changes
pub record IsLater (old new : Device) : Type 0 where
  pub geometry : new.geometry ≡ old.geometry
  pub off : old.powered ≡ false → new ≡ old
  pub failed_reads : old.failed_reads ≤ new.failed_reads
  pub failures : old.failures ≤ new.failures
  pub cuts : old.cuts ≤ new.cuts
  pub operations : old.operations ≤ new.operations
  pub worn : (b : ℕ) → old.worn b ≡ true → new.worn b ≡ true

pub IsLater_itself : (d : Device) → IsLater d d
IsLater_itself d = record {
  geometry = refl;
  off = λ _. refl;
  failed_reads = omega arith;
  failures = omega arith;
  cuts = omega arith;
  operations = omega arith;
  worn = λ b worn. worn;
}

pub IsLater_on : (d e f : Device) → IsLater d e → IsLater e f → IsLater d f
IsLater_on d e f first next = record {
  geometry = next.geometry ∙ first.geometry;
  off = λ off. next.off (ap (λ (x : Device). x.powered) (first.off off) ∙ off) ∙ first.off off;
  failed_reads = omega arith;
  failures = omega arith;
  cuts = omega arith;
  operations = omega arith;
  worn = λ b worn. next.worn b (first.worn b worn);
}

later : {T : Type 0} (old new : Device) (result : Result T DevFault) (reads fails : ℕ) → Operates old new result reads fails
    → ((b : ℕ) → old.worn b ≡ true → new.worn b ≡ true) → IsLater old new
later old new result reads fails done worn = record {
  geometry = done.geometry;
  off = done.off;
  failed_reads = omega (arith, done.failed_reads);
  failures = omega (arith, done.failures);
  cuts = omega (arith, done.cuts);
  operations = omega (arith, done.operations);
  worn = worn;
}

stays_worn : (old new : Device) (b : ℕ) (result : Result (Unit {0}) DevFault) → Wears old new b result
    → (c : ℕ) → old.worn c ≡ true → new.worn c ≡ true
stays_worn old new b (Ok _) same c worn = same c ∙ worn
stays_worn old new b (Err Failed) wears c worn = elim (cases_eq c b) [
  | inl here ↦ ap new.worn here ∙ wears.0
  | inr apart ↦ wears.1 c apart ∙ worn
]
stays_worn old new b (Err PowerCut) same c worn = same c ∙ worn

pub IsLater_from_read : (old : Device) (p : ℕ) (was : List ℕ) (new : Device) (now : List ℕ) (result : Result PageState DevFault)
    → Reads old p was new now result → IsLater old new
IsLater_from_read old p was new now result reads = later old new result _ _ reads.operates (λ b worn. reads.worn b ∙ worn)

pub IsLater_from_program : (old : Device) (p : ℕ) (bytes : List ℕ) (new : Device) (result : Result (Unit {0}) DevFault)
    → Programs old p bytes new result → IsLater old new
IsLater_from_program old p bytes new result programs =
    later old new result _ _ programs.operates (stays_worn old new (block_of old p) result programs.worn)

pub IsLater_from_erase : (old : Device) (b : ℕ) (new : Device) (result : Result (Unit {0}) DevFault)
    → Erases old b new result → IsLater old new
IsLater_from_erase old b new result erases = later old new result _ _ erases.operates (stays_worn old new b result erases.worn)
