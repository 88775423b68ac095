-- Two states of a flash between which came reads alone, and nothing else.
use Rattle.std.specs.Prelude.{◌≡◌, ℕ, ◌≤◌, true, false, List, Result, refl}
use Rattle.std.proofs.Common.{sym, ◌∙◌, ap, arith}
use Rattle.flash_model.specs.declared.flash.DevFault.{DevFault}
use Rattle.flash_model.specs.declared.flash.PageState.{PageState}
use Rattle.flash_model.specs.Device.{Device, Reads}

-- between two states of a flash came reads alone
pub record OnlyReads (old new : Device) : Type 0 where
  pub geometry : new.geometry ≡ old.geometry
  pub pages : (p : ℕ) → new.pages p ≡ old.pages p
  pub worn : (b : ℕ) → new.worn b ≡ old.worn b
  pub failures : new.failures ≡ old.failures
  pub failed_reads : old.failed_reads ≤ new.failed_reads
  pub cuts : old.cuts ≤ new.cuts
  pub operations : old.operations ≤ new.operations
  pub was_on : new.powered ≡ true → old.powered ≡ true
  pub stays_off : old.powered ≡ false → new ≡ old

pub OnlyReads_itself : (d : Device) → OnlyReads d d
OnlyReads_itself d = record {
  geometry = refl;
  pages = λ p. refl;
  worn = λ b. refl;
  failures = refl;
  failed_reads = omega arith;
  cuts = omega arith;
  operations = omega arith;
  was_on = λ on. on;
  stays_off = λ off. refl;
}

pub OnlyReads_on : (d e f : Device) → OnlyReads d e → OnlyReads e f → OnlyReads d f
OnlyReads_on d e f r s = record {
  geometry = s.geometry ∙ r.geometry;
  pages = λ p. s.pages p ∙ r.pages p;
  worn = λ b. s.worn b ∙ r.worn b;
  failures = s.failures ∙ r.failures;
  failed_reads = omega arith;
  cuts = omega arith;
  operations = omega arith;
  was_on = λ on. r.was_on (s.was_on on);
  stays_off = λ off. s.stays_off (ap (λ (x : Device). x.powered) (r.stays_off off) ∙ off) ∙ r.stays_off off;
}

pub OnlyReads_from_read : (old : Device) (p : ℕ) (was : List ℕ) (new : Device) (now : List ℕ) (result : Result PageState DevFault)
    → Reads old p was new now result → OnlyReads old new
OnlyReads_from_read old p was new now result reads = record {
  geometry = reads.operates.geometry;
  pages = reads.pages;
  worn = reads.worn;
  failures = omega (arith, reads.operates.failures);
  failed_reads = omega (arith, reads.operates.failed_reads);
  cuts = omega (arith, reads.operates.cuts);
  operations = omega (arith, reads.operates.operations);
  was_on = λ on. reads.operates.was_on (sym reads.operates.power ∙ on);
  stays_off = reads.operates.off;
}

-- all pages at once
pub same_pages : {old new : Device} → OnlyReads old new → new.pages ≡ old.pages
same_pages reads = λ i p. reads.pages p i
