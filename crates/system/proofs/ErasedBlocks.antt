-- What the erase of a block leaves of a flash and of the bad list.
use Rattle.std.proofs.Common.{◌≡◌, ◌∙◌, ℕ, ◌+◌, ◌*◌, ◌<◌, ◌≤◌, Bool, true, false, cond, Result, Ok, Err, refl, sym, ap, subst, arith}
use Rattle.std.proofs.lemmas.Bool.{both_ways, or_right, eq-eqb}
use Rattle.std.proofs.lemmas.Cmp.{nat_cmp_total}
use Rattle.std.specs.Cmp.{unsigned_tied}
use Rattle.std.specs.FinSet as set
use Rattle.std.specs.Ordering.{nat_cmp}
use Rattle.std.specs.Prelude.{◌||◌}
use Rattle.flash_model.specs.declared.flash.DevFault.{DevFault}
use Rattle.flash_model.specs.declared.flash.DevFault.TheVariants.{Failed}
use Rattle.flash_model.specs.Device.{Device, Erases, erased, failed}
use Rattle.flash_model.specs.Blocks.{block_of-at}
use Rattle.flash_model.specs.Later.{IsLater_from_erase}
use Rattle.node_store.specs.Storage.{DeviceGoesOn}
use Rattle.node_store.specs.StorageLaws.{new_listed, len_listed}
use Rattle.system.specs.CleaningRounds.{ErasesBlock, IsBlank}

goes_on : (d e : Device) (b : ℕ) (result : Result (Unit {0}) DevFault) → Erases d b e result → DeviceGoesOn d e
goes_on d e b result erases =
    let later = IsLater_from_erase d b e result erases in
    record {
      geometry = later.geometry;
      worn = later.worn;
      failed_reads = later.failed_reads;
      cuts = later.cuts;
      was_on = λ on. erases.operates.was_on (sym erases.operates.power ∙ on);
      stays_off = later.off;
    }

once : (on : Bool) (a b : ℕ) → b ≡ a + cond on 1 0 → b ≤ a + 1
once true a b is = omega arith
once false a b is = omega arith

-- with the bad list as it was, where no failure came
pub erased_block : (d e : Device) (bad : set.FinSet nat_cmp) (b : ℕ) (result : Result (Unit {0}) DevFault) → failed result ≡ 0 → Erases d b e result → ErasesBlock d bad b e bad
erased_block d e bad b result none erases = record {
  device = goes_on d e b result erases;
  others = erases.others;
  failed_reads = let is = erases.operates.failed_reads in omega arith;
  operations = once d.powered d.operations e.operations erases.operates.operations;
  stays_bad = λ c is. is;
  new_bad = λ c now before. absurd (both_ways (set.contains bad c) before now);
  failures = let is = erases.operates.failures in omega arith;
}

-- and with the block in it, where its erase failed
pub failed_block : (d e : Device) (bad : set.FinSet nat_cmp) (b : ℕ) → set.contains bad b ≡ false → Erases d b e (Err Failed) → ErasesBlock d bad b e (set.insert bad b)
failed_block d e bad b good erases = record {
  device = goes_on d e b (Err Failed) erases;
  others = erases.others;
  failed_reads = let is = erases.operates.failed_reads in omega arith;
  operations = once d.powered d.operations e.operations erases.operates.operations;
  stays_bad = λ c is. set.contains-insert nat_cmp_total bad b c ∙ or_right _ (set.contains bad c) is;
  new_bad = λ c now before.
      let here = new_listed bad b c now before in
      (here, ap e.worn here ∙ erases.worn.0);
  failures = let is = erases.operates.failures in let longer = len_listed bad b good in omega arith;
}

-- a block that is erased is blank
pub erased_blank : (d e : Device) (b : ℕ) → Erases d b e (Ok tt) → IsBlank e b
erased_blank d e b erases j within =
    let inside : j < d.geometry.pages = subst (λ (g : _). j < g.pages) erases.operates.geometry within in
    subst (λ (n : ℕ). e.pages (b * n + j) ≡ erased) (sym (ap (λ (g : _). g.pages) erases.operates.geometry))
    (erases.own (b * d.geometry.pages + j) (block_of-at d b j inside))

-- a block that was listed is bad
pub now_listed : (bad bad' : set.FinSet nat_cmp) (b : ℕ) → bad' ≡ set.insert bad b → set.contains bad' b ≡ true
now_listed bad bad' b is = ap (λ (s : set.FinSet nat_cmp). set.contains s b) is ∙ set.contains-insert nat_cmp_total bad b b ∙ ap (λ t. t || set.contains bad b) (unsigned_tied b b ∙ eq-eqb b b refl)
