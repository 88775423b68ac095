-- What planned faults leave is what an operation may leave.
use Rattle.std.proofs.Common.{◌≡◌, ◌≢◌, ◌⊎◌, inl, inr, ℕ, ◌+◌, ◌%◌, ◌==◌, Bool, true, false, List, Option, Some, None, Result, Ok, Err, if◌then◌else◌, sym, ap, ◌∙◌, subst, refl, arith}
use Rattle.std.specs.Prelude.{option_map}
use Rattle.std.specs.Result.{result_err}
use Rattle.flash_model.specs.declared.flash.DevFault.{DevFault}
use Rattle.flash_model.specs.declared.fault_kind.FaultKind.{FaultKind}
use Rattle.flash_model.specs.declared.fault_kind.FaultKind.TheVariants.{ReadFail, ReadCut, ProgramFail, ProgramCutNone, ProgramCutWhole, ProgramCutTorn, EraseFail, EraseCutNone, EraseCutWhole, EraseCutTorn}
use Rattle.flash_simulation.specs.declared.sim_flash.SimFlash.{SimFlash}
use Rattle.flash_model.specs.Device.{Device, Page, unreadable, Operates, power_after, failed, cut, AfterProgram, AfterErase, Programs, Erases, Wears, block_of, LeavesBeside}
use Rattle.flash_model.specs.Plan.{Schedule, kind_answer}
use Rattle.flash_simulation.specs.Stored.{programmed, erased_to, ErasesPages}
use Rattle.flash_simulation.specs.Simulation.{device_of}

befallen_program : (kind : FaultKind) (was : Page) (bytes : List ℕ) → AfterProgram was bytes (programmed (Some kind) was bytes) (Err (kind_answer kind))
befallen_program ReadFail was bytes = refl
befallen_program ReadCut was bytes = inr (inr refl)
befallen_program ProgramFail was bytes = refl
befallen_program ProgramCutNone was bytes = inl refl
befallen_program ProgramCutWhole was bytes = inr (inl refl)
befallen_program ProgramCutTorn was bytes = inr (inr refl)
befallen_program EraseFail was bytes = refl
befallen_program EraseCutNone was bytes = inr (inr refl)
befallen_program EraseCutWhole was bytes = inr (inr refl)
befallen_program EraseCutTorn was bytes = inr (inr refl)

-- the programmed page, by what befell the program
pub after_program : (due : Option FaultKind) (was : Page) (bytes : List ℕ) (result : Result (Unit {0}) DevFault)
    → result_err result ≡ option_map kind_answer due → AfterProgram was bytes (programmed due was bytes) result
after_program None was bytes (Ok u) h = refl
after_program None was bytes (Err e) h = absurd cc
after_program (Some kind) was bytes (Ok u) h = absurd cc
after_program (Some kind) was bytes (Err e) h =
    let same : kind_answer kind ≡ e = cc in
    subst (λ fault. AfterProgram was bytes (programmed (Some kind) was bytes) (Err fault)) same (befallen_program kind was bytes)

-- a page that is spoilt or left
spoilt : (even : Bool) (was : Page) → ((if even then unreadable else was) ≡ was) ⊎ ((if even then unreadable else was) ≡ unreadable)
spoilt true was = inr refl
spoilt false was = inl refl

outcome : {P Q R : Type 0} → P ⊎ R → P ⊎ (Q ⊎ R)
outcome (inl p) = inl p
outcome (inr r) = inr (inr r)

befallen_erase : (kind : FaultKind) (place : ℕ) (was : Page) (fault : DevFault) → AfterErase was (erased_to (Some kind) place was) (Err fault)
befallen_erase EraseCutNone place was fault = inl refl
befallen_erase EraseCutWhole place was fault = inr (inl refl)
befallen_erase ReadFail place was fault = outcome (spoilt (place % 2 == 0) was)
befallen_erase ReadCut place was fault = outcome (spoilt (place % 2 == 0) was)
befallen_erase ProgramFail place was fault = outcome (spoilt (place % 2 == 0) was)
befallen_erase ProgramCutNone place was fault = outcome (spoilt (place % 2 == 0) was)
befallen_erase ProgramCutWhole place was fault = outcome (spoilt (place % 2 == 0) was)
befallen_erase ProgramCutTorn place was fault = outcome (spoilt (place % 2 == 0) was)
befallen_erase EraseFail place was fault = outcome (spoilt (place % 2 == 0) was)
befallen_erase EraseCutTorn place was fault = outcome (spoilt (place % 2 == 0) was)

-- a page of the erased block, by what befell the erase
pub after_erase : (due : Option FaultKind) (place : ℕ) (was : Page) (result : Result (Unit {0}) DevFault)
    → result_err result ≡ option_map kind_answer due → AfterErase was (erased_to due place was) result
after_erase None place was (Ok u) h = refl
after_erase None place was (Err e) h = absurd cc
after_erase (Some kind) place was (Ok u) h = absurd cc
after_erase (Some kind) place was (Err e) h = befallen_erase kind place was e

-- what an operation does to power and counts, where power was on
pub operates_on : {T : Type 0} (old new : Device) (result : Result T DevFault) (reads fails : ℕ) → old.powered ≡ true
    → new.geometry ≡ old.geometry → new.powered ≡ power_after result → new.failed_reads ≡ old.failed_reads + reads
    → new.failures ≡ old.failures + fails → new.cuts ≡ old.cuts + cut result → new.operations ≡ old.operations + 1
    → Operates old new result reads fails
operates_on old new result reads fails on geometry power failed_reads failures cuts operations = record {
  geometry = geometry;
  power = power;
  was_on = λ _. on;
  off = λ off. absurd cc;
  failed_reads = failed_reads;
  failures = failures;
  cuts = rw on cuts;
  operations = rw on operations;
}

-- an operation has begun, with the power on, and changed pages alone
pub record Begins (old mid : Device) : Type 0 where
  pub on : old.powered ≡ true
  pub rest : mid ≡ record old { pages = mid.pages; operations = old.operations + 1 }

pub begins : (old mid : SimFlash) (plan : Schedule) (pages : ℕ → Page) → old.powered ≡ true
    → mid ≡ record old { plan = plan; operations = mid.operations } → mid.operations.n ≡ old.operations.n + 1
    → Begins (device_of old) (record (device_of mid) { pages = pages })
begins old mid plan pages on begun counted = record {
  on = on;
  rest = ap (λ (f : SimFlash). record (device_of f) { pages = pages }) begun
      ∙ ap (λ (n : ℕ). record (device_of old) { pages = pages; operations = n }) counted;
}

operates : (old mid new : Device) (b : ℕ) (result : Result (Unit {0}) DevFault) → Begins old mid → LeavesBeside mid b new result
    → Operates old new result 0 (failed result)
operates old mid new b result begins ends =
    let failed_reads : new.failed_reads ≡ old.failed_reads =
    ap (λ (d : Device). d.failed_reads) ends.rest ∙ ap (λ (d : Device). d.failed_reads) begins.rest in
    operates_on old new result 0 (failed result) begins.on
    (ap (λ (d : Device). d.geometry) ends.rest ∙ ap (λ (d : Device). d.geometry) begins.rest)
    (ap (λ (d : Device). d.powered) ends.rest)
    (omega (arith, failed_reads))
    (ap (λ (d : Device). d.failures) ends.rest ∙ ap (λ (d : Device). d.failures + failed result) begins.rest)
    (ap (λ (d : Device). d.cuts) ends.rest ∙ ap (λ (d : Device). d.cuts + cut result) begins.rest)
    (ap (λ (d : Device). d.operations) ends.rest ∙ ap (λ (d : Device). d.operations) begins.rest)

-- blocks wear from an operation on as from its beginning
wears : (old mid new : Device) (b : ℕ) (result : Result (Unit {0}) DevFault) → mid.worn ≡ old.worn → Wears mid new b result → Wears old new b result
wears old mid new b result same worn = subst (λ before. Wears (record old { worn = before }) new b result) same worn

-- a program that begins, changes its page by what befalls it and ends
pub program_done : (old mid new : Device) (p b : ℕ) (bytes : List ℕ) (due : Option FaultKind) (result : Result (Unit {0}) DevFault)
    → b ≡ block_of old p → Begins old mid → LeavesBeside mid b new result → result_err result ≡ option_map kind_answer due
    → ((q : ℕ) → q ≢ p → mid.pages q ≡ old.pages q) → mid.pages p ≡ programmed due (old.pages p) bytes
    → Programs old p bytes new result
program_done old mid new p b bytes due result block begins ends answer others own =
    let pages : new.pages ≡ mid.pages = ap (λ (d : Device). d.pages) ends.rest in
    record {
      operates = operates old mid new b result begins ends;
      others = λ q apart. ap (λ f. f q) pages ∙ others q apart;
      page = subst (λ now. AfterProgram (old.pages p) bytes now result) (sym (ap (λ f. f p) pages ∙ own)) (after_program due (old.pages p) bytes result answer);
      worn = subst (λ c. Wears old new c result) block (wears old mid new b result (ap (λ (d : Device). d.worn) begins.rest) ends.worn);
    }

-- an erase that begins, changes the pages of its block by what befalls it and ends
pub erase_done : (old mid new : Device) (b : ℕ) (due : Option FaultKind) (result : Result (Unit {0}) DevFault)
    → Begins old mid → LeavesBeside mid b new result → result_err result ≡ option_map kind_answer due
    → ErasesPages old.pages old.geometry.pages b due mid.pages → Erases old b new result
erase_done old mid new b due result begins ends answer erases =
    let pages : new.pages ≡ mid.pages = ap (λ (d : Device). d.pages) ends.rest in
    record {
      operates = operates old mid new b result begins ends;
      others = λ p apart. ap (λ f. f p) pages ∙ erases.others p apart;
      own = λ p here. subst (λ now. AfterErase (old.pages p) now result) (sym (ap (λ f. f p) pages ∙ erases.own p here))
          (after_erase due (p % old.geometry.pages) (old.pages p) result answer);
      worn = wears old mid new b result (ap (λ (d : Device). d.worn) begins.rest) ends.worn;
    }
