-- An operation that begins, is carried out by the driver, shown and ended is one of a flash.
use Rattle.std.proofs.Common.{◌≡◌, ◌≢◌, ℕ, ◌+◌, true, List, Result, Ok, Err, sym, ap, ◌∙◌, subst, refl, arith, inl, inr}
use Rattle.flash_model.specs.declared.flash.DevFault.{DevFault}
use Rattle.flash_model.specs.declared.flash.DevFault.TheVariants.{Failed, PowerCut}
use Rattle.flash_model.specs.declared.flash.PageState.{PageState}
use Rattle.flash_model.specs.Device.{Device, Page, ReportsPage, Reads, Operates, failed, cut, AfterProgram, AfterErase, Programs, Erases, Wears, block_of, LeavesBeside}
use Rattle.flash_simulation.proofs.Ending.{Begins, operates_on}
use Rattle.mirrored_flash.specs.Shown.{page_after, erased_after}

-- what is shown is what an operation may leave
after_program : (result : Result (Unit {0}) DevFault) (was : Page) (bytes : List ℕ) → AfterProgram was bytes (page_after result was bytes) result
after_program (Ok u) was bytes = refl
after_program (Err Failed) was bytes = refl
after_program (Err PowerCut) was bytes = inl refl

after_erase : (result : Result (Unit {0}) DevFault) (was : Page) → AfterErase was (erased_after result was) result
after_erase (Ok u) was = refl
after_erase (Err Failed) was = inr (inr refl)
after_erase (Err PowerCut) was = inl refl

-- pages alone change after an operation has begun
begins : (old begun mid : Device) → old.powered ≡ true → begun ≡ record old { operations = old.operations + 1 }
    → mid ≡ record begun { pages = mid.pages } → Begins old mid
begins old begun mid on first pages = record {
  on = on;
  rest = pages ∙ ap (λ (d : Device). record d { pages = mid.pages }) first;
}

operates : (old mid new : Device) (b : ℕ) (result : Result (Unit {0}) DevFault) → Begins old mid → LeavesBeside mid b new result
    → Operates old new result 0 (failed result)
operates old mid new b result begins ends =
    let failed_reads : new.failed_reads ≡ old.failed_reads =
    ap (λ (d : Device). d.failed_reads) ends.rest ∙ ap (λ (d : Device). d.failed_reads) begins.rest in
    operates_on old new result 0 (failed result) begins.on
    (ap (λ (d : Device). d.geometry) ends.rest ∙ ap (λ (d : Device). d.geometry) begins.rest)
    (ap (λ (d : Device). d.powered) ends.rest)
    (omega (arith, failed_reads))
    (ap (λ (d : Device). d.failures) ends.rest ∙ ap (λ (d : Device). d.failures + failed result) begins.rest)
    (ap (λ (d : Device). d.cuts) ends.rest ∙ ap (λ (d : Device). d.cuts + cut result) begins.rest)
    (ap (λ (d : Device). d.operations) ends.rest ∙ ap (λ (d : Device). d.operations) begins.rest)

-- blocks wear from an operation on as from its beginning
wears : (old mid new : Device) (b : ℕ) (result : Result (Unit {0}) DevFault) → mid.worn ≡ old.worn → Wears mid new b result → Wears old new b result
wears old mid new b result same worn = subst (λ before. Wears (record old { worn = before }) new b result) same worn

program_done : (old mid new : Device) (p b : ℕ) (bytes : List ℕ) (result : Result (Unit {0}) DevFault)
    → b ≡ block_of old p → Begins old mid → LeavesBeside mid b new result
    → ((q : ℕ) → q ≢ p → mid.pages q ≡ old.pages q) → mid.pages p ≡ page_after result (old.pages p) bytes
    → Programs old p bytes new result × (new.pages p ≡ page_after result (old.pages p) bytes)
program_done old mid new p b bytes result block begins ends others own =
    let pages : new.pages ≡ mid.pages = ap (λ (d : Device). d.pages) ends.rest in
    let shown : new.pages p ≡ page_after result (old.pages p) bytes = ap (λ f. f p) pages ∙ own in (
      record {
        operates = operates old mid new b result begins ends;
        others = λ q apart. ap (λ f. f q) pages ∙ others q apart;
        page = subst (λ now. AfterProgram (old.pages p) bytes now result) (sym shown) (after_program result (old.pages p) bytes);
        worn = subst (λ c. Wears old new c result) block (wears old mid new b result (ap (λ (d : Device). d.worn) begins.rest) ends.worn);
      },
      shown,
    )

erase_done : (old mid new : Device) (b : ℕ) (result : Result (Unit {0}) DevFault) → Begins old mid → LeavesBeside mid b new result
    → ((p : ℕ) → block_of old p ≢ b → mid.pages p ≡ old.pages p)
    → ((p : ℕ) → block_of old p ≡ b → mid.pages p ≡ erased_after result (old.pages p))
    → Erases old b new result × ((p : ℕ) → block_of old p ≡ b → new.pages p ≡ erased_after result (old.pages p))
erase_done old mid new b result begins ends others own =
    let pages : new.pages ≡ mid.pages = ap (λ (d : Device). d.pages) ends.rest in
    let shown : (p : ℕ) → block_of old p ≡ b → new.pages p ≡ erased_after result (old.pages p) = λ p here. ap (λ f. f p) pages ∙ own p here in (
      record {
        operates = operates old mid new b result begins ends;
        others = λ p apart. ap (λ f. f p) pages ∙ others p apart;
        own = λ p here. subst (λ now. AfterErase (old.pages p) now result) (sym (shown p here)) (after_erase result (old.pages p));
        worn = wears old mid new b result (ap (λ (d : Device). d.worn) begins.rest) ends.worn;
      },
      shown,
    )

-- a program that begins, is shown by what the driver answered, and ends
pub program_told : (old begun mid new : Device) (p b : ℕ) (bytes : List ℕ) (done result : Result (Unit {0}) DevFault)
    → b ≡ block_of old p → old.powered ≡ true → begun ≡ record old { operations = old.operations + 1 } → mid ≡ record begun { pages = mid.pages }
    → LeavesBeside mid b new done → result ≡ done → ((q : ℕ) → q ≢ p → mid.pages q ≡ begun.pages q) → mid.pages p ≡ page_after done (begun.pages p) bytes
    → Programs old p bytes new result × (new.pages p ≡ page_after result (old.pages p) bytes)
program_told old begun mid new p b bytes done result block on first pages ends same others own =
    subst (λ r. Programs old p bytes new r × (new.pages p ≡ page_after r (old.pages p) bytes)) (sym same)
    (program_done old mid new p b bytes done block (begins old begun mid on first pages) ends
    (subst (λ (d : Device). (q : ℕ) → q ≢ p → mid.pages q ≡ d.pages q) first others)
    (subst (λ (d : Device). mid.pages p ≡ page_after done (d.pages p) bytes) first own))

-- an erase that begins, is shown by what the driver answered, and ends
pub erase_told : (old begun mid new : Device) (b : ℕ) (done result : Result (Unit {0}) DevFault)
    → old.powered ≡ true → begun ≡ record old { operations = old.operations + 1 } → mid ≡ record begun { pages = mid.pages }
    → LeavesBeside mid b new done → result ≡ done → ((p : ℕ) → block_of begun p ≢ b → mid.pages p ≡ begun.pages p)
    → ((p : ℕ) → block_of begun p ≡ b → mid.pages p ≡ erased_after done (begun.pages p))
    → Erases old b new result × ((p : ℕ) → block_of old p ≡ b → new.pages p ≡ erased_after result (old.pages p))
erase_told old begun mid new b done result on first pages ends same others own =
    subst (λ r. Erases old b new r × ((p : ℕ) → block_of old p ≡ b → new.pages p ≡ erased_after r (old.pages p))) (sym same)
    (erase_done old mid new b done (begins old begun mid on first pages) ends
    (subst (λ (d : Device). (p : ℕ) → block_of d p ≢ b → mid.pages p ≡ d.pages p) first others)
    (subst (λ (d : Device). (p : ℕ) → block_of d p ≡ b → mid.pages p ≡ erased_after done (d.pages p)) first own))

-- a read is one more operation and nothing else
pub read_done : (old new : Device) (p : ℕ) (was now : List ℕ) (state : PageState) → old.powered ≡ true
    → new ≡ record old { operations = old.operations + 1 } → ReportsPage (old.pages p) was now (Ok state) → Reads old p was new now (Ok state)
read_done old new p was now state on same shows =
    let failed_reads : new.failed_reads ≡ old.failed_reads = ap (λ (d : Device). d.failed_reads) same in
    let failures : new.failures ≡ old.failures = ap (λ (d : Device). d.failures) same in
    let cuts : new.cuts ≡ old.cuts = ap (λ (d : Device). d.cuts) same in
    record {
      operates = operates_on old new (Ok state) 0 0 on (ap (λ (d : Device). d.geometry) same) (ap (λ (d : Device). d.powered) same ∙ on)
          (omega (arith, failed_reads)) (omega (arith, failures)) (omega (arith, cuts)) (ap (λ (d : Device). d.operations) same);
      pages = λ q. ap (λ (d : Device). d.pages q) same;
      worn = λ b. ap (λ (d : Device). d.worn b) same;
      shows = shows;
    }
