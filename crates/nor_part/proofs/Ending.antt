-- An operation that begins, changes pages alone and ends is one of the flash.
use Rattle.std.proofs.Common.{◌≡◌, ◌≢◌, ℕ, ◌+◌, true, List, Result, sym, ap, ◌∙◌, subst, arith}
use Rattle.flash_model.specs.declared.flash.DevFault.{DevFault}
use Rattle.flash_model.specs.declared.flash.PageState.{PageState}
use Rattle.flash_model.specs.Device.{Device, Page, ReportsPage, Reads, Operates, failed, cut, AfterProgram, AfterErase, Programs, Erases, Wears, block_of, LeavesBeside}
use Rattle.nor_part.specs.States.{read_ended}

-- an operation has begun, with the power on, and changed pages alone
pub record Begins (old mid : Device) : Type 0 where
  pub on : old.powered ≡ true
  pub rest : mid ≡ record old { pages = mid.pages; operations = old.operations + 1 }

pub begins : (old begun : Device) (pages : ℕ → Page) → old.powered ≡ true → begun ≡ record old { operations = old.operations + 1 }
    → Begins old (record begun { pages = pages })
begins old begun pages on same = record {
  on = on;
  rest = ap (λ (d : Device). record d { pages = pages }) same;
}

operates : (old mid new : Device) (b : ℕ) (result : Result (Unit {0}) DevFault) → Begins old mid → LeavesBeside mid b new result
    → Operates old new result 0 (failed result)
operates old mid new b result begins ends =
    let on : old.powered ≡ true = begins.on in
    let failed_reads : new.failed_reads ≡ old.failed_reads =
    ap (λ (d : Device). d.failed_reads) ends.rest ∙ ap (λ (d : Device). d.failed_reads) begins.rest in
    let cuts : new.cuts ≡ old.cuts + cut result =
    ap (λ (d : Device). d.cuts) ends.rest ∙ ap (λ (d : Device). d.cuts + cut result) begins.rest in
    let operations : new.operations ≡ old.operations + 1 =
    ap (λ (d : Device). d.operations) ends.rest ∙ ap (λ (d : Device). d.operations) begins.rest in
    record {
      geometry = ap (λ (d : Device). d.geometry) ends.rest ∙ ap (λ (d : Device). d.geometry) begins.rest;
      power = ap (λ (d : Device). d.powered) ends.rest;
      was_on = λ _. on;
      off = λ off. absurd cc;
      failed_reads = omega (arith, failed_reads);
      failures = ap (λ (d : Device). d.failures) ends.rest ∙ ap (λ (d : Device). d.failures + failed result) begins.rest;
      cuts = rw on cuts;
      operations = rw on operations;
    }

-- blocks wear from an operation on as from its beginning
wears : (old mid new : Device) (b : ℕ) (result : Result (Unit {0}) DevFault) → mid.worn ≡ old.worn → Wears mid new b result → Wears old new b result
wears old mid new b result same worn = subst (λ before. Wears (record old { worn = before }) new b result) same worn

-- a program of a page
pub program_done : (old mid new : Device) (p b : ℕ) (bytes : List ℕ) (result : Result (Unit {0}) DevFault)
    → b ≡ block_of old p → Begins old mid → LeavesBeside mid b new result
    → ((q : ℕ) → q ≢ p → mid.pages q ≡ old.pages q) → AfterProgram (old.pages p) bytes (mid.pages p) result
    → Programs old p bytes new result
program_done old mid new p b bytes result block begins ends others own =
    let pages : new.pages ≡ mid.pages = ap (λ (d : Device). d.pages) ends.rest in
    record {
      operates = operates old mid new b result begins ends;
      others = λ q apart. ap (λ f. f q) pages ∙ others q apart;
      page = subst (λ now. AfterProgram (old.pages p) bytes now result) (sym (ap (λ f. f p) pages)) own;
      worn = subst (λ c. Wears old new c result) block (wears old mid new b result (ap (λ (d : Device). d.worn) begins.rest) ends.worn);
    }

-- an erase of a block
pub erase_done : (old mid new : Device) (b : ℕ) (result : Result (Unit {0}) DevFault) → Begins old mid → LeavesBeside mid b new result
    → ((p : ℕ) → block_of old p ≢ b → mid.pages p ≡ old.pages p)
    → ((p : ℕ) → block_of old p ≡ b → AfterErase (old.pages p) (mid.pages p) result)
    → Erases old b new result
erase_done old mid new b result begins ends others own =
    let pages : new.pages ≡ mid.pages = ap (λ (d : Device). d.pages) ends.rest in
    record {
      operates = operates old mid new b result begins ends;
      others = λ p apart. ap (λ f. f p) pages ∙ others p apart;
      own = λ p here. subst (λ now. AfterErase (old.pages p) now result) (sym (ap (λ f. f p) pages)) (own p here);
      worn = wears old mid new b result (ap (λ (d : Device). d.worn) begins.rest) ends.worn;
    }

-- a read of a page, which is one more operation, and is counted where it failed or was cut
pub read_done : (old mid new : Device) (p : ℕ) (was now : List ℕ) (result : Result PageState DevFault) → old.powered ≡ true
    → mid ≡ record old { operations = old.operations + 1 } → new ≡ read_ended mid result → ReportsPage (old.pages p) was now result
    → Reads old p was new now result
read_done old mid new p was now result on begun ended shows =
    let same : new ≡ read_ended (record old { operations = old.operations + 1 }) result = ended ∙ ap (λ (d : Device). read_ended d result) begun in
    let failures : new.failures ≡ old.failures = ap (λ (d : Device). d.failures) same in
    let cuts : new.cuts ≡ old.cuts + cut result = ap (λ (d : Device). d.cuts) same in
    let operations : new.operations ≡ old.operations + 1 = ap (λ (d : Device). d.operations) same in
    let operates : Operates old new result (failed result) 0 = record {
      geometry = ap (λ (d : Device). d.geometry) same;
      power = ap (λ (d : Device). d.powered) same;
      was_on = λ _. on;
      off = λ off. absurd cc;
      failed_reads = ap (λ (d : Device). d.failed_reads) same;
      failures = omega (arith, failures);
      cuts = rw on cuts;
      operations = rw on operations;
    } in
    record {
      operates = operates;
      pages = λ q. ap (λ (d : Device). d.pages q) same;
      worn = λ b. ap (λ (d : Device). d.worn b) same;
      shows = shows;
    }
