-- Blocks that were cleaned stay so until they are programmed.
use Rattle.std.proofs.Common.{◌≡◌, ◌≢◌, ◌∙◌, ℕ, ◌+◌, ◌/◌, List, Bool, true, false, Ok, Err, Result, sym, ap, inl, inr, arith}
use Rattle.std.proofs.lemmas.Bool.{true≢false, cases_eq}
use Rattle.std.specs.Prelude.{is_ok, slice_index_or}
use Rattle.flash_model.specs.declared.flash.DevFault.{DevFault}
use Rattle.flash_model.specs.Device.{Device, Page, erased, AfterErase, Erases, Operates, block_of}
use Rattle.nor_part.specs.Cleaned.{AreClean}
use Rattle.nor_part.specs.Layout.{page_in}

-- one block was noted, in which alone pages changed
pub noted : (held now : ℕ → List ℕ) (was after : List Bool) (b : ℕ) (x : Bool) → AreClean held was
    → ((p : ℕ) → p / 16 ≢ b → page_in now p ≡ page_in held p) → slice_index_or after b false ≡ x
    → (x ≡ true → (p : ℕ) → p / 16 ≡ b → page_in now p ≡ erased)
    → ((c : ℕ) → c ≢ b → slice_index_or after c false ≡ slice_index_or was c false) → AreClean now after
noted held now was after b x clean others own erases rest c is p here = elim (cases_eq c b) [
  | inl same ↦ erases (sym own ∙ ap (λ n. slice_index_or after n false) (sym same) ∙ is) p (here ∙ same)
  | inr apart ↦ others p (λ there. apart (sym here ∙ there)) ∙ clean c (sym (rest c apart) ∙ is) p here
]

-- a block that was not erased is none
pub unnoted : (old : ℕ → Page) (now : ℕ → Page) (p : ℕ) (result : Result (Unit {0}) DevFault) → AfterErase (old p) (now p) result → is_ok result ≡ true → now p ≡ erased
unnoted old now p (Ok u) after ok = after
unnoted old now p (Err fault) after ok = absurd (true≢false (sym ok))

-- an erase of a blank block, which is one more operation and nothing else
pub erased_already : (old new : Device) (b : ℕ) → old.powered ≡ true → new ≡ record old { operations = old.operations + 1 } → ((p : ℕ) → block_of old p ≡ b → old.pages p ≡ erased) → Erases old b new (Ok tt)
erased_already old new b on same blank =
    let failed_reads : new.failed_reads ≡ old.failed_reads = ap (λ (d : Device). d.failed_reads) same in
    let failures : new.failures ≡ old.failures = ap (λ (d : Device). d.failures) same in
    let cuts : new.cuts ≡ old.cuts = ap (λ (d : Device). d.cuts) same in
    let operations : new.operations ≡ old.operations + 1 = ap (λ (d : Device). d.operations) same in
    let operates : Operates {T = Unit {0}} old new (Ok tt) 0 0 = record {
      geometry = ap (λ (d : Device). d.geometry) same;
      power = ap (λ (d : Device). d.powered) same ∙ on;
      was_on = λ _. on;
      off = λ off. absurd cc;
      failed_reads = omega (arith, failed_reads);
      failures = omega (arith, failures);
      cuts = rw on (omega (arith, cuts));
      operations = rw on operations;
    } in
    record {
      operates = operates;
      others = λ p apart. ap (λ (d : Device). d.pages p) same;
      own = λ p here. ap (λ (d : Device). d.pages p) same ∙ blank p here;
      worn = λ c. ap (λ (d : Device). d.worn c) same;
    }
