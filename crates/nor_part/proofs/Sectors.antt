-- What is done to a sector of a part in memory is what an erase may leave.
use Rattle.std.proofs.Common.{◌≡◌, ◌≢◌, ℕ, ◌*◌, ◌/◌, ◌<◌, true, List, length, slice_index, Option, Some, None, inl, inr, sym, ◌∙◌, subst, arith}
use Rattle.std.proofs.lemmas.Bool.{cases_eq}
use Rattle.flash_model.specs.declared.flash.DevFault.TheVariants.{Failed, PowerCut}
use Rattle.nor_part.specs.declared.memory_nor.Trouble.{Trouble}
use Rattle.nor_part.specs.declared.memory_nor.Trouble.TheVariants.{Fails, CutBefore, CutWithin, CutAfter}
use Rattle.nor_part.specs.Part.{is_blank, AfterSectorErase, ErasesSector}
use Rattle.nor_part.specs.Memory.{trouble_answer}
use Rattle.nor_part.proofs.Pages.{torn_from_blank}

-- a page that is blank now
blank_told : (due : Option Trouble) (old new : List ℕ) → length new ≡ length old → is_blank new ≡ true → AfterSectorErase old new (trouble_answer due)
blank_told None old new same blank = blank
blank_told (Some Fails) old new same blank = torn_from_blank old new Failed same blank
blank_told (Some CutBefore) old new same blank = torn_from_blank old new PowerCut same blank
blank_told (Some CutWithin) old new same blank = torn_from_blank old new PowerCut same blank
blank_told (Some CutAfter) old new same blank = torn_from_blank old new PowerCut same blank

kept : (old new : List ℕ) → new ≡ old → (i : ℕ) → i < length old → slice_index old i ≢ 0 → slice_index new i ≢ 0
kept old new same i below some gone = some (subst (λ (xs : List ℕ). slice_index xs i ≡ 0) same gone)

-- a page that is as it was
kept_told : (trouble : Trouble) (old new : List ℕ) → new ≡ old → AfterSectorErase old new (trouble_answer (Some trouble))
kept_told Fails old new same = kept old new same
kept_told CutBefore old new same = kept old new same
kept_told CutWithin old new same = kept old new same
kept_told CutAfter old new same = kept old new same

-- the whole sector is erased
pub sector_erased : (old new : ℕ → List ℕ) (s : ℕ) (due : Option Trouble) → ((n : ℕ) → n / 16 ≢ s → new n ≡ old n)
    → ((n : ℕ) → n / 16 ≡ s → is_blank (new n) ≡ true) → ((n : ℕ) → length (old n) ≡ 256) → ((n : ℕ) → length (new n) ≡ 256)
    → ErasesSector old s new (trouble_answer due)
sector_erased old new s due others own before after = record {
  others = others;
  own = λ m here. blank_told due (old m) (new m) (after m ∙ sym (before m)) (own m here);
}

-- its first page alone is
pub page_erased : (old new : ℕ → List ℕ) (s : ℕ) (trouble : Trouble) → ((n : ℕ) → n ≢ 16 * s → new n ≡ old n)
    → is_blank (new (16 * s)) ≡ true → ((n : ℕ) → length (old n) ≡ 256) → ((n : ℕ) → length (new n) ≡ 256)
    → ErasesSector old s new (trouble_answer (Some trouble))
page_erased old new s trouble others own before after = record {
  others = λ m far. others m (λ same. far (omega (arith, same)));
  own = λ m here. elim (cases_eq m (16 * s)) [
    | inl is ↦ blank_told (Some trouble) (old m) (new m) (after m ∙ sym (before m)) (subst (λ n. is_blank (new n) ≡ true) (sym is) own)
    | inr apart ↦ kept_told trouble (old m) (new m) (others m apart)
  ];
}
