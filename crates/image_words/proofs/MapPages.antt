-- A page that is put into a file.
use Rattle.std.proofs.Common.{◌≡◌, ◌⊎◌, ℕ, false, Result, Ok, Err, List, IfErr, IfSome, OnOk, inl, inr, sym, subst}
use Rattle.host_interface.specs.Files.{Held, takes_away}
use Rattle.image_jobs.specs.Images.{IsUnclaimed, Unsaved}
use Rattle.image_jobs.specs.declared.failure.Failure.{Failure}
use Rattle.image_words.specs.Maps.{IsMapPage, MapPageEnds}

-- it is saved, or not
pub page_saved : (name file : List ℕ) (held saved : Held) (page lent : List ℕ) (result : Result (Unit {0}) Failure) → takes_away file name ≡ false → IsMapPage (held name) page → lent ≡ page
    → OnOk result (IfSome (saved file) (λ all. all ≡ lent)) → IfErr result (λ failure. (IsUnclaimed failure × (saved ≡ held)) ⊎ Unsaved (held file) (saved file) lent failure)
    → MapPageEnds name file held saved result
page_saved name file held saved page lent (Ok done) spared is same ok err = (lent, spared, subst (IsMapPage (held name)) (sym same) is, ok)
page_saved name file held saved page lent (Err failure) spared is same ok (inl (unclaimed, unchanged)) = inl (inl unclaimed, unchanged)
page_saved name file held saved page lent (Err failure) spared is same ok (inr unsaved) = inr (lent, spared, subst (IsMapPage (held name)) (sym same) is, unsaved)
