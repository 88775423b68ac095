-- How what is asked of an image ends, by how its parts do.
use Rattle.std.proofs.Common.{◌≡◌, ◌⊎◌, ℕ, Bool, false, Option, Result, Ok, Err, List, IfErr, OnOk, IfSome, take, inl, inr, refl, sym, subst, ap, ◌∙◌}
use Rattle.std.specs.Io.KnownBytes.{Appends}
use Rattle.fs_types.specs.Names.{Path}
use Rattle.fs_types.specs.declared.call.View.{View}
use Rattle.inquiries.specs.declared.inquiry.Inquiry.{Inquiry}
use Rattle.image_jobs.specs.InquiryWords.{IsMisspelled, file_at, file_in, tree_in, differences_between, differences_from}
use Rattle.image_jobs.specs.Tellings.{DiffEnds, IsTold, TellEnds, status_of_told}
use Rattle.image_jobs.specs.declared.failure.Failure.{Failure}

-- they are written
pub told_written : (spelled : Result Inquiry Failure) (held : Option (List ℕ)) (inquiry : Inquiry) (bytes lent : List ℕ) (old new : Option (List ℕ))
    → spelled ≡ Ok inquiry → IsTold held inquiry bytes → lent ≡ bytes → Appends old new lent → TellEnds spelled held (Ok tt) old new
told_written spelled held inquiry bytes lent old new is told same ok =
    (lent, record { inquiry = inquiry; is = is; told = subst (IsTold held inquiry) (sym same) told }, ok)

pub told_cut : (spelled : Result Inquiry Failure) (held : Option (List ℕ)) (inquiry : Inquiry) (bytes lent : List ℕ) (n : ℕ) (old new : Option (List ℕ))
    → spelled ≡ Ok inquiry → IsTold held inquiry bytes → lent ≡ bytes → Appends old new (take n lent) → TellEnds spelled held (Err Failure.Output) old new
told_cut spelled held inquiry bytes lent n old new is told same cut =
    inr (lent, n, record { inquiry = inquiry; is = is; told = subst (IsTold held inquiry) (sym same) told }, refl, cut)

-- by the inquiry that words spell
pub told_spelled : (spelled : Result Inquiry Failure) (inquiry : Inquiry) (held : Option (List ℕ)) (result : Result (Unit {0}) Failure) (old new : Option (List ℕ))
    → spelled ≡ Ok inquiry → TellEnds (Ok inquiry) held result old new → TellEnds spelled held result old new
told_spelled spelled inquiry held result old new is told = subst (λ (s : Result Inquiry Failure). TellEnds s held result old new) (sym is) told

-- what is not spelled
pub path_misspelled : (path : Result Path Failure) (view : Result View Failure) (failure : Failure) → IsMisspelled path failure → IsMisspelled (file_at path view) failure
path_misspelled path view failure (inl memory) = inl memory
path_misspelled path view failure (inr is) = inr (ap (λ p. file_at p view) is)

pub view_misspelled : (path : Result Path Failure) (view : Result View Failure) (there : Path) (failure : Failure) → path ≡ Ok there → IsMisspelled view failure → IsMisspelled (file_at path view) failure
view_misspelled path view there failure is (inl memory) = inl memory
view_misspelled path view there failure is (inr wrong) = inr (ap (λ p. file_at p view) is ∙ ap (file_in there) wrong)

pub tree_misspelled : (view : Result View Failure) (failure : Failure) → IsMisspelled view failure → IsMisspelled (tree_in view) failure
tree_misspelled view failure (inl memory) = inl memory
tree_misspelled view failure (inr wrong) = inr (ap tree_in wrong)

pub file_there : (path : Result Path Failure) (view : Result View Failure) (there : Path) (seen : View) → path ≡ Ok there → view ≡ Ok seen → file_at path view ≡ Ok (Inquiry.File seen there)
file_there path view there seen is sees = ap (λ p. file_at p view) is ∙ ap (file_in there) sees

pub old_misspelled : (old new : Result View Failure) (failure : Failure) → IsMisspelled old failure → IsMisspelled (differences_between old new) failure
old_misspelled old new failure (inl memory) = inl memory
old_misspelled old new failure (inr is) = inr (ap (λ v. differences_between v new) is)

pub new_misspelled : (old new : Result View Failure) (there : View) (failure : Failure) → old ≡ Ok there → IsMisspelled new failure → IsMisspelled (differences_between old new) failure
new_misspelled old new there failure is (inl memory) = inl memory
new_misspelled old new there failure is (inr wrong) = inr (ap (λ v. differences_between v new) is ∙ ap (differences_from there) wrong)

pub differences_there : (old new : Result View Failure) (there seen : View) → old ≡ Ok there → new ≡ Ok seen → differences_between old new ≡ Ok (Inquiry.Differences there seen)
differences_there old new there seen is sees = ap (λ v. differences_between v new) is ∙ ap (differences_from there) sees

-- differences are told, with the status that they ask for
pub told_with_status : (exit_code : Bool) (held : Option (List ℕ)) (inquiry : Inquiry) (bytes lent : List ℕ) (result : Result (Unit {0}) Failure) (old new : Option (List ℕ))
    → IsTold held inquiry bytes → lent ≡ bytes → Appends old new lent → result ≡ status_of_told exit_code lent → DiffEnds exit_code (Ok inquiry) held result old new
told_with_status exit_code held inquiry bytes lent result old new told same ok status =
    inl (lent, record { inquiry = inquiry; is = refl; told = subst (IsTold held inquiry) (sym same) told }, ok, status)

pub diff_spelled : (exit_code : Bool) (spelled : Result Inquiry Failure) (inquiry : Inquiry) (held : Option (List ℕ)) (result : Result (Unit {0}) Failure) (old new : Option (List ℕ))
    → spelled ≡ Ok inquiry → DiffEnds exit_code (Ok inquiry) held result old new → DiffEnds exit_code spelled held result old new
diff_spelled exit_code spelled inquiry held result old new is told = subst (λ (s : Result Inquiry Failure). DiffEnds exit_code s held result old new) (sym is) told
