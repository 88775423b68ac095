-- The bytes of a part that are written.
use Rattle.std.proofs.Common.{◌≡◌, ◌∙◌, ◌⊎◌, ℕ, Option, Some, None, Result, Ok, Err, List, length, take, IfErr, OnOk, IfSome, ap, inl, inr, refl, subst, sym}
use Rattle.fs_types.specs.declared.fault.Fault.{Fault}
use Rattle.flash_model.specs.Device.{Device}
use Rattle.host_interface.specs.declared.image_files.TheConstants.{MOST_BYTES}
use Rattle.image_jobs.specs.Failures.{of_system}
use Rattle.image_jobs.specs.Images.{Unsaved}
use Rattle.image_jobs.specs.declared.failure.Failure.{Failure}
use Rattle.raw_part.specs.Raws.{IsRawLength, IsRawOf}
use Rattle.raw_part.specs.declared.part_layout.PartLayout.{PartLayout}
use Rattle.image_words.specs.RawImages.{AsksLayout, IsNoPart, IsRawFile, IsTaken, IsTakenFlash, RawFileCause, TakenCause, WritesRaw}
use Rattle.image_words.specs.declared.raw_sizes.RawSizes.{RawSizes}

known_raw : (d : Device) (left : Option (List ℕ)) (bytes : List ℕ) → IsRawOf d bytes → IfSome left (λ all. all ≡ bytes) → IfSome left (IsRawOf d)
known_raw d None bytes raw is = tt
known_raw d (Some all) bytes raw is = subst (IsRawOf d) (sym is) raw

pub raw_written : (d : Device) (held left : Option (List ℕ)) (bytes lent : List ℕ) (result : Result (Unit {0}) Failure) → IsRawOf d bytes → lent ≡ bytes → OnOk result (IfSome left (λ all. all ≡ lent))
    → IfErr result (Unsaved held left lent) → WritesRaw d held left result
raw_written d held left bytes lent (Ok done) raw same ok err = known_raw d left lent (subst (IsRawOf d) (sym same) raw) ok
raw_written d held left bytes lent (Err failure) raw same ok err = (lent, subst (IsRawOf d) (sym same) raw, err)

-- the bytes of the first blocks are fewer, so what is taken of them is no part
pub untaken : (layout : PartLayout) (blocks : Option ℕ) (bytes : List ℕ) → ((part : List ℕ) → IsTaken layout blocks bytes part → ⊥) → IsNoPart layout blocks bytes
untaken layout blocks bytes none part taken = absurd (none part taken)

one_taken : (layout : PartLayout) (blocks : Option ℕ) (bytes first second : List ℕ) → IsTaken layout blocks bytes first → IsTaken layout blocks bytes second → first ≡ second
one_taken layout None bytes first second one two = one ∙ sym two
one_taken layout (Some n) bytes first second one two = one.1 ∙ sym two.1

-- what is taken gives no flash
pub unflashed : (layout : PartLayout) (blocks : Option ℕ) (bytes part : List ℕ) (fault : Fault) (failure : Failure) → IsTaken layout blocks bytes part → failure ≡ of_system fault
    → (fault ≡ Fault.BadGeometry) ⊎ (fault ≡ Fault.NoMemory) → (fault ≡ Fault.BadGeometry → ¬ IsRawLength layout (length part)) → TakenCause layout blocks bytes failure
unflashed layout blocks bytes part fault failure taken is (inl bad) none =
    let short : IsNoPart layout blocks bytes = λ other is_taken. subst (λ (b : List ℕ). ¬ IsRawLength layout (length b)) (one_taken layout blocks bytes part other taken is_taken) (none bad) in
    subst (TakenCause layout blocks bytes) (sym (is ∙ ap of_system bad)) (refl, short)
unflashed layout blocks bytes part fault failure taken is (inr memory) none = subst (TakenCause layout blocks bytes) (sym (is ∙ ap of_system memory)) tt

-- the flash of what is taken of the bytes of a file
taken_known : (layout : PartLayout) (blocks : Option ℕ) (held : Option (List ℕ)) (bytes : List ℕ) (d : Device) → IfSome held (λ all. bytes ≡ take MOST_BYTES all) → IsTakenFlash layout blocks bytes d
    → IfSome held (λ all. IsTakenFlash layout blocks (take MOST_BYTES all) d)
taken_known layout blocks None bytes d front is = tt
taken_known layout blocks (Some all) bytes d front is = subst (λ (b : List ℕ). IsTakenFlash layout blocks b d) front is

pub raw_known : (sizes : RawSizes) (layout : PartLayout) (held : Option (List ℕ)) (bytes : List ℕ) (d : Device) → AsksLayout sizes layout → IfSome held (λ all. bytes ≡ take MOST_BYTES all)
    → IsTakenFlash layout sizes.blocks bytes d → IsRawFile sizes held d
raw_known sizes layout held bytes d asked front is = (layout, asked, taken_known layout sizes.blocks held bytes d front is)

no_part_known : (layout : PartLayout) (blocks : Option ℕ) (held : Option (List ℕ)) (bytes : List ℕ) → IfSome held (λ all. bytes ≡ take MOST_BYTES all) → IsNoPart layout blocks bytes
    → IfSome held (λ all. IsNoPart layout blocks (take MOST_BYTES all))
no_part_known layout blocks None bytes front none = tt
no_part_known layout blocks (Some all) bytes front none = subst (IsNoPart layout blocks) front none

-- why there is none
pub unread_raw : (sizes : RawSizes) (layout : PartLayout) (held : Option (List ℕ)) (bytes : List ℕ) (failure : Failure) → AsksLayout sizes layout → IfSome held (λ all. bytes ≡ take MOST_BYTES all)
    → TakenCause layout sizes.blocks bytes failure → RawFileCause sizes held failure
unread_raw sizes layout held bytes Failure.Memory asked front why = tt
unread_raw sizes layout held bytes (Failure.System fault) asked front why = (why.0, inr (layout, asked, no_part_known layout sizes.blocks held bytes front why.1))
unread_raw sizes layout held bytes _ asked front why = absurd why
