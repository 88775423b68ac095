-- How a job ends that tells something of an image.
use Rattle.std.specs.Prelude.{◌≡◌, ◌⊎◌, ℕ, Bool, true, false, Option, Result, Ok, Err, List, ◌∷◌, take}
use Rattle.std.specs.Io.KnownBytes.{Appends}
use Rattle.inquiries.specs.declared.inquiry.Inquiry.{Inquiry}
use Rattle.image_jobs.specs.InquiryWords.{IsMisspelled, IsToldBy, UntoldBy}
use Rattle.image_jobs.specs.Images.{IsSpelledFlash, LoadCause}
use Rattle.image_jobs.specs.declared.failure.Failure.{Failure}

-- these bytes are told of an image, or why nothing is
abbrev pub IsTold : Option (List ℕ) → Inquiry → List ℕ → Type 0
IsTold held = IsToldBy (IsSpelledFlash held)

abbrev pub UntoldCause : Option (List ℕ) → Inquiry → Failure → Type 0
UntoldCause held = UntoldBy (IsSpelledFlash held) (LoadCause held)

-- words spell an inquiry, and these bytes are told of an image
pub record IsAnswer (spelled : Result Inquiry Failure) (held : Option (List ℕ)) (bytes : List ℕ) : Type 0 where
  pub inquiry : Inquiry
  pub is : spelled ≡ Ok inquiry
  pub told : IsTold held inquiry bytes

-- why nothing is: the words spell none, or nothing is told
abbrev pub IsUnanswered : Result Inquiry Failure → Option (List ℕ) → Failure → Type 0
IsUnanswered spelled held failure = IsMisspelled spelled failure ⊎ ((inquiry : Inquiry) × (spelled ≡ Ok inquiry) × UntoldCause held inquiry failure)

-- what is told of an image is written; or nothing is told, and nothing is written; or the output fails
abbrev pub TellEnds : Result Inquiry Failure → Option (List ℕ) → Result (Unit {0}) Failure → Option (List ℕ) → Option (List ℕ) → Type 0
TellEnds spelled held (Ok done) old new = (bytes : List ℕ) × IsAnswer spelled held bytes × Appends old new bytes
TellEnds spelled held (Err failure) old new = (IsUnanswered spelled held failure × (new ≡ old))
    ⊎ ((bytes : List ℕ) × (n : ℕ) × IsAnswer spelled held bytes × (failure ≡ Failure.Output) × Appends old new (take n bytes))

-- the job fails where its status is to tell that trees differ, and something is told
abbrev pub status_of_told : Bool → List ℕ → Result (Unit {0}) Failure
status_of_told true (byte ∷ bytes) = Err Failure.Differs
status_of_told _ _ = Ok tt

-- what differs between two trees of an image is written, with the status that it asks for; or it is not told, or not written
abbrev pub DiffEnds : Bool → Result Inquiry Failure → Option (List ℕ) → Result (Unit {0}) Failure → Option (List ℕ) → Option (List ℕ) → Type 0
DiffEnds exit_code spelled held result old new = ((bytes : List ℕ) × IsAnswer spelled held bytes × Appends old new bytes × (result ≡ status_of_told exit_code bytes))
    ⊎ ((failure : Failure) × (result ≡ Err failure) × TellEnds spelled held (Err failure) old new)
