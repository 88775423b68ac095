-- What the newest record means, at the place that was found.
use Rattle.std.proofs.Common.{◌≡◌, ◌≢◌, ◌⊎◌, ℕ, Bool, true, false, cond, List, Option, Some, None, Result, Ok, Err, refl, sym, ap, subst, ◌∙◌, inl, inr}
use Rattle.std.specs.Option.{option_map, ok_or}
use Rattle.fs_types.specs.declared.fault.Fault.{Fault}
use Rattle.fs_types.specs.declared.fault.Fault.TheVariants.{NoMemory, Damaged, BadGeometry}
use Rattle.flash_model.specs.declared.geometry.Geometry.{Geometry}
use Rattle.flash_model.specs.Device.{Device, Page}
use Rattle.flash_model.specs.Reading.{OnlyReads, same_pages}
use Rattle.record_format.specs.declared.record.Record.{Record}
use Rattle.std.proofs.Common.{ltb, length}
use Rattle.std.specs.Prelude.{◌||◌, not}
use Rattle.byteorder.specs.Endian.{little_from}
use Rattle.record_format.specs.Payloads.{is_format, shortest, longest, tells_sizes, payload_at, meaning_of, WantsMemory}
use Rattle.record_format.proofs.ItsFlash.{means_wants}
use Rattle.anchors.specs.declared.best.Found.{Found}
use Rattle.anchors.specs.declared.best.Best.{Best}
use Rattle.anchors.specs.Parts.{RecordBytes, parts_on, best_on, newest_at, newest_on, payload_of}
use Rattle.anchors.specs.Laws.{HasNone, HasTie}
use Rattle.anchors.specs.Newest.{committed_on, IsNewestRecord, NewestCause, RecordCause, WantsMemoryOn}
use Rattle.anchors.specs.Reading.{PageReadCause}
use Rattle.std.proofs.Common.{arith}
use Rattle.fs_types.specs.declared.fault.Fault.TheVariants.{ReadFailed, PowerCut}
use Rattle.anchors.proofs.NewestLaws.{none_valid, tied}

pub tie_at : (d : Device) (g : Geometry) (best : Best) → d.geometry ≡ g → best ≡ best_on g (parts_on g d.pages) → best.twice ≡ true → HasTie d.geometry (parts_on d.geometry d.pages)
tie_at d g best same is twice =
    subst (λ (h : Geometry). HasTie h (parts_on h d.pages)) (sym same) (tied g (parts_on g d.pages) (ap (λ (b : Best). b.twice) (sym is) ∙ twice))

pub none_at : (d : Device) (g : Geometry) (best : Best) → d.geometry ≡ g → best ≡ best_on g (parts_on g d.pages) → best.found ≡ None → HasNone d.geometry (parts_on d.geometry d.pages)
none_at d g best same is none =
    subst (λ (h : Geometry). HasNone h (parts_on h d.pages)) (sym same) (none_valid g (parts_on g d.pages) (ap (λ (b : Best). b.found) (sym is) ∙ none))

-- what the payload at the place means is what the newest record means
pub committed_at : (d : Device) (g : Geometry) (best : Best) (found : Found) (payload : List ℕ) → d.geometry ≡ g → best ≡ best_on g (parts_on g d.pages) → best.twice ≡ false → best.found ≡ Some found
    → payload ≡ payload_of g (parts_on g d.pages) found → committed_on d ≡ Some (payload_at g found.head.sequence payload)
committed_at d g best found payload same is once at held =
    let parts = parts_on g d.pages in
    let once_on : (best_on g parts).twice ≡ false = ap (λ (b : Best). b.twice) (sym is) ∙ once in
    let found_on : (best_on g parts).found ≡ Some found = ap (λ (b : Best). b.found) (sym is) ∙ at in
    let newest : newest_at g parts ≡ Some found = λ i. cond (once_on i) None (found_on i) in
    ap (λ (h : Geometry). option_map (λ (entry : RecordBytes). payload_at h entry.sequence entry.payload) (newest_on h d.pages)) same
    ∙ ap (λ (o : Option Found). option_map (λ (entry : RecordBytes). payload_at g entry.sequence entry.payload) (option_map (λ (at : Found). record { sequence = at.head.sequence; payload = payload_of g parts at }) o)) newest
    ∙ ap (λ (bytes : List ℕ). Some (payload_at g found.head.sequence bytes)) (sym held)

abbrev refused : Fault → Result Record Fault
refused fault = Err fault

refused_is : (x y : Fault) → refused x ≡ refused y → y ≡ x
refused_is x y e = cc

-- a payload is refused as damaged or of another geometry
payload_refused : (g : Geometry) (sequence : ℕ) (bytes : List ℕ) (fault : Fault) → payload_at g sequence bytes ≡ Err fault → (fault ≡ Damaged) ⊎ (fault ≡ BadGeometry)
payload_refused g sequence bytes fault e =
    from (ltb (length bytes) shortest || not (is_format (little_from 0 4 bytes))) (not (tells_sizes g bytes)) (ltb longest (length bytes)) (meaning_of sequence bytes) e
  where
    from : (other sizes long : Bool) (meaning : Option Record) → cond other (refused Damaged) (cond sizes (refused BadGeometry) (cond long (refused Damaged) (ok_or meaning Damaged))) ≡ Err fault → (fault ≡ Damaged) ⊎ (fault ≡ BadGeometry)
    from true sizes long meaning e = inl (refused_is Damaged fault e)
    from false true long meaning e = inr (refused_is BadGeometry fault e)
    from false false true meaning e = inl (refused_is Damaged fault e)
    from false false false None e = inl (refused_is Damaged fault e)
    from false false false (Some r) e = absurd cc

refused_otherwise : (g : Geometry) (sequence : ℕ) (bytes : List ℕ) (fault : Fault) → payload_at g sequence bytes ≡ Err fault → fault ≢ NoMemory
refused_otherwise g sequence bytes fault e none = elim (payload_refused g sequence bytes fault e) [ inl damaged ↦ cc | inr other ↦ cc ]

-- memory is wanted for the payload at the place that is found
pub wants_at : (d : Device) (g : Geometry) (best : Best) (found : Found) (payload : List ℕ) → d.geometry ≡ g → best ≡ best_on g (parts_on g d.pages) → best.twice ≡ false → best.found ≡ Some found
    → payload ≡ payload_of g (parts_on g d.pages) found → WantsMemory g payload → WantsMemoryOn d
wants_at d g best found payload same is once at held wants =
    let parts = parts_on g d.pages in
    let once_on : (best_on g parts).twice ≡ false = ap (λ (b : Best). b.twice) (sym is) ∙ once in
    let found_on : (best_on g parts).found ≡ Some found = ap (λ (b : Best). b.found) (sym is) ∙ at in
    let newest : newest_at g parts ≡ Some found = λ i. cond (once_on i) None (found_on i) in (
      record { sequence = found.head.sequence; payload = payload },
      ap (λ (h : Geometry). newest_on h d.pages) same
          ∙ ap (λ (o : Option Found). option_map (λ (at : Found). record { sequence = at.head.sequence; payload = payload_of g parts at }) o) newest
          ∙ ap (λ (bytes : List ℕ). Some (record { sequence = found.head.sequence; payload = bytes })) (sym held),
      subst (λ (h : Geometry). WantsMemory h payload) (sym same) wants,
    )

abbrev meaning_in : Result Record Fault → Option (Result Record Fault)
meaning_in x = Some x

meaning_is : (x y : Result Record Fault) → meaning_in x ≡ meaning_in y → x ≡ y
meaning_is x y e = cc

-- memory is wanted for a newest record that means one
pub committed_wants : (d : Device) (r : Record) → committed_on d ≡ Some (Ok r) → WantsMemoryOn d
committed_wants d r is = on (newest_on d.geometry d.pages) refl is
  where
    on : (o : Option RecordBytes) → newest_on d.geometry d.pages ≡ o → option_map (λ (entry : RecordBytes). payload_at d.geometry entry.sequence entry.payload) o ≡ Some (Ok r) → WantsMemoryOn d
    on None here e = absurd cc
    on (Some entry) here e = (entry, here, means_wants d.geometry entry.sequence entry.payload r (meaning_is (payload_at d.geometry entry.sequence entry.payload) (Ok r) e))

pub payload_cause : (old new : Device) (g : Geometry) (sequence : ℕ) (bytes : List ℕ) (fault : Fault) → committed_on old ≡ Some (payload_at g sequence bytes)
    → (fault ≢ NoMemory → payload_at g sequence bytes ≡ Err fault) → (fault ≡ NoMemory → WantsMemoryOn old) → RecordCause old new fault
payload_cause old new g sequence bytes NoMemory is refuses wants = wants refl
payload_cause old new g sequence bytes Damaged is refuses wants = inr (is ∙ ap (λ (r : Result Record Fault). Some r) (refuses (λ e. cc)))
payload_cause old new g sequence bytes BadGeometry is refuses wants = is ∙ ap (λ (r : Result Record Fault). Some r) (refuses (λ e. cc))
payload_cause old new g sequence bytes fault is refuses wants = absurd (elim (payload_refused g sequence bytes fault (refuses (λ e. cc))) [ inl damaged ↦ cc | inr other ↦ cc ])

-- the same of a payload that is refused
pub refused_cause : (old new : Device) (g : Geometry) (sequence : ℕ) (bytes : List ℕ) (fault : Fault) → committed_on old ≡ Some (payload_at g sequence bytes) → payload_at g sequence bytes ≡ Err fault → RecordCause old new fault
refused_cause old new g sequence bytes fault is refused =
    payload_cause old new g sequence bytes fault is (λ apart. refused) (λ none. absurd (refused_otherwise g sequence bytes fault refused none))

-- reads change nothing of it
newest_meaning : Geometry → (ℕ → Page) → Option (Result Record Fault)
newest_meaning g pages = option_map (λ (entry : RecordBytes). payload_at g entry.sequence entry.payload) (newest_on g pages)

pub committed_stays : (old new : Device) → OnlyReads old new → committed_on new ≡ committed_on old
unfolding newest_meaning
committed_stays old new reads = λ i. newest_meaning (reads.geometry i) (same_pages reads i)

pub none_stays : (old new : Device) → OnlyReads old new → HasNone new.geometry (parts_on new.geometry new.pages) → HasNone old.geometry (parts_on old.geometry old.pages)
none_stays old new reads none =
    let pages = subst (λ (pages : ℕ → Page). HasNone new.geometry (parts_on new.geometry pages)) (same_pages reads) none in
    subst (λ (g : Geometry). HasNone g (parts_on g old.pages)) reads.geometry pages

pub tie_stays : (old new : Device) → OnlyReads old new → HasTie new.geometry (parts_on new.geometry new.pages) → HasTie old.geometry (parts_on old.geometry old.pages)
tie_stays old new reads tie =
    let pages = subst (λ (pages : ℕ → Page). HasTie new.geometry (parts_on new.geometry pages)) (same_pages reads) tie in
    subst (λ (g : Geometry). HasTie g (parts_on g old.pages)) reads.geometry pages

wants_stays : (old mid : Device) → OnlyReads old mid → WantsMemoryOn mid → WantsMemoryOn old
wants_stays old mid reads wants =
    subst (λ (x : Geometry × (ℕ → Page)). (entry : RecordBytes) × (newest_on x.0 x.1 ≡ Some entry) × WantsMemory x.0 entry.payload) (λ i. (reads.geometry i, same_pages reads i)) wants

pub newest_stays : (old new : Device) (newest : Option Record) → OnlyReads old new → IsNewestRecord new newest → IsNewestRecord old newest
newest_stays old new None reads is = none_stays old new reads is
newest_stays old new (Some r) reads is = sym (committed_stays old new reads) ∙ is

pub cause_stays : (old mid new : Device) (fault : Fault) → OnlyReads old mid → RecordCause mid new fault → NewestCause old new fault
cause_stays old mid new Damaged reads cause = elim cause [ inl tie ↦ inl (tie_stays old mid reads tie) | inr damaged ↦ inr (sym (committed_stays old mid reads) ∙ damaged) ]
cause_stays old mid new BadGeometry reads cause = sym (committed_stays old mid reads) ∙ cause
cause_stays old mid new ReadFailed reads cause = let h = reads.failed_reads in omega arith
cause_stays old mid new PowerCut reads cause = cause
cause_stays old mid new NoMemory reads cause = inr (wants_stays old mid reads cause)
cause_stays old mid new _ reads cause = absurd cause

-- where no place is found, no record is the newest
pub none_committed : (d : Device) (g : Geometry) (found : Option Found) (newest : Option Record) → d.geometry ≡ g → found ≡ newest_at g (parts_on g d.pages) → found ≡ None → IsNewestRecord d newest → newest ≡ None
none_committed d g found None same at none is = refl
none_committed d g found (Some r) same at none is =
    let nothing : committed_on d ≡ None =
    ap (λ (h : Geometry). option_map (λ (entry : RecordBytes). payload_at h entry.sequence entry.payload) (newest_on h d.pages)) same
    ∙ ap (λ (o : Option Found). option_map (λ (entry : RecordBytes). payload_at g entry.sequence entry.payload) (option_map (λ (at : Found). record { sequence = at.head.sequence; payload = payload_of g (parts_on g d.pages) at }) o)) (sym at ∙ none) in
    let clash = sym nothing ∙ is in
    cc

-- a read that was refused
pub read_cause : (old new : Device) (fault : Fault) → PageReadCause old new fault → RecordCause old new fault
read_cause old new ReadFailed cause = cause
read_cause old new PowerCut cause = cause
read_cause old new _ cause = absurd cause

pub first_cause : (old new : Device) (fault : Fault) → PageReadCause old new fault → NewestCause old new fault
first_cause old new ReadFailed cause = cause
first_cause old new PowerCut cause = cause
first_cause old new _ cause = absurd cause
