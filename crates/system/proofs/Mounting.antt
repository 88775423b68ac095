-- What a mount has found: the working state that it makes, and why it makes none.
use Rattle.std.proofs.Common.{◌≡◌, ◌≢◌, inl, inr, ℕ, ◌/◌, true, false, Option, Some, None, Result, Ok, refl, sym, ap, subst, ◌∙◌, arith}
use Rattle.std.proofs.lemmas.Bool.{true≢false}
use Rattle.std.specs.FinSet as set
use Rattle.std.specs.Option.{option_map}
use Rattle.std.specs.Ordering.{nat_cmp}
use Rattle.fs_types.specs.declared.fault.Fault.{Fault}
use Rattle.fs_types.specs.declared.fault.Fault.TheVariants.{Damaged, ReadFailed, PowerCut, NoMemory}
use Rattle.flash_model.specs.declared.geometry.Geometry.{Geometry}
use Rattle.flash_model.specs.Device.{Device, Page}
use Rattle.flash_model.specs.Geometry.{IsGeometry}
use Rattle.flash_model.specs.Reading.{OnlyReads}
use Rattle.node_store.specs.ReadingLaws.{OnlyReads_nodes}
use Rattle.record_format.specs.declared.record.Record.{Record}
use Rattle.record_format.specs.Payloads.{is_record, payload_at}
use Rattle.record_format.proofs.ItsFlash.{means_its_flash}
use Rattle.anchors.specs.declared.anchors.Anchors.{Anchors}
use Rattle.anchors.specs.declared.best.Found.{Found}
use Rattle.anchors.specs.Parts.{RecordBytes, parts_on, newest_at, newest_on, payload_of}
use Rattle.anchors.specs.Laws.{HasNone}
use Rattle.anchors.specs.Drafts.{IsBlankFrom}
use Rattle.anchors.specs.Newest.{IsUncleared, committed_on, prepared_anchor}
use Rattle.anchors.specs.Reading.{IsEnd}
use Rattle.anchors.specs.Remembering.{MayCommit, KnowsNewest}
use Rattle.anchors.proofs.Committed.{committed_wants}
use Rattle.anchors.proofs.NewestLaws.{found_is_newest}
use Rattle.mounting.specs.Records.{history_of, roots_of, knows_plain_only, IsLoaded, RootsCause}
use Rattle.system.specs.Mounts.{IsMountOf, MountCause}
use Rattle.system.specs.declared.systems.System.{System}
use Rattle.mounting.proofs.Loading.{later_trees}

-- ---- the newest record

abbrev some_meaning : Result Record Fault → Option (Result Record Fault)
some_meaning x = Some x

meaning_is : (x y : Result Record Fault) → some_meaning x ≡ some_meaning y → x ≡ y
meaning_is x y e = cc

-- what the newest record means is a lawful record of the flash's sizes
pub newest_fits : (d : Device) (r : Record) → committed_on d ≡ Some (Ok r) → (r.geometry ≡ d.geometry) × (is_record r ≡ true)
newest_fits d r is = on (newest_on d.geometry d.pages) is
  where
    on : (o : Option RecordBytes) → option_map (λ (entry : RecordBytes). payload_at d.geometry entry.sequence entry.payload) o ≡ Some (Ok r) → (r.geometry ≡ d.geometry) × (is_record r ≡ true)
    on None e = absurd cc
    on (Some entry) e = means_its_flash d.geometry entry.sequence entry.payload r (meaning_is (payload_at d.geometry entry.sequence entry.payload) (Ok r) e)

meaning_at : Device → Option Found → Option (Result Record Fault)
meaning_at d o = option_map (λ (entry : RecordBytes). payload_at d.geometry entry.sequence entry.payload) (option_map (λ (found : Found). record { sequence = found.head.sequence; payload = payload_of d.geometry (parts_on d.geometry d.pages) found }) o)

-- where no record is valid none is the newest
pub none_committed : (d : Device) → HasNone d.geometry (parts_on d.geometry d.pages) → committed_on d ≡ None
unfolding meaning_at
none_committed d none = ap (meaning_at d) (on (newest_at d.geometry (parts_on d.geometry d.pages)) refl)
  where
    on : (o : Option Found) → newest_at d.geometry (parts_on d.geometry d.pages) ≡ o → o ≡ None
    on None is = refl
    on (Some found) is = let newest = found_is_newest d.geometry (parts_on d.geometry d.pages) found is in absurd (none found.page found.head newest.within newest.valid)

-- ---- what is remembered

-- anchors that were read are not cleared ones
knows : (d : Device) (bad : set.FinSet nat_cmp) (known : Anchors) → IsUncleared known → MayCommit d bad known → KnowsNewest d bad known
knows d bad known uncleared (inl k) = k
knows d bad known uncleared (inr k) = absurd (true≢false (sym k.cleared ∙ uncleared))

knows_on : (d e : Device) (bad : set.FinSet nat_cmp) (known : Anchors) → OnlyReads d e → KnowsNewest d bad known → KnowsNewest e bad known
knows_on d e bad known reads k =
    let sizes = reads.geometry in
    let pages : e.pages ≡ d.pages = λ i p. reads.pages p i in
    record {
      found = k.found;
      here = k.here;
      place = (λ i. newest_at (sizes i) (parts_on (sizes i) (pages i))) ∙ k.place;
      end = subst (λ (x : Geometry × (ℕ → Page)). set.contains bad (k.found.page / x.0.pages) ≡ false → IsEnd x.0 x.1 (k.found.page / x.0.pages) x.0.pages known.end) (λ i. (sym sizes i, sym pages i)) k.end;
      prepared = subst (λ (x : Geometry × (ℕ → Page)). (b : ℕ) → prepared_anchor known ≡ Some b → (b ≢ k.found.page / x.0.pages) × IsBlankFrom x.0 x.1 bad b 0) (λ i. (sym sizes i, sym pages i)) k.prepared;
    }

pub not_none : (o : Option Record) (r : Record) → o ≡ Some r → o ≢ None
not_none o r is none = absurd cc

pub mounts : (d e f : Device) (r : Record) (m : System) → committed_on d ≡ Some (Ok r) → OnlyReads e f → IsUncleared m.anchors
    → ((bad : set.FinSet nat_cmp) → MayCommit e bad m.anchors) → IsLoaded f r m.state → m.pass ≡ None → m.cleaned_to ≡ 0 → m.prepared ≡ record { blocks = f.geometry.blocks; members = set.empty } → IsMountOf d f m
mounts d e f r m is reads uncleared may loaded none uncleaned unprepared = record {
  newest = r;
  holds = is;
  loaded = loaded;
  remembers = knows_on e f m.state.storage.bad m.anchors reads (knows e m.state.storage.bad m.anchors uncleared (may m.state.storage.bad));
  pass = none;
  cleaned_to = uncleaned;
  prepared = unprepared;
}

-- ---- why a mount is refused

pub load_why : (old mid new : Device) (r : Record) (fault : Fault) → IsGeometry old.geometry → committed_on old ≡ Some (Ok r) → OnlyReads old mid → RootsCause (knows_plain_only r) mid (roots_of (history_of r)) new fault → MountCause old new fault
load_why old mid new r Damaged lawful is reads why =
    inr (inr (
      r,
      is,
      λ trees. why (later_trees old mid (knows_plain_only r) (roots_of (history_of r)) reads.geometry (OnlyReads_nodes old mid lawful reads) trees),
    ))
load_why old mid new r ReadFailed lawful is reads why = let l = reads.failed_reads in omega arith
load_why old mid new r PowerCut lawful is reads why = why
load_why old mid new r NoMemory lawful is reads why = inr (committed_wants old r is)
load_why old mid new r _ lawful is reads why = absurd why
