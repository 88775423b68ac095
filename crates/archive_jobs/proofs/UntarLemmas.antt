-- How an archive is put into an image, by how its parts end.
use Rattle.std.proofs.Common.{◌≡◌, ◌≤◌, ◌⊎◌, ℕ, Bool, true, false, cond, not, Option, Some, None, Result, Ok, Err, List, [], ◌∷◌, length, inl, inr, refl, sym, subst}
use Rattle.std.specs.Prelude.{◌≢◌, All, find}
use Rattle.std.proofs.lemmas.List.Elements.{All-nil, All-cons}
use Rattle.std.specs.List.{flat_map}
use Rattle.fs_types.specs.Names.{Path}
use Rattle.host_interface.specs.Files.{Held}
use Rattle.image_jobs.specs.declared.failure.Failure.{Failure}
use Rattle.image_jobs.specs.PathWords.{path_spelled}
use Rattle.put_jobs.specs.Groups.{EventsEnd}
use Rattle.put_jobs.specs.Inputs.{IsWholeInput, IsUnreadInput}
use Rattle.put_jobs.specs.Puts.{lot_events}
use Rattle.put_lots.specs.Things.{thing_events}
use Rattle.put_lots.specs.declared.thing.Thing.{Thing}
use Rattle.archives.specs.Wholes.{entries_read}
use Rattle.archives.specs.declared.archive_entry.ArchiveEntry.{ArchiveEntry}
use Rattle.archives.specs.Things.{things_below}
use Rattle.archives.specs.declared.step.ArchiveFault.{ArchiveFault}
use Rattle.archive_jobs.specs.Untars.{of_input, of_fault, IsUnreadArchive, IsUnputArchive, ArePut, too_deep}
use Rattle.archive_jobs.specs.declared.putting.TheConstants.{MAX_ARCHIVE_BYTES}

-- the input is not had whole
pub unread_archive : (before after : Option (List ℕ)) (failure : Failure) → IsUnreadInput MAX_ARCHIVE_BYTES before after failure → IsUnreadArchive before after (of_input failure)
unread_archive before after Failure.Input why = why
unread_archive before after Failure.Memory why = why
unread_archive before after (Failure.Source fault) why = why.1
unread_archive before after _ why = absurd why

-- it is no archive, or one that is not put
pub unput_fault : (skips : Bool) (base : Path) (bytes : List ℕ) (fault : ArchiveFault) → (fault ≢ ArchiveFault.Memory → entries_read skips bytes ≡ Err fault) → IsUnputArchive skips base bytes (of_fault fault)
unput_fault skips base bytes ArchiveFault.Memory why = inl refl
unput_fault skips base bytes fault why = inr (inl (fault, why (λ e. cc), refl))

-- where no entry is too deep each has a place
pub all_fit : {X : Type 0} (p : X → Bool) (xs : List X) → find (λ x. not (p x)) xs ≡ None → All (λ x. p x ≡ true) xs
all_fit {X} p [] none = All-nil (λ (x : X). p x ≡ true)
all_fit {X} p (x ∷ xs) none = go (p x) refl (λ rest. all_fit p xs rest) none
  where
    go : (b : Bool) → p x ≡ b → (find (λ y. not (p y)) xs ≡ None → All (λ y. p y ≡ true) xs) → cond (not b) (Some x) (find (λ y. not (p y)) xs) ≡ None → All (λ y. p y ≡ true) (x ∷ xs)
    go true is later rest = All-cons (λ (y : X). p y ≡ true) x xs is (later rest)
    go false is later rest = absurd cc

-- the events of lots are those of the entries
pub archive_put : (skips : Bool) (name word : List ℕ) (IsClaimed : List ℕ → Type 0) (base : Path) (bytes : List ℕ) (lots : List Thing) (before after : Option (List ℕ)) (held saved : Held) (result : Result (Unit {0}) Failure) (n : ℕ)
    → path_spelled word ≡ Ok base → IsWholeInput before bytes after → length bytes ≡ n → n ≤ MAX_ARCHIVE_BYTES → ArePut skips base bytes lots → EventsEnd name IsClaimed (flat_map thing_events lots) held saved result
    → (base : Path) × (bytes : List ℕ) × (entries : List ArchiveEntry) × (path_spelled word ≡ Ok base) × IsWholeInput before bytes after
    × (length bytes ≤ MAX_ARCHIVE_BYTES) × (entries_read skips bytes ≡ Ok entries) × (too_deep base entries ≡ None)
    × EventsEnd name IsClaimed (lot_events (things_below base entries)) held saved result
archive_put skips name word IsClaimed base bytes lots before after held saved result n spelled whole len short (entries, read, (fits, are)) ends = (
  base,
  bytes,
  entries,
  spelled,
  whole,
  subst (λ (m : ℕ). m ≤ MAX_ARCHIVE_BYTES) (sym len) short,
  read,
  fits,
  subst (λ (l : List Thing). EventsEnd name IsClaimed (flat_map thing_events l) held saved result) are ends,
)
