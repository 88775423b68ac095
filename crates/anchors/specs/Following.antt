-- The laws of what stands between two commits.
use Rattle.std.specs.Prelude.{◌≡◌, ℕ, ◌<◌, true, List, Some, Ok}
use Rattle.std.specs.FinSet as set
use Rattle.std.specs.Ordering.{nat_cmp}
use Rattle.std.specs.List.Sorted.{IsStrictlyIncreasing}
use Rattle.fs_types.specs.declared.limits.TheConstants.{ANCHORS}
use Rattle.flash_model.specs.Device.{Device, block_of}
use Rattle.record_format.specs.declared.record.Record.{Record}
use Rattle.record_format.specs.Payloads.{written}
use Rattle.anchors.specs.declared.anchors.Anchors.{Anchors}
use Rattle.anchors.specs.Newest.{committed_on}
use Rattle.anchors.specs.Committing.{IsCommitted}
use Rattle.anchors.specs.Remembering.{MayCommit}

-- where anchors stay as they are a commit may still follow, whatever enters the list
abbrev pub StillMayCommit : Type 0
StillMayCommit = (old new : Device) (was now : set.FinSet nat_cmp) (anchors : Anchors) → new.geometry ≡ old.geometry → ((p : ℕ) → block_of old p < ANCHORS → new.pages p ≡ old.pages p)
    → ((b : ℕ) → set.contains was b ≡ true → set.contains now b ≡ true) → MayCommit old was anchors → MayCommit new now anchors

-- what was committed is what the newest record means: the record in the format that is written, with its sequence, and the list in ascending order
abbrev pub CommittedIsNewest : Type 0
CommittedIsNewest = (d : Device) (r : Record) (sequence : ℕ) (bad : set.FinSet nat_cmp) → d.geometry ≡ r.geometry → IsCommitted d.pages r sequence bad
    → (list : List ℕ) × IsStrictlyIncreasing list × (set.from_list list ≡ bad) × (committed_on d ≡ Some (Ok (record (written r list) { sequence = sequence })))
