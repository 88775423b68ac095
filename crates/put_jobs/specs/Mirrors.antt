-- What a put removes first, where it leaves below a path only what it puts there.
use Rattle.std.specs.Prelude.{◌≡◌, ◌⊎◌, ◌||◌, Bool, ℕ, Option, Some, None, List, [], ◌∷◌, reverse, if◌then◌else◌}
use Rattle.std.specs.List.{flat_map}
use Rattle.fs_types.specs.Names.{Path}
use Rattle.fs_types.specs.declared.call.View.{View}
use Rattle.fs_types.specs.declared.event.Event.{Event}
use Rattle.flash_simulation.specs.Simulation.{device_of}
use Rattle.flash_simulation.specs.declared.sim_flash.SimFlash.{SimFlash}
use Rattle.host_interface.specs.Sources.{Found}
use Rattle.inquiries.specs.Asked.{Lists}
use Rattle.inquiries.specs.declared.inquiry.Inquiry.{Inquiry}
use Rattle.inquiries.specs.declared.items.Item.{Item}
use Rattle.image_jobs.specs.declared.failure.Failure.{Failure}
use Rattle.put_lots.specs.Removals.{is_removed, kept_found, removal}
use Rattle.put_lots.specs.declared.kept.Kept.{Kept}
use Rattle.host_interface.specs.Files.{Readings}
use Rattle.image_jobs.specs.InquiryWords.{UntoldBy}
use Rattle.put_jobs.specs.Puts.{PutsBy, PutCause}

-- a folder is wanted where something is to be removed, or left out
abbrev pub wants_folder : Bool → Bool → Bool
wants_folder mirror skips = mirror || skips

-- what stands on the host accounts for what is left, where anything is removed at all
abbrev pub kept_asked : Bool → List Found → Option (List Kept)
kept_asked mirror found = if mirror then Some (flat_map kept_found found) else None

-- what is removed of all that stands in a tree, each before the directory in which it stands
abbrev pub removal_of : Path → List Kept → Item → List Event
removal_of base kept item = if is_removed base kept item.path item.stat then removal item.path item.stat ∷ [] else []

abbrev pub removals : Path → List Kept → List Item → List Event
removals base kept items = flat_map (removal_of base kept) (reverse items)

-- all that stands in the present tree of a flash that is found so
abbrev pub IsListed : (SimFlash → Type 0) → List Item → Type 0
IsListed IsThere items = (first : SimFlash) × IsThere first × Lists (device_of first) items

-- these events remove it, of such a tree; none where nothing is to be removed
abbrev pub AreRemoved : (SimFlash → Type 0) → Path → Option (List Kept) → List Event → Type 0
AreRemoved IsThere base None removed = removed ≡ []
AreRemoved IsThere base (Some kept) removed = (items : List Item) × IsListed IsThere items × (removed ≡ removals base kept items)

-- why it is not known what is removed: all that stands there is not listed, for its cause
abbrev pub UnlistedBy : (SimFlash → Type 0) → (Failure → Type 0) → Option (List Kept) → Failure → Type 0
UnlistedBy IsThere Cause None failure = ⊥
UnlistedBy IsThere Cause (Some kept) failure = UntoldBy IsThere Cause (Inquiry.Tree View.Present) failure

-- sources are put on a flash that is found so, after what is removed of its tree
abbrev pub PutsOver : (SimFlash → Type 0) → Readings → Path → Option (List Kept) → List Found → SimFlash → SimFlash → Type 0
PutsOver IsThere readings base kept all start end = (removed : List Event) × AreRemoved IsThere base kept removed × PutsBy IsThere removed readings base all start end

-- why they are not: it is not known what is removed, or they are not put
abbrev pub OverCause : (SimFlash → Type 0) → (Failure → Type 0) → Readings → Path → Option (List Kept) → List Found → Failure → Type 0
OverCause IsThere Cause readings base kept all failure = UnlistedBy IsThere Cause kept failure
    ⊎ ((removed : List Event) × AreRemoved IsThere base kept removed × PutCause IsThere Cause removed readings base all failure)
