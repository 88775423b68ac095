-- Where what stands at a name of the host is put in an image, and why it is not.
use Rattle.std.specs.Prelude.{◌≡◌, ◌⊎◌, ℕ, nat_lt, true, false, Option, Some, None, List, All, ◌++◌, length, if◌then◌else◌}
use Rattle.fs_types.specs.Names.{Path, path_refusal, components_of}
use Rattle.fs_types.specs.declared.fault.Fault.{Fault}
use Rattle.fs_types.specs.declared.limits.TheConstants.{MAX_FILE_BYTES, MAX_NAMES}
use Rattle.host_interface.specs.Files.{takes_away}
use Rattle.host_interface.specs.Sources.{Found}
use Rattle.host_interface.specs.declared.source.SourceKind.{SourceKind}
use Rattle.image_jobs.specs.declared.failure.Failure.{Failure}
use Rattle.image_jobs.specs.declared.source_fault.SourceFault.{SourceFault}

-- where it is put, if it is put below a path
abbrev pub put_place : Path → Found → Path
put_place base found = base ++ components_of found.way

-- why no path leads to it: a name is not lawful, or it or the path is too long
abbrev pub way_fault : Option Fault → ℕ → Option SourceFault
way_fault (Some Fault.NameTooLong) names = Some SourceFault.TooLong
way_fault (Some fault) names = Some SourceFault.BadName
way_fault None names = if nat_lt MAX_NAMES names then Some SourceFault.TooLong else None

-- why what stands there is not put: it is neither a folder nor a file, it is the image's own, or it has too much in it
abbrev pub kind_fault : SourceKind → Option SourceFault
kind_fault SourceKind.Folder = None
kind_fault (SourceKind.File bytes) = if nat_lt MAX_FILE_BYTES bytes then Some SourceFault.TooBig else None
kind_fault SourceKind.Crowded = Some SourceFault.Crowded
kind_fault SourceKind.Link = Some SourceFault.Link
kind_fault SourceKind.Special = Some SourceFault.Special
kind_fault SourceKind.Image = Some SourceFault.Image
kind_fault SourceKind.Unreadable = Some SourceFault.Unreadable

abbrev pub either_fault : Option SourceFault → Option SourceFault → Option SourceFault
either_fault (Some fault) other = Some fault
either_fault None other = other

-- why it is not put below a path
abbrev pub source_fault : Path → Found → Option SourceFault
source_fault base found = either_fault (kind_fault found.kind) (way_fault (path_refusal found.way) (length (put_place base found)))

-- why it is not: by its fault, or for want of memory
abbrev pub IsFaultOf : Option SourceFault → Failure → Type 0
IsFaultOf found Failure.Memory = Unit {0}
IsFaultOf found (Failure.Source fault) = found ≡ Some fault
IsFaultOf found _ = ⊥

abbrev pub Unplaced : Path → Found → Failure → Type 0
Unplaced base found = IsFaultOf (source_fault base found)

-- none of these has the name of the image, or that of its new file
abbrev pub AreOthers : List ℕ → List Found → Type 0
AreOthers image all = All (λ found. takes_away image found.name ≡ false) all

-- why one of them is not put into an image: it has no place below a path, or one of these names
abbrev pub IsMisplaced : List ℕ → Path → Found → Failure → Type 0
IsMisplaced image base found failure = Unplaced base found failure ⊎ ((takes_away image found.name ≡ true) × (failure ≡ Failure.Source SourceFault.Image))

-- by why its way is no path
abbrev pub unparsed : Fault → Failure
unparsed Fault.NoMemory = Failure.Memory
unparsed Fault.NameTooLong = Failure.Source SourceFault.TooLong
unparsed fault = Failure.Source SourceFault.BadName
