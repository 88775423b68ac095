-- What a put removes that leaves below a path only what it puts there.
use Rattle.std.specs.Prelude.{Bool, false, not, ◌&&◌, nat_lt, Option, Some, None, List, [], ◌∷◌, length, drop}
use Rattle.std.specs.List.{list_any, starts_with}
use Rattle.fs_types.specs.Names.{Path, components_of, path_refusal, same_name, same_path}
use Rattle.fs_types.specs.declared.call.Call.{Call}
use Rattle.fs_types.specs.declared.call.Stat.{Stat}
use Rattle.fs_types.specs.declared.event.Event.{Event}
use Rattle.fs_types.specs.declared.fault.Fault.{Fault}
use Rattle.host_interface.specs.Sources.{Found}
use Rattle.host_interface.specs.declared.source.SourceKind.{SourceKind}
use Rattle.put_lots.specs.declared.kept.Kept.{Kept}

-- what a source accounts for; nothing where its way is no path
abbrev pub kept_by : Option Fault → Found → List Kept
kept_by None found = record { way = components_of found.way; kind = found.kind } ∷ []
kept_by (Some fault) found = []

abbrev pub kept_found : Found → List Kept
kept_found found = kept_by (path_refusal found.way) found

-- a folder accounts for the directory at its way, a file for the file there, and a link for all at its way and below it
abbrev pub accounts_by : SourceKind → Path → Path → Stat → Bool
accounts_by SourceKind.Folder way names (Stat.Dir count) = same_path names way
accounts_by (SourceKind.File bytes) way names (Stat.File size) = same_path names way
accounts_by SourceKind.Link way names stat = starts_with same_name names way
accounts_by _ way names stat = false

abbrev pub accounts_for : Kept → Path → Stat → Bool
accounts_for kept names stat = accounts_by kept.kind kept.way names stat

-- a path stands below another one
abbrev pub is_below : Path → Path → Bool
is_below base path = nat_lt (length base) (length path) && starts_with same_name path base

-- what stands at a path of an image is removed: it stands below the path to which all is put, and nothing accounts for it
abbrev pub is_removed : Path → List Kept → Path → Stat → Bool
is_removed base kept path stat = is_below base path && not (list_any (λ one. accounts_for one (drop (length base) path) stat) kept)

-- the event that removes it
abbrev pub removal : Path → Stat → Event
removal path (Stat.Dir count) = Event.Call (Call.Rmdir path)
removal path (Stat.File size) = Event.Call (Call.Unlink path)
