-- How a directory becomes a folder of the host.
use Rattle.std.proofs.Common.{◌≡◌, ◌∙◌, ℕ, Option, Some, None, Result, Ok, Err, OnOk, List, refl, sym, ap, subst}
use Rattle.std.specs.FinMap.{get}
use Rattle.std.specs.Option.{option_or, option_map_or}
use Rattle.fs_types.specs.Names.{Path}
use Rattle.fs_types.specs.declared.call.Call.{Call}
use Rattle.fs_types.specs.declared.call.Stat.{Stat}
use Rattle.fs_types.specs.declared.call.View.{View}
use Rattle.fs_types.specs.declared.fault.Fault.{Fault}
use Rattle.fs_types.specs.declared.fault.Fault.TheVariants.{NoEntry, ReadFailed, PowerCut, NoMemory}
use Rattle.plain_trees.specs.Contents.{Entry, lookup_refusal}
use Rattle.plain_trees.specs.Trees.{Tree, bytes_of, bytes_of_file}
use Rattle.flash_model.specs.Device.{Device}
use Rattle.flash_model.specs.declared.flash.Flash.{Ghosts}
use Rattle.history_machine.specs.History.{view_refusal}
use Rattle.history_machine.specs.Machine.{Machine, refusal, view_tree, stat_of}
use Rattle.host_interface.specs.Files.{Held, new_name}
use Rattle.host_interface.specs.Folders.{Made, KeepsOutside, KeepsBeside}
use Rattle.inquiries.specs.Folders.{Unlisted}
use Rattle.inquiries.specs.Items.{IsDirectoryOf, IsFileOf}
use Rattle.inquiries.specs.Readings.{IsUnchanged, Meets}
use Rattle.undofs.specs.declared.fs.Fs.{Fs}
use Rattle.inquiries.specs.declared.tell_fault.TellFault.{TellFault}
use Rattle.image_jobs.specs.Failures.{of_refusal}
use Rattle.image_jobs.specs.declared.failure.Failure.{Failure}
use Rattle.script_runs.specs.declared.scripts.Refusal.{Refusal}
use Rattle.image_words.specs.PathCopies.{IsHostFailure, Unmade, Unfinished, Unfilled, Uncopied, folder_made, of_list}
use Rattle.image_words.proofs.MakeLemmas.{keeps-refl, keeps-trans, keeps_beside, unmade_later}

-- what follows of whatever was made follows of what was
pub on_made : (result : Result (Unit {0}) Failure) (IsMade Follows : List Made → Type 0) (made : List Made) → IsMade made → OnOk result ((all : List Made) → IsMade all → Follows all) → OnOk result (Follows made)
on_made (Ok done) IsMade Follows made is all = all made is
on_made (Err failure) IsMade Follows made is all = tt

-- what stays beside the folder that is given its name
pub others_beside : (result : Result (Unit {0}) Failure) (name : List ℕ) (held mid saved : Held) → KeepsOutside (new_name name) held mid → OnOk result (KeepsBeside name mid saved) → OnOk result (KeepsBeside name held saved)
others_beside (Ok done) name held mid saved first second = keeps_beside name held mid saved first second
others_beside (Err failure) name held mid saved first second = tt

-- what was made was not finished
pub unfilled_end : (t : Tree) (directory : Path) (name : List ℕ) (held mid saved : Held) (d e : Device) (IsMade : List Made → Type 0) (failure : Failure) → KeepsOutside (new_name name) held mid → IsMade (folder_made t directory)
    → Unfinished name mid saved IsMade failure → Unfilled t directory name held saved d e failure
unfilled_end t directory name held mid saved d e IsMade Failure.Unsynced first made last = (last.0 (folder_made t directory) made, keeps_beside name held mid saved first last.1)
unfilled_end t directory name held mid saved d e IsMade (Failure.Refused (Refusal.Fault fault)) first made last = absurd last.0
unfilled_end t directory name held mid saved d e IsMade failure first made last = (last.0, keeps-trans (new_name name) held mid saved first last.1)

-- something was not made, and the new folder is given up
pub unfilled_made : (t : Tree) (directory : Path) (name : List ℕ) (held mid saved : Held) (d e : Device) (failure : Failure) → KeepsOutside (new_name name) held mid → KeepsOutside (new_name name) mid saved
    → Unmade d e failure → Unfilled t directory name held saved d e failure
unfilled_made t directory name held mid saved d e Failure.Unsynced first last why = absurd why
unfilled_made t directory name held mid saved d e failure first last why = (why, keeps-trans (new_name name) held mid saved first last)

-- the folder is not begun
pub uncopied_host : (t : Tree) (directory : Path) (name : List ℕ) (held saved : Held) (d e : Device) (failure : Failure) → IsHostFailure failure → KeepsOutside (new_name name) held saved → Uncopied t directory name held saved d e failure
uncopied_host t directory name held saved d e Failure.CannotWrite host keeps = (tt, keeps)
uncopied_host t directory name held saved d e Failure.Memory host keeps = (tt, keeps)
uncopied_host t directory name held saved d e _ host keeps = absurd host

-- a directory is not listed, by what the work met
pub uncopied_refused : (t : Tree) (directory : Path) (name : List ℕ) (held : Held) (d e : Device) (fault : Fault) → Meets d e fault → Uncopied t directory name held held d e (of_refusal (Refusal.Fault fault))
uncopied_refused t directory name held d e ReadFailed met = (met, keeps-refl (new_name name) held)
uncopied_refused t directory name held d e PowerCut met = (met, keeps-refl (new_name name) held)
uncopied_refused t directory name held d e NoMemory met = (tt, keeps-refl (new_name name) held)
uncopied_refused t directory name held d e _ met = absurd met

-- ---- what stands at the path

none_first : (a b : Option Fault) → option_or a b ≡ None → a ≡ None
none_first None b e = refl
none_first (Some fault) b e = absurd cc

none_second : (a b : Option Fault) → option_or a b ≡ None → b ≡ None
none_second None b e = e
none_second (Some fault) b e = absurd cc

-- whatever stands there is there
abbrev none_of : Entry → Option Fault
none_of entry = None

module _ (m : Machine) (view : View) (path : Path) (ok : refusal m (Call.Stat view path) ≡ None) where
  abbrev t : Tree
  t = view_tree m view

  pub view_there : view_refusal m.history view ≡ None
  view_there = none_first (view_refusal m.history view) _ ok

  found : option_map_or none_of (get (view_tree m view) path) (Some NoEntry) ≡ None
  found = none_second (lookup_refusal (get (view_tree m view)) path) _ (none_second (view_refusal m.history view) _ ok)

  pub directory_stands : (stat : Stat) (count : ℕ) → stat ≡ stat_of (view_tree m view) path (get (view_tree m view) path) → stat ≡ Stat.Dir count → IsDirectoryOf m view path
  directory_stands stat count is dir = record { accepted = view_there; there = go (get t path) refl found (sym is ∙ dir) }
    where
      go : (o : Option Entry) → get t path ≡ o → option_map_or none_of o (Some NoEntry) ≡ None → stat_of t path o ≡ Stat.Dir count → get t path ≡ Some Entry.Dir
      go None at there kind = absurd cc
      go (Some Entry.Dir) at there kind = at
      go (Some (Entry.File bytes)) at there kind = absurd cc

  pub file_stands : (stat : Stat) (size : ℕ) → stat ≡ stat_of (view_tree m view) path (get (view_tree m view) path) → stat ≡ Stat.File size → IsFileOf m view path
  file_stands stat size is file = record { accepted = view_there; there = go (get t path) refl found (sym is ∙ file) }
    where
      go : (o : Option Entry) → get t path ≡ o → option_map_or none_of o (Some NoEntry) ≡ None → stat_of t path o ≡ Stat.File size
          → get t path ≡ Some (Entry.File (bytes_of_file t path))
      go None at there kind = absurd cc
      go (Some Entry.Dir) at there kind = absurd cc
      go (Some (Entry.File bytes)) at there kind = at ∙ ap (λ (o : Option Entry). Some (Entry.File (bytes_of o))) (sym at)

-- bytes that are those of the file there
pub read_bytes : (t : Tree) (path : Path) (bytes : List ℕ) → get t path ≡ Some (Entry.File bytes) → bytes ≡ bytes_of_file t path
read_bytes t path bytes is = sym (ap (λ (o : Option Entry). bytes_of o) is)

-- what was met in the second part was met in both
module _ {F : Type 0} {flash : Ghosts F} where
  pub uncopied_later : (t : Tree) (directory : Path) (name : List ℕ) (held saved : Held) (a b c : Fs F flash) (failure : Failure) → IsUnchanged a b
      → Uncopied t directory name held saved (flash.device b.flash.now) (flash.device c.flash.now) failure → Uncopied t directory name held saved (flash.device a.flash.now) (flash.device c.flash.now) failure
  uncopied_later t directory name held saved a b c Failure.TooManyLines first why = why
  uncopied_later t directory name held saved a b c Failure.Unsynced first why = why
  uncopied_later t directory name held saved a b c failure first why = (unmade_later a b c failure first why.0, why.1)

  -- a directory is not listed
  pub unlisted : (t : Tree) (directory : Path) (name : List ℕ) (held : Held) (a b : Fs F flash) (fault : TellFault) (failure : Failure) → failure ≡ of_list fault → Unlisted t a b fault
      → Uncopied t directory name held held (flash.device a.flash.now) (flash.device b.flash.now) failure
  unlisted t directory name held a b (TellFault.Refused fault) failure is why =
      subst (Uncopied t directory name held held (flash.device a.flash.now) (flash.device b.flash.now)) (sym is) (uncopied_refused t directory name held (flash.device a.flash.now) (flash.device b.flash.now) fault why)
  unlisted t directory name held a b TellFault.TooManyLines failure is why =
      subst (Uncopied t directory name held held (flash.device a.flash.now) (flash.device b.flash.now)) (sym is) (why, refl)

  -- a folder that was begun did not become the directory's
  pub uncopied_filled : (t : Tree) (directory : Path) (name : List ℕ) (held mid saved : Held) (a b c : Fs F flash) (failure : Failure) → IsUnchanged a b → KeepsOutside (new_name name) held mid
      → Unfilled t directory name mid saved (flash.device b.flash.now) (flash.device c.flash.now) failure → Uncopied t directory name held saved (flash.device a.flash.now) (flash.device c.flash.now) failure
  uncopied_filled t directory name held mid saved a b c Failure.TooManyLines first keeps why = absurd why.0
  uncopied_filled t directory name held mid saved a b c Failure.Unsynced first keeps why = (why.0, keeps_beside name held mid saved keeps why.1)
  uncopied_filled t directory name held mid saved a b c failure first keeps why = (unmade_later a b c failure first why.0, keeps-trans (new_name name) held mid saved keeps why.1)
