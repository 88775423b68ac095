-- What stands in a tree, as the entries of an archive.
use Rattle.std.proofs.Common.{◌≡◌, ◌∙◌, ◌<◌, ◌≤◌, ℕ, Option, Some, None, List, IsSome, map, get_or, length, refl, sym, ap, subst, arith}
use Rattle.std.proofs.lemmas.Bool.{true≢false}
use Rattle.std.proofs.lemmas.List.{get_or-map}
use Rattle.std.specs.FinMap.{get}
use Rattle.fs_types.specs.Names.{Path}
use Rattle.fs_types.specs.declared.call.Stat.{Stat}
use Rattle.fs_types.specs.declared.limits.TheConstants.{MAX_FILE_BYTES}
use Rattle.plain_trees.specs.Contents.{Entry}
use Rattle.plain_trees.specs.Trees.{Tree, bytes_of_file, bytes_of, IsFileTree}
use Rattle.history_machine.specs.Machine.{stat_of}
use Rattle.inquiries.specs.Items.{IsItemOf}
use Rattle.inquiries.specs.declared.items.Item.{Item}
use Rattle.archives.specs.Archives.{size_of, IsShort}
use Rattle.archives.specs.declared.archive_entry.ArchiveEntry.{ArchiveEntry}
use Rattle.archives.specs.declared.archive_entry.Contents.{Contents}
use Rattle.archive_jobs.specs.Entries.{contents_by, entry_of}

abbrev pub entry_at : Path → Contents → ArchiveEntry
entry_at path here = record { path = path; contents = here }

-- a directory
pub folder_entry : (t : Tree) (item : Item) (path : Path) (count : ℕ) → IsItemOf t item → path ≡ item.path → item.stat ≡ Stat.Dir count → entry_at path Contents.Folder ≡ entry_of t item
folder_entry t item path count is same dir = ap (λ (p : Path). entry_at p Contents.Folder) same ∙ go (get t item.path) refl is.there
  where
    go : (o : Option Entry) → get t item.path ≡ o → IsSome o → entry_at item.path Contents.Folder ≡ entry_of t item
    go None at some = absurd (true≢false (sym some))
    go (Some Entry.Dir) at some = sym (ap (λ (x : Option Entry). entry_at item.path (contents_by x)) at)
    go (Some (Entry.File bytes)) at some = absurd (let wrong : Stat.File (length bytes) ≡ Stat.Dir count = sym (ap (stat_of t item.path) at) ∙ sym is.stat ∙ dir in cc)

-- a file
pub file_there : (t : Tree) (item : Item) (size : ℕ) → IsItemOf t item → item.stat ≡ Stat.File size → get t item.path ≡ Some (Entry.File (bytes_of_file t item.path))
file_there t item size is file = go (get t item.path) refl is.there
  where
    go : (o : Option Entry) → get t item.path ≡ o → IsSome o → get t item.path ≡ Some (Entry.File (bytes_of_file t item.path))
    go None at some = absurd (true≢false (sym some))
    go (Some Entry.Dir) at some = absurd (let wrong = sym (ap (stat_of t item.path) at) ∙ sym is.stat ∙ file in cc)
    go (Some (Entry.File bytes)) at some = at ∙ ap (λ (o : Option Entry). Some (Entry.File (bytes_of o))) (sym at)

pub file_entry : (t : Tree) (item : Item) (path : Path) (bytes : List ℕ) → path ≡ item.path → get t item.path ≡ Some (Entry.File bytes) → entry_at path (Contents.File bytes) ≡ entry_of t item
file_entry t item path bytes same there =
    ap (λ (p : Path). entry_at p (Contents.File bytes)) same ∙ sym (ap (λ (x : Option Entry). entry_at item.path (contents_by x)) there)

-- an item and its entry stand at one place
pub entry_placed : (t : Tree) (items : List Item) (i : ℕ) (item : Item) → i < length items → item ≡ get_or items i item → entry_of t item ≡ get_or (map (entry_of t) items) i (entry_of t item)
entry_placed t items i item within is = ap (entry_of t) is ∙ sym (get_or-map (entry_of t) items i item (entry_of t item) within)

-- no file of a tree is longer than one may be
short_by : (t : Tree) (path : Path) → IsFileTree t → size_of (contents_by (get t path)) ≤ MAX_FILE_BYTES
short_by t path good = go (get t path) refl
  where
    go : (o : Option Entry) → get t path ≡ o → size_of (contents_by (get t path)) ≤ MAX_FILE_BYTES
    go None at = subst (λ (x : Option Entry). size_of (contents_by x) ≤ MAX_FILE_BYTES) (sym at) (omega arith)
    go (Some Entry.Dir) at = subst (λ (x : Option Entry). size_of (contents_by x) ≤ MAX_FILE_BYTES) (sym at) (omega arith)
    go (Some (Entry.File bytes)) at = subst (λ (x : Option Entry). size_of (contents_by x) ≤ MAX_FILE_BYTES) (sym at) (good.lengths path bytes at)

pub entry_short : (t : Tree) (item : Item) (entry : ArchiveEntry) → IsFileTree t → entry ≡ entry_of t item → IsShort entry
entry_short t item entry good is = subst IsShort (sym is) (short_by t item.path good)
