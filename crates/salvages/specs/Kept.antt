-- The record that is kept of a damaged flash: the versions and checkpoints whose roots are not lost.
use Rattle.std.specs.Prelude.{ℕ, ◌+◌, ◌-◌, Bool, false, not, ◌==◌, ◌||◌, List, [], ◌∷◌, ◌++◌, take, map, filter, count_by}
use Rattle.std.specs.List.{list_any}
use Rattle.fs_types.specs.Names.{Name}
use Rattle.fs_types.specs.declared.call.Version.{Version}
use Rattle.record_format.specs.declared.formats.TheConstants.{FORMAT}
use Rattle.record_format.specs.declared.record.Checkpoint.{Checkpoint}
use Rattle.record_format.specs.declared.record.Record.{Record}

-- the roots of all versions and checkpoints
abbrev pub roots_in : Record → List ℕ
roots_in r = map (λ version. version.root) r.versions ++ map (λ checkpoint. checkpoint.root) r.checkpoints

-- a root is among the lost ones
abbrev pub is_lost : List ℕ → ℕ → Bool
is_lost lost root = list_any (λ block. block == root) lost

abbrev pub is_kept : List ℕ → ℕ → Bool
is_kept lost root = not (is_lost lost root)

-- the versions that are kept
abbrev pub kept_versions : List ℕ → List (Version ℕ) → List (Version ℕ)
kept_versions lost versions = filter (λ version. is_kept lost version.root) versions

-- the checkpoints that are kept
abbrev pub kept_checkpoints : List ℕ → List Checkpoint → List Checkpoint
kept_checkpoints lost checkpoints = filter (λ checkpoint. is_kept lost checkpoint.root) checkpoints

-- the serials of the versions that are not kept
abbrev pub lost_serials : List ℕ → List (Version ℕ) → List ℕ
lost_serials lost versions = map (λ version. version.serial) (filter (λ version. is_lost lost version.root) versions)

-- the names of the checkpoints that are not kept
abbrev pub lost_names : List ℕ → List Checkpoint → List Name
lost_names lost checkpoints = map (λ checkpoint. checkpoint.name) (filter (λ checkpoint. is_lost lost checkpoint.root) checkpoints)

-- where the cursor goes, as a place among the kept versions: on the newest of those up to its own place, else on the oldest of all
abbrev pub kept_cursor : List ℕ → List (Version ℕ) → ℕ → ℕ
kept_cursor lost versions cursor = count_by (λ version. is_kept lost version.root) (take (cursor + 1) versions) - 1

-- the oldest version is not kept
abbrev pub is_oldest_lost : List ℕ → List (Version ℕ) → Bool
is_oldest_lost lost [] = false
is_oldest_lost lost (oldest ∷ versions) = is_lost lost oldest.root

-- the record that is kept: the first one of a flash without bad blocks, of the format that is written
abbrev pub kept_record : List ℕ → Record → Record
kept_record lost r = record r {
  sequence = 1;
  format = FORMAT;
  cursor = kept_cursor lost r.versions r.cursor;
  dropped = r.dropped || is_oldest_lost lost r.versions;
  versions = kept_versions lost r.versions;
  checkpoints = kept_checkpoints lost r.checkpoints;
  bad = [];
}
