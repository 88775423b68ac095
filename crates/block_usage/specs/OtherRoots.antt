-- The roots of what a history keeps beside a view.
use Rattle.std.specs.Prelude.{ℕ, ◌==◌, Bool, false, if◌then◌else◌, List, [], ◌∷◌, ◌++◌}
use Rattle.std.specs.List.{flat_map, enumerate_from}
use Rattle.fs_types.specs.Names.{Name, same_name}
use Rattle.fs_types.specs.declared.call.Version.{Version}
use Rattle.fs_types.specs.declared.call.View.{View}
use Rattle.history_machine.specs.History.{Past}

-- whether a view shows the version of a serial, which is the present one or not
abbrev pub shows_version : View → ℕ → Bool → Bool
shows_version View.Present serial is_present = is_present
shows_version (View.Serial shown) serial is_present = shown == serial
shows_version (View.Checkpoint name) serial is_present = false

-- whether it shows the checkpoint of a name
abbrev pub shows_checkpoint : View → Name → Bool
shows_checkpoint (View.Checkpoint shown) name = same_name shown name
shows_checkpoint _ name = false

-- the root of the version at a place, if the view does not show it
abbrev pub other_version : Past ℕ → View → ℕ × Version ℕ → List ℕ
other_version h view row = if shows_version view row.1.serial (row.0 == h.cursor) then [] else row.1.root ∷ []

abbrev pub other_versions : Past ℕ → View → List ℕ
other_versions h view = flat_map (other_version h view) (enumerate_from 0 h.versions)

-- the root of a checkpoint, if the view does not show it
abbrev pub other_checkpoint : View → Name × ℕ → List ℕ
other_checkpoint view entry = if shows_checkpoint view entry.0 then [] else entry.1 ∷ []

abbrev pub other_checkpoints : Past ℕ → View → List ℕ
other_checkpoints h view = flat_map (other_checkpoint view) h.checkpoints

-- the roots of all versions and checkpoints but the one that the view shows
abbrev pub other_roots : Past ℕ → View → List ℕ
other_roots h view = other_versions h view ++ other_checkpoints h view
