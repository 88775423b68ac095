-- How much stands in the trees that are kept, and what each keeps of the flash.
use Rattle.std.specs.Prelude.{◌≡◌, ℕ, ◌==◌, List, [], ◌++◌, length, map, drop, codes, decimal, if◌then◌else◌, Bool, Option, Some, None}
use Rattle.std.specs.List.{flat_map, enumerate_from, zip}
use Rattle.fs_types.specs.Names.{Name}
use Rattle.fs_types.specs.declared.call.View.{View}
use Rattle.history_machine.specs.History.{Past}
use Rattle.history_machine.specs.Machine.{Machine, view_tree}
use Rattle.flash_model.specs.Device.{Device}
use Rattle.script.specs.Replies.{escaped}
use Rattle.system.specs.VersionSpace.{IsHistorySpace}
use Rattle.system.specs.declared.version_space.HistorySpace.{HistorySpace}
use Rattle.system.specs.declared.version_space.VersionSpace.{VersionSpace}
use Rattle.working_state.specs.Seen.{machine_on}
use Rattle.working_state.specs.declared.state.State.{State}
use Rattle.tree_counts.specs.declared.tree_size.TreeSize.{TreeSize}
use Rattle.inquiries.specs.Items.{items_of}
use Rattle.inquiries.specs.Printed.{sizes_text, size_text}

-- how much stands in the tree of a view
abbrev pub view_sizes : Machine → View → List ℕ
view_sizes m view = sizes_text (items_of (view_tree m view))

-- how many blocks more are free once the versions up to one are forgotten, where that may be
abbrev pub frees_text : Option ℕ → List ℕ
frees_text (Some frees) = codes " frees " ++ decimal frees
frees_text None = []

-- how many blocks nothing else keeps
abbrev pub alone_text : ℕ → List ℕ
alone_text alone = codes " alone " ++ decimal alone

unfoldable pub kept_text : VersionSpace → List ℕ
kept_text kept = frees_text kept.frees ++ alone_text kept.alone

-- the line of a version by its serial, with what it keeps, and whether it is the present one
abbrev pub version_text : Machine → ℕ → VersionSpace → Bool → List ℕ
version_text m serial kept is_present = codes "@" ++ decimal serial ++ view_sizes m (View.Serial serial) ++ kept_text kept ++ (if is_present then codes " present" else []) ++ codes "\n"

-- a place among the versions, the serial there, and what that version keeps
abbrev pub version_line : Machine → ℕ × (ℕ × VersionSpace) → List ℕ
version_line m row = version_text m row.1.0 row.1.1 (row.0 == m.history.cursor)

-- the name of a checkpoint, and how many blocks it keeps alone
abbrev pub checkpoint_line : Machine → Name × ℕ → List ℕ
checkpoint_line m row = codes "=" ++ escaped row.0 ++ view_sizes m (View.Checkpoint row.0) ++ alone_text row.1 ++ codes "\n"

-- the serials of the kept versions, the oldest first
abbrev pub kept_serials : Machine → List ℕ
kept_serials m = map (λ v. v.serial) m.history.versions

-- the names of the checkpoints, in byte order
abbrev pub kept_names : Machine → List Name
kept_names m = map (λ e. e.0) m.history.checkpoints

-- a line for each version and each checkpoint, which keep so much
abbrev pub versions_lines : Machine → HistorySpace → List ℕ
versions_lines m space =
    flat_map (version_line m) (enumerate_from 0 (zip (kept_serials m) space.versions)) ++ flat_map (checkpoint_line m) (zip (kept_names m) space.checkpoints)

-- the same of a system, with what its history keeps of the flash
pub record AreVersionLines (d : Device) (s : State) (bytes : List ℕ) : Type 0 where
  pub space : HistorySpace
  pub kept : IsHistorySpace d s space
  pub lines : bytes ≡ versions_lines (machine_on d s) space

-- ---- the same lines by the sizes of the trees

-- the line of a version by its serial, the size of its tree, and what it keeps
abbrev pub version_row : ℕ → TreeSize → VersionSpace → Bool → List ℕ
version_row serial size kept is_present = codes "@" ++ decimal serial ++ size_text size ++ kept_text kept ++ (if is_present then codes " present" else []) ++ codes "\n"

-- a place among the versions, the serial there, the size of that version's tree, and what it keeps
abbrev pub row_at : ℕ → ℕ × (ℕ × (TreeSize × VersionSpace)) → List ℕ
row_at cursor row = version_row row.1.0 row.1.1.0 row.1.1.1 (row.0 == cursor)

-- the name of a checkpoint, the size of its tree, and how many blocks it keeps alone
abbrev pub checkpoint_row : Name × (TreeSize × ℕ) → List ℕ
checkpoint_row row = codes "=" ++ escaped row.0 ++ size_text row.1.0 ++ alone_text row.1.1 ++ codes "\n"

-- the lines of a history by the sizes of its trees, the versions' and then the checkpoints'
abbrev pub kept_rows : Past ℕ → List TreeSize → HistorySpace → List ℕ
kept_rows h sizes space =
    flat_map (row_at h.cursor) (enumerate_from 0 (zip (map (λ v. v.serial) h.versions) (zip sizes space.versions)))
    ++ flat_map checkpoint_row (zip (map (λ e. e.0) h.checkpoints) (zip (drop (length h.versions) sizes) space.checkpoints))
