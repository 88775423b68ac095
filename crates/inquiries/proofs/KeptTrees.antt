-- The trees that are kept: their roots, and the lines of what is kept by the sizes of these.
use Rattle.std.proofs.Common.{◌≡◌, ◌∙◌, inl, inr, ℕ, zero, suc, ◌+◌, ◌<◌, ◌≤◌, true, Option, Some, List, [], ◌∷◌, ◌++◌, length, map, drop, get_or, refl, sym, ap, ap₂, arith}
use Rattle.std.proofs.lemmas.Bool.{true≢false}
use Rattle.std.proofs.lemmas.List.{length-append, length-map, map-append}
use Rattle.std.proofs.lemmas.List.Concat.{flat_map-cons}
use Rattle.std.proofs.lemmas.List.Elements.{All-head, All-tail, Contains-append_cases}
use Rattle.std.specs.Prelude.{All, ◌==◌, codes, decimal, if◌then◌else◌, slice_get, unwrap_or}
use Rattle.std.specs.List.{flat_map, enumerate_from, zip}
use Rattle.std.specs.Option.{option_map, option_and_then}
use Rattle.fs_types.specs.Names.{Name}
use Rattle.fs_types.specs.declared.call.Version.{Version}
use Rattle.fs_types.specs.declared.call.View.{View}
use Rattle.fs_types.specs.declared.fault.Fault.{Fault}
use Rattle.fs_types.specs.declared.fault.Fault.TheVariants.{ReadFailed, PowerCut, NoMemory}
use Rattle.plain_trees.specs.Trees.{Tree, bare}
use Rattle.history_machine.specs.History.{Past}
use Rattle.history_machine.specs.Machine.{Machine, IsMachine, view_tree}
use Rattle.history_copies.proofs.Seen.{version_found, name_found}
use Rattle.flash_model.specs.Device.{Device}
use Rattle.flash_model.specs.Geometry.{block_bytes}
use Rattle.mounting.specs.Records.{roots_of}
use Rattle.node_store.specs.NodePages.{node_of}
use Rattle.reclaim.specs.Verified.{AreRoots}
use Rattle.script.specs.Replies.{escaped}
use Rattle.system.specs.declared.version_space.HistorySpace.{HistorySpace}
use Rattle.system.specs.declared.version_space.VersionSpace.{VersionSpace}
use Rattle.tree_counts.specs.Sizes.{size_of}
use Rattle.tree_counts.specs.declared.tree_size.TreeSize.{TreeSize}
use Rattle.working_state.specs.Mounted.{IsMounted}
use Rattle.working_state.specs.Seen.{machine_on, tree_on}
use Rattle.working_state.specs.declared.state.State.{State}
use Rattle.inquiries.specs.Inquiries.{is_of_versions}
use Rattle.inquiries.specs.Items.{items_of}
use Rattle.inquiries.specs.Printed.{size_text, sizes_text}
use Rattle.inquiries.specs.Readings.{Meets}
use Rattle.inquiries.specs.declared.inquiry.Inquiry.{Inquiry}
use Rattle.inquiries.specs.Versions.{alone_text, checkpoint_line, checkpoint_row, kept_rows, kept_text, row_at, version_line, versions_lines, view_sizes}
use Rattle.inquiries.proofs.Sizes.{sizes_said}

-- ---- roots

-- all of them have trees
pub all_rooted : (d : Device) (s : State) → IsMounted d s → AreRoots (block_bytes d.geometry) (node_of d) (roots_of s.history)
all_rooted d s mounted root has = elim (Contains-append_cases (map (λ (v : Version ℕ). v.root) s.history.versions) (map (λ (e : Name × ℕ). e.1) s.history.checkpoints) root has) [
  | inl version ↦ (mounted.roots root (inl version)).rooted
  | inr checkpoint ↦ (mounted.roots root (inr (inl checkpoint))).rooted
]

-- there is one for each version
pub versions_rooted : {A : Type 0} (g : ℕ → A) (h : Past ℕ) → length h.versions ≤ length (map g (roots_of h))
versions_rooted g h =
    let all = length-map (roots_of h) g in
    let both = length-append (map (λ (v : Version ℕ). v.root) h.versions) (map (λ (e : Name × ℕ). e.1) h.checkpoints) in
    let versions = length-map h.versions (λ (v : Version ℕ). v.root) in
    omega (arith, all, both, versions)

-- what was met after reads was met
pub met_after : (d e f : Device) (fault : Fault) → d.failed_reads ≤ e.failed_reads → Meets e f fault → Meets d f fault
met_after d e f ReadFailed later met = omega (arith, later, met)
met_after d e f PowerCut later met = met
met_after d e f NoMemory later met = tt
met_after d e f _ later met = absurd met

-- what is asked of all that is kept is the one inquiry
pub only_versions : (inquiry : Inquiry) → is_of_versions inquiry ≡ true → inquiry ≡ Inquiry.Versions
only_versions Inquiry.Versions is = refl
only_versions _ is = absurd (true≢false (sym is))

-- ---- what views show

got : {A : Type 0} (xs : List A) (k : ℕ) (d : A) → k < length xs → slice_get xs k ≡ Some (get_or xs k d)
got [] k d within = absurd (omega arith)
got (x ∷ xs) zero d within = refl
got (x ∷ xs) (suc k) d within = got xs k d (omega arith)

module _ (m : Machine) where
  abbrev ShowsVersion : Version Tree → Type 0
  ShowsVersion v = view_tree m (View.Serial v.serial) ≡ v.root

  abbrev ShowsCheckpoint : Name × Tree → Type 0
  ShowsCheckpoint e = view_tree m (View.Checkpoint e.0) ≡ e.1

  versions_shown : IsMachine m → All ShowsVersion m.history.versions
  versions_shown is k d within =
      ap (λ (o : Option ℕ). unwrap_or (option_map (λ (v : Version Tree). v.root) (option_and_then (slice_get m.history.versions) o)) bare) (version_found m is.lawful k d within)
      ∙ ap (λ (o : Option (Version Tree)). unwrap_or (option_map (λ (v : Version Tree). v.root) o) bare) (got m.history.versions k d within)

  checkpoints_shown : IsMachine m → All ShowsCheckpoint m.history.checkpoints
  checkpoints_shown is k d within = ap (λ (o : Option Tree). unwrap_or o bare) (name_found m.history.checkpoints k d is.named within)

  shown_size : (view : View) (t : Tree) → view_tree m view ≡ t → size_text (size_of t) ≡ view_sizes m view
  shown_size view t is = sizes_said t ∙ ap (λ (u : Tree). sizes_text (items_of u)) (sym is)

  -- ---- lines

  module _ (f : ℕ → Tree) where
    abbrev sized : ℕ → TreeSize
    sized root = size_of (f root)

    abbrev seen_version : Version ℕ → Version Tree
    seen_version v = record { serial = v.serial; root = f v.root }

    abbrev seen_checkpoint : Name × ℕ → Name × Tree
    seen_checkpoint e = (e.0, f e.1)

    version_rows : (vs : List (Version ℕ)) (more : List TreeSize) (space : List VersionSpace) (i : ℕ) → All ShowsVersion (map seen_version vs)
        → flat_map (row_at m.history.cursor) (enumerate_from i (zip (map (λ v. v.serial) vs) (zip (map sized (map (λ v. v.root) vs) ++ more) space)))
        ≡ flat_map (version_line m) (enumerate_from i (zip (map (λ v. v.serial) (map seen_version vs)) space))
    version_rows [] more space i all = refl
    version_rows (v ∷ vs) more [] i all = refl
    version_rows (v ∷ vs) more (kept ∷ space) i all =
        let first : view_tree m (View.Serial v.serial) ≡ f v.root = All-head ShowsVersion (seen_version v) (map seen_version vs) all in
        let rest = version_rows vs more space (i + 1) (All-tail ShowsVersion (seen_version v) (map seen_version vs) all) in
        let same = shown_size (View.Serial v.serial) (f v.root) first in
        flat_map-cons (row_at m.history.cursor) (i, (v.serial, (sized v.root, kept))) (enumerate_from (i + 1) (zip (map (λ (w : Version ℕ). w.serial) vs) (zip (map sized (map (λ (w : Version ℕ). w.root) vs) ++ more) space)))
        ∙ ap₂ (λ (x y : List ℕ). x ++ y)
        (ap (λ (size : List ℕ). codes "@" ++ decimal v.serial ++ size ++ kept_text kept ++ (if i == m.history.cursor then codes " present" else []) ++ codes "\n") same) rest
        ∙ sym (flat_map-cons (version_line m) (i, (v.serial, kept)) (enumerate_from (i + 1) (zip (map (λ (w : Version Tree). w.serial) (map seen_version vs)) space)))

    checkpoint_rows : (es : List (Name × ℕ)) (space : List ℕ) → All ShowsCheckpoint (map seen_checkpoint es)
        → flat_map checkpoint_row (zip (map (λ e. e.0) es) (zip (map sized (map (λ e. e.1) es)) space)) ≡ flat_map (checkpoint_line m) (zip (map (λ e. e.0) (map seen_checkpoint es)) space)
    checkpoint_rows [] space all = refl
    checkpoint_rows (e ∷ es) [] all = refl
    checkpoint_rows (e ∷ es) (alone ∷ space) all =
        let first : view_tree m (View.Checkpoint e.0) ≡ f e.1 = All-head ShowsCheckpoint (seen_checkpoint e) (map seen_checkpoint es) all in
        let rest = checkpoint_rows es space (All-tail ShowsCheckpoint (seen_checkpoint e) (map seen_checkpoint es) all) in
        let same = shown_size (View.Checkpoint e.0) (f e.1) first in
        flat_map-cons checkpoint_row (e.0, (sized e.1, alone)) (zip (map (λ (x : Name × ℕ). x.0) es) (zip (map sized (map (λ (x : Name × ℕ). x.1) es)) space))
        ∙ ap₂ (λ (x y : List ℕ). x ++ y) (ap (λ (size : List ℕ). codes "=" ++ escaped e.0 ++ size ++ alone_text alone ++ codes "\n") same) rest
        ∙ sym (flat_map-cons (checkpoint_line m) (e.0, alone) (zip (map (λ (x : Name × Tree). x.0) (map seen_checkpoint es)) space))

    -- the sizes of the checkpoints' trees come after those of the versions'
    later_sizes : (vs : List (Version ℕ)) (more : List TreeSize) → drop (length vs) (map sized (map (λ v. v.root) vs) ++ more) ≡ more
    later_sizes [] more = refl
    later_sizes (v ∷ vs) more = later_sizes vs more

-- the lines by the sizes of the trees are the lines of the trees
pub rows_tell : (d : Device) (s : State) (space : HistorySpace) → IsMachine (machine_on d s)
    → kept_rows s.history (map (λ root. size_of (tree_on d root)) (roots_of s.history)) space ≡ versions_lines (machine_on d s) space
rows_tell d s space is =
    let m : Machine = machine_on d s in
    let versions : List (Version ℕ) = s.history.versions in
    let checkpoints : List (Name × ℕ) = s.history.checkpoints in
    let sizes : ℕ → TreeSize = λ root. size_of (tree_on d root) in
    let others : List TreeSize = map sizes (map (λ (e : Name × ℕ). e.1) checkpoints) in
    ap (λ (all : List TreeSize). kept_rows s.history all space) (map-append sizes (map (λ (v : Version ℕ). v.root) versions) (map (λ (e : Name × ℕ). e.1) checkpoints))
    ∙ ap₂ (λ (x y : List ℕ). x ++ y) (version_rows m (tree_on d) versions others space.versions 0 (versions_shown m is))
    (ap (λ (rest : List TreeSize). flat_map checkpoint_row (zip (map (λ (e : Name × ℕ). e.0) checkpoints) (zip rest space.checkpoints))) (later_sizes m (tree_on d) versions others)
    ∙ checkpoint_rows m (tree_on d) checkpoints space.checkpoints (checkpoints_shown m is))
