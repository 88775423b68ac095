-- The root of a tree with a new directory, with an entry taken out, and with one moved.
use Rattle.std.proofs.Common.{◌≡◌, ◌⊎◌, ℕ, Bool, true, false, Option, Some, None, Result, Ok, List, [], ◌∷◌, refl, ap, inl, inr}
use Rattle.std.proofs.lemmas.Bool.{and_parts}
use Rattle.std.specs.Prelude.{unwrap_or, Err, IfOk}
use Rattle.fs_types.specs.declared.fault.Fault.{Fault}
use Rattle.fs_types.specs.Names.{Path, is_path}
use Rattle.plain_trees.specs.Contents.{Entry, IsLast}
use Rattle.plain_trees.specs.Trees.{put, remove, move}
use Rattle.node_format.specs.Items.{Item, named_place}
use Rattle.node_format.specs.declared.place.Place.{Place}
use Rattle.node_format.specs.declared.place.Place.TheVariants.{Dir, File}
use Rattle.nodes.specs.Bodies.{Blocks}
use Rattle.nodes.specs.Reached.{Reached, IsHeld, Keeps}
use Rattle.nodes.specs.Rewritten.{IsRewritten, IsMoved}
use Rattle.nodes.specs.Trees.{tree, IsRoot, root_tree}
use Rattle.nodes.proofs.EditedMaps.{last_at, remove_law}
use Rattle.nodes.proofs.EditedTrees.{edit_law, mkdir_law}
use Rattle.nodes.proofs.EmptyDirectories.{empty_held}
use Rattle.nodes.proofs.MovedTrees.{move_law, rename_law}
use Rattle.directory.specs.declared.lookups.Found.{Found}
use Rattle.directory.specs.declared.lookups.Found.TheVariants as found
use Rattle.directory.specs.Edits.{OnlyReaches}
use Rattle.directory.specs.Lookups.{look_up}
use Rattle.directory.specs.Making.{IsNewDirectory}
use Rattle.directory.proofs.LookupLaws.{found_is, found_leads, found_leads_file, rooted_leads}
use Rattle.tree_edits.specs.Edits.{IsMovable, IsRemovable}
use Rattle.tree_edits.specs.Roots.{IsNewRoot, IsWrittenNode}
use Rattle.tree_edits.proofs.Lookups.{path_within}

-- a root that reaches nothing but what was reached, and what is new
pub without_entry_reaches : (old new : Blocks) (kept : ℕ → Bool) (from to block : ℕ) → OnlyReaches old new kept from to None → Reached new (to ∷ []) block → Reached old (from ∷ []) block ⊎ ((kept block ≡ false) × IsWrittenNode (new block))
without_entry_reaches old new kept from to block reaches r = elim (reaches block r) [
  | inl before ↦ inl before
  | inr later ↦ elim later [
    | inl fresh ↦ inr (fresh.0, inl fresh.1)
    | inr below ↦ absurd (let wrong = below.2 in cc)
  ]
]

-- ---- a new directory

pub made_root : (capacity : ℕ) (old new : Blocks) (kept kept' : ℕ → Bool) (from to : ℕ) (path : Path) → Keeps kept old kept' new → IsHeld old kept (Dir from) → IsRoot capacity old from → is_path path ≡ true
    → look_up old from path ≡ Ok (found.Missing false) → IsNewDirectory old new kept kept' from to path → OnlyReaches old new kept from to None
    → IsNewRoot capacity old kept new kept' from to (put (root_tree capacity old from) path Entry.Dir)
made_root capacity old new kept kept' from to path keeps held rooted lawful missing made reaches =
    let nothing = (found_is capacity old from path (found.Missing false) (rooted_leads capacity old from rooted) missing).1 in
    let edit = edit_law old new kept kept' from to path (Some (Dir made.block)) keeps held made.rewritten in
    let law = mkdir_law capacity old new kept kept' from to made.block path keeps held rooted nothing (path_within path lawful) made.empty made.rewritten in
    record {
      rooted = law.0;
      held = edit.held (empty_held new made.block made.empty kept' made.is_kept);
      shows = law.1;
      reached = λ block. without_entry_reaches old new kept from to block reaches;
    }

pub made_result : (capacity : ℕ) (old new : Blocks) (kept kept' : ℕ → Bool) (from : ℕ) (path : Path) (result : Result ℕ Fault) → Keeps kept old kept' new → IsHeld old kept (Dir from) → IsRoot capacity old from → is_path path ≡ true
    → look_up old from path ≡ Ok (found.Missing false) → IfOk result (λ to. IsNewDirectory old new kept kept' from to path) → IfOk result (λ to. OnlyReaches old new kept from to None)
    → IfOk result (λ to. IsNewRoot capacity old kept new kept' from to (put (root_tree capacity old from) path Entry.Dir))
made_result capacity old new kept kept' from path (Ok to) keeps held rooted lawful missing made reaches = made_root capacity old new kept kept' from to path keeps held rooted lawful missing made reaches
made_result capacity old new kept kept' from path (Err fault) keeps held rooted lawful missing made reaches = tt

-- ---- an entry taken out

-- nothing stands below what can be taken out
removable_last : (capacity : ℕ) (f : Blocks) (root : ℕ) (path : Path) (x : Found) → IsRoot capacity f root → look_up f root path ≡ Ok x → IsRemovable f x → IsLast (tree capacity f root) path
removable_last capacity f root path (found.Missing is_full) rooted led removable = absurd removable
removable_last capacity f root path (found.File head size) rooted led removable = last_at capacity f path (Dir root) (File head size) (found_leads_file f root path head size (rooted_leads capacity f root rooted) led) (λ n. refl)
removable_last capacity f root path (found.Dir block) rooted led removable =
    last_at capacity f path (Dir root) (Dir block) (found_leads f root path block (rooted_leads capacity f root rooted) led) (λ n. ap (λ (o : Option (List Item)). named_place (unwrap_or o []) n) removable)

pub removed_root : (capacity : ℕ) (old new : Blocks) (kept kept' : ℕ → Bool) (from to : ℕ) (path : Path) (x : Found) → Keeps kept old kept' new → IsHeld old kept (Dir from) → IsRoot capacity old from → is_path path ≡ true
    → look_up old from path ≡ Ok x → IsRemovable old x → IsRewritten old new kept kept' from to path None → OnlyReaches old new kept from to None
    → IsNewRoot capacity old kept new kept' from to (remove (root_tree capacity old from) path)
removed_root capacity old new kept kept' from to path x keeps held rooted lawful led removable rewritten reaches =
    let edit = edit_law old new kept kept' from to path None keeps held rewritten in
    let law = remove_law capacity old new kept kept' from to path keeps held rooted (removable_last capacity old from path x rooted led removable) (path_within path lawful) rewritten in
    record {
      rooted = law.0;
      held = edit.held tt;
      shows = law.1;
      reached = λ block. without_entry_reaches old new kept from to block reaches;
    }

pub removed_result : (capacity : ℕ) (old new : Blocks) (kept kept' : ℕ → Bool) (from : ℕ) (path : Path) (x : Found) (result : Result ℕ Fault) → Keeps kept old kept' new → IsHeld old kept (Dir from) → IsRoot capacity old from → is_path path ≡ true
    → look_up old from path ≡ Ok x → IsRemovable old x → IfOk result (λ to. IsRewritten old new kept kept' from to path None) → IfOk result (λ to. OnlyReaches old new kept from to None)
    → IfOk result (λ to. IsNewRoot capacity old kept new kept' from to (remove (root_tree capacity old from) path))
removed_result capacity old new kept kept' from path x (Ok to) keeps held rooted lawful led removable rewritten reaches = removed_root capacity old new kept kept' from to path x keeps held rooted lawful led removable rewritten reaches
removed_result capacity old new kept kept' from path x (Err fault) keeps held rooted lawful led removable rewritten reaches = tt

-- ---- an entry moved

pub moved_root : (capacity : ℕ) (old new : Blocks) (kept kept' : ℕ → Bool) (from to : ℕ) (old_path new_path : Path) {old_trail new_trail : List ℕ} (place : Place) → Keeps kept old kept' new → IsHeld old kept (Dir from) → IsRoot capacity old from
    → IsMovable old from old_path old_trail new_path new_trail place → IsMoved old new kept kept' from to old_path new_path place
    → IsNewRoot capacity old kept new kept' from to (move (root_tree capacity old from) old_path new_path)
moved_root capacity old new kept kept' from to old_path new_path place keeps held rooted movable moved =
    let short = path_within new_path (and_parts (is_path old_path) (is_path new_path) movable.lawful).1 in
    let all = move_law old new kept kept' from to old_path new_path place keeps held movable.stands moved in
    let law = rename_law capacity old new kept kept' from to old_path new_path place keeps held rooted movable.stands short movable.shallow moved in
    record {
      rooted = law.0;
      held = all.held;
      shows = law.1;
      reached = λ block r. elim (all.reached block r) [ inl before ↦ inl before | inr fresh ↦ inr (fresh.0, inl fresh.1) ];
    }

pub moved_result : (capacity : ℕ) (old new : Blocks) (kept kept' : ℕ → Bool) (from : ℕ) (old_path new_path : Path) {old_trail new_trail : List ℕ} (place : Place) (result : Result ℕ Fault) → Keeps kept old kept' new → IsHeld old kept (Dir from) → IsRoot capacity old from
    → IsMovable old from old_path old_trail new_path new_trail place → IfOk result (λ to. IsMoved old new kept kept' from to old_path new_path place)
    → IfOk result (λ to. IsNewRoot capacity old kept new kept' from to (move (root_tree capacity old from) old_path new_path))
moved_result capacity old new kept kept' from old_path new_path place (Ok to) keeps held rooted movable moved = moved_root capacity old new kept kept' from to old_path new_path place keeps held rooted movable moved
moved_result capacity old new kept kept' from old_path new_path place (Err fault) keeps held rooted movable moved = tt
