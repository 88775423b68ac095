-- The laws of trees on a flash: what stays where blocks that no root reaches change, and what a path written anew gives.
use Rattle.std.specs.Prelude.{◌≡◌, ◌≢◌, ◌⊎◌, ◌↔◌, ℕ, ◌-◌, ◌≤◌, Bool, false, Option, Some, None, IsSome, [], ◌∷◌, length}
use Rattle.std.specs.FinMap.{get}
use Rattle.fs_types.specs.declared.limits.TheConstants.{MAX_NAMES}
use Rattle.fs_types.specs.Names.{Path}
use Rattle.plain_trees.specs.Contents.{Contents, Entry, nothing, graft, IsLast}
use Rattle.plain_trees.specs.Contents as plain
use Rattle.plain_trees.specs.Trees.{put, remove, move, children, is_too_deep, IsFileTree}
use Rattle.node_format.specs.declared.place.Place.{Place}
use Rattle.node_format.specs.declared.place.Place.TheVariants.{Dir, File}
use Rattle.nodes.specs.Bodies.{Blocks, body, IsBody}
use Rattle.nodes.specs.Trees.{items_in, entries_in, leads, tree_at, tree, HasTree, IsRoot, root_tree, names_of}
use Rattle.nodes.specs.Reached.{Reached, IsHeld, Keeps, PlaceNames}
use Rattle.nodes.specs.Rewritten.{IsFreshNode, IsRewritten, IsMoved}

-- what a place leads to; nothing where there is no place
abbrev pub tree_or_nothing : ℕ → Blocks → Option Place → Contents
tree_or_nothing capacity f None = nothing
tree_or_nothing capacity f (Some at) = tree_at capacity f at

abbrev pub HasTreeOrNothing : ℕ → Blocks → Option Place → ℕ → Type 0
HasTreeOrNothing capacity f None depth = Unit {0}
HasTreeOrNothing capacity f (Some at) depth = HasTree capacity f at depth

abbrev pub IsHeldOrNothing : Blocks → (ℕ → Bool) → Option Place → Type 0
IsHeldOrNothing f kept None = Unit {0}
IsHeldOrNothing f kept (Some at) = IsHeld f kept at

-- where all that a place or a root reaches is kept, other blocks may change and nothing of it does
pub record FrameLaw (old new : Blocks) (kept kept' : ℕ → Bool) : Type 0 where
  pub held : (at : Place) → IsHeld old kept at → IsHeld new kept' at
  pub reached : (root block : ℕ) → IsHeld old kept (Dir root) → Reached new (root ∷ []) block → Reached old (root ∷ []) block
  pub shape : (capacity depth : ℕ) (at : Place) → IsHeld old kept at → HasTree capacity old at depth → HasTree capacity new at depth
  pub same : (capacity depth : ℕ) (at : Place) → IsHeld old kept at → HasTree capacity old at depth → tree_at capacity new at ≡ tree_at capacity old at
  pub roots : (capacity root : ℕ) → IsHeld old kept (Dir root) → IsRoot capacity old root → root_tree capacity new root ≡ root_tree capacity old root

abbrev pub AllFrames : Type 0
AllFrames = (old new : Blocks) (kept kept' : ℕ → Bool) → Keeps kept old kept' new → FrameLaw old new kept kept'

-- a path written anew: the new tree is the old one with what the new entry leads to in the place of all below the
-- path; it is a tree where that is one; all that the new root reaches is kept, and the old root reached it, or the
-- new entry does, or it is a new node of a chain, in a block that was not kept before
pub record EditLaw (old new : Blocks) (kept kept' : ℕ → Bool) (from to : ℕ) (path : Path) (at : Option Place) : Type 0 where
  pub grafted : (capacity depth : ℕ) → HasTree capacity old (Dir from) depth → tree capacity new to ≡ graft (tree capacity old from) path (tree_or_nothing capacity new at)
  pub shape : (capacity depth : ℕ) → HasTree capacity old (Dir from) depth → length path ≤ depth → HasTreeOrNothing capacity new at (depth - length path) → HasTree capacity new (Dir to) depth
  pub held : IsHeldOrNothing new kept' at → IsHeld new kept' (Dir to)
  pub reached : (block : ℕ) → Reached new (to ∷ []) block → Reached old (from ∷ []) block ⊎ IsFreshNode kept new block ⊎ ((root : ℕ) × (place : Place) × (at ≡ Some place) × PlaceNames place root × Reached new (root ∷ []) block)

abbrev pub AllEdits : Type 0
AllEdits = (old new : Blocks) (kept kept' : ℕ → Bool) (from to : ℕ) (path : Path) (at : Option Place) → Keeps kept old kept' new → IsHeld old kept (Dir from) → IsRewritten old new kept kept' from to path at → EditLaw old new kept kept' from to path at

-- a new empty directory at a path where nothing stood
abbrev pub MkdirLaw : Type 0
MkdirLaw = (capacity : ℕ) (old new : Blocks) (kept kept' : ℕ → Bool) (from to block : ℕ) (path : Path) → Keeps kept old kept' new → IsHeld old kept (Dir from) → IsRoot capacity old from
    → tree capacity old from path ≡ None → length path ≤ MAX_NAMES → entries_in new block ≡ Some [] → IsRewritten old new kept kept' from to path (Some (Dir block))
    → IsRoot capacity new to × (root_tree capacity new to ≡ put (root_tree capacity old from) path Entry.Dir)

-- an entry taken out that nothing stands below
abbrev pub BlockRemoveLaw : Type 0
BlockRemoveLaw = (capacity : ℕ) (old new : Blocks) (kept kept' : ℕ → Bool) (from to : ℕ) (path : Path) → Keeps kept old kept' new → IsHeld old kept (Dir from) → IsRoot capacity old from
    → IsLast (tree capacity old from) path → length path ≤ MAX_NAMES → IsRewritten old new kept kept' from to path None
    → IsRoot capacity new to × (root_tree capacity new to ≡ remove (root_tree capacity old from) path)

-- a file at a path where no directory stood
abbrev pub PutFileLaw : Type 0
PutFileLaw = (capacity : ℕ) (old new : Blocks) (kept kept' : ℕ → Bool) (from to head size : ℕ) (path : Path) → Keeps kept old kept' new → IsHeld old kept (Dir from) → IsRoot capacity old from
    → tree capacity old from path ≢ Some Entry.Dir → length path ≤ MAX_NAMES → IsBody capacity new head size → IsRewritten old new kept kept' from to path (Some (File head size))
    → IsRoot capacity new to × (root_tree capacity new to ≡ put (root_tree capacity old from) path (Entry.File (body capacity new head size)))

-- each path below a place has so many names at most
abbrev pub IsShallow : Blocks → Place → ℕ → Type 0
IsShallow f at most = (path : Path) → IsSome (leads f at path) → length path ≤ most

-- what stood at one path stands at another: the new tree is the old one moved; it is a tree where no path gets too
-- long; all that the new root reaches is kept, and the old root reached it, or it is a new node of a chain, in a block that was
-- not kept before
pub record BlockMoveLaw (old new : Blocks) (kept kept' : ℕ → Bool) (from to : ℕ) (old_path new_path : Path) (place : Place) : Type 0 where
  pub moved : (capacity depth : ℕ) → HasTree capacity old (Dir from) depth → tree capacity new to ≡ plain.move (tree capacity old from) old_path new_path
  pub shape : (capacity depth : ℕ) → HasTree capacity old (Dir from) depth → length new_path ≤ depth → IsShallow old place (depth - length new_path) → HasTree capacity new (Dir to) depth
  pub held : IsHeld new kept' (Dir to)
  pub reached : (block : ℕ) → Reached new (to ∷ []) block → Reached old (from ∷ []) block ⊎ IsFreshNode kept new block

abbrev pub AllMoves : Type 0
AllMoves = (old new : Blocks) (kept kept' : ℕ → Bool) (from to : ℕ) (old_path new_path : Path) (place : Place) → Keeps kept old kept' new → IsHeld old kept (Dir from)
    → leads old (Dir from) old_path ≡ Some place → IsMoved old new kept kept' from to old_path new_path place → BlockMoveLaw old new kept kept' from to old_path new_path place

-- a move as one of finite maps
abbrev pub BlockRenameLaw : Type 0
BlockRenameLaw = (capacity : ℕ) (old new : Blocks) (kept kept' : ℕ → Bool) (from to : ℕ) (old_path new_path : Path) (place : Place) → Keeps kept old kept' new → IsHeld old kept (Dir from) → IsRoot capacity old from
    → leads old (Dir from) old_path ≡ Some place → length new_path ≤ MAX_NAMES → IsShallow old place (MAX_NAMES - length new_path) → IsMoved old new kept kept' from to old_path new_path place
    → IsRoot capacity new to × (root_tree capacity new to ≡ move (root_tree capacity old from) old_path new_path)

-- whether a path at `old` or below would have more names than a path may have at `new`, of the finite map of a root and of its nodes
abbrev pub DepthLaw : Type 0
DepthLaw = (capacity : ℕ) (f : Blocks) (root : ℕ) (old new : Path) (place : Place) → IsRoot capacity f root → leads f (Dir root) old ≡ Some place → length new ≤ MAX_NAMES
    → (is_too_deep (root_tree capacity f root) old new ≡ false) ↔ IsShallow f place (MAX_NAMES - length new)

-- the finite map of a root has at each path what stands there, and lists the entries of its directories
pub record MapLaw (capacity : ℕ) (f : Blocks) (root : ℕ) : Type 0 where
  pub same : get (root_tree capacity f root) ≡ tree capacity f root
  pub lists : (path : Path) (block : ℕ) → leads f (Dir root) path ≡ Some (Dir block) → children (root_tree capacity f root) path ≡ names_of (items_in f block)

abbrev pub AllMaps : Type 0
AllMaps = (capacity : ℕ) (f : Blocks) (root : ℕ) → IsRoot capacity f root → MapLaw capacity f root

-- the tree of a root is one of lawful paths, of few entries in each directory and of short files
abbrev pub AllFileTrees : Type 0
AllFileTrees = (capacity : ℕ) (f : Blocks) (root : ℕ) → IsRoot capacity f root → IsFileTree (root_tree capacity f root)
