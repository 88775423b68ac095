-- New roots.
use Rattle.std.specs.Prelude.{◌≡◌, ◌⊎◌, ℕ, ◌+◌, ◌-◌, ◌≤◌, Bool, true, false, Option, Some, List, [], ◌∷◌, Result, IfOk, IfErr}
use Rattle.fs_types.specs.declared.fault.Fault.{Fault}
use Rattle.fs_types.specs.declared.named_file.NamedFile.{NamedFile}
use Rattle.fs_types.specs.Names.{Path, is_path}
use Rattle.plain_trees.specs.Trees.{Tree}
use Rattle.nodes.specs.Words as words
use Rattle.nodes.specs.declared.nodes.Nodes.{Ghosts}
use Rattle.node_format.specs.Headers.{body_header}
use Rattle.node_format.specs.Items.{is_place}
use Rattle.node_format.specs.declared.place.Place.{Place}
use Rattle.node_format.specs.declared.place.Place.TheVariants.{Dir, File}
use Rattle.nodes.specs.Bodies.{Blocks}
use Rattle.nodes.specs.Chains.{is_chained}
use Rattle.nodes.specs.Reached.{Reached, IsHeld, PlaceNames}
use Rattle.nodes.specs.Rewritten.{IsRewritten}
use Rattle.nodes.specs.Trees.{IsRoot, root_tree}
use Rattle.directory.specs.Trails.{IsTrail, IsChangeFault}
use Rattle.directory.specs.declared.directory_puts.NamedPlace.{NamedPlace}
use Rattle.tree_edits.specs.Writing.{HoldsIndex, IsWritten}
use Rattle.tree_edits.specs.declared.file_body.Body.{Body}

-- a node as it is written: one of a chain of a directory, or one of a body, with 0 in its zero field and in each slot that its
-- index does not have
abbrev pub IsWrittenNode : Option (List ℕ) → Type 0
IsWrittenNode node = (is_chained node ≡ true) ⊎ ((index : ℕ) × (bytes : List ℕ) × HoldsIndex node index bytes)

-- a root has this tree; all that it reaches is kept, and another root reached it before, or it was written in a block that was
-- not kept
pub record IsNewRoot (capacity : ℕ) (old : Blocks) (kept : ℕ → Bool) (new : Blocks) (kept' : ℕ → Bool) (from to : ℕ) (tree : Tree) : Type 0 where
  pub rooted : IsRoot capacity new to
  pub held : IsHeld new kept' (Dir to)
  pub shows : root_tree capacity new to ≡ tree
  pub reached : (block : ℕ) → Reached new (to ∷ []) block → Reached old (from ∷ []) block ⊎ ((kept block ≡ false) × IsWrittenNode (new block))

-- each block that a body reaches was written, and not kept before
abbrev pub IsFreshBody : (ℕ → Bool) → Blocks → Body → Type 0
IsFreshBody kept new x =
    (root block : ℕ) → PlaceNames (File x.head x.length) root → Reached new (root ∷ []) block
    → (kept block ≡ false) × IsWrittenNode (new block)

-- the tree of a root
abbrev pub tree_of : {S : Type 0} → Ghosts S → S → ℕ → Tree
tree_of N s root = root_tree (N.limit s - body_header) (N.node s) root

-- what a look-up told of a path below a root: all that the root reaches is kept, it is the root of a tree, and the trail is that of the path
pub record IsLookedUp {S : Type 0} (N : Ghosts S) (s : S) (root : ℕ) (path : Path) (trail : List ℕ) : Type 0 where
  pub held : words.IsHeld N s (Dir root)
  pub rooted : words.IsRoot N s root
  pub lawful : is_path path ≡ true
  pub way : IsTrail (N.node s) root path trail

-- an edit of the tree of a root was applied, with so many writes at most: there is a new root with the edited tree, and the old one stays; or it was
-- refused with its cause
pub record IsApplied {S : Type 0} (N : Ghosts S) (from : ℕ) (edited : Tree) (most_writes : ℕ) (old : S) (result : Result ℕ Fault) (new : S) : Type 0 where
  pub new_root : IfOk result (λ to. IsNewRoot (N.limit old - body_header) (N.node old) (N.kept old) (N.node new) (N.kept new) from to edited)
  pub keeps : words.Keeps N old new
  pub works : words.Works N old new
  pub writes : N.writes new ≤ N.writes old + most_writes
  pub why : IfErr result (λ fault. N.causes old new fault)
  pub faults : IfErr result IsChangeFault

-- a place is a file of these bytes: its body is written and kept, and each block that it reaches was not kept before
abbrev pub IsNewFile : ℕ → (ℕ → Bool) → Blocks → (ℕ → Bool) → List ℕ → Place → Type 0
IsNewFile capacity kept new kept' bytes (Dir block) = ⊥
IsNewFile capacity kept new kept' bytes (File head size) =
    (is_place (File head size) ≡ true) × IsWritten capacity new kept' (record { head = head; length = size }) bytes
    × IsFreshBody kept new (record { head = head; length = size })

-- each of these files, in order, has its name and its place
abbrev pub AreNewFiles : ℕ → (ℕ → Bool) → Blocks → (ℕ → Bool) → List NamedFile → List NamedPlace → Type 0
AreNewFiles capacity kept new kept' [] [] = Unit {0}
AreNewFiles capacity kept new kept' [] (put ∷ puts) = ⊥
AreNewFiles capacity kept new kept' (file ∷ files) [] = ⊥
AreNewFiles capacity kept new kept' (file ∷ files) (put ∷ puts) =
    (put.name.now ≡ file.name) × IsNewFile capacity kept new kept' file.bytes put.place
    × AreNewFiles capacity kept new kept' files puts

-- the path of a directory leads to the one in a block: that is the new root where the path is the root's, else each
-- directory above it was written anew
abbrev pub IsLinked : Blocks → Blocks → (ℕ → Bool) → (ℕ → Bool) → ℕ → ℕ → Path → ℕ → Type 0
IsLinked old new kept kept' from to [] block = to ≡ block
IsLinked old new kept kept' from to (name ∷ path) block =
    IsRewritten old new kept kept' from to (name ∷ path) (Some (Dir block))
