-- A verification that goes on: what it noted of the nodes that it read, and what it found.
use Rattle.std.specs.Prelude.{◌≡◌, ℕ, ◌+◌, ◌*◌, ◌-◌, ◌≤◌, Bool, true, false, List, length}
use Rattle.std.specs.FinSet as set
use Rattle.std.specs.Ordering.{nat_cmp}
use Rattle.node_format.specs.Headers.{body_header}
use Rattle.nodes.specs.Bodies.{Blocks}
use Rattle.directory.specs.Depths.{HasDirectories, loud_of}
use Rattle.nodes.specs.declared.nodes.Nodes.{Ghosts}
use Rattle.reclaim.specs.Calls.{HasReadAll}
use Rattle.reclaim.specs.Heads.{HeadsAreTold}
use Rattle.reclaim.specs.Levels.{AreLeveled}
use Rattle.reclaim.specs.Looks.{NextHoldsLink, IsLooked}
use Rattle.reclaim.specs.Passes.{Pass, IsPass}
use Rattle.reclaim.specs.Tables.{IsTold}
use Rattle.reclaim.specs.Tops.{HasSize, TopsAreTold}
use Rattle.reclaim.specs.Verified.{AreAllowed, AreLooked, AreWhole}
use Rattle.reclaim.specs.declared.levels.Levels.{Levels}
use Rattle.reclaim.specs.declared.table.Table.{Table}
use Rattle.reclaim.specs.declared.tops.Tops.{Tops}

-- a marking, and the table and the levels of the nodes that it read
pub record HasNoted (f : Blocks) (p : Pass) (t : Table) (v : Levels) : Type 0 where
  pub pass : IsPass f p
  pub told : IsTold f p t
  pub leveled : AreLeveled f p v

-- what was told of other nodes is so, as far as they were read: no file is longer than its head allows, the node before each
-- one of a body is full and has the index before, and last slots name what they have to
pub record HasTold (capacity : ℕ) (f : Blocks) (p : Pass) (t : Table) (k : Tops) : Type 0 where
  pub size : HasSize p.blocks k
  pub heads : HeadsAreTold capacity f p t
  pub tops : TopsAreTold f p k

-- of a flash of so many blocks of so many bytes
pub record IsVerifying (blocks limit : ℕ) (f : Blocks) (p : Pass) (t : Table) (k : Tops) (v : Levels) : Type 0 where
  pub size : p.blocks ≡ blocks
  pub noted : HasNoted f p t v
  pub told : HasTold (limit - body_header) f p t k

-- the block that comes next was read: whether it is sound
pub record HasLookedAt (limit : ℕ) (f : Blocks) (plain : Bool) (block : ℕ) (old new : Pass) (t : Table) (k : Tops) (v : Levels) (good : Bool) : Type 0 where
  pub noted : HasNoted f new t v
  pub next : new.next ≡ old.next + 1
  pub told : good ≡ true → HasTold (limit - body_header) f new t k
  pub looked : good ≡ true → NextHoldsLink f (f block) → IsLooked (limit - body_header) f plain (f block)
  pub bad : good ≡ false → AreAllowed limit f old.roots plain → ⊥

-- all blocks were read, where each is sound, or one is not
pub record HasLookedAtAll {S : Type 0} (N : Ghosts S) (plain : Bool) (old_nodes new_nodes : S) (old new : Pass) (t : Table) (k : Tops) (v : Levels) (good : Bool) : Type 0 where
  pub noted : HasNoted (N.node old_nodes) new t v
  pub read : good ≡ true → HasReadAll N old_nodes new_nodes new
  pub told : good ≡ true → HasTold (N.limit old_nodes - body_header) (N.node old_nodes) new t k
  pub looked : good ≡ true → AreLooked (N.limit old_nodes - body_header) (N.node old_nodes) plain new
  pub bad : good ≡ false → AreAllowed (N.limit old_nodes) (N.node old_nodes) old.roots plain → ⊥

-- all blocks were read, and all is sound but for the depths, or something is not
pub record IsWholeOrNot {S : Type 0} (N : Ghosts S) (roots : List ℕ) (plain : Bool) (old_nodes new_nodes : S) (new : Pass) (t : Table) (v : Levels) (good : Bool) : Type 0 where
  pub noted : HasNoted (N.node old_nodes) new t v
  pub read : good ≡ true → HasReadAll N old_nodes new_nodes new
  pub whole : good ≡ true → AreWhole (N.limit old_nodes) (N.node old_nodes) roots plain
  pub bad : good ≡ false → AreAllowed (N.limit old_nodes) (N.node old_nodes) roots plain → ⊥

-- the depths read nodes of directories alone: those that may name directories at each level, and each once more
abbrev pub ReadsDepths : Blocks → ℕ → List ℕ → set.FinSet nat_cmp → ℕ → ℕ → Type 0
ReadsDepths f blocks roots quiet before after =
    (all : List ℕ) → HasDirectories f blocks roots all → after ≤ before + (16 * length (loud_of quiet all) + length all)
