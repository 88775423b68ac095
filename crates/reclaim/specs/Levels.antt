-- How deep directories stand, as their nodes tell it.
use Rattle.std.specs.Prelude.{◌≡◌, ◌≢◌, ◌⊎◌, ℕ, ◌+◌, ◌<◌, ◌≤◌, max, Bool, true, false, Some, List, [], length, slice_index, Contains}
use Rattle.fs_types.specs.declared.limits.TheConstants.{MAX_NAMES}
use Rattle.node_format.specs.Links.{Link}
use Rattle.nodes.specs.Bodies.{Blocks}
use Rattle.nodes.specs.Chains.{link_of}
use Rattle.reclaim.specs.Passes.{Pass}
use Rattle.reclaim.specs.Tables.{HasSeen, NamesDirectory}
use Rattle.reclaim.specs.declared.levels.Levels.{Levels}

-- the level of a block
abbrev pub level : Levels → ℕ → ℕ
level v b = slice_index v.found b

-- a block of the flash that has no level, or one that is no lower
abbrev pub MayStand : Levels → ℕ → ℕ → Type 0
MayStand v b least = (b < length v.found) × ((level v b ≡ 0) ⊎ (least ≤ level v b))

-- the level on which the node in a block is taken in: its own, or that of a root
abbrev pub own_level : Levels → ℕ → ℕ
own_level v b = max 1 (level v b)

-- the node of a directory goes with the levels: what it names may stand where it should, and on the last level it names nothing
pub record GoesWith (v : Levels) (block next : ℕ) (is_empty : Bool) (directories : List ℕ) : Type 0 where
  pub there : block < length v.found
  pub few : (own_level v block ≤ MAX_NAMES) ⊎ ((own_level v block ≡ MAX_NAMES + 1) × (is_empty ≡ true) × (next ≡ 0) × (directories ≡ []))
  pub after : next ≢ 0 → MayStand v next (own_level v block)
  pub below : (c : ℕ) → Contains directories c → MayStand v c (own_level v block + 1) × (c ≢ block) × (c ≢ next)

-- levels went on from others: each block that has one keeps it
pub record GoesOn (old new : Levels) : Type 0 where
  pub keeps : (b : ℕ) → level old b ≢ 0 → level new b ≡ level old b
  pub held : new.hold ≡ true → old.hold ≡ true

-- a node of a directory stands no lower than the one after it, and above the directories that it names; the last level is for
-- empty directories
pub record Stands (v : Levels) (block next : ℕ) (is_empty : Bool) (directories : List ℕ) : Type 0 where
  pub some : 0 < level v block
  pub few : level v block ≤ MAX_NAMES + 1
  pub full : is_empty ≡ false → level v block ≤ MAX_NAMES
  pub after : next ≢ 0 → level v block ≤ level v next
  pub below : (c : ℕ) → Contains directories c → level v block < level v c

-- so stands the node of a directory in a block
pub record StandsIn (f : Blocks) (v : Levels) (b : ℕ) (l : Link) : Type 0 where
  pub some : 0 < level v b
  pub few : level v b ≤ MAX_NAMES + 1
  pub full : 0 < length l.items → level v b ≤ MAX_NAMES
  pub next : l.next ≢ 0 → level v b ≤ level v l.next
  pub below : (c : ℕ) → NamesDirectory (f b) c → level v b < level v c

-- and each that a pass has read, where the levels hold
abbrev pub AreLeveled : Blocks → Pass → Levels → Type 0
AreLeveled f p v = v.hold ≡ true → (b : ℕ) (l : Link) → HasSeen p b → link_of (f b) ≡ Some l → StandsIn f v b l
