-- How many blocks what stands in a directory reaches, and how many of these do not stand apart.
use Rattle.std.specs.Prelude.{◌≡◌, ◌⊎◌, ◌↔◌, ◌<◌, ◌≤◌, ◌+◌, ◌-◌, ◌^◌, ℕ, zero, suc, Bool, not, Ok, Err, Some, List, [], ◌∷◌, ◌++◌, length, take, map, Contains, slice_index, count_by, sum_by}
use Rattle.std.specs.FinSet as set
use Rattle.std.specs.List.Sorted.{IsNonDecreasingBy, IsPermutation, IsStableByKey}
use Rattle.std.specs.Ordering.{nat_cmp}
use Rattle.fs_types.specs.Names.{Name, Path}
use Rattle.fs_types.specs.declared.fault.Fault.{Fault}
use Rattle.fs_types.specs.declared.fault.Fault.TheVariants.{NoEntry}
use Rattle.fs_types.specs.declared.limits.TheConstants.{MAX_NAMES}
use Rattle.node_format.specs.declared.place.Place.{Place}
use Rattle.node_format.specs.declared.place.Place.TheVariants.{Dir, File}
use Rattle.nodes.specs.Bodies.{Blocks, back, head_index}
use Rattle.nodes.specs.Reached.{Reached, PlaceNames}
use Rattle.nodes.specs.Trees.{items_in, leads}
use Rattle.directory.specs.Lookups.{look_up}
use Rattle.directory.specs.declared.lookups.Found.TheVariants as found
use Rattle.nodes.specs.Faults.{IsLookFault}
use Rattle.nodes.specs.declared.nodes.Nodes.{Ghosts}
use Rattle.reclaim.specs.Passes.{AreDistinct}
use Rattle.block_usage.specs.declared.usage.Usage.{Usage}
use Rattle.block_usage.specs.declared.usage_fault.TheConstants.{MAX_USAGE_BLOCKS}
use Rattle.block_usage.specs.declared.usage_fault.UsageFault.{UsageFault}
use Rattle.block_usage.specs.declared.usage_list.EntryUsage.{EntryUsage}
use Rattle.block_usage.specs.declared.usage_list.UsageList.{UsageList}

-- a directory reaches what its first node does, a file what the last node of its body does; an empty file reaches none
abbrev pub PlaceReaches : Blocks → Place → ℕ → Type 0
PlaceReaches f at b = (first : ℕ) × PlaceNames at first × Reached f (first ∷ []) b

-- all blocks that roots reach, each once
pub record AreAllReached (f : Blocks) (roots blocks : List ℕ) : Type 0 where
  pub distinct : AreDistinct blocks
  pub all : (b : ℕ) → Contains blocks b ↔ Reached f roots b

-- all blocks that a place reaches, each once
pub record AreBlocksOf (f : Blocks) (at : Place) (blocks : List ℕ) : Type 0 where
  pub distinct : AreDistinct blocks
  pub all : (b : ℕ) → Contains blocks b ↔ PlaceReaches f at b

-- how many nodes a body has
abbrev pub chain_length : ℕ → ℕ → ℕ
chain_length capacity zero = 0
chain_length capacity (suc n) = head_index capacity (suc n) + 1

-- the blocks of a body, from its last node to its first one
pub record AreChainBlocks (f : Blocks) (capacity head size : ℕ) (blocks : List ℕ) : Type 0 where
  pub so_many : length blocks ≡ chain_length capacity size
  pub each : (k : ℕ) → k < length blocks → slice_index blocks k ≡ back f head k

-- so many blocks a place reaches, and so many of these do not stand apart
pub record IsUsageOf (f : Blocks) (apart : set.FinSet nat_cmp) (at : Place) (usage : Usage) : Type 0 where
  pub blocks : List ℕ
  pub are : AreBlocksOf f at blocks
  pub many : usage.blocks ≡ length blocks
  pub alone : usage.alone ≡ count_by (λ b. not (set.contains apart b)) blocks

-- the same of the places at these paths, in order
abbrev pub AreUsages : Blocks → set.FinSet nat_cmp → List (Path × Place) → List EntryUsage → Type 0
AreUsages f apart [] [] = Unit {0}
AreUsages f apart (at ∷ places) (entry ∷ found) = (entry.path ≡ at.0) × IsUsageOf f apart at.1 entry.usage × AreUsages f apart places found
AreUsages f apart _ _ = ⊥

-- the entries of the directory at a path, each with its path, or the file that stands there
abbrev pub with_path : Path → Name × Place → Path × Place
with_path path entry = (path ++ entry.0 ∷ [], entry.1)

abbrev pub places_at : Blocks → Path → Place → List (Path × Place)
places_at f path (Dir block) = map (λ item. (path ++ item.name ∷ [], item.place)) (items_in f block)
places_at f path (File head size) = (path, File head size) ∷ []

-- an entry may have a path where its directory has one name less at least than a path may have
abbrev pub HasRoom : Path → List (Name × Place) → Type 0
HasRoom path entries = 0 < length entries → length path < MAX_NAMES

abbrev pub blocks_of : EntryUsage → ℕ
blocks_of entry = entry.usage.blocks

-- what has more blocks comes first
abbrev pub rank : EntryUsage → ℕ
rank entry = 2 ^ 64 - 1 - entry.usage.blocks

-- a list in that order; those with as many blocks are in the order that they had
pub record IsMostFirst (found sorted : List EntryUsage) : Type 0 where
  pub same : IsPermutation found sorted
  pub order : IsNonDecreasingBy rank sorted
  pub stable : IsStableByKey rank nat_cmp found sorted

-- what is told of the place at a path: of each entry, the most blocks first, and of all together
pub record IsListOf (f : Blocks) (apart : set.FinSet nat_cmp) (path : Path) (at : Place) (list : UsageList) : Type 0 where
  pub found : List EntryUsage
  pub are : AreUsages f apart (places_at f path at) found
  pub few : sum_by blocks_of found ≤ MAX_USAGE_BLOCKS
  pub order : IsMostFirst found list.entries.items
  pub total : IsUsageOf f apart at list.total

-- the same of a path below a root
pub record IsListAt (f : Blocks) (root : ℕ) (path : Path) (apart : set.FinSet nat_cmp) (list : UsageList) : Type 0 where
  pub at : Place
  pub led : leads f (Dir root) path ≡ Some at
  pub is : IsListOf f apart path at list

-- a path below a root is refused: a look-up is, or finds nothing
abbrev pub IsPathRefused : Blocks → ℕ → Path → Fault → Type 0
IsPathRefused f root path fault = (look_up f root path ≡ Err fault) ⊎ ((is_full : Bool) × (look_up f root path ≡ Ok (found.Missing is_full)) × (fault ≡ NoEntry))

-- the first of these places reach too many blocks together
pub record ReachMany (f : Blocks) (apart : set.FinSet nat_cmp) (places : List (Path × Place)) : Type 0 where
  pub first : ℕ
  pub found : List EntryUsage
  pub are : AreUsages f apart (take first places) found
  pub many : MAX_USAGE_BLOCKS < sum_by blocks_of found

-- the same of a path below a root
pub record ReachManyAt (f : Blocks) (root : ℕ) (path : Path) (apart : set.FinSet nat_cmp) : Type 0 where
  pub at : Place
  pub led : leads f (Dir root) path ≡ Some at
  pub are : ReachMany f apart (places_at f path at)

module _ {S : Type 0} (N : Ghosts S) where
  -- why it is not told of places: by what the reading met, or since they reach too many blocks
  abbrev pub UsagesCause : List (Path × Place) → set.FinSet nat_cmp → S → S → UsageFault → Type 0
  UsagesCause places apart old new (UsageFault.Refused fault) = IsLookFault fault × N.causes old new fault
  UsagesCause places apart old new UsageFault.TooManyBlocks = ReachMany (N.node old) apart places

  -- the same of a path below a root, which may be refused
  abbrev pub ListCause : ℕ → Path → set.FinSet nat_cmp → S → S → UsageFault → Type 0
  ListCause root path apart old new (UsageFault.Refused fault) = IsPathRefused (N.node old) root path fault ⊎ (IsLookFault fault × N.causes old new fault)
  ListCause root path apart old new UsageFault.TooManyBlocks = ReachManyAt (N.node old) root path apart
