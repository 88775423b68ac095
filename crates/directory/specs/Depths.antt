-- How many names the paths below a directory have.
use Rattle.std.specs.Prelude.{◌≡◌, ◌⊎◌, ℕ, zero, suc, ◌+◌, ◌<◌, ◌≤◌, ◌-◌, ◌==◌, nat_lt, Bool, true, false, not, ◌&&◌, Some, None, IsSome, List, length, slice_index, Contains, if◌then◌else◌}
use Rattle.std.specs.List.{list_any, filter}
use Rattle.std.specs.FinSet.{FinSet, contains}
use Rattle.std.specs.Ordering.{nat_cmp}
use Rattle.fs_types.specs.Names.{Path}
use Rattle.fs_types.specs.declared.limits.TheConstants.{MAX_NAMES}
use Rattle.node_format.specs.Items.{Item}
use Rattle.node_format.specs.declared.place.Place.{Place}
use Rattle.node_format.specs.declared.place.Place.TheVariants.{Dir, File}
use Rattle.nodes.specs.Bodies.{Blocks}
use Rattle.nodes.specs.Chains.{link_items, next_of}
use Rattle.nodes.specs.Trees.{entries_in, items_in, leads, IsRoot}
use Rattle.nodes.specs.TreeLaws.{IsShallow}

-- some path below a place has more names than these
abbrev pub IsDeeper : Blocks → Place → ℕ → Type 0
IsDeeper f at most = (path : Path) × IsSome (leads f at path) × (most < length path)

-- a place is the directory in this block
abbrev pub is_directory_at : Place → ℕ → Bool
is_directory_at (Dir block) b = block == b
is_directory_at (File head size) b = false

-- an entry is the directory in this block
abbrev pub names_directory : List Item → ℕ → Bool
names_directory items b = list_any (λ item. is_directory_at item.place b) items

-- how many numbers below a bound pass a test
abbrev pub count_below : (ℕ → Bool) → ℕ → ℕ
count_below p zero = 0
count_below p (suc n) = count_below p n + (if p n then 1 else 0)

-- the nodes in these blocks name no directory, and of each the block of the node after it is listed
abbrev pub AreQuiet : Blocks → FinSet nat_cmp → List ℕ → Type 0
AreQuiet f quiet nexts = (b : ℕ) → contains quiet b ≡ true → (b < length nexts) × (next_of (f b) ≡ slice_index nexts b) × ((c : ℕ) → names_directory (link_items (f b)) c ≡ false)

-- a block was seen, and its node was not known
abbrev pub is_loud : FinSet nat_cmp → FinSet nat_cmp → ℕ → Bool
is_loud quiet seen b = contains seen b && not (contains quiet b)

-- the blocks of a list whose nodes are not known
abbrev pub loud_of : FinSet nat_cmp → List ℕ → List ℕ
loud_of quiet list = filter (λ b. not (contains quiet b)) list

-- a block is one to be read: it is none of those that hold no node, and it was not seen
abbrev pub is_left : ℕ → FinSet nat_cmp → ℕ → Bool
is_left blocks seen block = (not (block == 0) && nat_lt block blocks) && not (contains seen block)

-- the node in a block was seen, or there is none
abbrev pub IsSeen : Blocks → FinSet nat_cmp → ℕ → Type 0
IsSeen f seen block = (f block ≡ None) ⊎ (contains seen block ≡ true)

-- the nodes that were seen were read: the directories that they name were found, of so many blocks, and the nodes after them seen
pub record AreFoundBelow (f : Blocks) (blocks : ℕ) (seen found : FinSet nat_cmp) : Type 0 where
  pub on : (b : ℕ) → contains seen b ≡ true → IsSeen f seen (next_of (f b))
  pub named : (parent b : ℕ) → contains seen parent ≡ true → b < blocks → names_directory (link_items (f parent)) b ≡ true → contains found b ≡ true

-- the directory in a block names another, where one begins there
abbrev pub NamesWhole : Blocks → ℕ → ℕ → Type 0
NamesWhole f block b = (items : List Item) → entries_in f block ≡ Some items → names_directory items b ≡ true

-- the blocks that the second set has more are of directories that the directory in a block names, of so many blocks
abbrev pub AreOf : Blocks → ℕ → ℕ → FinSet nat_cmp → FinSet nat_cmp → Type 0
AreOf f blocks block old new = (b : ℕ) → contains new b ≡ true → (contains old b ≡ true) ⊎ ((b < blocks) × NamesWhole f block b)

-- the nodes of the directory in a block were read: the directories that they name were found
pub record IsChainRead (f : Blocks) (blocks block : ℕ) (seen found seen' found' : FinSet nat_cmp) : Type 0 where
  pub below : AreFoundBelow f blocks seen found → AreFoundBelow f blocks seen' found'
  pub here : IsSeen f seen' block
  pub named : AreOf f blocks block found found'

-- those that the second set has more are in a list
abbrev pub AreAmong : List ℕ → FinSet nat_cmp → FinSet nat_cmp → Type 0
AreAmong list old new = (b : ℕ) → contains new b ≡ true → (contains old b ≡ true) ⊎ Contains list b

-- the set has just the blocks of directories that directories of these blocks name, of so many blocks
pub record AreNamedBy (f : Blocks) (blocks : ℕ) (level : ℕ → Bool) (next : FinSet nat_cmp) : Type 0 where
  pub within : (b : ℕ) → contains next b ≡ true → b < blocks
  pub named : (b : ℕ) → contains next b ≡ true → (parent : ℕ) × (level parent ≡ true) × NamesWhole f parent b
  pub all : (parent b : ℕ) → level parent ≡ true → b < blocks → names_directory (items_in f parent) b ≡ true → contains next b ≡ true

-- the set has just the blocks of a list, of so many blocks
pub record HasBlocks (blocks : ℕ) (list : List ℕ) (level : FinSet nat_cmp) : Type 0 where
  pub within : (b : ℕ) → contains level b ≡ true → b < blocks
  pub listed : (b : ℕ) → contains level b ≡ true → Contains list b
  pub all : (b : ℕ) → Contains list b → b < blocks → contains level b ≡ true

-- the list has these roots, each directory that a node of it names, and the node after each of them, of so many blocks
pub record HasDirectories (f : Blocks) (blocks : ℕ) (roots list : List ℕ) : Type 0 where
  pub first : (b : ℕ) → Contains roots b → b < blocks → Contains list b
  pub next : (parent b : ℕ) → Contains list parent → b < blocks → names_directory (link_items (f parent)) b ≡ true → Contains list b
  pub on : (b : ℕ) → Contains list b → 0 < next_of (f b) → next_of (f b) < blocks → Contains list (next_of (f b))

-- what stands at a path of a tree does not get too deep at a path of no more names
abbrev pub AsDeepLaw : Type 0
AsDeepLaw = (room : ℕ) (f : Blocks) (root : ℕ) (old new : Path) (place : Place) → IsRoot room f root → leads f (Dir root) old ≡ Some place → length new ≤ length old → IsShallow f place (MAX_NAMES - length new)

-- nothing stands below a file
abbrev pub FileLaw : Type 0
FileLaw = (f : Blocks) (head size most : ℕ) → IsShallow f (File head size) most
