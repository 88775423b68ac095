-- Looking up a path: what it leads to, or why it is refused (POSIX.1-2017, pathname resolution).
use Rattle.std.specs.Prelude.{◌≡◌, ℕ, ◌+◌, ◌*◌, ◌≤◌, nat_le, Bool, true, false, IsTrue, Option, Some, None, Result, Ok, Err, List, [], ◌∷◌, length}
use Rattle.fs_types.specs.declared.limits.TheConstants.{MAX_ENTRIES, CHAIN_NODES}
use Rattle.fs_types.specs.Names.{Name, Path}
use Rattle.plain_trees.specs.Contents.{Entry, Contents, lookup_refusal}
use Rattle.plain_trees.specs.Trees.{path_need}
use Rattle.fs_types.specs.declared.fault.Fault.{Fault}
use Rattle.fs_types.specs.declared.fault.Fault.TheVariants.{NoEntry, NotDirectory, Damaged}
use Rattle.nodes.specs.Faults.{is_read_fault}
use Rattle.node_format.specs.Items.{Item, named_place}
use Rattle.node_format.specs.declared.place.Place.{Place}
use Rattle.node_format.specs.declared.place.Place.TheVariants.{Dir, File}
use Rattle.nodes.specs.Bodies.{Blocks, body}
use Rattle.nodes.specs.Chains.{chain}
use Rattle.nodes.specs.Trees.{entries_in, leads, tree, root_tree, IsRoot}
use Rattle.directory.specs.Seeking.{chain_items}
pub use Rattle.directory.specs.Seeking.{place_in}
use Rattle.directory.specs.declared.lookups.Found.{Found}
use Rattle.directory.specs.declared.lookups.Found.TheVariants as found

-- the value of a look up that was not refused goes on
infixl 10 ◌>>=◌
abbrev pub ◌>>=◌ : {A B : Type 0} → Result A Fault → (A → Result B Fault) → Result B Fault
(Err fault) >>= f = Err fault
(Ok x) >>= f = f x

-- the directory that a place is, for a component that is not the last
abbrev pub directory_at : Option Place → Result ℕ Fault
directory_at None = Err NoEntry
directory_at (Some (File head size)) = Err NotDirectory
directory_at (Some (Dir block)) = Ok block

-- the directory that a component but the last leads to, or its refusal
abbrev pub below_in : Blocks → Name → ℕ → Result ℕ Fault
below_in f name block = place_in f name block >>= directory_at

-- what a place is to a look up; where there is none, its directory may be full
abbrev pub found_of : Option Place → Bool → Found
found_of None is_full = found.Missing is_full
found_of (Some (File head size)) is_full = found.File head size
found_of (Some (Dir block)) is_full = found.Dir block

-- what the last component leads to in a directory; one with as many entries as it may have is full
abbrev pub found_in : Blocks → Name → ℕ → Result Found Fault
found_in f name block = place_in f name block >>= λ place. Ok (found_of place (nat_le MAX_ENTRIES (length (chain_items f block))))

-- what a path below a directory leads to, or the refusal of its first component that is missing, a file or damaged
abbrev pub look_up : Blocks → ℕ → Path → Result Found Fault
look_up f block [] = Ok (found.Dir block)
look_up f block (name ∷ []) = found_in f name block
look_up f block (name ∷ next ∷ path) = below_in f name block >>= λ below. look_up f below (next ∷ path)

-- how many nodes the directories have that a look up goes through
abbrev pub nodes_on_way : (ℕ → ℕ) → Result ℕ Fault → ℕ
nodes_on_way nodes (Err fault) = 0
nodes_on_way nodes (Ok below) = nodes below

abbrev pub way_nodes : Blocks → ℕ → Path → ℕ
way_nodes f block [] = 0
way_nodes f block (name ∷ path) = length (chain f block) + nodes_on_way (λ below. way_nodes f below path) (below_in f name block)

-- each directory that paths below a root lead to begins in its block, as in a tree
abbrev pub LeadsToDirectories : Blocks → ℕ → Type 0
LeadsToDirectories f root = (path : Path) (block : ℕ) → leads f (Dir root) path ≡ Some (Dir block) → (items : List Item) × (entries_in f block ≡ Some items)

-- what was found, as a place
abbrev pub place_of : Found → Option Place
place_of (found.Missing is_full) = None
place_of (found.File head size) = Some (File head size)
place_of (found.Dir block) = Some (Dir block)

-- what was found, as what stands at the path
abbrev pub found_entry : ℕ → Blocks → Found → Option Entry
found_entry capacity f (found.Missing is_full) = None
found_entry capacity f (found.File head size) = Some (Entry.File (body capacity f head size))
found_entry capacity f (found.Dir block) = Some Entry.Dir

-- what a look up tells of a path in a tree: what stands there, or the refusal of the path
abbrev pub TellsLookup : ℕ → Blocks → Contents → Path → Result Found Fault → Type 0
TellsLookup capacity f t path (Ok found) = (lookup_refusal t path ≡ None) × (t path ≡ found_entry capacity f found)
TellsLookup capacity f t path (Err fault) = lookup_refusal t path ≡ Some fault

-- a look up tells of each path in the tree of a root
abbrev pub FindLaw : Type 0
FindLaw = (capacity : ℕ) (f : Blocks) (root : ℕ) (path : Path) → IsRoot capacity f root → TellsLookup capacity f (tree capacity f root) path (look_up f root path)

-- a name found node by node is the one of the whole directory
abbrev pub SeekLaw : Type 0
SeekLaw = (f : Blocks) (block : ℕ) (name : Name) (items : List Item) → entries_in f block ≡ Some items → (place_in f name block ≡ Ok (named_place items name)) × (chain_items f block ≡ items)

-- a look up of a path goes through at most 32 nodes for each name; in a tree through no more than its directories have for their entries
abbrev pub MostNodesLaw : Type 0
MostNodesLaw = (f : Blocks) (root : ℕ) (path : Path) → way_nodes f root path ≤ CHAIN_NODES * length path

abbrev pub TreeNodesLaw : Type 0
TreeNodesLaw = (capacity : ℕ) (f : Blocks) (root : ℕ) (path : Path) → IsRoot capacity f root → way_nodes f root path ≤ path_need (root_tree capacity f root) (root_tree capacity f root) path

-- the refusals that say what the nodes hold
abbrev pub is_path_fault : Fault → Bool
is_path_fault NoEntry = true
is_path_fault NotDirectory = true
is_path_fault Damaged = true
is_path_fault _ = false

-- what a look up may be refused with: what the nodes hold, or what a read is refused with
abbrev pub is_lookup_fault : Fault → Bool
is_lookup_fault NoEntry = true
is_lookup_fault NotDirectory = true
is_lookup_fault fault = is_read_fault fault

abbrev pub IsLookupFault : Fault → Type 0
IsLookupFault fault = IsTrue (is_lookup_fault fault)
