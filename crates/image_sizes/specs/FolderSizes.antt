-- How many blocks an image has that is made of a folder of the host: those of the anchors, and twice the nodes of the folder and of
-- as many changes of its largest file as versions are kept, or the most there may be.
use Rattle.std.specs.Prelude.{ℕ, ◌+◌, ◌-◌, ◌*◌, ◌/◌, ◌==◌, max, min, List, [], ◌∷◌, length, count_by}
use Rattle.std.specs.Int.{div_ceil}
use Rattle.std.specs.List.{sum_by}
use Rattle.fs_types.specs.declared.limits.TheConstants.{ANCHORS, NODE_ENTRIES}
use Rattle.node_format.specs.Headers.{body_header}
use Rattle.flash_model.specs.Geometry.{block_bytes}
use Rattle.flash_model.specs.declared.geometry.Geometry.{Geometry}
use Rattle.host_interface.specs.Sources.{Found}
use Rattle.host_interface.specs.declared.source.SourceKind.{SourceKind}

-- how many bytes of a file a node has room for; one where the sizes are not lawful
abbrev pub capacity_of : Geometry → ℕ
capacity_of sizes = max 1 (sizes.page * sizes.pages - body_header)

-- the nodes of what stands at a name of the host, before its names
abbrev pub nodes_of : ℕ → SourceKind → ℕ
nodes_of capacity SourceKind.Folder = 1
nodes_of capacity (SourceKind.File bytes) = div_ceil bytes capacity
nodes_of capacity _ = 0

-- the nodes of a file
abbrev pub body_of : ℕ → SourceKind → ℕ
body_of capacity (SourceKind.File bytes) = div_ceil bytes capacity
body_of capacity _ = 0

-- the directories on the way to it: as many as its way has slashes
abbrev pub directories_of : Found → ℕ
directories_of found = count_by (λ byte. byte == 47) found.way

abbrev pub greatest : (Found → ℕ) → List Found → ℕ
greatest f [] = 0
greatest f (found ∷ all) = max (f found) (greatest f all)

-- the nodes that names take more than one for a folder: one for each 32
abbrev pub name_nodes : List Found → ℕ
name_nodes all = length all / NODE_ENTRIES

-- the nodes of the folder
abbrev pub tree_nodes : ℕ → List Found → ℕ
tree_nodes capacity all = sum_by (λ found. nodes_of capacity found.kind) all + name_nodes all

-- the nodes of a change of its largest file: its own, and those of the directories on the longest way
abbrev pub change_nodes : ℕ → List Found → ℕ
change_nodes capacity all = greatest (λ found. body_of capacity found.kind) all + greatest directories_of all + name_nodes all

-- the blocks for the folder and its changes, as much free, and the anchors
abbrev pub blocks_wanted : Geometry → ℕ → List Found → ℕ
blocks_wanted sizes history all = max 16 (ANCHORS + 2 * (tree_nodes (capacity_of sizes) all + change_nodes (capacity_of sizes) all * history))

-- the most blocks that a flash may have: as many as have 67,108,864 bytes together
abbrev pub most_blocks : Geometry → ℕ
most_blocks sizes = 67108864 / max 1 (block_bytes sizes)

-- the blocks: as many as are wanted, and at most the most there may be
abbrev pub blocks_for : Geometry → ℕ → List Found → ℕ
blocks_for sizes history all = min (blocks_wanted sizes history all) (most_blocks sizes)

-- how many changes have room beside the folder on the most blocks there may be, at most as many as versions are kept
abbrev pub changes_with_room : Geometry → ℕ → List Found → ℕ
changes_with_room sizes history all = min history ((most_blocks sizes - (ANCHORS + tree_nodes (capacity_of sizes) all)) / max 1 (change_nodes (capacity_of sizes) all))
