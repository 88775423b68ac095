-- What is told as lost of a tree of which some nodes are lost.
use Rattle.std.specs.Prelude.{◌≡◌, ℕ, zero, suc, ◌+◌, ◌<◌, ◌==◌, Bool, not, List, [], ◌∷◌, ◌++◌, length, sum_by, if◌then◌else◌}
use Rattle.std.specs.Option.{option_map_or}
use Rattle.std.specs.List.{flat_map}
use Rattle.fs_types.specs.declared.fault.Fault.TheVariants.{NoMemory}
use Rattle.fs_types.specs.declared.limits.TheConstants.{MAX_NAMES}
use Rattle.node_format.specs.Items.{Item}
use Rattle.node_format.specs.Links.{Link}
use Rattle.node_format.specs.declared.place.Place.{Place}
use Rattle.node_format.specs.declared.place.Place.TheVariants.{Dir, File}
use Rattle.nodes.specs.Bodies.{Blocks}
use Rattle.nodes.specs.Chains.{link_of, most_after}
use Rattle.known_nodes.specs.Rests.{items_from, is_cut_from}
use Rattle.known_nodes.specs.WholeFiles.{is_file}
use Rattle.salvages.specs.declared.found.Found.{Found}
use Rattle.salvages.specs.declared.found.TheConstants.{ENTRY_COST, MAX_COST}
use Rattle.salvages.specs.declared.found.Way.{Way}
use Rattle.salvages.specs.declared.losses.Loss.{Loss}
use Rattle.salvages.specs.declared.losses.LossFault.{LossFault}
use Rattle.salvages.specs.declared.losses.LossKind.{LossKind}

-- a path is told by the bytes of its names, each after a slash
abbrev pub path_to : List ℕ → Item → List ℕ
path_to path item = path ++ 47 ∷ item.name

abbrev pub loss : LossKind → List ℕ → Loss
loss kind path = record { kind = kind; path = path }

abbrev pub way : List ℕ → ℕ → Way
way path block = record { path = path; block = block }

-- of an entry of the directory at a path: a file that is no whole body is lost
abbrev pub lost_at : ℕ → Blocks → List ℕ → Place → List Loss
lost_at capacity f path (Dir block) = []
lost_at capacity f path (File head size) = if is_file capacity f head size then [] else loss LossKind.File path ∷ []

abbrev pub lost_item : ℕ → Blocks → List ℕ → Item → List Loss
lost_item capacity f path item = lost_at capacity f (path_to path item) item.place

-- and a directory is looked at next
abbrev pub ways_at : List ℕ → Place → List Way
ways_at path (Dir block) = way path block ∷ []
ways_at path (File head size) = []

abbrev pub ways_item : List ℕ → Item → List Way
ways_item path item = ways_at (path_to path item) item.place

-- where entries break off that nobody knows
abbrev pub lost_entries : Bool → List ℕ → List Loss
lost_entries is_cut path = if is_cut then loss LossKind.Entries path ∷ [] else []

-- what is lost right in a directory: itself, or files of it, and the entries after them; of a node and of those after it, at most so many
abbrev pub lost_of_link : ℕ → ℕ → Blocks → List ℕ → Link → List Loss
lost_of_link n capacity f path link = flat_map (lost_item capacity f path) (items_from n f link) ++ lost_entries (is_cut_from n f link) path

abbrev pub lost_in : ℕ → Blocks → Way → List Loss
lost_in capacity f w = option_map_or (lost_of_link most_after capacity f w.path) (link_of (f w.block)) (loss LossKind.Directory w.path ∷ [])

-- the directories in it
abbrev pub ways_of_link : ℕ → Blocks → List ℕ → Link → List Way
ways_of_link n f path link = flat_map (ways_item path) (items_from n f link)

abbrev pub ways_in : Blocks → Way → List Way
ways_in f w = option_map_or (ways_of_link most_after f w.path) (link_of (f w.block)) []

-- of a directory whose path has as many names as a path may have: all entries are lost
abbrev pub lost_under : Blocks → Way → List Loss
lost_under f w = option_map_or (λ link. lost_entries (not (length link.items == 0)) w.path) (link_of (f w.block)) (loss LossKind.Directory w.path ∷ [])

-- what is lost of directories and of all below them, level by level
unfoldable pub lost_from : ℕ → ℕ → Blocks → List Way → List Loss
lost_from zero capacity f ways = flat_map (lost_under f) ways
lost_from (suc levels) capacity f ways = flat_map (lost_in capacity f) ways ++ lost_from levels capacity f (flat_map (ways_in f) ways)

-- what is lost of the tree of a root
abbrev pub lost_of : ℕ → Blocks → ℕ → List Loss
lost_of capacity f root = lost_from MAX_NAMES capacity f (way [] root ∷ [])

-- what that costs: each entry that is looked at so many bytes, and each path that is kept as many as it has
abbrev pub losses_cost : List Loss → ℕ
losses_cost losses = sum_by (λ (l : Loss). length l.path) losses

abbrev pub ways_cost : List Way → ℕ
ways_cost ways = sum_by (λ (w : Way). length w.path) ways

abbrev pub item_cost : ℕ → Blocks → List ℕ → Item → ℕ
item_cost capacity f path item = ENTRY_COST + (losses_cost (lost_item capacity f path item) + ways_cost (ways_item path item))

abbrev pub link_cost : ℕ → ℕ → Blocks → List ℕ → Link → ℕ
link_cost n capacity f path link = sum_by (item_cost capacity f path) (items_from n f link) + losses_cost (lost_entries (is_cut_from n f link) path)

abbrev pub cost_in : ℕ → Blocks → Way → ℕ
cost_in capacity f w = option_map_or (link_cost most_after capacity f w.path) (link_of (f w.block)) (length w.path)

abbrev pub cost_under : Blocks → Way → ℕ
cost_under f w = losses_cost (lost_under f w)

unfoldable pub cost_from : ℕ → ℕ → Blocks → List Way → ℕ
cost_from zero capacity f ways = sum_by (cost_under f) ways
cost_from (suc levels) capacity f ways = sum_by (cost_in capacity f) ways + cost_from levels capacity f (flat_map (ways_in f) ways)

abbrev pub cost_of : ℕ → Blocks → ℕ → ℕ
cost_of capacity f root = cost_from MAX_NAMES capacity f (way [] root ∷ [])

-- some losses and directories more were found, at so much cost
pub record Adds (losses : List Loss) (ways : List Way) (cost : ℕ) (old new : Found) : Type 0 where
  pub losses_are : new.losses.items ≡ old.losses.items ++ losses
  pub ways_are : new.ways.items ≡ old.ways.items ++ ways
  pub cost_is : new.cost ≡ old.cost + cost

-- why not: memory was wanted, or it costs more than it may
abbrev pub Uncounted : ℕ → LossFault → Type 0
Uncounted cost (LossFault.Refused fault) = fault ≡ NoMemory
Uncounted cost LossFault.TooManyLines = MAX_COST < cost
