-- What is told as lost is what is missing from the rest of the tree.
use Rattle.std.specs.Prelude.{◌≡◌, ◌⊎◌, ◌↔◌, ℕ, ◌<◌, ◌≤◌, true, false, Some, None, List, ◌∷◌, length, Contains}
use Rattle.std.specs.List.{flat_map}
use Rattle.fs_types.specs.declared.limits.TheConstants.{MAX_NAMES}
use Rattle.fs_types.specs.Names.{Path}
use Rattle.node_format.specs.Links.{Link}
use Rattle.node_format.specs.declared.place.Place.TheVariants.{Dir, File}
use Rattle.nodes.specs.Bodies.{Blocks}
use Rattle.nodes.specs.Chains.{link_of, most_after}
use Rattle.salvages.specs.Losses.{lost_of}
use Rattle.known_nodes.specs.Rests.{leads_left, is_cut_from}
use Rattle.known_nodes.specs.WholeFiles.{is_file}
use Rattle.salvages.specs.declared.losses.Loss.{Loss}
use Rattle.salvages.specs.declared.losses.LossKind.{LossKind}

-- the bytes of a path: each name after a slash
abbrev pub path_bytes : Path → List ℕ
path_bytes p = flat_map (λ name. 47 ∷ name) p

-- a path leads to a file that is no whole body
abbrev pub IsLostFile : ℕ → Blocks → ℕ → Path → Type 0
IsLostFile capacity f root p = (head : ℕ) × (size : ℕ) × (leads_left f (Dir root) p ≡ Some (File head size)) × (is_file capacity f head size ≡ false) × (length p ≤ MAX_NAMES)

-- a path leads to a block where no directory begins
abbrev pub IsLostDirectory : Blocks → ℕ → Path → Type 0
IsLostDirectory f root p = (block : ℕ) × (leads_left f (Dir root) p ≡ Some (Dir block)) × (link_of (f block) ≡ None) × (length p ≤ MAX_NAMES)

-- a path leads to a directory whose nodes break off, or to one with entries whose paths would have too many names
abbrev pub IsCutOff : Blocks → ℕ → Path → Type 0
IsCutOff f root p = (block : ℕ) × (link : Link) × (leads_left f (Dir root) p ≡ Some (Dir block)) × (link_of (f block) ≡ Some link)
    × (((length p < MAX_NAMES) × (is_cut_from most_after f link ≡ true)) ⊎ ((length p ≡ MAX_NAMES) × (0 < length link.items)))

-- what is lost at a path
abbrev pub IsLostAt : ℕ → Blocks → ℕ → LossKind → Path → Type 0
IsLostAt capacity f root LossKind.File p = IsLostFile capacity f root p
IsLostAt capacity f root LossKind.Directory p = IsLostDirectory f root p
IsLostAt capacity f root LossKind.Entries p = IsCutOff f root p

-- exactly that is told
abbrev pub LossLaw : Type 0
LossLaw = (capacity : ℕ) (f : Blocks) (root : ℕ) (l : Loss) → Contains (lost_of capacity f root) l ↔ ((p : Path) × (l.path ≡ path_bytes p) × IsLostAt capacity f root l.kind p)
