-- The rest of a tree of which some nodes are lost.
use Rattle.std.specs.Prelude.{ℕ, zero, suc, ◌==◌, Bool, not, nat_le, Option, Some, None, List, [], ◌∷◌, ◌++◌, length, if◌then◌else◌}
use Rattle.std.specs.Option.{option_map, option_map_or, option_and_then}
use Rattle.fs_types.specs.declared.limits.TheConstants.{MAX_NAMES}
use Rattle.fs_types.specs.Names.{Name, Path}
use Rattle.flash_model.specs.Device.{Device}
use Rattle.plain_trees.specs.Contents.{Contents, Entry}
use Rattle.node_format.specs.Items.{Item, named_place}
use Rattle.node_format.specs.Links.{Link}
use Rattle.node_format.specs.declared.place.Place.{Place}
use Rattle.node_format.specs.declared.place.Place.TheVariants.{Dir, File}
use Rattle.node_store.specs.NodePages.{node_of}
use Rattle.nodes.specs.Bodies.{Blocks, body}
use Rattle.nodes.specs.Chains.{link_of, most_after}
use Rattle.reclaim.specs.Looks.{last_name, may_follow}
use Rattle.working_state.specs.Seen.{capacity_of}
use Rattle.known_nodes.specs.WholeFiles.{is_file}

-- a node, where it may come after one with this last name
abbrev pub following : Name → Link → Option Link
following last next = if may_follow last (Some next) then Some next else None

-- the node after one, where it is lawful there: a node of a chain, with entries, and names that go on
abbrev pub link_after : Blocks → Link → Option Link
link_after f link = option_and_then (following (last_name [] link.items)) (link_of (f link.next))

-- the entries of a node and of those after it, at most so many, as far as they are lawful
unfoldable pub items_from : ℕ → Blocks → Link → List Item
items_from zero f link = link.items
items_from (suc n) f link = link.items ++ option_map_or (items_from n f) (link_after f link) []

-- whether another node comes after the last of those
unfoldable pub is_cut_from : ℕ → Blocks → Link → Bool
is_cut_from zero f link = not (link.next == 0)
is_cut_from (suc n) f link = option_map_or (is_cut_from n f) (link_after f link) (not (link.next == 0))

-- the entries of the directory that begins in a block, as far as its nodes are lawful
abbrev pub items_left : Blocks → ℕ → List Item
items_left f block = option_map_or (items_from most_after f) (link_of (f block)) []

-- what a name leads to there
abbrev pub child_left : Blocks → Place → Name → Option Place
child_left f (Dir block) n = named_place (items_left f block) n
child_left f (File head size) n = None

-- what a path leads to
abbrev pub leads_left : Blocks → Place → Path → Option Place
leads_left f at [] = Some at
leads_left f at (n ∷ p) = option_and_then (λ next. leads_left f next p) (child_left f at n)

-- what stands there by itself: a directory whose first node is lawful, or a file that is a whole linked body
abbrev pub entry_left : ℕ → Blocks → Place → Option Entry
entry_left capacity f (Dir block) = option_map (λ _. Entry.Dir) (link_of (f block))
entry_left capacity f (File head size) = if is_file capacity f head size then Some (Entry.File (body capacity f head size)) else None

-- what is left of the tree of a root: at paths that are not too long
abbrev pub rest_in : ℕ → Blocks → ℕ → Contents
rest_in capacity f root p = if nat_le (length p) MAX_NAMES then option_and_then (entry_left capacity f) (leads_left f (Dir root) p) else None

abbrev pub rest_of : Device → ℕ → Contents
rest_of d root = rest_in (capacity_of d) (node_of d) root
