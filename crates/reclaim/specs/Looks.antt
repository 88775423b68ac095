-- What a look at a block brings.
use Rattle.std.specs.Prelude.{◌≡◌, ◌≢◌, ℕ, ◌*◌, ◌<◌, ◌==◌, ◌&&◌, Bool, true, false, Option, Some, None, List, [], ◌∷◌, length, map, slice_index, if◌then◌else◌}
use Rattle.std.specs.Option.{option_map, option_map_or}
use Rattle.fs_types.specs.declared.limits.TheConstants.{MAX_FILE_BYTES}
use Rattle.fs_types.specs.Names.{Name}
use Rattle.node_format.specs.Items.{Item, is_before}
use Rattle.node_format.specs.Headers.{field}
use Rattle.node_format.specs.Links.{Link}
use Rattle.node_format.specs.declared.place.Place.{Place}
use Rattle.nodes.specs.Bodies.{Blocks, index_of, pointer_of}
use Rattle.nodes.specs.Chains.{link_of, next_of, link_items, is_later}
use Rattle.reclaim.specs.Sound.{HoldsLink, IsHead, IsPlainNode}
use Rattle.reclaim.specs.declared.edge.Edge.{Edge}
use Rattle.reclaim.specs.declared.looks.Parts.{Parts}
use Rattle.node_format.specs.declared.place.Place.TheVariants.{Dir, File}
use Rattle.node_format.specs.declared.headers.TheConstants.{SLOTS}

-- the last name of entries, or the one before them where there are none
abbrev pub last_name : Name → List Item → Name
last_name before [] = before
last_name before (item ∷ items) = last_name item.name items

-- entries, whose names ascend, come after a name
abbrev pub are_after : Name → List Item → Bool
are_after name [] = true
are_after name (item ∷ items) = is_before name item.name

-- what a node of a directory says to the one after it: its last name, none where it has no entry, and the block of that one
abbrev pub edge_of : Link → Name × ℕ
edge_of link = (last_name [] link.items, link.next)

-- none of what holds no node of a directory
abbrev pub edge_at : Option (List ℕ) → Option (Name × ℕ)
edge_at node = option_map edge_of (link_of node)

-- a node comes after another with this last name
abbrev pub may_follow : Name → Option Link → Bool
may_follow name None = false
may_follow name (Some link) = is_later link && are_after name link.items

-- the node after a node of a directory is one of a directory
abbrev pub NextHoldsLink : Blocks → Option (List ℕ) → Type 0
NextHoldsLink f node = (l : Link) → link_of node ≡ Some l → l.next ≢ 0 → HoldsLink f l.next

-- where it is, it comes after that one
abbrev pub IsFollowed : Blocks → Option (List ℕ) → Type 0
IsFollowed f node = (l m : Link) → link_of node ≡ Some l → l.next ≢ 0 → link_of (f l.next) ≡ Some m → may_follow (last_name [] l.items) (Some m) ≡ true

-- whether the node is one of a chain
abbrev pub is_chained : Option (List ℕ) → Bool
is_chained node = option_map_or (λ link. link.chained) (link_of node) false

-- the reads for the node after one
abbrev pub link_reads : ℕ → ℕ
link_reads next = if next == 0 then 0 else 1

-- for the node after one that says this
abbrev pub edge_reads : Option Edge → ℕ
edge_reads edge = option_map_or (λ e. link_reads e.next) edge 0

-- the most reads of a look at a node that was read: of the node after it
abbrev pub look_reads : Option (List ℕ) → ℕ
look_reads node = link_reads (next_of node)

-- the places of the entries of a node
abbrev pub places_of : Option (List ℕ) → List Place
places_of node = map (λ (item : Item). item.place) (link_items node)

-- how many data bytes a body node has, by its first bytes
abbrev pub used_of : Option (List ℕ) → ℕ
used_of None = 0
used_of (Some bytes) = field bytes 8

-- what stands in the slots of a node, and its index
pub record ArePartsOf (node : Option (List ℕ)) (pointers : List ℕ) (index : Option ℕ) : Type 0 where
  pub count : length pointers ≡ SLOTS
  pub pointers_are : (x : ℕ) → x < SLOTS → slice_index pointers x ≡ pointer_of node x
  pub index_is : index ≡ index_of node

-- a place of a file leads to the head of that file
abbrev pub IsSoundFile : ℕ → Blocks → Place → Type 0
IsSoundFile capacity f (Dir block) = Unit {0}
IsSoundFile capacity f (File head size) = IsHead capacity f head size

-- the index of a body node is one that a file can have
abbrev pub IsShort : ℕ → Option ℕ → Type 0
IsShort capacity index = (i : ℕ) → index ≡ Some i → i * capacity < MAX_FILE_BYTES

-- what a look at a node finds where all is well: where no chains are allowed it is none of a chain
pub record IsLooked (capacity : ℕ) (f : Blocks) (plain : Bool) (node : Option (List ℕ)) : Type 0 where
  pub short : IsShort capacity (index_of node)
  pub followed : IsFollowed f node
  pub alone : plain ≡ true → IsPlainNode node

-- these are the parts of a node
pub record Says (node : Option (List ℕ)) (parts : Parts) : Type 0 where
  pub places : parts.places.items ≡ places_of node
  pub named : ArePartsOf node parts.pointers.items parts.index
  pub used : parts.used ≡ used_of node
  pub edge : option_map (λ e. (e.last.items, e.next)) parts.edge ≡ edge_at node
  pub chained : parts.is_chained ≡ is_chained node
