-- What stands at a path of directories moved to another.
use Rattle.std.specs.Prelude.{◌≡◌, ℕ, suc, ◌+◌, ◌-◌, ◌<◌, Bool, true, false, Option, Some, None, IsSome, IfSome, List, [], ◌∷◌, length, slice_index, slice_index_or, if◌then◌else◌}
use Rattle.fs_types.specs.Names.{Name, Path, same_name, same_path}
use Rattle.plain_trees.specs.Contents.{Apart, parent_of}
use Rattle.node_format.specs.Items.{Item, are_entries, named_place, is_place}
use Rattle.node_format.specs.Edits.{edited_count}
use Rattle.node_format.specs.declared.place.Place.{Place}
use Rattle.node_format.specs.declared.place.Place.TheVariants.{Dir}
use Rattle.nodes.specs.Bodies.{Blocks}
use Rattle.nodes.specs.Reached.{IsHeld}
use Rattle.nodes.specs.Trees.{child, leads, entries_in}
use Rattle.directory.specs.Lookups.{look_up}
use Rattle.directory.specs.Trails.{IsTrail, IsHeldTrail, TakesName, has_room, takes}

-- how many names two paths begin with in common
abbrev pub common : Path → Path → ℕ
common [] q = 0
common (n ∷ p) [] = 0
common (n ∷ p) (m ∷ q) = if same_name n m then suc (common p q) else 0

-- the directories along two paths, the root first; both go through the root and one for each name in common, which count once
abbrev pub directories_along : Path → Path → ℕ
directories_along old new = length old + length new - (common old new + 1)

-- how many entries there are once one name leads to one place, or to nothing, and then another name to another
abbrev pub edited_twice_count : List Item → Name → Option Place → Name → Option Place → ℕ
edited_twice_count items name gone other here = edited_count (named_place items other) here (edited_count (named_place items name) gone (length items))

-- the new entries are a directory's; one name leads to one place and another to another, or to nothing, and all others lead where they did
pub record IsEditedTwice (old : List Item) (name : Name) (gone : Option Place) (other : Name) (here : Option Place) (new : List Item) : Type 0 where
  pub lawful : are_entries new ≡ true
  pub counted : length new ≡ edited_twice_count old name gone other here
  pub leads : (k : Name) → named_place new k ≡ (if same_name other k then here else if same_name name k then gone else named_place old k)

-- the directory where two paths part, `fork` names down, and what can be done there and below: what stands at the
-- first is taken out, this place is put at the second
pub record IsFork (f : Blocks) (kept : ℕ → Bool) (old : Path) (old_trail : List ℕ) (new : Path) (new_trail : List ℕ) (place : Place) (fork : ℕ) : Type 0 where
  pub old_way : IsHeldTrail f kept old old_trail
  pub new_way : IsHeldTrail f kept new new_trail
  pub in_old : fork < length old
  pub in_new : fork < length new
  pub same : slice_index new_trail fork ≡ slice_index old_trail fork
  pub differs : same_name (slice_index_or old fork []) (slice_index_or new fork []) ≡ false
  pub stands : IsSome (child f (Dir (slice_index old_trail fork)) (slice_index_or old fork []))
  pub gone : fork + 1 < length old → TakesName f old_trail old None
  pub here : 0 < (length old - (fork + 1)) + (length new - (fork + 1)) → TakesName f new_trail new (Some place)

-- the directory that begins in a block takes two edits: one of its names leads to one place, or to nothing, and another
-- name to another place, for which there is room
pub record TakesTwo (f : Blocks) (block : ℕ) (name : Name) (gone : Option Place) (other : Name) (here : Option Place) : Type 0 where
  pub gone_place : IfSome gone (λ p. is_place p ≡ true)
  pub here_place : IfSome here (λ p. is_place p ≡ true)
  pub apart : same_name name other ≡ false
  pub named : IsSome (child f (Dir block) name)
  pub room : IsSome gone → takes (entries_in f block) other here ≡ true

-- what look ups told of a path that is moved below a root to another: neither begins the other, the trails are theirs, the
-- place is what the first leads to, and the second stands, or its parent has room, which a move within one directory does
-- not ask
pub record MayMove (f : Blocks) (kept : ℕ → Bool) (root : ℕ) (old : Path) (old_trail : List ℕ) (new : Path) (new_trail : List ℕ) (place : Place) : Type 0 where
  pub apart : Apart old new
  pub held : IsHeld f kept (Dir root)
  pub old_way : IsTrail f root old old_trail
  pub new_way : IsTrail f root new new_trail
  pub stands : leads f (Dir root) old ≡ Some place
  pub room : same_path (parent_of old) (parent_of new) ≡ false → has_room (look_up f root new) ≡ true
