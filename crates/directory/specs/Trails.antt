-- The directories that a path goes through, and what an edit by them asks.
use Rattle.std.specs.Prelude.{◌≡◌, ℕ, ◌<◌, Bool, true, false, not, ◌||◌, nat_le, IsTrue, Option, Some, None, Result, Ok, Err, List, [], length, take, ◌-◌, slice_index, slice_index_or}
use Rattle.std.specs.Option.{is_some}
use Rattle.fs_types.specs.declared.limits.TheConstants.{MAX_ENTRIES}
use Rattle.fs_types.specs.Names.{Name, Path}
use Rattle.fs_types.specs.declared.fault.Fault.{Fault}
use Rattle.fs_types.specs.declared.fault.Fault.TheVariants.{Damaged}
use Rattle.nodes.specs.Faults.{is_read_fault, is_write_fault}
use Rattle.node_format.specs.Items.{Item, named_place}
use Rattle.node_format.specs.declared.place.Place.{Place}
use Rattle.node_format.specs.declared.place.Place.TheVariants.{Dir}
use Rattle.nodes.specs.Bodies.{Blocks}
use Rattle.nodes.specs.Trees.{entries_in, leads}
use Rattle.nodes.specs.Reached.{IsHeld}
use Rattle.directory.specs.declared.lookups.Found.{Found}
use Rattle.directory.specs.declared.lookups.Found.TheVariants as found

-- the blocks of the directories that a path below a root goes through, one for each name: that at i is what the first i
-- names lead to, so the first is the root; each begins a directory
pub record IsTrail (f : Blocks) (root : ℕ) (path : Path) (trail : List ℕ) : Type 0 where
  pub counted : length trail ≡ length path
  pub through : (i : ℕ) → i < length path → leads f (Dir root) (take i path) ≡ Some (Dir (slice_index trail i))
  pub begins : (i : ℕ) → i < length path → (items : List Item) × (entries_in f (slice_index trail i) ≡ Some items)

-- a look up on its way: the blocks of the directories that it went through, one for each of the first names of the path,
-- and the block of the one that these names lead to
pub record IsWay (f : Blocks) (root : ℕ) (path : Path) (trail : List ℕ) (block : ℕ) : Type 0 where
  pub through : (i : ℕ) → i < length trail → leads f (Dir root) (take i path) ≡ Some (Dir (slice_index trail i))
  pub here : leads f (Dir root) (take (length trail) path) ≡ Some (Dir block)

-- a name can be put where a look up found this: it stands there, or is missing from a directory that is not full
abbrev pub has_room : Result Found Fault → Bool
has_room (Ok (found.Missing is_full)) = not is_full
has_room (Ok (found.File head size)) = true
has_room (Ok (found.Dir block)) = true
has_room (Err fault) = false

-- a directory takes an edit of a name: it is one, and where the name is put, it is there, or there are fewer than there may be
abbrev pub takes : Option (List Item) → Name → Option Place → Bool
takes None name place = false
takes (Some items) name None = true
takes (Some items) name (Some place) = is_some (named_place items name) || not (nat_le MAX_ENTRIES (length items))

-- so does the last directory of a trail, with the last name of its path
abbrev pub TakesName : Blocks → List ℕ → Path → Option Place → Type 0
TakesName f trail path place = takes (entries_in f (slice_index trail (length path - 1))) (slice_index_or path (length path - 1) []) place ≡ true

-- the trail of a path below a root of which all is kept
pub record IsHeldTrail (f : Blocks) (kept : ℕ → Bool) (path : Path) (trail : List ℕ) : Type 0 where
  pub root : ℕ
  pub trail_of : IsTrail f root path trail
  pub held : IsHeld f kept (Dir root)

-- what an edit is refused with where a look up decided the rest: the refusals of reads, but that nothing is damaged,
-- and those of writes
abbrev pub is_change_fault : Fault → Bool
is_change_fault Damaged = false
is_change_fault fault = is_read_fault fault || is_write_fault fault

abbrev pub IsChangeFault : Fault → Type 0
IsChangeFault fault = IsTrue (is_change_fault fault)

-- what a look up told of a path that is edited below a root: the path has a name, the trail is its own, and all that the
-- root reaches is kept
pub record IsSought (f : Blocks) (kept : ℕ → Bool) (root : ℕ) (path : Path) (trail : List ℕ) : Type 0 where
  pub below : 0 < length path
  pub held : IsHeld f kept (Dir root)
  pub way : IsTrail f root path trail
