-- What moved between two trees, as it is found.
use Rattle.std.specs.Prelude.{◌≡◌, Bool, true, false, None, List, [], ◌∷◌, ◌++◌, All, Contains, map, if◌then◌else◌}
use Rattle.std.specs.FinMap.{get}
use Rattle.fs_types.specs.Names.{Path}
use Rattle.plain_trees.specs.Contents.{begins}
use Rattle.plain_trees.specs.Trees.{Tree}
use Rattle.inquiries.specs.declared.items.Item.{Item}
use Rattle.tree_differences.specs.UpdateLaws.{IsMoved}
use Rattle.tree_differences.specs.Updates.{goes}
use Rattle.updates.specs.Changes.{paths_in}
use Rattle.copies.specs.Shapes.{shape_at}
use Rattle.copies.specs.declared.pairs.Look.{Look}

-- what stands at a path of a tree has to go, for another tree
abbrev pub goes_at : Tree → Tree → Path → Bool
goes_at t other path = goes (get t path) (get other path)

-- a path is that of the last item, or below it
abbrev pub is_below_last : List Item → Path → Bool
is_below_last [] path = false
is_below_last (item ∷ []) path = begins item.path path
is_below_last (item ∷ next ∷ items) path = is_below_last (next ∷ items) path

-- no item is below the one before it
abbrev pub NoneBelow : List Item → Type 0
NoneBelow [] = Unit {0}
NoneBelow (item ∷ []) = Unit {0}
NoneBelow (item ∷ next ∷ items) = (begins item.path next.path ≡ false) × NoneBelow (next ∷ items)

-- an item more, where it goes and is not below the last one
abbrev pub with_top : Tree → Tree → List Item → Item → List Item
with_top t other tops item = if is_below_last tops item.path then tops else (if goes_at t other item.path then tops ++ item ∷ [] else tops)

-- a path is that of an item, or below it
pub record IsCovered (items : List Item) (path : Path) : Type 0 where
  pub item : Item
  pub among : Contains items item
  pub below : begins item.path path ≡ true

-- of some items those that go, without what is below the one before
pub record AreTops (t other : Tree) (items tops : List Item) : Type 0 where
  pub among : All (Contains items) tops
  pub gone : All (λ top. goes_at t other top.path ≡ true) tops
  pub alone : NoneBelow tops
  pub covers : All (λ item. goes_at t other item.path ≡ true → IsCovered tops item.path) items

-- how what stands at a path looks
abbrev pub look_at : Tree → Item → Look
look_at t item = record { path = item.path; shape = shape_at t item.path }

abbrev pub looks_of : Tree → List Item → List Look
looks_of t items = map (look_at t) items

-- what stands at a path goes, and what stands above it does not
pub record GoesAlone (t other : Tree) (path : Path) : Type 0 where
  pub gone : goes_at t other path ≡ true
  pub alone : (above : Path) → begins above path ≡ true → goes_at t other above ≡ true → above ≡ path

-- moves of what is gone to where something came that looks the same; and one to each place where nothing was and something came that
-- looks as something does that is gone
pub record FindsMoves (old new : Tree) (olds news : List Item) (moves : List (Path × Path)) : Type 0 where
  pub moved : All (λ one. IsMoved old new one.0 one.1) moves
  pub alike : All (λ one. shape_at old one.0 ≡ shape_at new one.1) moves
  pub found : (from to : Path) → Contains (paths_in olds) from → Contains (paths_in news) to → GoesAlone old new from → GoesAlone new old to → shape_at old from ≡ shape_at new to
      → get old to ≡ None → Contains (map (λ one. one.1) moves) to
