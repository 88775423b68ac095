-- The names and the number of entries of a directory, node by node.
use Rattle.std.proofs.Common.{◌≡◌, ℕ, ◌+◌, ◌-◌, ◌<◌, ◌≤◌, ◌⊎◌, Bool, true, false, eqb, Some, None, List, [], ◌∷◌, ◌++◌, length, refl, sym, ap, subst, ◌∙◌, arith, length-append}
use Rattle.std.proofs.lemmas.List.{map-append}
use Rattle.fs_types.specs.Names.{Name}
use Rattle.node_format.specs.Items.{Item, is_dir_place}
use Rattle.nodes.specs.Bodies.{Blocks}
use Rattle.nodes.specs.Chains.{link_of, link_items, next_of, most_after, entries_in, chain}
use Rattle.nodes.specs.Trees.{names_of}
use Rattle.directory.specs.Seeking.{entries_along}
use Rattle.directory.proofs.Walks.{IsWalk, one_along, more_along, walk_begun, walk_on, walk_less, walk_over, walk_more, walk_here}
use Rattle.directory.proofs.Directories.{along_chain, no_directory}

abbrev pub HasNamed : Blocks → ℕ → ℕ → ℕ → ℕ → List (Name × Bool) → Type 0
HasNamed f block n next read names = (front : List ℕ) × IsWalk f block n next read front × (names ≡ names_of (entries_along f front))

abbrev pub HasCounted : Blocks → ℕ → ℕ → ℕ → ℕ → ℕ → Type 0
HasCounted f block n next read count = (front : List ℕ) × IsWalk f block n next read front × (length (entries_along f front) ≡ count)

-- what holds of the nodes that were read: some fact of their blocks, as the names or how many entries there are
module _ (f f2 : Blocks) (block : ℕ) (same : f2 ≡ f) where
  next_here : (b next : ℕ) → next_of (f2 b) ≡ next → next_of (f b) ≡ next
  next_here b next is = subst (λ (g : Blocks). next_of (g b) ≡ next) same is

  pub named_on : (counter next next' : ℕ) (names names' : List (Name × Bool)) → counter < most_after → HasNamed f block (most_after - counter) next (counter + 1) names → eqb next 0 ≡ false → next_of (f2 next) ≡ next'
      → names' ≡ names ++ names_of (link_items (f2 next)) → HasNamed f block (most_after - (counter + 1)) next' ((counter + 1) + 1) names'
  named_on counter next next' names names' less (front, walk, is) some to more = (
    front ++ next ∷ [],
    walk_on f block (most_after - (counter + 1)) next next' (counter + 1) front (walk_less f block counter next (counter + 1) front less walk) some (next_here next next' to),
    more ∙ ap (λ (g : Blocks). names ++ names_of (link_items (g next))) same ∙ ap (λ (all : List (Name × Bool)). all ++ names_of (link_items (f next))) is
        ∙ sym (map-append (λ item. (item.name, is_dir_place item.place)) (entries_along f front) (link_items (f next))) ∙ ap names_of (sym (more_along f front next)),
  )

  pub counted_on : (counter next next' count more : ℕ) → counter < most_after → HasCounted f block (most_after - counter) next (counter + 1) count → eqb next 0 ≡ false → next_of (f2 next) ≡ next'
      → length (link_items (f2 next)) ≡ more → HasCounted f block (most_after - (counter + 1)) next' ((counter + 1) + 1) (count + more)
  counted_on counter next next' count more less (front, walk, is) some to has =
      let here : length (link_items (f next)) ≡ more = subst (λ (g : Blocks). length (link_items (g next)) ≡ more) same has in (
        front ++ next ∷ [],
        walk_on f block (most_after - (counter + 1)) next next' (counter + 1) front (walk_less f block counter next (counter + 1) front less walk) some (next_here next next' to),
        ap length (more_along f front next) ∙ length-append (entries_along f front) (link_items (f next)) ∙ omega (arith, is, here),
      )

  -- one of its nodes is none of a directory
  pub none_on : (counter next : ℕ) (front : List ℕ) → counter < most_after → IsWalk f block (most_after - counter) next (counter + 1) front → eqb next 0 ≡ false → link_of (f2 next) ≡ None → entries_in f block ≡ None
  none_on counter next front less walk some none =
      no_directory f block next (walk_here f block (most_after - (counter + 1)) next (counter + 1) front (walk_less f block counter next (counter + 1) front less walk) some) (subst (λ (g : Blocks). link_of (g next) ≡ None) same none)

  pub read_on : (counter next : ℕ) (front : List ℕ) → counter < most_after → IsWalk f block (most_after - counter) next (counter + 1) front → eqb next 0 ≡ false → (counter + 1) + 1 ≤ length (chain f block)
  read_on counter next front less walk some = walk_more f block (most_after - (counter + 1)) next (counter + 1) front (walk_less f block counter next (counter + 1) front less walk) some

-- the first node is none of a directory
pub none_first : (f : Blocks) (block : ℕ) → link_of (f block) ≡ None → entries_in f block ≡ None
none_first f block none = no_directory f block block (0, omega arith, refl) none

pub named_begun : (f : Blocks) (block next : ℕ) (none names : List (Name × Bool)) → next_of (f block) ≡ next → none ≡ [] → names ≡ none ++ names_of (link_items (f block)) → HasNamed f block (most_after - 0) next 1 names
named_begun f block next none names to empty is =
    (block ∷ [], walk_begun f block next to, is ∙ ap (λ (front : List (Name × Bool)). front ++ names_of (link_items (f block))) empty ∙ ap names_of (sym (one_along f block)))

pub counted_begun : (f : Blocks) (block next count : ℕ) → next_of (f block) ≡ next → length (link_items (f block)) ≡ count → HasCounted f block (most_after - 0) next 1 count
counted_begun f block next count to has = (block ∷ [], walk_begun f block next to, ap length (one_along f block) ∙ has)

pub named_all : (f : Blocks) (block n next read : ℕ) (names : List (Name × Bool)) → HasNamed f block n next read names → (eqb next 0 ≡ true) ⊎ (n ≡ 0) → (items : List Item) → entries_in f block ≡ Some items → names ≡ names_of items
named_all f block n next read names (front, walk, is) over items e =
    is ∙ ap (λ (bs : List ℕ). names_of (entries_along f bs)) (sym (walk_over f block n next read front walk over)) ∙ ap names_of (along_chain f block items e)

pub counted_all : (f : Blocks) (block n next read count : ℕ) → HasCounted f block n next read count → (eqb next 0 ≡ true) ⊎ (n ≡ 0) → (items : List Item) → entries_in f block ≡ Some items → count ≡ length items
counted_all f block n next read count (front, walk, is) over items e =
    sym is ∙ ap (λ (bs : List ℕ). length (entries_along f bs)) (sym (walk_over f block n next read front walk over)) ∙ ap length (along_chain f block items e)
