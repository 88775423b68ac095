-- The entries of a directory that come after a name, node by node.
use Rattle.std.proofs.Common.{◌≡◌, ℕ, ◌+◌, ◌-◌, ◌<◌, ◌≤◌, ◌⊎◌, inl, inr, Bool, true, false, cond, eqb, Option, Some, List, [], ◌∷◌, ◌++◌, length, take, map, refl, sym, ap, subst, ◌∙◌, arith, length-append}
use Rattle.std.specs.Prelude.{filter}
use Rattle.std.proofs.lemmas.Bool.{or_cases, or_parts, leb-true}
use Rattle.std.proofs.lemmas.List.{map-append, length-map, length-take, take_all, take-append-le}
use Rattle.std.proofs.lemmas.List.Concat.{flat_map-append}
use Rattle.std.proofs.lemmas.List.Elements.{filter-append}
use Rattle.fs_types.specs.Names.{Name, is_after}
use Rattle.node_format.specs.Items.{Item}
use Rattle.node_format.specs.declared.place.Place.{Place}
use Rattle.nodes.specs.Bodies.{Blocks}
use Rattle.nodes.specs.Chains.{link_items, next_of, most_after, entries_in, blocks_after, chain}
use Rattle.directory.specs.Places.{placed, places_after, is_read}
use Rattle.directory.specs.Seeking.{entries_along}
use Rattle.directory.proofs.Walks.{IsWalk, append_none, one_along, more_along, walk_begun, walk_on, walk_less, walk_over}
use Rattle.directory.proofs.Directories.{along_chain}

-- the names of so many entries are wanted, after one
module _ (from : Option Name) (most : ℕ) where
  abbrev after : List Item → List Item
  after items = filter (λ item. is_after from item.name) items

  size : (done : List Item) (places : List (Name × Place)) (n : ℕ) → places ≡ places_after from most done → length (after done) ≡ n → (length places < most → n < most) × (most ≤ length places → most ≤ n)
  size done places n is all =
      let here = ap length is ∙ length-map (take most (after done)) placed ∙ length-take most (after done) in
      (λ few. omega (arith, few, here, all), λ many. omega (arith, many, here, all))

  -- as many are there as are wanted
  pub place_full : (done more : List Item) (places : List (Name × Place)) → places ≡ places_after from most done → most ≤ length places → places ≡ places_after from most (done ++ more)
  place_full done more places is many =
      is ∙ ap (map placed) (sym (take-append-le most (after done) (after more) ((size done places (length (after done)) is refl).1 many)) ∙ ap (take most) (sym (filter-append (λ item. is_after from item.name) done more)))

  -- one that does not come after
  pub place_passed : (done : List Item) (item : Item) (places : List (Name × Place)) → places ≡ places_after from most done → is_after from item.name ≡ false → places ≡ places_after from most (done ++ item ∷ [])
  place_passed done item places is before =
      is ∙ ap (λ (items : List Item). map placed (take most items)) (sym (append_none (after done)) ∙ ap (λ (b : Bool). after done ++ cond b (item ∷ []) []) (sym before) ∙ sym (filter-append (λ item. is_after from item.name) done (item ∷ [])))

  -- one that comes after, and is wanted
  pub place_taken : (done : List Item) (item : Item) (places : List (Name × Place)) → places ≡ places_after from most done → is_after from item.name ≡ true → length places < most
      → places ++ placed item ∷ [] ≡ places_after from most (done ++ item ∷ [])
  place_taken done item places is comes few =
      let less = (size done places (length (after done)) is refl).0 few in
      ap (λ (front : List (Name × Place)). front ++ placed item ∷ []) (is ∙ ap (map placed) (take_all most (after done) (omega arith)))
      ∙ sym (map-append placed (after done) (item ∷ []))
      ∙ ap (map placed) (sym (take_all most (after done ++ item ∷ []) (omega (arith, less, length-append (after done) (item ∷ []))))
      ∙ ap (take most) (ap (λ (b : Bool). after done ++ cond b (item ∷ []) []) (sym comes) ∙ sym (filter-append (λ item. is_after from item.name) done (item ∷ []))))

  -- so many nodes of a directory were read, and these entries of theirs are wanted
  abbrev pub HasPlaced : Blocks → ℕ → ℕ → ℕ → ℕ → List (Name × Place) → Type 0
  HasPlaced f block n next read places = (front : List ℕ) × IsWalk f block n next read front × (places ≡ places_after from most (entries_along f front))

  pub placed_begun : (f : Blocks) (block next : ℕ) (none places : List (Name × Place)) → next_of (f block) ≡ next → none ≡ []
      → ((before : List Item) → none ≡ places_after from most before → places ≡ places_after from most (before ++ link_items (f block))) → HasPlaced f block (most_after - 0) next 1 places
  placed_begun f block next none places to empty added =
      (block ∷ [], walk_begun f block next to, added [] (empty ∙ nothing most) ∙ ap (places_after from most) (sym (one_along f block)))
    where
      nothing : (n : ℕ) → [] ≡ map placed (take n [])
      nothing n = ap (map placed) (sym (take_all n [] (omega arith)))

  pub placed_on : (f f2 : Blocks) (block : ℕ) → f2 ≡ f → (counter next next' : ℕ) (places places' : List (Name × Place)) → counter < most_after → HasPlaced f block (most_after - counter) next (counter + 1) places → eqb next 0 ≡ false → next_of (f2 next) ≡ next'
      → ((before : List Item) → places ≡ places_after from most before → places' ≡ places_after from most (before ++ link_items (f2 next))) → HasPlaced f block (most_after - (counter + 1)) next' ((counter + 1) + 1) places'
  placed_on f f2 block same counter next next' places places' less (front, walk, is) some to added = (
    front ++ next ∷ [],
    walk_on f block (most_after - (counter + 1)) next next' (counter + 1) front (walk_less f block counter next (counter + 1) front less walk) some (subst (λ (g : Blocks). next_of (g next) ≡ next') same to),
    added (entries_along f front) is ∙ ap (λ (g : Blocks). places_after from most (entries_along f front ++ link_items (g next))) same ∙ ap (places_after from most) (sym (more_along f front next)),
  )

  -- all that are wanted are there, since no node is left or no more are wanted
  pub placed_all : (f : Blocks) (block n next read : ℕ) (places : List (Name × Place)) → HasPlaced f block n next read places → (is_read next (length places) most ≡ true) ⊎ (n ≡ 0)
      → (items : List Item) → entries_in f block ≡ Some items → places ≡ places_after from most items
  placed_all f block n next read places (front, walk, is) over items e = by over
    where
      whole : chain f block ≡ front → places ≡ places_after from most items
      whole ends = is ∙ ap (λ (bs : List ℕ). places_after from most (entries_along f bs)) (sym ends) ∙ ap (places_after from most) (along_chain f block items e)

      full : most ≤ length places → places ≡ places_after from most items
      full many =
          place_full (entries_along f front) (entries_along f (blocks_after n f next)) places is many
          ∙ ap (places_after from most) (sym (flat_map-append (λ (b : ℕ). link_items (f b)) front (blocks_after n f next)) ∙ ap (entries_along f) (sym walk.listed) ∙ along_chain f block items e)

      by : (is_read next (length places) most ≡ true) ⊎ (n ≡ 0) → places ≡ places_after from most items
      by (inr at_end) = whole (walk_over f block n next read front walk (inr at_end))
      by (inl over) = elim (or_cases (eqb next 0) _ over) [ inl last ↦ whole (walk_over f block n next read front walk (inl last)) | inr many ↦ full (leb-true _ _ many) ]

pub placed_is : (n n' : Name) (p p' : Place) → n ≡ n' → p ≡ p' → (let pair : Name × Place = (n, p) in pair) ≡ (n', p')
placed_is n n' p p' name place = λ i. (name i, place i)

-- a node is left
pub goes_on : (next count most : ℕ) → is_read next count most ≡ false → eqb next 0 ≡ false
goes_on next count most more = (or_parts (eqb next 0) _ more).0
