-- One node more looked at for a name.
use Rattle.std.proofs.Common.{◌≡◌, ℕ, zero, suc, ◌-◌, ◌+◌, ◌<◌, inl, Bool, true, false, eqb, Option, Some, None, Result, Ok, Err, List, [], ◌∷◌, ◌++◌, length, ◌≤◌, refl, sym, ap, subst, ◌∙◌, arith, length-append}
use Rattle.std.specs.Option.{option_map_or}
use Rattle.fs_types.specs.Names.{Name}
use Rattle.fs_types.specs.declared.fault.Fault.{Fault}
use Rattle.fs_types.specs.declared.fault.Fault.TheVariants.{Damaged}
use Rattle.node_format.specs.Items.{Item}
use Rattle.node_format.specs.Links.{Link}
use Rattle.node_format.specs.declared.place.Place.{Place}
use Rattle.nodes.specs.Bodies.{Blocks}
use Rattle.nodes.specs.Chains.{link_of, link_items, next_of, is_later, most_after, chain}
use Rattle.directory.specs.Seeking.{here_or, seek, seek_later, seek_first, place_in, entries_along, chain_items, Sees, is_over}
use Rattle.directory.proofs.Walks.{IsWalk, one_along, more_along, walk_begun, walk_on, walk_less, walk_over, walk_most, walk_more}

none_left : (f : Blocks) (name : Name) (n next : ℕ) → eqb next 0 ≡ true → seek n f name next ≡ Ok None
none_left f name zero next none = rw none refl
none_left f name (suc n) next none = rw none refl

over : (f : Blocks) (name : Name) (n next : ℕ) (place : Option Place) → is_over place next ≡ true → here_or place (seek n f name next) ≡ Ok place
over f name n next None is = none_left f name n next is
over f name n next (Some place) is = refl

-- ---- what a look at a node tells

sees_next : (node : Option (List ℕ)) (name : Name) (later : Bool) (place : Option Place) (count next : ℕ) → Sees (link_of node) name later place count next → (next_of node ≡ next) × (length (link_items node) ≡ count)
sees_next node name later place count next sees = on (link_of node) sees
  where
    on : (o : Option Link) → Sees o name later place count next → (option_map_or (λ x. x.next) o 0 ≡ next) × (length (option_map_or (λ x. x.items) o (let none : List Item = [] in none)) ≡ count)
    on None sees = absurd sees
    on (Some l) (later_is, place_is, count_is, next_is) = (sym next_is, sym count_is)

begun : (f : Blocks) (name : Name) (block next count : ℕ) (later : Bool) (place : Option Place) → Sees (link_of (f block)) name later place count next → here_or place (seek most_after f name next) ≡ place_in f name block
begun f name block next count later place sees = on (link_of (f block)) sees
  where
    on : (o : Option Link) → Sees o name later place count next → here_or place (seek most_after f name next) ≡ seek_first (seek most_after f name) name o
    on None sees = absurd sees
    on (Some l) (later_is, place_is, count_is, next_is) = λ i. here_or (place_is i) (seek most_after f name (next_is i))

-- ---- what the node after says

abbrev Says : Blocks → Name → ℕ → ℕ → Option Link → Type 0
Says f name n next o = seek (suc n) f name next ≡ seek_later (seek n f name) name o

says : (f : Blocks) (name : Name) (n next : ℕ) → eqb next 0 ≡ false → Says f name n next (link_of (f next))
says f name n next some = rw some refl

not_over : (place : Option Place) (next : ℕ) (r : Result (Option Place) Fault) → is_over place next ≡ false → (eqb next 0 ≡ false) × (here_or place r ≡ r)
not_over None next r is = (is, refl)
not_over (Some place) next r is = absurd cc

one_more : (f : Blocks) (name : Name) (n next next' count : ℕ) (later : Bool) (place place' : Option Place) → is_over place next ≡ false → Sees (link_of (f next)) name later place' count next' → later ≡ true
    → here_or place (seek (suc n) f name next) ≡ here_or place' (seek n f name next')
one_more f name n next next' count later place place' is sees good =
    let parts = not_over place next (seek (suc n) f name next) is in
    parts.1 ∙ says f name n next parts.0 ∙ on (link_of (f next)) sees
  where
    on : (o : Option Link) → Sees o name later place' count next' → seek_later (seek n f name) name o ≡ here_or place' (seek n f name next')
    on None sees = absurd sees
    on (Some l) (later_is, place_is, count_is, next_is) =
        let yes : is_later l ≡ true = sym later_is ∙ good in
        rw yes (λ i. here_or (sym place_is i) (seek n f name (sym next_is i)))

not_later : (f : Blocks) (name : Name) (n next next' count : ℕ) (later : Bool) (place place' : Option Place) → is_over place next ≡ false → Sees (link_of (f next)) name later place' count next' → later ≡ false
    → here_or place (seek (suc n) f name next) ≡ Err Damaged
not_later f name n next next' count later place place' is sees bad =
    let parts = not_over place next (seek (suc n) f name next) is in
    parts.1 ∙ says f name n next parts.0 ∙ on (link_of (f next)) sees
  where
    on : (o : Option Link) → Sees o name later place' count next' → seek_later (seek n f name) name o ≡ Err Damaged
    on None sees = absurd sees
    on (Some l) (later_is, place_is, count_is, next_is) = let no : is_later l ≡ false = sym later_is ∙ bad in rw no refl

no_link : (f : Blocks) (name : Name) (n next : ℕ) (place : Option Place) → is_over place next ≡ false → link_of (f next) ≡ None → here_or place (seek (suc n) f name next) ≡ Err Damaged
no_link f name n next place is none =
    let parts = not_over place next (seek (suc n) f name next) is in
    parts.1 ∙ says f name n next parts.0 ∙ ap (seek_later (seek n f name) name) none

too_many : (f : Blocks) (name : Name) (next : ℕ) (place : Option Place) → is_over place next ≡ false → here_or place (seek 0 f name next) ≡ Err Damaged
too_many f name next place is =
    let parts = not_over place next (seek 0 f name next) is in
    parts.1 ∙ rw parts.0 refl

-- no first node
pub no_first : (f : Blocks) (name : Name) (block : ℕ) → link_of (f block) ≡ None → place_in f name block ≡ Err Damaged
no_first f name block none = ap (seek_first (seek most_after f name) name) none

-- ---- a search on its way: so many nodes are left at most, from a block on

pub record IsSought (f : Blocks) (name : Name) (block n next read count : ℕ) (place : Option Place) : Type 0 where
  pub found : here_or place (seek n f name next) ≡ place_in f name block
  pub front : List ℕ
  pub walk : IsWalk f block n next read front
  pub counted : length (entries_along f front) ≡ count

module _ (f f2 : Blocks) (name : Name) (block : ℕ) (same : f2 ≡ f) where
  sees_here : (next next' count : ℕ) (later : Bool) (place : Option Place) → Sees (link_of (f2 next)) name later place count next' → Sees (link_of (f next)) name later place count next'
  sees_here next next' count later place sees = subst (λ (g : Blocks). Sees (link_of (g next)) name later place count next') same sees

  one_less : (counter next read count : ℕ) (place : Option Place) → counter < most_after → IsSought f name block (most_after - counter) next read count place → IsSought f name block (suc (most_after - (counter + 1))) next read count place
  one_less counter next read count place less so_far = let k : most_after - counter ≡ suc (most_after - (counter + 1)) = omega arith in subst (λ (n : ℕ). IsSought f name block n next read count place) k so_far

  pub begins : (next count : ℕ) (later : Bool) (place : Option Place) → Sees (link_of (f block)) name later place count next → IsSought f name block (most_after - 0) next 1 count place
  begins next count later place sees =
      let parts = sees_next (f block) name later place count next sees in
      record { found = begun f name block next count later place sees; front = block ∷ []; walk = walk_begun f block next parts.0; counted = ap length (one_along f block) ∙ parts.1 }

  pub ends_found : (n next read count : ℕ) (place : Option Place) → IsSought f name block n next read count place → is_over place next ≡ true → place_in f name block ≡ Ok place
  ends_found n next read count place so_far is = sym so_far.found ∙ over f name n next place is

  pub ends_counted : (n next read count : ℕ) (place : Option Place) → IsSought f name block n next read count place → is_over place next ≡ true → place ≡ None → count ≡ length (chain_items f block)
  ends_counted n next read count place so_far is none =
      sym so_far.counted ∙ ap (λ (bs : List ℕ). length (entries_along f bs)) (sym (walk_over f block n next read so_far.front so_far.walk (inl (sym (ap (λ (p : Option Place). is_over p next) none) ∙ is))))

  pub ends_none : (counter next read count : ℕ) (place : Option Place) → counter < most_after → IsSought f name block (most_after - counter) next read count place → is_over place next ≡ false → link_of (f2 next) ≡ None → place_in f name block ≡ Err Damaged
  ends_none counter next read count place less so_far is none =
      sym (one_less counter next read count place less so_far).found ∙ no_link f name (most_after - (counter + 1)) next place is (subst (λ (g : Blocks). link_of (g next) ≡ None) same none)

  pub ends_alone : (counter next next' read count more : ℕ) (later : Bool) (place place' : Option Place) → counter < most_after → IsSought f name block (most_after - counter) next read count place → is_over place next ≡ false
      → Sees (link_of (f2 next)) name later place' more next' → later ≡ false → place_in f name block ≡ Err Damaged
  ends_alone counter next next' read count more later place place' less so_far is sees bad =
      sym (one_less counter next read count place less so_far).found ∙ not_later f name (most_after - (counter + 1)) next next' more later place place' is (sees_here next next' more later place' sees) bad

  pub ends_long : (n next read count : ℕ) (place : Option Place) → n ≡ 0 → IsSought f name block n next read count place → is_over place next ≡ false → place_in f name block ≡ Err Damaged
  ends_long n next read count place none so_far is = sym (subst (λ (k : ℕ). IsSought f name block k next read count place) none so_far).found ∙ too_many f name next place is

  pub goes_on : (counter next next' read count more : ℕ) (later : Bool) (place place' : Option Place) → counter < most_after → IsSought f name block (most_after - counter) next read count place → is_over place next ≡ false
      → Sees (link_of (f2 next)) name later place' more next' → later ≡ true → IsSought f name block (most_after - (counter + 1)) next' (read + 1) (count + more) place'
  goes_on counter next next' read count more later place place' less so_far is sees good =
      let here = sees_here next next' more later place' sees in
      let before = one_less counter next read count place less so_far in
      let parts = sees_next (f next) name later place' more next' here in
      record {
        found = sym (one_more f name (most_after - (counter + 1)) next next' more later place place' is here good) ∙ before.found;
        front = before.front ++ next ∷ [];
        walk = walk_on f block (most_after - (counter + 1)) next next' read before.front before.walk (not_over place next (Ok None) is).0 parts.0;
        counted = ap length (more_along f before.front next) ∙ length-append (entries_along f before.front) (link_items (f next)) ∙ omega (arith, before.counted, parts.1);
      }

  -- the nodes that were read, and one more
  pub read_most : (n next read count : ℕ) (place : Option Place) → IsSought f name block n next read count place → read ≤ length (chain f block)
  read_most n next read count place so_far = walk_most f block n next read so_far.front so_far.walk

  pub read_more : (counter next read count : ℕ) (place : Option Place) → counter < most_after → IsSought f name block (most_after - counter) next read count place → is_over place next ≡ false → read + 1 ≤ length (chain f block)
  read_more counter next read count place less so_far is =
      walk_more f block (most_after - (counter + 1)) next read so_far.front (walk_less f block counter next read so_far.front less so_far.walk) (not_over place next (Ok None) is).0

pub refused_is : {T : Type 0} (fault : Fault) → (let r : Result T Fault = Err fault in r ≡ Err Damaged) → fault ≡ Damaged
refused_is fault e = cc
