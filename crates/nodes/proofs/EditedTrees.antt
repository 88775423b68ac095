-- A path written anew: the tree that the new root has, and what it reaches.
use Rattle.std.proofs.Common.{◌≡◌, ℕ, ◌-◌, ◌≤◌, ◌⊎◌, inl, inr, Bool, true, false, cond, Option, Some, None, unwrap_or, List, [], ◌∷◌, ◌++◌, length, refl, sym, ap, subst, ◌∙◌, arith}
use Rattle.std.specs.Option.{option_map, option_and_then}
use Rattle.std.specs.FinMap.{get}
use Rattle.fs_types.specs.Names.{Name, Path, same_name}
use Rattle.plain_trees.specs.Contents as plain
use Rattle.plain_trees.specs.Contents.{Contents, Entry, nothing, leaf, beneath, graft, grafted_at}
use Rattle.plain_trees.specs.Trees.{put}
use Rattle.fs_types.proofs.Orders.{same_name-is, same_name-own}
use Rattle.plain_trees.proofs.Edits.{same_tree}
use Rattle.plain_trees.proofs.Grafts.{graft_law, contents_law}
use Rattle.node_format.specs.Items.{Item, named_place}
use Rattle.node_format.specs.declared.place.Place.{Place}
use Rattle.node_format.specs.declared.place.Place.TheVariants.{Dir}
use Rattle.nodes.specs.Bodies.{Blocks}
use Rattle.nodes.specs.Trees.{entries_in, child, leads, entry_at, tree_at, tree, IsWholePlace, HasTree, IsRoot, root_tree}
use Rattle.nodes.specs.Trees as trees
use Rattle.nodes.specs.Reached.{IsHeld, Keeps, Reached, PlaceNames}
use Rattle.nodes.specs.Rewritten.{IsDirectoryEdit, IsRewritten, IsFreshNode, IsFreshChain}
use Rattle.nodes.specs.TreeLaws.{tree_or_nothing, HasTreeOrNothing, IsHeldOrNothing, AllEdits, MkdirLaw}
use Rattle.nodes.proofs.Entries.{some_place, place_is}
use Rattle.nodes.proofs.Chained.{child_names, reached_chain}
use Rattle.nodes.specs.ChainLaws.{IsReachedFrom}
use Rattle.nodes.proofs.Reaching.{reached_via, reached_from, held_child}
use Rattle.nodes.proofs.Frames.{frame_law, reached_before, tree_same}
use Rattle.nodes.proofs.RootMaps.{map_law}

-- what to show of a choice, by the test
pub by_test : (test : Bool) {P : Type 0} → (test ≡ true → P) → (test ≡ false → P) → P
by_test true is differs = is refl
by_test false is differs = differs refl

-- what an edited directory's names lead to
pub edited_child : (old new : Blocks) (from to : ℕ) (n m : Name) (at : Option Place) → IsDirectoryEdit old new from to n at → child new (Dir to) m ≡ cond (same_name n m) at (child old (Dir from) m)
edited_child old new from to n m at (items, spelled, leads) = ap (λ (found : Option (List Item)). named_place (unwrap_or found []) m) spelled ∙ leads m

pub edited_here : (old new : Blocks) (from to : ℕ) (n : Name) (at : Option Place) → IsDirectoryEdit old new from to n at → child new (Dir to) n ≡ at
edited_here old new from to n at edit =
    edited_child old new from to n n at edit ∙ ap (λ (test : Bool). cond test at (child old (Dir from) n)) (same_name-own n)

-- what an edited directory names, an entry that stayed names, or the new one
abbrev IsNamedBy : Blocks → ℕ → Option Place → ℕ → Type 0
IsNamedBy old from at next = ((name : Name) × (place : Place) × (child old (Dir from) name ≡ Some place) × PlaceNames place next) ⊎ ((place : Place) × (at ≡ Some place) × PlaceNames place next)

edited_leads : (old new : Blocks) (from to : ℕ) (n : Name) (at : Option Place) → IsDirectoryEdit old new from to n at → (name : Name) (place : Place) (next : ℕ) → child new (Dir to) name ≡ Some place → PlaceNames place next → IsNamedBy old from at next
edited_leads old new from to n at edit name place next leads names =
    let is : cond (same_name n name) at (child old (Dir from) name) ≡ Some place = sym (edited_child old new from to n name at edit) ∙ leads in
    by_test (same_name n name)
    (λ same. inr (place, sym (ap (λ (test : Bool). cond test at (child old (Dir from) name)) same) ∙ is, names))
    (λ differs. inl (name, place, sym (ap (λ (test : Bool). cond test at (child old (Dir from) name)) differs) ∙ is, names))

-- what is below a place with a tree has one, of one name less a path
pub child_tree : (capacity : ℕ) (f : Blocks) (depth : ℕ) (at : Place) (name : Name) (place : Place) → child f at name ≡ Some place → HasTree capacity f at depth → HasTree capacity f place (depth - 1)
child_tree capacity f depth at name place is has path there leads =
    let below = has (name ∷ path) there (ap (option_and_then (λ next. trees.leads f next path)) is ∙ leads) in
    (below.0, omega (arith, below.1))

module _ (old new : Blocks) (kept kept' : ℕ → Bool) (keeps : Keeps kept old kept' new) where
  -- ---- what is kept

  edit_held : (from to : ℕ) (n : Name) (at : Option Place) → IsHeld old kept (Dir from) → IsFreshChain old new kept kept' from to → IsDirectoryEdit old new from to n at → IsHeldOrNothing new kept' at → IsHeld new kept' (Dir to)
  edit_held from to n at held here edit below root is b reached =
      subst (λ (r : ℕ). Reached new (r ∷ []) b → kept' b ≡ true) is (λ r. on b (reached_from new to edit.0 b edit.1 r)) reached
    where
      named_held : (b next : ℕ) → IsNamedBy old from at next → Reached new (next ∷ []) b → kept' b ≡ true
      named_held b next (inl (name, place, leads, names)) reached =
          (frame_law old new kept kept' keeps).held place (held_child old kept (Dir from) name place leads held) next names b reached
      named_held b next (inr (place, is, names)) reached = subst (IsHeldOrNothing new kept') is below next names b reached

      on : (b : ℕ) → IsReachedFrom new to b → kept' b ≡ true
      on b (inl inside) = (here b inside).0
      on b (inr (name, place, next, leads, names, reached)) = named_held b next (edited_leads old new from to n at edit name place next leads names) reached

  path_held : (path : Path) (from to : ℕ) (at : Option Place) → IsHeld old kept (Dir from) → IsRewritten old new kept kept' from to path at → IsHeldOrNothing new kept' at → IsHeld new kept' (Dir to)
  path_held [] from to at held r below = absurd r
  path_held (n ∷ []) from to at held (here, edit) below = edit_held from to n at held here edit below
  path_held (n ∷ m ∷ path) from to at held (under, next, leads, here, edit, rest) below =
      edit_held from to n (Some (Dir next)) held here edit (path_held (m ∷ path) under next at (held_child old kept (Dir from) n (Dir under) leads held) rest below)

  -- ---- what is reached

  -- the old root reached it, it is a new node of a chain, or the new entry reaches it
  abbrev IsFrom : ℕ → Option Place → ℕ → Type 0
  IsFrom from at block = Reached old (from ∷ []) block ⊎ IsFreshNode kept new block ⊎ ((root : ℕ) × (place : Place) × (at ≡ Some place) × PlaceNames place root × Reached new (root ∷ []) block)

  edit_reached : (from to : ℕ) (n : Name) (at : Option Place) → IsHeld old kept (Dir from) → IsFreshChain old new kept kept' from to → IsDirectoryEdit old new from to n at → (block : ℕ) → Reached new (to ∷ []) block → IsFrom from at block
  edit_reached from to n at held fresh edit block reached = on (reached_from new to edit.0 block edit.1 reached)
    where
      named_from : (next : ℕ) → IsNamedBy old from at next → Reached new (next ∷ []) block → IsFrom from at block
      named_from next (inl (name, place, leads, names)) reached =
          let below = held_child old kept (Dir from) name place leads held in
          inl (reached_via old (from ∷ []) next (child_names old from name place next leads names) (reached_before old new kept kept' keeps next (below next names) reached))
      named_from next (inr (place, is, names)) reached = inr (inr (next, place, is, names, reached))

      on : IsReachedFrom new to block → IsFrom from at block
      on (inl inside) = elim (fresh block inside).1 [ inl written ↦ inr (inl written) | inr there ↦ inl (reached_chain old from block there) ]
      on (inr (name, place, next, leads, names, reached)) = named_from next (edited_leads old new from to n at edit name place next leads names) reached

  path_reached : (path : Path) (from to : ℕ) (at : Option Place) → IsHeld old kept (Dir from) → IsRewritten old new kept kept' from to path at
      → (block : ℕ) → Reached new (to ∷ []) block → IsFrom from at block
  path_reached [] from to at held r block reached = absurd r
  path_reached (n ∷ []) from to at held (here, edit) block reached = edit_reached from to n at held here edit block reached
  path_reached (n ∷ m ∷ path) from to at held (under, next, leads, here, edit, rest) block reached =
      on (edit_reached from to n (Some (Dir next)) held here edit block reached) (path_reached (m ∷ path) under next at (held_child old kept (Dir from) n (Dir under) leads held) rest block)
    where
      dir_is : (a b : ℕ) → some_place (Dir a) ≡ some_place (Dir b) → a ≡ b
      dir_is a b e = cc

      named_next : (root : ℕ) (place : Place) → some_place (Dir next) ≡ some_place place → PlaceNames place root → next ≡ root
      named_next root place is names = subst (λ (p : Place). PlaceNames p root) (sym (place_is (Dir next) place is)) names

      above : IsFrom under at block → IsFrom from at block
      above (inl reached) = inl (reached_via old (from ∷ []) under (child_names old from n (Dir under) under leads refl) reached)
      above (inr others) = inr others

      on : IsFrom from (Some (Dir next)) block → (Reached new (next ∷ []) block → IsFrom under at block) → IsFrom from at block
      on (inl reached) again = inl reached
      on (inr (inl written)) again = inr (inl written)
      on (inr (inr (root, place, is, names, reached))) again =
          above (again (subst (λ (r : ℕ). Reached new (r ∷ []) block) (sym (named_next root place is names)) reached))

  -- ---- the tree

  -- what stands at a path below a place, if there is one
  abbrev below_place : ℕ → Blocks → Option Place → Path → Option Entry
  below_place capacity f o path = option_map (entry_at capacity f) (option_and_then (λ next. leads f next path) o)

  edit_tree : (capacity depth from to : ℕ) (n : Name) (at : Option Place) → IsHeld old kept (Dir from) → HasTree capacity old (Dir from) depth → IsDirectoryEdit old new from to n at
      → (k : Name) (path : Path) → tree capacity new to (k ∷ path) ≡ cond (same_name n k) (tree_or_nothing capacity new at path) (tree capacity old from (k ∷ path))
  edit_tree capacity depth from to n at held has edit k path =
      ap (λ (o : Option Place). below_place capacity new o path) (edited_child old new from to n k at edit) ∙ on (same_name n k)
    where
      new_place : (o : Option Place) → below_place capacity new o path ≡ tree_or_nothing capacity new o path
      new_place None = refl
      new_place (Some place) = refl

      old_place : (o : Option Place) → child old (Dir from) k ≡ o → below_place capacity new o path ≡ below_place capacity old o path
      old_place None is = refl
      old_place (Some place) is = tree_same old new kept kept' keeps capacity place (held_child old kept (Dir from) k place is held)
          (λ p there leads. (has (k ∷ p) there (ap (option_and_then (λ next. trees.leads old next p)) is ∙ leads)).0) path

      on : (test : Bool) → below_place capacity new (cond test at (child old (Dir from) k)) path ≡ cond test (tree_or_nothing capacity new at path) (tree capacity old from (k ∷ path))
      on true = new_place at
      on false = old_place (child old (Dir from) k) refl

  path_tree : (capacity depth : ℕ) (path : Path) (from to : ℕ) (at : Option Place) → IsHeld old kept (Dir from) → HasTree capacity old (Dir from) depth → IsRewritten old new kept kept' from to path at
      → (q : Path) → tree capacity new to q ≡ graft (tree capacity old from) path (tree_or_nothing capacity new at) q
  path_tree capacity depth [] from to at held has r q = absurd r
  path_tree capacity depth (n ∷ []) from to at held has r [] = refl
  path_tree capacity depth (n ∷ []) from to at held has (here, edit) (k ∷ q) = edit_tree capacity depth from to n at held has edit k q ∙ grafted_one (same_name n k)
    where
      grafted_one : (test : Bool) → cond test (tree_or_nothing capacity new at q) (tree capacity old from (k ∷ q)) ≡ grafted_at (tree capacity old from) (tree_or_nothing capacity new at) (cond test (Some q) None) (k ∷ q)
      grafted_one true = refl
      grafted_one false = refl
  path_tree capacity depth (n ∷ m ∷ path) from to at held has r [] = refl
  path_tree capacity depth (n ∷ m ∷ path) from to at held has (under, next, leads, here, edit, rest) (k ∷ q) =
      edit_tree capacity depth from to n (Some (Dir next)) held has edit k q
      ∙ on (same_name n k) refl (path_tree capacity (depth - 1) (m ∷ path) under next at (held_child old kept (Dir from) n (Dir under) leads held) (child_tree capacity old depth (Dir from) n (Dir under) leads has) rest q)
    where
      one_down : (o : Option Path) → tree capacity old under q ≡ tree capacity old from (k ∷ q) → grafted_at (tree capacity old under) (tree_or_nothing capacity new at) o q ≡ grafted_at (tree capacity old from) (tree_or_nothing capacity new at) o (k ∷ q)
      one_down None e = e
      one_down (Some rest) e = refl

      on : (test : Bool) → same_name n k ≡ test → tree capacity new next q ≡ graft (tree capacity old under) (m ∷ path) (tree_or_nothing capacity new at) q
          → cond test (tree capacity new next q) (tree capacity old from (k ∷ q)) ≡ grafted_at (tree capacity old from) (tree_or_nothing capacity new at) (cond test (beneath (m ∷ path) q) None) (k ∷ q)
      on true same again =
          let leads_k : child old (Dir from) k ≡ Some (Dir under) = ap (child old (Dir from)) (sym (same_name-is n k same)) ∙ leads in
          again ∙ one_down (beneath (m ∷ path) q) (sym (ap (λ (o : Option Place). below_place capacity old o q) leads_k))
      on false differs again = refl

  edit_shape : (capacity depth from to : ℕ) (n : Name) (at : Option Place) → 1 ≤ depth → IsHeld old kept (Dir from) → HasTree capacity old (Dir from) depth → IsDirectoryEdit old new from to n at
      → HasTreeOrNothing capacity new at (depth - 1) → HasTree capacity new (Dir to) depth
  edit_shape capacity depth from to n at deep held has edit below [] there is =
      (subst (IsWholePlace capacity new) (place_is (Dir to) there is) (edit.0, edit.1), omega arith)
  edit_shape capacity depth from to n at deep held has edit below (k ∷ path) there is =
      let found = on (same_name n k) (sym (ap (option_and_then (λ next. trees.leads new next path)) (edited_child old new from to n k at edit)) ∙ is) in
      (found.0, omega (arith, found.1))
    where
      new_place : (o : Option Place) → HasTreeOrNothing capacity new o (depth - 1) → option_and_then (λ next. trees.leads new next path) o ≡ Some there → IsWholePlace capacity new there × (length path ≤ depth - 1)
      new_place None tree is = absurd cc
      new_place (Some next) tree is = tree path there is

      old_place : (o : Option Place) → child old (Dir from) k ≡ o → option_and_then (λ next. trees.leads new next path) o ≡ Some there → IsWholePlace capacity new there × (length path ≤ depth - 1)
      old_place None leads is = absurd cc
      old_place (Some next) leads is =
          (frame_law old new kept kept' keeps).shape capacity (depth - 1) next (held_child old kept (Dir from) k next leads held) (child_tree capacity old depth (Dir from) k next leads has) path there is

      on : (test : Bool) → option_and_then (λ next. trees.leads new next path) (cond test at (child old (Dir from) k)) ≡ Some there → IsWholePlace capacity new there × (length path ≤ depth - 1)
      on true is = new_place at below is
      on false is = old_place (child old (Dir from) k) refl is

  path_shape : (capacity depth : ℕ) (path : Path) (from to : ℕ) (at : Option Place) → IsHeld old kept (Dir from) → HasTree capacity old (Dir from) depth → IsRewritten old new kept kept' from to path at
      → length path ≤ depth → HasTreeOrNothing capacity new at (depth - length path) → HasTree capacity new (Dir to) depth
  path_shape capacity depth [] from to at held has r deep below = absurd r
  path_shape capacity depth (n ∷ []) from to at held has (here, edit) deep below = edit_shape capacity depth from to n at deep held has edit below
  path_shape capacity depth (n ∷ m ∷ path) from to at held has (under, next, leads, here, edit, rest) deep below =
      let left : depth - length (n ∷ m ∷ path) ≡ (depth - 1) - length (m ∷ path) = omega arith in
      edit_shape capacity depth from to n (Some (Dir next)) (omega arith) held has edit
      (path_shape capacity (depth - 1) (m ∷ path) under next at (held_child old kept (Dir from) n (Dir under) leads held) (child_tree capacity old depth (Dir from) n (Dir under) leads has) rest (omega arith)
      (subst (HasTreeOrNothing capacity new at) left below))

pub edit_law : AllEdits
edit_law old new kept kept' from to path at keeps held rewritten = record {
  grafted = λ capacity depth has i q. path_tree old new kept kept' keeps capacity depth path from to at held has rewritten q i;
  shape = λ capacity depth has deep below. path_shape old new kept kept' keeps capacity depth path from to at held has rewritten deep below;
  held = path_held old new kept kept' keeps path from to at held rewritten;
  reached = λ block. path_reached old new kept kept' keeps path from to at held rewritten block;
}

-- ---- a new empty directory

-- nothing stands below a path at which nothing stands
nothing_below : (capacity : ℕ) (f : Blocks) (path : Path) (at : Place) → tree_at capacity f at path ≡ None → (n : Name) (q : Path) → tree_at capacity f at (path ++ n ∷ q) ≡ None
nothing_below capacity f [] at e n q = absurd cc
nothing_below capacity f (k ∷ path) at e n q = on (child f at k) e (nothing_below capacity f path)
  where
    on : (o : Option Place) → option_map (entry_at capacity f) (option_and_then (λ next. leads f next path) o) ≡ None
        → ((next : Place) → tree_at capacity f next path ≡ None → (n : Name) (q : Path) → tree_at capacity f next (path ++ n ∷ q) ≡ None)
        → option_map (entry_at capacity f) (option_and_then (λ next. leads f next (path ++ n ∷ q)) o) ≡ None
    on None e again = refl
    on (Some next) e again = again next e n q

empty_child : (f : Blocks) (block : ℕ) → entries_in f block ≡ Some [] → (n : Name) → child f (Dir block) n ≡ None
empty_child f block is n = ap (λ (found : Option (List Item)). named_place (unwrap_or found []) n) is

empty_tree : (capacity : ℕ) (f : Blocks) (block : ℕ) → entries_in f block ≡ Some [] → (q : Path) → tree capacity f block q ≡ leaf Entry.Dir q
empty_tree capacity f block is [] = refl
empty_tree capacity f block is (n ∷ q) = ap (λ (o : Option Place). option_map (entry_at capacity f) (option_and_then (λ next. leads f next q) o)) (empty_child f block is n)

empty_shape : (capacity : ℕ) (f : Blocks) (block depth : ℕ) → entries_in f block ≡ Some [] → HasTree capacity f (Dir block) depth
empty_shape capacity f block depth is [] there e = (subst (IsWholePlace capacity f) (place_is (Dir block) there e) ([], is), omega arith)
empty_shape capacity f block depth is (n ∷ q) there e =
    let none : None ≡ Some there = sym (ap (option_and_then (λ next. leads f next q)) (empty_child f block is n)) ∙ e in
    absurd cc

-- a new empty directory where nothing stood
pub mkdir_law : MkdirLaw
mkdir_law capacity old new kept kept' from to block path keeps held root free deep is rewritten =
    let law = edit_law old new kept kept' from to path (Some (Dir block)) keeps held rewritten in
    let whole : IsRoot capacity new to = law.shape capacity 16 root deep (empty_shape capacity new block (16 - length path) is) in
    let grafted : tree capacity new to ≡ graft (tree capacity old from) path (leaf Entry.Dir) =
    law.grafted capacity 16 root ∙ ap (graft (tree capacity old from) path) (λ i q. empty_tree capacity new block is q i) in
    let placed : plain.put (tree capacity old from) path Entry.Dir ≡ graft (tree capacity old from) path (leaf Entry.Dir) = graft_law.put (tree capacity old from) path Entry.Dir (nothing_below capacity old path (Dir from) free) in
    let all : get (root_tree capacity new to) ≡ get (put (root_tree capacity old from) path Entry.Dir) =
    (map_law capacity new to whole).same ∙ grafted ∙ sym placed ∙ ap (λ (t : Contents). plain.put t path Entry.Dir) (sym (map_law capacity old from root).same) ∙ sym (contents_law.put (root_tree capacity old from) path Entry.Dir) in
    (whole, same_tree (root_tree capacity new to) (put (root_tree capacity old from) path Entry.Dir) (λ q i. all i q))
