-- Two paths written anew: the tree that the new root has, and what it reaches.
use Rattle.std.proofs.Common.{◌≡◌, ℕ, ◌-◌, ◌≤◌, ◌⊎◌, inl, inr, Bool, true, false, cond, Option, Some, None, List, [], ◌∷◌, ◌++◌, length, refl, sym, ap, subst, ◌∙◌, arith, length-append}
use Rattle.std.specs.Prelude.{unwrap_or, Contains}
use Rattle.std.specs.Option.{is_some, option_map, option_and_then}
use Rattle.std.specs.FinMap.{get}
use Rattle.fs_types.specs.Names.{Name, Path, same_name}
use Rattle.plain_trees.specs.Contents as plain
use Rattle.plain_trees.specs.Contents.{Contents, Entry, nothing, under, beneath, graft, grafted_at}
use Rattle.plain_trees.specs.Trees.{move}
use Rattle.fs_types.proofs.Orders.{same_name-is}
use Rattle.plain_trees.proofs.Beneath.{None≢Some}
use Rattle.plain_trees.proofs.Edits.{same_tree}
use Rattle.plain_trees.proofs.Grafts.{graft_law, contents_law}
use Rattle.node_format.specs.Items.{Item, named_place}
use Rattle.node_format.specs.declared.place.Place.{Place}
use Rattle.node_format.specs.declared.place.Place.TheVariants.{Dir, File}
use Rattle.nodes.specs.Bodies.{Blocks}
use Rattle.nodes.specs.Trees.{entries_in, child, leads, entry_at, tree_at, tree, IsWholePlace, HasTree, IsRoot, root_tree}
use Rattle.nodes.specs.Trees as trees
use Rattle.nodes.specs.Reached.{IsHeld, Keeps, Reached, PlaceNames}
use Rattle.nodes.specs.Rewritten.{IsDirectoryEdit, IsSecondEdit, IsBranch, IsMoved, IsFreshNode, IsFreshChain}
use Rattle.nodes.specs.TreeLaws.{tree_or_nothing, HasTreeOrNothing, IsHeldOrNothing, IsShallow, AllMoves, BlockRenameLaw}
use Rattle.nodes.proofs.Entries.{some_place, place_is}
use Rattle.nodes.specs.Chains.{chain}
use Rattle.nodes.proofs.Chained.{child_names, reached_chain}
use Rattle.nodes.specs.ChainLaws.{IsReachedFrom}
use Rattle.nodes.proofs.Reaching.{reached_via, reached_from, held_child, held_leads}
use Rattle.nodes.proofs.Frames.{frame_law, reached_before, leads_same, tree_same}
use Rattle.nodes.proofs.RootMaps.{map_law, leads-append}
use Rattle.nodes.proofs.EditedTrees.{by_test, edited_child, child_tree, edit_law}

-- ---- a directory of which each name leads to what it led to, or to something new

-- what a name of a directory written twice leads to
second_child : (old new : Blocks) (from to : ℕ) (n m k : Name) (at at' : Option Place) → IsSecondEdit old new from to n at m at' → child new (Dir to) k ≡ cond (same_name m k) at' (cond (same_name n k) at (child old (Dir from) k))
second_child old new from to n m k at at' (items, spelled, leads) = ap (λ (found : Option (List Item)). named_place (unwrap_or found []) k) spelled ∙ leads k

-- ---- grafts by one name

graft_down : (t s : Contents) (n k : Name) (p y : Path) → same_name n k ≡ true → graft (λ r. t (n ∷ r)) p s y ≡ graft t (n ∷ p) s (k ∷ y)
graft_down t s n k p y same = on (beneath p y) ∙ sym (ap (λ (test : Bool). grafted_at t s (cond test (beneath p y) None) (k ∷ y)) same)
  where
    on : (o : Option Path) → grafted_at (λ r. t (n ∷ r)) s o y ≡ grafted_at t s o (k ∷ y)
    on None = ap (λ (name : Name). t (name ∷ y)) (same_name-is n k same)
    on (Some r) = refl

graft_aside : (t s : Contents) (n k : Name) (p y : Path) → same_name n k ≡ false → graft t (n ∷ p) s (k ∷ y) ≡ t (k ∷ y)
graft_aside t s n k p y differs = ap (λ (test : Bool). grafted_at t s (cond test (beneath p y) None) (k ∷ y)) differs

module _ (old new : Blocks) (kept kept' : ℕ → Bool) (keeps : Keeps kept old kept' new) where
  -- what a name leads to is what it led to, or has a property
  abbrev OldOr : ℕ → ℕ → (Place → Type 0) → Type 0
  OldOr from to P = (k : Name) (place : Place) → child new (Dir to) k ≡ Some place → (child old (Dir from) k ≡ Some place) ⊎ P place

  -- all that a place reaches has a property
  abbrev AllReached : (ℕ → Type 0) → Place → Type 0
  AllReached P place = (root : ℕ) → PlaceNames place root → (b : ℕ) → Reached new (root ∷ []) b → P b

  level_reached : (P : ℕ → Type 0) (from to : ℕ) (items : List Item) → IsHeld old kept (Dir from) → entries_in new to ≡ Some items → ((b : ℕ) → Contains (chain new to) b → P b) → ((b : ℕ) → Reached old (from ∷ []) b → P b)
      → OldOr from to (AllReached P) → (b : ℕ) → Reached new (to ∷ []) b → P b
  level_reached P from to items held spelled here before each b reached = on (reached_from new to items b spelled reached)
    where
      below : (next : ℕ) (k : Name) (place : Place) → (child old (Dir from) k ≡ Some place) ⊎ AllReached P place → PlaceNames place next → Reached new (next ∷ []) b → P b
      below next k place (inl leads) names reached =
          let held_next = held_child old kept (Dir from) k place leads held in
          before b (reached_via old (from ∷ []) next (child_names old from k place next leads names) (reached_before old new kept kept' keeps next (held_next next names) reached))
      below next k place (inr all) names reached = all next names b reached

      on : IsReachedFrom new to b → P b
      on (inl inside) = here b inside
      on (inr (name, place, next, leads, names, reached)) = below next name place (each name place leads) names reached

  -- the nodes of a new directory were not kept, or the old one reached them
  fresh_has : (P : ℕ → Type 0) (from to : ℕ) → IsFreshChain old new kept kept' from to → ((b : ℕ) → Reached old (from ∷ []) b → P b) → ((b : ℕ) → IsFreshNode kept new b → P b) → (b : ℕ) → Contains (chain new to) b → P b
  fresh_has P from to fresh before free b inside = elim (fresh b inside).1 [ inl written ↦ free b written | inr there ↦ before b (reached_chain old from b there) ]

  level_shape : (capacity depth from to : ℕ) (items : List Item) → 1 ≤ depth → IsHeld old kept (Dir from) → HasTree capacity old (Dir from) depth → entries_in new to ≡ Some items
      → OldOr from to (λ place. HasTree capacity new place (depth - 1)) → HasTree capacity new (Dir to) depth
  level_shape capacity depth from to items deep held has spelled each [] there is = (subst (IsWholePlace capacity new) (place_is (Dir to) there is) (items, spelled), omega arith)
  level_shape capacity depth from to items deep held has spelled each (k ∷ path) there is = on (child new (Dir to) k) refl is
    where
      below : (place : Place) → (child old (Dir from) k ≡ Some place) ⊎ HasTree capacity new place (depth - 1) → HasTree capacity new place (depth - 1)
      below place (inl leads) = (frame_law old new kept kept' keeps).shape capacity (depth - 1) place (held_child old kept (Dir from) k place leads held) (child_tree capacity old depth (Dir from) k place leads has)
      below place (inr tree) = tree

      on : (o : Option Place) → child new (Dir to) k ≡ o → option_and_then (λ next. trees.leads new next path) o ≡ Some there → IsWholePlace capacity new there × (length (k ∷ path) ≤ depth)
      on None leads is = absurd cc
      on (Some place) leads is = let found = below place (each k place leads) path there is in (found.0, omega (arith, found.1))

  -- what stands at a path below a place, if there is one
  abbrev below_place : ℕ → Blocks → Option Place → Path → Option Entry
  below_place capacity f o path = option_map (entry_at capacity f) (option_and_then (λ next. leads f next path) o)

  new_tree : (capacity to : ℕ) (k : Name) (path : Path) (at : Option Place) → child new (Dir to) k ≡ at → tree capacity new to (k ∷ path) ≡ tree_or_nothing capacity new at path
  new_tree capacity to k path at is = ap (λ (o : Option Place). below_place capacity new o path) is ∙ on at
    where
      on : (o : Option Place) → below_place capacity new o path ≡ tree_or_nothing capacity new o path
      on None = refl
      on (Some place) = refl

  old_tree : (capacity depth from to : ℕ) (k : Name) (path : Path) → IsHeld old kept (Dir from) → HasTree capacity old (Dir from) depth → child new (Dir to) k ≡ child old (Dir from) k
      → tree capacity new to (k ∷ path) ≡ tree capacity old from (k ∷ path)
  old_tree capacity depth from to k path held has is = ap (λ (o : Option Place). below_place capacity new o path) is ∙ on (child old (Dir from) k) refl
    where
      on : (o : Option Place) → child old (Dir from) k ≡ o → below_place capacity new o path ≡ below_place capacity old o path
      on None leads = refl
      on (Some place) leads = tree_same old new kept kept' keeps capacity place (held_child old kept (Dir from) k place leads held)
          (λ p there is. (has (k ∷ p) there (ap (option_and_then (λ next. trees.leads old next p)) leads ∙ is)).0) path

  -- ---- a branch

  dir_named : (next root : ℕ) (place : Place) → some_place (Dir next) ≡ some_place place → PlaceNames place root → next ≡ root
  dir_named next root place is names = subst (λ (p : Place). PlaceNames p root) (sym (place_is (Dir next) place is)) names

  branch_held : (from : ℕ) (n : Name) (p : Path) (at now : Option Place) → IsHeld old kept (Dir from) → IsBranch old new kept kept' from n p at now → IsHeldOrNothing new kept' at → IsHeldOrNothing new kept' now
  branch_held from n [] at now held is below = subst (IsHeldOrNothing new kept') (sym is) below
  branch_held from n (m ∷ p) at now held (low, next, goes, is, rewritten) below =
      subst (IsHeldOrNothing new kept') (sym is) ((edit_law old new kept kept' low next (m ∷ p) at keeps (held_child old kept (Dir from) n (Dir low) goes held) rewritten).held below)

  branch_reached : (P : ℕ → Type 0) (from : ℕ) (n : Name) (p : Path) (at now : Option Place) → IsHeld old kept (Dir from) → ((b : ℕ) → Reached old (from ∷ []) b → P b) → ((b : ℕ) → IsFreshNode kept new b → P b)
      → ((place : Place) → at ≡ Some place → AllReached P place) → IsBranch old new kept kept' from n p at now → (place : Place) → now ≡ Some place → AllReached P place
  branch_reached P from n [] at now held before free below is place is_now = below place (sym is ∙ is_now)
  branch_reached P from n (m ∷ p) at now held before free below (low, next, goes, is, rewritten) place is_now = λ root names b reached.
      on b ((edit_law old new kept kept' low next (m ∷ p) at keeps (held_child old kept (Dir from) n (Dir low) goes held) rewritten).reached b (subst (λ (r : ℕ). Reached new (r ∷ []) b) (sym (dir_named next root place (sym is ∙ is_now) names)) reached))
    where
      on : (b : ℕ) → Reached old (low ∷ []) b ⊎ IsFreshNode kept new b ⊎ ((root : ℕ) × (place : Place) × (at ≡ Some place) × PlaceNames place root × Reached new (root ∷ []) b) → P b
      on b (inl reached) = before b (reached_via old (from ∷ []) low (child_names old from n (Dir low) low goes refl) reached)
      on b (inr (inl written)) = free b written
      on b (inr (inr (root, place, is, names, reached))) = below place is root names b reached

  branch_shape : (capacity depth from : ℕ) (n : Name) (p : Path) (at now : Option Place) → IsHeld old kept (Dir from) → HasTree capacity old (Dir from) depth → length (n ∷ p) ≤ depth
      → IsBranch old new kept kept' from n p at now → HasTreeOrNothing capacity new at (depth - length (n ∷ p)) → HasTreeOrNothing capacity new now (depth - 1)
  branch_shape capacity depth from n [] at now held has deep is below = subst (λ (o : Option Place). HasTreeOrNothing capacity new o (depth - 1)) (sym is) below
  branch_shape capacity depth from n (m ∷ p) at now held has deep (low, next, goes, is, rewritten) below =
      let left : depth - length (n ∷ m ∷ p) ≡ (depth - 1) - length (m ∷ p) = omega arith in
      let law = edit_law old new kept kept' low next (m ∷ p) at keeps (held_child old kept (Dir from) n (Dir low) goes held) rewritten in
      subst (λ (o : Option Place). HasTreeOrNothing capacity new o (depth - 1)) (sym is)
      (law.shape capacity (depth - 1) (child_tree capacity old depth (Dir from) n (Dir low) goes has) (omega arith) (subst (HasTreeOrNothing capacity new at) left below))

  branch_tree : (capacity depth from : ℕ) (n : Name) (p : Path) (at now : Option Place) → IsHeld old kept (Dir from) → HasTree capacity old (Dir from) depth → IsBranch old new kept kept' from n p at now
      → (q : Path) → tree_or_nothing capacity new now q ≡ graft (λ r. tree capacity old from (n ∷ r)) p (tree_or_nothing capacity new at) q
  branch_tree capacity depth from n [] at now held has is q = ap (λ (o : Option Place). tree_or_nothing capacity new o q) is
  branch_tree capacity depth from n (m ∷ p) at now held has (low, next, goes, is, rewritten) q =
      let law = edit_law old new kept kept' low next (m ∷ p) at keeps (held_child old kept (Dir from) n (Dir low) goes held) rewritten in
      let grafted = law.grafted capacity (depth - 1) (child_tree capacity old depth (Dir from) n (Dir low) goes has) in
      let lower : tree capacity old low ≡ (λ r. tree capacity old from (n ∷ r)) = λ i r. below_place capacity old (sym goes i) r in
      ap (λ (o : Option Place). tree_or_nothing capacity new o q) is
      ∙ ap (λ (t : Contents). t q) grafted
      ∙ ap (λ (t : Contents). graft t (m ∷ p) (tree_or_nothing capacity new at) q) lower

  -- ---- a directory with one name changed, and with two

  edit_split : (Q : Place → Type 0) (from to : ℕ) (n : Name) (at : Option Place) → IsDirectoryEdit old new from to n at → ((place : Place) → at ≡ Some place → Q place) → OldOr from to Q
  edit_split Q from to n at edit one k place is =
      let led : cond (same_name n k) at (child old (Dir from) k) ≡ Some place = sym (edited_child old new from to n k at edit) ∙ is in
      by_test (same_name n k)
      (λ same. inr (one place (sym (ap (λ (test : Bool). cond test at (child old (Dir from) k)) same) ∙ led)))
      (λ differs. inl (sym (ap (λ (test : Bool). cond test at (child old (Dir from) k)) differs) ∙ led))

  second_split : (Q : Place → Type 0) (from to : ℕ) (n m : Name) (at at' : Option Place) → IsSecondEdit old new from to n at m at' → ((place : Place) → at ≡ Some place → Q place) → ((place : Place) → at' ≡ Some place → Q place) → OldOr from to Q
  second_split Q from to n m at at' edit one two k place is =
      let led : cond (same_name m k) at' (cond (same_name n k) at (child old (Dir from) k)) ≡ Some place = sym (second_child old new from to n m k at at' edit) ∙ is in
      by_test (same_name m k)
      (λ same. inr (two place (sym (ap (λ (test : Bool). cond test at' (cond (same_name n k) at (child old (Dir from) k))) same) ∙ led)))
      (λ differs.
      let led' : cond (same_name n k) at (child old (Dir from) k) ≡ Some place = sym (ap (λ (test : Bool). cond test at' (cond (same_name n k) at (child old (Dir from) k))) differs) ∙ led in
      by_test (same_name n k)
      (λ same. inr (one place (sym (ap (λ (test : Bool). cond test at (child old (Dir from) k)) same) ∙ led')))
      (λ other. inl (sym (ap (λ (test : Bool). cond test at (child old (Dir from) k)) other) ∙ led')))

  held_of : (now : Option Place) → IsHeldOrNothing new kept' now → (place : Place) → now ≡ Some place → IsHeld new kept' place
  held_of None held place is = absurd cc
  held_of (Some now) held place is = subst (IsHeld new kept') (place_is now place is) held

  tree_of : (capacity depth : ℕ) (now : Option Place) → HasTreeOrNothing capacity new now depth → (place : Place) → now ≡ Some place → HasTree capacity new place depth
  tree_of capacity depth None has place is = absurd cc
  tree_of capacity depth (Some now) has place is = subst (λ (p : Place). HasTree capacity new p depth) (place_is now place is) has

  -- ---- two paths

  moved_held : (p q : Path) (from to : ℕ) (place : Place) → IsHeld old kept (Dir from) → IsMoved old new kept kept' from to p q place → IsHeld new kept' place → IsHeld new kept' (Dir to)
  moved_held [] q from to place held r below root is = absurd r
  moved_held (n ∷ p) [] from to place held r below root is = absurd r
  moved_held (n ∷ p) (m ∷ q) from to place held (fresh, inl (same, low, next, goes, edit, rest)) below root is =
      subst (λ (r : ℕ). (b : ℕ) → Reached new (r ∷ []) b → kept' b ≡ true) is
      (level_reached (λ b. kept' b ≡ true) from to edit.0 held edit.1 (λ b inside. (fresh b inside).0) (λ b reached. keeps.stays b (held from refl b reached))
      (edit_split (IsHeld new kept') from to n (Some (Dir next)) edit
      (λ at is_at. subst (IsHeld new kept') (place_is (Dir next) at is_at) (moved_held p q low next place (held_child old kept (Dir from) n (Dir low) goes held) rest below))))
  moved_held (n ∷ p) (m ∷ q) from to place held (fresh, inr (differs, gone, came, edit, old_branch, new_branch)) below root is =
      subst (λ (r : ℕ). (b : ℕ) → Reached new (r ∷ []) b → kept' b ≡ true) is
      (level_reached (λ b. kept' b ≡ true) from to edit.0 held edit.1 (λ b inside. (fresh b inside).0) (λ b reached. keeps.stays b (held from refl b reached))
      (second_split (IsHeld new kept') from to n m gone came edit
      (held_of gone (branch_held from n p None gone held old_branch tt))
      (held_of came (branch_held from m q (Some place) came held new_branch below))))

  moved_reached : (P : ℕ → Type 0) (p q : Path) (from to : ℕ) (place : Place) → IsHeld old kept (Dir from) → ((b : ℕ) → Reached old (from ∷ []) b → P b) → ((b : ℕ) → IsFreshNode kept new b → P b)
      → IsMoved old new kept kept' from to p q place → AllReached P place → (b : ℕ) → Reached new (to ∷ []) b → P b
  moved_reached P [] q from to place held before free r below = absurd r
  moved_reached P (n ∷ p) [] from to place held before free r below = absurd r
  moved_reached P (n ∷ p) (m ∷ q) from to place held before free (fresh, inl (same, low, next, goes, edit, rest)) below =
      level_reached P from to edit.0 held edit.1 (fresh_has P from to fresh before free) before
      (edit_split (AllReached P) from to n (Some (Dir next)) edit
      (λ at is_at. subst (AllReached P) (place_is (Dir next) at is_at)
      (λ root names. subst (λ (r : ℕ). (b : ℕ) → Reached new (r ∷ []) b → P b) names
      (moved_reached P p q low next place (held_child old kept (Dir from) n (Dir low) goes held)
      (λ b reached. before b (reached_via old (from ∷ []) low (child_names old from n (Dir low) low goes refl) reached)) free rest below))))
  moved_reached P (n ∷ p) (m ∷ q) from to place held before free (fresh, inr (differs, gone, came, edit, old_branch, new_branch)) below =
      level_reached P from to edit.0 held edit.1 (fresh_has P from to fresh before free) before
      (second_split (AllReached P) from to n m gone came edit
      (branch_reached P from n p None gone held before free (λ at is. absurd (None≢Some is)) old_branch)
      (branch_reached P from m q (Some place) came held before free (λ at is. subst (AllReached P) (place_is place at is) below) new_branch))

  moved_shape : (capacity depth : ℕ) (p q : Path) (from to : ℕ) (place : Place) → IsHeld old kept (Dir from) → HasTree capacity old (Dir from) depth → length p ≤ depth → length q ≤ depth
      → IsMoved old new kept kept' from to p q place → HasTree capacity new place (depth - length q) → HasTree capacity new (Dir to) depth
  moved_shape capacity depth [] q from to place held has deep deep' r below = absurd r
  moved_shape capacity depth (n ∷ p) [] from to place held has deep deep' r below = absurd r
  moved_shape capacity depth (n ∷ p) (m ∷ q) from to place held has deep deep' (fresh, inl (same, low, next, goes, edit, rest)) below =
      let left : depth - length (m ∷ q) ≡ (depth - 1) - length q = omega arith in
      level_shape capacity depth from to edit.0 (omega arith) held has edit.1
      (edit_split (λ at. HasTree capacity new at (depth - 1)) from to n (Some (Dir next)) edit
      (λ at is_at. subst (λ (x : Place). HasTree capacity new x (depth - 1)) (place_is (Dir next) at is_at)
      (moved_shape capacity (depth - 1) p q low next place (held_child old kept (Dir from) n (Dir low) goes held) (child_tree capacity old depth (Dir from) n (Dir low) goes has) (omega arith) (omega arith) rest
      (subst (HasTree capacity new place) left below))))
  moved_shape capacity depth (n ∷ p) (m ∷ q) from to place held has deep deep' (fresh, inr (differs, gone, came, edit, old_branch, new_branch)) below =
      level_shape capacity depth from to edit.0 (omega arith) held has edit.1
      (second_split (λ at. HasTree capacity new at (depth - 1)) from to n m gone came edit
      (tree_of capacity (depth - 1) gone (branch_shape capacity depth from n p None gone held has deep old_branch tt))
      (tree_of capacity (depth - 1) came (branch_shape capacity depth from m q (Some place) came held has deep' new_branch below)))

  moved_tree : (capacity depth : ℕ) (p q : Path) (from to : ℕ) (place : Place) → IsHeld old kept (Dir from) → HasTree capacity old (Dir from) depth → IsMoved old new kept kept' from to p q place
      → (x : Path) → tree capacity new to x ≡ graft (graft (tree capacity old from) p nothing) q (tree_at capacity new place) x
  moved_tree capacity depth [] q from to place held has r x = absurd r
  moved_tree capacity depth (n ∷ p) [] from to place held has r x = absurd r
  moved_tree capacity depth (n ∷ p) (m ∷ q) from to place held has r [] = refl
  moved_tree capacity depth (n ∷ p) (m ∷ q) from to place held has (fresh, inl (same, low, next, goes, edit, rest)) (k ∷ y) =
      on (moved_tree capacity (depth - 1) p q low next place (held_child old kept (Dir from) n (Dir low) goes held) (child_tree capacity old depth (Dir from) n (Dir low) goes has) rest y)
    where
      t : Contents
      t = tree capacity old from

      u : Contents
      u = graft t (n ∷ p) nothing

      s : Contents
      s = tree_at capacity new place

      led : child new (Dir to) k ≡ cond (same_name n k) (Some (Dir next)) (child old (Dir from) k)
      led = edited_child old new from to n k (Some (Dir next)) edit

      lower : tree capacity old low ≡ (λ r. t (n ∷ r))
      lower = λ i r. below_place capacity old (sym goes i) r

      first : tree capacity new next y ≡ graft (graft (tree capacity old low) p nothing) q s y → same_name n k ≡ true → tree capacity new to (k ∷ y) ≡ graft u (m ∷ q) s (k ∷ y)
      first again is =
          new_tree capacity to k y (Some (Dir next)) (led ∙ ap (λ (test : Bool). cond test (Some (Dir next)) (child old (Dir from) k)) is)
          ∙ again
          ∙ ap (λ (c : Contents). graft (graft c p nothing) q s y) lower
          ∙ ap (λ (c : Contents). graft c q s y) (λ i r. graft_down t nothing n m p r same i)
          ∙ graft_down u s m k q y (ap (λ (name : Name). same_name name k) (sym (same_name-is n m same)) ∙ is)

      on : tree capacity new next y ≡ graft (graft (tree capacity old low) p nothing) q s y → tree capacity new to (k ∷ y) ≡ graft u (m ∷ q) s (k ∷ y)
      on again = by_test (same_name n k) (first again)
          (λ differs. old_tree capacity depth from to k y held has (led ∙ ap (λ (test : Bool). cond test (Some (Dir next)) (child old (Dir from) k)) differs)
          ∙ sym (graft_aside t nothing n k p y differs)
          ∙ sym (graft_aside u s m k q y (ap (λ (name : Name). same_name name k) (sym (same_name-is n m same)) ∙ differs)))
  moved_tree capacity depth (n ∷ p) (m ∷ q) from to place held has (fresh, inr (differs, gone, came, edit, old_branch, new_branch)) (k ∷ y) =
      by_test (same_name m k) at_new (λ aside. by_test (same_name n k) (at_old aside) (elsewhere aside))
    where
      t : Contents
      t = tree capacity old from

      u : Contents
      u = graft t (n ∷ p) nothing

      s : Contents
      s = tree_at capacity new place

      led : child new (Dir to) k ≡ cond (same_name m k) came (cond (same_name n k) gone (child old (Dir from) k))
      led = second_child old new from to n m k gone came edit

      led_aside : same_name m k ≡ false → child new (Dir to) k ≡ cond (same_name n k) gone (child old (Dir from) k)
      led_aside aside = led ∙ ap (λ (test : Bool). cond test came (cond (same_name n k) gone (child old (Dir from) k))) aside

      at_new : same_name m k ≡ true → tree capacity new to (k ∷ y) ≡ graft u (m ∷ q) s (k ∷ y)
      at_new is =
          new_tree capacity to k y came (led ∙ ap (λ (test : Bool). cond test came (cond (same_name n k) gone (child old (Dir from) k))) is)
          ∙ branch_tree capacity depth from m q (Some place) came held has new_branch y
          ∙ ap (λ (c : Contents). graft c q s y) (λ i r. sym (graft_aside t nothing n m p r differs) i)
          ∙ graft_down u s m k q y is

      at_old : same_name m k ≡ false → same_name n k ≡ true → tree capacity new to (k ∷ y) ≡ graft u (m ∷ q) s (k ∷ y)
      at_old aside is =
          new_tree capacity to k y gone (led_aside aside ∙ ap (λ (test : Bool). cond test gone (child old (Dir from) k)) is)
          ∙ branch_tree capacity depth from n p None gone held has old_branch y
          ∙ graft_down t nothing n k p y is
          ∙ sym (graft_aside u s m k q y aside)

      elsewhere : same_name m k ≡ false → same_name n k ≡ false → tree capacity new to (k ∷ y) ≡ graft u (m ∷ q) s (k ∷ y)
      elsewhere aside other =
          old_tree capacity depth from to k y held has (led_aside aside ∙ ap (λ (test : Bool). cond test gone (child old (Dir from) k)) other)
          ∙ sym (graft_aside t nothing n k p y other)
          ∙ sym (graft_aside u s m k q y aside)

-- ---- what the old path leads to

pub leads_on : (f : Blocks) (at place : Place) (p q : Path) → leads f at p ≡ Some place → leads f at (p ++ q) ≡ leads f place q
leads_on f at place p q is = leads-append f at p q ∙ ap (option_and_then (λ next. leads f next q)) is

tree_there : (capacity depth : ℕ) (f : Blocks) (at place : Place) (path : Path) → leads f at path ≡ Some place → HasTree capacity f at depth → HasTree capacity f place depth
tree_there capacity depth f at place path is has p there led =
    let all = has (path ++ p) there (leads_on f at place path p is ∙ led) in
    (all.0, omega (arith, all.1, length-append path p))

reached_there : (f : Blocks) (path : Path) (at place : Place) → leads f at path ≡ Some place → (root : ℕ) → PlaceNames place root → (b : ℕ) → Reached f (root ∷ []) b
    → (top : ℕ) × PlaceNames at top × Reached f (top ∷ []) b
reached_there f [] at place is root names b reached = (root, subst (λ (p : Place). PlaceNames p root) (sym (place_is at place is)) names, reached)
reached_there f (n ∷ path) (File head size) place is root names b reached = absurd cc
reached_there f (n ∷ path) (Dir block) place is root names b reached = on (child f (Dir block) n) refl is (λ next led. reached_there f path next place led root names b reached)
  where
    on : (o : Option Place) → child f (Dir block) n ≡ o → option_and_then (λ next. leads f next path) o ≡ Some place
        → ((next : Place) → leads f next path ≡ Some place → (top : ℕ) × PlaceNames next top × Reached f (top ∷ []) b) → (top : ℕ) × PlaceNames (Dir block) top × Reached f (top ∷ []) b
    on None e led again = absurd cc
    on (Some next) e led again = let found = again next led in (block, refl, reached_via f (block ∷ []) found.0 (child_names f block n next found.0 e found.1) found.2)

module _ (old new : Blocks) (kept kept' : ℕ → Bool) (from to : ℕ) (old_path new_path : Path) (place : Place) (keeps : Keeps kept old kept' new) (held : IsHeld old kept (Dir from))
    (led : leads old (Dir from) old_path ≡ Some place) (moved : IsMoved old new kept kept' from to old_path new_path place) where
  held_place : IsHeld old kept place
  held_place = held_leads old kept old_path (Dir from) place led held

  tree_is : (capacity depth : ℕ) → HasTree capacity old (Dir from) depth → tree capacity new to ≡ plain.move (tree capacity old from) old_path new_path
  tree_is capacity depth has =
      let whole = tree_there capacity depth old (Dir from) place old_path led has in
      let same : tree_at capacity new place ≡ tree_at capacity old place = (frame_law old new kept kept' keeps).same capacity depth place held_place whole in
      let stood : tree_at capacity old place ≡ under (tree capacity old from) old_path = λ i q. option_map (entry_at capacity old) (sym (leads_on old (Dir from) place old_path q led) i) in
      (λ i x. moved_tree old new kept kept' keeps capacity depth old_path new_path from to place held has moved x i)
      ∙ ap (graft (graft (tree capacity old from) old_path nothing) new_path) (same ∙ stood)
      ∙ sym (graft_law.moved (tree capacity old from) old_path new_path)

  shape_is : (capacity depth : ℕ) → HasTree capacity old (Dir from) depth → length new_path ≤ depth → IsShallow old place (depth - length new_path) → HasTree capacity new (Dir to) depth
  shape_is capacity depth has deep shallow = moved_shape old new kept kept' keeps capacity depth old_path new_path from to place held has (has old_path place led).1 deep moved below
    where
      below : HasTree capacity new place (depth - length new_path)
      below p there is =
          let whole = (frame_law old new kept kept' keeps).shape capacity depth place held_place (tree_there capacity depth old (Dir from) place old_path led has) in
          ((whole p there is).0, shallow p (ap is_some (sym (leads_same old new kept kept' keeps p place held_place) ∙ is)))

  reached_is : (b : ℕ) → Reached new (to ∷ []) b → Reached old (from ∷ []) b ⊎ IsFreshNode kept new b
  reached_is = moved_reached old new kept kept' keeps (λ b. Reached old (from ∷ []) b ⊎ IsFreshNode kept new b) old_path new_path from to place held (λ b reached. inl reached) (λ b free. inr free) moved
      (λ root names b reached.
      let found = reached_there old old_path (Dir from) place led root names b (reached_before old new kept kept' keeps root (held_place root names) reached) in
      inl (subst (λ (r : ℕ). Reached old (r ∷ []) b) (sym found.1) found.2))

pub move_law : AllMoves
move_law old new kept kept' from to old_path new_path place keeps held led moved = record {
  moved = tree_is old new kept kept' from to old_path new_path place keeps held led moved;
  shape = shape_is old new kept kept' from to old_path new_path place keeps held led moved;
  held = moved_held old new kept kept' keeps old_path new_path from to place held moved ((frame_law old new kept kept' keeps).held place (held_place old new kept kept' from to old_path new_path place keeps held led moved));
  reached = reached_is old new kept kept' from to old_path new_path place keeps held led moved;
}

pub rename_law : BlockRenameLaw
rename_law capacity old new kept kept' from to old_path new_path place keeps held root led deep shallow moved =
    let law = move_law old new kept kept' from to old_path new_path place keeps held led moved in
    let whole : IsRoot capacity new to = law.shape capacity 16 root deep shallow in
    let all : get (root_tree capacity new to) ≡ get (move (root_tree capacity old from) old_path new_path) =
    (map_law capacity new to whole).same ∙ law.moved capacity 16 root ∙ ap (λ (t : Contents). plain.move t old_path new_path) (sym (map_law capacity old from root).same) ∙ sym (contents_law.moved (root_tree capacity old from) old_path new_path) in
    (whole, same_tree (root_tree capacity new to) (move (root_tree capacity old from) old_path new_path) (λ q i. all i q))
