-- Places put under many names of one directory: what it reaches, and the tree with files put.
use Rattle.std.proofs.Common.{◌≡◌, ℕ, suc, ◌-◌, ◌≤◌, ◌⊎◌, inl, inr, Bool, true, false, cond, ◌&&◌, Option, Some, None, unwrap_or, List, [], ◌∷◌, ◌++◌, length, refl, sym, ap, subst, ◌∙◌, arith, append_assoc, append-nil, length-append}
use Rattle.std.specs.Prelude.{Contains}
use Rattle.std.specs.Option.{option_map, option_and_then}
use Rattle.std.specs.FinMap.{get}
use Rattle.fs_types.specs.Names.{Name, Path, same_name, same_path}
use Rattle.fs_types.proofs.Orders.{same_name-is, same_name-own}
use Rattle.plain_trees.specs.Contents as plain
use Rattle.plain_trees.specs.Contents.{Contents, Entry, beneath, graft, grafted_at}
use Rattle.plain_trees.specs.Trees.{Tree, put}
use Rattle.plain_trees.proofs.Beneath.{by_beneath, beneath-append, same_path-false, None≢Some}
use Rattle.plain_trees.proofs.Edits.{same_tree}
use Rattle.plain_trees.proofs.Grafts.{contents_law}
use Rattle.node_format.specs.Items.{Item, named_place}
use Rattle.node_format.specs.declared.place.Place.{Place}
use Rattle.node_format.specs.declared.place.Place.TheVariants.{Dir, File}
use Rattle.nodes.specs.Bodies.{Blocks}
use Rattle.nodes.specs.ChainLaws.{IsReachedFrom}
use Rattle.nodes.specs.Puts.{placed, IsPutInto, put_places, IsWholeFile, IsGrafted, PutFilesLaw}
use Rattle.nodes.specs.Reached.{IsHeld, Keeps, Reached, PlaceNames}
use Rattle.nodes.specs.Rewritten.{IsRewritten, IsFreshNode, IsFreshChain}
use Rattle.nodes.specs.Trees.{child, leads, entry_at, tree_at, tree, IsWholePlace, HasTree, IsRoot, root_tree}
use Rattle.nodes.proofs.Chained.{child_names, reached_chain}
use Rattle.nodes.proofs.EditedMaps.{last_without_directory}
use Rattle.nodes.proofs.EditedTrees.{by_test, child_tree, edit_law}
use Rattle.nodes.proofs.Entries.{place_is}
use Rattle.nodes.proofs.Frames.{frame_law, reached_before, tree_same}
use Rattle.nodes.proofs.Reaching.{reached_via, reached_from, held_child}
use Rattle.nodes.proofs.RootMaps.{map_law, leads-append, same_name-turned}

-- ---- where a name leads

-- it is one of these puts
abbrev pub IsPutAt : List (Name × Place) → Name → Option Place → Type 0
IsPutAt puts n o = (one : Name × Place) × Contains puts one × (same_name one.0 n ≡ true) × (o ≡ Some one.1)

first_of : (x : Name × Place) (xs : List (Name × Place)) → Contains (x ∷ xs) x
first_of x xs = (0, omega arith, refl)

rest_of : (x y : Name × Place) (xs : List (Name × Place)) → Contains xs y → Contains (x ∷ xs) y
rest_of x y xs (k, below, is) = (suc k, omega (arith, below), is)

pub placed_by : (puts : List (Name × Place)) (n : Name) (was : Option Place) → (placed puts n was ≡ was) ⊎ IsPutAt puts n (placed puts n was)
placed_by [] n was = inl refl
placed_by (first ∷ puts) n was = elim (placed_by puts n (cond (same_name first.0 n) (Some first.1) was)) [
  | inl stays ↦ by_test (same_name first.0 n)
      (λ same. inr (first, first_of first puts, same, stays ∙ ap (λ b. cond b (Some first.1) was) same))
      (λ differs. inl (stays ∙ ap (λ b. cond b (Some first.1) was) differs))
  | inr one ↦ inr (one.0, rest_of first one.0 puts one.1, one.2, one.3)
]

module _ (old new : Blocks) (kept kept' : ℕ → Bool) (keeps : Keeps kept old kept' new) (from to : ℕ) (puts : List (Name × Place)) (held : IsHeld old kept (Dir from)) (into : IsPutInto old new from to puts) where
  pub put_child : (n : Name) → child new (Dir to) n ≡ placed puts n (child old (Dir from) n)
  put_child n = ap (λ (found : Option (List Item)). named_place (unwrap_or found []) n) into.1 ∙ into.2 n

  -- where it did, or to the place that was put
  abbrev IsLed : Name → Place → Type 0
  IsLed n place = (child old (Dir from) n ≡ Some place) ⊎ IsPutAt puts n (Some place)

  led : (n : Name) (place : Place) → child new (Dir to) n ≡ Some place → IsLed n place
  led n place is = elim (placed_by puts n (child old (Dir from) n)) [
    | inl stays ↦ inl (sym stays ∙ sym (put_child n) ∙ is)
    | inr one ↦ inr (one.0, one.1, one.2, sym is ∙ put_child n ∙ one.3)
  ]

  -- ---- what it reaches

  pub puts_held : IsFreshChain old new kept kept' from to → ((one : Name × Place) → Contains puts one → IsHeld new kept' one.1) → IsHeld new kept' (Dir to)
  puts_held fresh below root is b reached = subst (λ (r : ℕ). Reached new (r ∷ []) b → kept' b ≡ true) is (λ r. on (reached_from new to into.0 b into.1 r)) reached
    where
      at : (n : Name) (place : Place) (next : ℕ) → IsLed n place → PlaceNames place next → Reached new (next ∷ []) b → kept' b ≡ true
      at n place next (inl stays) names r = (frame_law old new kept kept' keeps).held place (held_child old kept (Dir from) n place stays held) next names b r
      at n place next (inr (one, inside, same, is)) names r = below one inside next (subst (λ (p : Place). PlaceNames p next) (place_is place one.1 is) names) b r

      on : IsReachedFrom new to b → kept' b ≡ true
      on (inl inside) = (fresh b inside).0
      on (inr (name, place, next, leads, names, r)) = at name place next (led name place leads) names r

  -- the old directory reached it, it is a new node of a chain, or a new place reaches it
  abbrev pub IsReachedByPuts : ℕ → Type 0
  IsReachedByPuts block = Reached old (from ∷ []) block ⊎ IsFreshNode kept new block ⊎ ((one : Name × Place) × Contains puts one × (next : ℕ) × PlaceNames one.1 next × Reached new (next ∷ []) block)

  pub puts_reached : IsFreshChain old new kept kept' from to → (block : ℕ) → Reached new (to ∷ []) block → IsReachedByPuts block
  puts_reached fresh block reached = on (reached_from new to into.0 block into.1 reached)
    where
      at : (n : Name) (place : Place) (next : ℕ) → IsLed n place → PlaceNames place next → Reached new (next ∷ []) block → IsReachedByPuts block
      at n place next (inl stays) names r =
          let below = held_child old kept (Dir from) n place stays held in
          inl (reached_via old (from ∷ []) next (child_names old from n place next stays names) (reached_before old new kept kept' keeps next (below next names) r))
      at n place next (inr (one, inside, same, is)) names r = inr (inr (one, inside, next, subst (λ (p : Place). PlaceNames p next) (place_is place one.1 is) names, r))

      on : IsReachedFrom new to block → IsReachedByPuts block
      on (inl inside) = elim (fresh block inside).1 [ inl written ↦ inr (inl written) | inr there ↦ inl (reached_chain old from block there) ]
      on (inr (name, place, next, leads, names, r)) = at name place next (led name place leads) names r

  -- ---- its tree

  puts_shape : (capacity depth : ℕ) → 1 ≤ depth → HasTree capacity old (Dir from) depth → ((one : Name × Place) → Contains puts one → HasTree capacity new one.1 (depth - 1)) → HasTree capacity new (Dir to) depth
  puts_shape capacity depth deep has below [] there is = (subst (IsWholePlace capacity new) (place_is (Dir to) there is) (into.0, into.1), omega arith)
  puts_shape capacity depth deep has below (k ∷ path) there is = let found = on (child new (Dir to) k) refl is in (found.0, omega (arith, found.1))
    where
      one : (at : Place) → IsLed k at → leads new at path ≡ Some there → IsWholePlace capacity new there × (length path ≤ depth - 1)
      one at (inl stays) is =
          (frame_law old new kept kept' keeps).shape capacity (depth - 1) at (held_child old kept (Dir from) k at stays held) (child_tree capacity old depth (Dir from) k at stays has) path there is
      one at (inr (first, inside, same, e)) is = below first inside path there (ap (λ (p : Place). leads new p path) (sym (place_is at first.1 e)) ∙ is)

      on : (o : Option Place) → child new (Dir to) k ≡ o → option_and_then (λ next. leads new next path) o ≡ Some there → IsWholePlace capacity new there × (length path ≤ depth - 1)
      on None at is = absurd cc
      on (Some place) at is = one place (led k place at) is

  -- what stands at a path below a place, if there is one
  abbrev below : ℕ → Blocks → Option Place → Path → Option Entry
  below capacity f o path = option_map (entry_at capacity f) (option_and_then (λ next. leads f next path) o)

  -- what the directory had stands
  stays_below : (capacity depth : ℕ) → HasTree capacity old (Dir from) depth → (k : Name) (path : Path) → below capacity new (child old (Dir from) k) path ≡ below capacity old (child old (Dir from) k) path
  stays_below capacity depth has k path = on (child old (Dir from) k) refl
    where
      on : (o : Option Place) → child old (Dir from) k ≡ o → below capacity new o path ≡ below capacity old o path
      on None is = refl
      on (Some place) is = tree_same old new kept kept' keeps capacity place (held_child old kept (Dir from) k place is held)
          (λ p there led. (has (k ∷ p) there (ap (option_and_then (λ next. leads old next p)) is ∙ led)).0) path

-- ---- files put in turn

same_below : (p a b : Path) → same_path (p ++ a) (p ++ b) ≡ same_path a b
same_below [] a b = refl
same_below (n ∷ p) a b = ap (λ c. c && same_path (p ++ a) (p ++ b)) (same_name-own n) ∙ same_below p a b

module _ (capacity : ℕ) (f : Blocks) (directory : Path) where
  abbrev at : Name → Path → Path
  at n rest = directory ++ n ∷ rest

  -- the same as functions
  abbrev all_put : Contents → List (Name × Place) → Contents
  all_put t [] = t
  all_put t (first ∷ puts) = all_put (plain.put t (at first.0 []) (entry_at capacity f first.1)) puts

  get-put_places : (t : Tree) (puts : List (Name × Place)) → get (put_places capacity f t directory puts) ≡ all_put (get t) puts
  get-put_places t [] = refl
  get-put_places t (first ∷ puts) =
      get-put_places (put t (at first.0 []) (entry_at capacity f first.1)) puts
      ∙ ap (λ (c : Contents). all_put c puts) (contents_law.put t (at first.0 []) (entry_at capacity f first.1))

  -- what is at none of the paths stays
  off_all : (t : Contents) (puts : List (Name × Place)) (q : Path) → ((n : Name) → same_path q (at n []) ≡ false) → all_put t puts q ≡ t q
  off_all t [] q off = refl
  off_all t (first ∷ puts) q off =
      off_all (plain.put t (at first.0 []) (entry_at capacity f first.1)) puts q off
      ∙ ap (λ b. cond b (Some (entry_at capacity f first.1)) (t q)) (off first.0)

  abbrev below_at : Option Place → Path → Option Entry
  below_at o path = option_map (entry_at capacity f) (option_and_then (λ next. leads f next path) o)

  -- nothing stands below a file
  file_below : (place : Place) (n : Name) (q : Path) → IsWholeFile capacity f place → below_at (Some place) (n ∷ q) ≡ None
  file_below (Dir block) n q is = absurd is
  file_below (File head size) n q is = refl

  -- one file is put
  one_put : (t : Contents) (first : Name × Place) (was : Option Place) (k : Name) (path : Path) → IsWholeFile capacity f first.1 → ((n : Name) (q : Path) → t (at first.0 (n ∷ q)) ≡ None)
      → below_at was path ≡ t (at k path) → below_at (cond (same_name first.0 k) (Some first.1) was) path ≡ plain.put t (at first.0 []) (entry_at capacity f first.1) (at k path)
  one_put t first was k path whole last same =
      by_test (same_name first.0 k) (λ is. here path is) other ∙ sym (ap (λ b. cond b (Some (entry_at capacity f first.1)) (t (at k path))) (same_below directory (k ∷ path) (first.0 ∷ [])))
    where
      turned : same_name k first.0 ≡ same_name first.0 k
      turned = same_name-turned k first.0

      here : (path : Path) → same_name first.0 k ≡ true → below_at (cond (same_name first.0 k) (Some first.1) was) path ≡ cond (same_path (k ∷ path) (first.0 ∷ [])) (Some (entry_at capacity f first.1)) (t (at k path))
      here [] is = ap (λ b. below_at (cond b (Some first.1) was) []) is ∙ sym (ap (λ b. cond (b && true) (Some (entry_at capacity f first.1)) (t (at k []))) (turned ∙ is))
      here (n ∷ q) is =
          ap (λ b. below_at (cond b (Some first.1) was) (n ∷ q)) is ∙ file_below first.1 n q whole ∙ sym (last n q) ∙ ap (λ (m : Name). t (at m (n ∷ q))) (same_name-is first.0 k is)
          ∙ sym (ap (λ b. cond (b && false) (Some (entry_at capacity f first.1)) (t (at k (n ∷ q)))) (turned ∙ is))

      other : same_name first.0 k ≡ false → below_at (cond (same_name first.0 k) (Some first.1) was) path ≡ cond (same_path (k ∷ path) (first.0 ∷ [])) (Some (entry_at capacity f first.1)) (t (at k path))
      other differs =
          ap (λ b. below_at (cond b (Some first.1) was) path) differs ∙ same
          ∙ sym (ap (λ b. cond (b && same_path path []) (Some (entry_at capacity f first.1)) (t (at k path))) (turned ∙ differs))

  -- nothing stands below a file that is put, still
  still_last : (t : Contents) (first other : Name × Place) (n : Name) (q : Path) → t (at other.0 (n ∷ q)) ≡ None → plain.put t (at first.0 []) (entry_at capacity f first.1) (at other.0 (n ∷ q)) ≡ None
  still_last t first other n q none =
      ap (λ b. cond b (Some (entry_at capacity f first.1)) (t (at other.0 (n ∷ q)))) (same_below directory (other.0 ∷ n ∷ q) (first.0 ∷ []) ∙ long (same_name other.0 first.0)) ∙ none
    where
      long : (b : Bool) → b && false ≡ false
      long true = refl
      long false = refl

  at_all : (puts : List (Name × Place)) (t : Contents) (was : Option Place) (k : Name) (path : Path) → ((one : Name × Place) → Contains puts one → IsWholeFile capacity f one.1)
      → ((one : Name × Place) → Contains puts one → (n : Name) (q : Path) → t (at one.0 (n ∷ q)) ≡ None) → below_at was path ≡ t (at k path) → below_at (placed puts k was) path ≡ all_put t puts (at k path)
  at_all [] t was k path whole last same = same
  at_all (first ∷ puts) t was k path whole last same =
      at_all puts (plain.put t (at first.0 []) (entry_at capacity f first.1)) (cond (same_name first.0 k) (Some first.1) was) k path
      (λ one inside. whole one (rest_of first one puts inside))
      (λ one inside n q. still_last t first one n q (last one (rest_of first one puts inside) n q))
      (one_put t first was k path (whole first (first_of first puts)) (last first (first_of first puts)) same)

-- ---- the law

-- a directory that a path of a tree leads to has a tree
led_tree : (capacity : ℕ) (f : Blocks) (from block depth : ℕ) (path : Path) → HasTree capacity f (Dir from) depth → leads f (Dir from) path ≡ Some (Dir block) → HasTree capacity f (Dir block) (depth - length path)
led_tree capacity f from block depth path has led rest there is =
    let all = has (path ++ rest) there (leads-append f (Dir from) path rest ∙ ap (option_and_then (λ next. leads f next rest)) led ∙ is) in
    (all.0, omega (arith, all.1, length-append path rest))

file_tree : (capacity : ℕ) (f : Blocks) (place : Place) (depth : ℕ) → IsWholeFile capacity f place → HasTree capacity f place depth
file_tree capacity f (Dir block) depth whole path there is = absurd whole
file_tree capacity f (File head size) depth whole [] there is = (subst (IsWholePlace capacity f) (place_is (File head size) there is) whole, omega arith)
file_tree capacity f (File head size) depth whole (n ∷ path) there is = absurd cc

not_below : (p : Path) (n : Name) (q : Path) → beneath p q ≡ None → same_path q (p ++ n ∷ []) ≡ false
not_below p n q none = same_path-false q (p ++ n ∷ []) (λ is. None≢Some (sym none ∙ ap (beneath p) is ∙ beneath-append p (n ∷ [])))

not_itself : (p : Path) (n : Name) → same_path (p ++ []) (p ++ n ∷ []) ≡ false
not_itself p n = same_below p [] (n ∷ [])

pub put_files_law : PutFilesLaw
put_files_law capacity old new kept kept' from to was block directory puts keeps held root led deep files into way = (whole, same_tree (root_tree capacity new to) (put_places capacity new (root_tree capacity old from) directory puts) (λ q i. all i q))
  where
    t : Contents
    t = tree capacity old from

    held_was : IsHeld old kept (Dir was)
    held_was = held_at directory (Dir from) led held
      where
        held_at : (path : Path) (place : Place) → leads old place path ≡ Some (Dir was) → IsHeld old kept place → IsHeld old kept (Dir was)
        held_at [] place is h = subst (IsHeld old kept) (place_is place (Dir was) is) h
        held_at (n ∷ path) place is h = on (child old place n) refl is (λ next. held_at path next)
          where
            on : (o : Option Place) → child old place n ≡ o → option_and_then (λ next. leads old next path) o ≡ Some (Dir was)
                → ((next : Place) → leads old next path ≡ Some (Dir was) → IsHeld old kept next → IsHeld old kept (Dir was)) → IsHeld old kept (Dir was)
            on None e is again = absurd cc
            on (Some next) e is again = again next is (held_child old kept place n next e h)

    has_was : HasTree capacity old (Dir was) (16 - length directory)
    has_was = led_tree capacity old from was 16 directory root led

    whole : IsRoot capacity new to
    whole = way.shape (puts_shape old new kept kept' keeps was block puts held_was into capacity (16 - length directory) (omega arith) has_was
        (λ one inside. file_tree capacity new one.1 (16 - length directory - 1) (files.whole one inside)))

    last : (one : Name × Place) → Contains puts one → (n : Name) (q : Path) → t (directory ++ one.0 ∷ n ∷ q) ≡ None
    last one inside n q =
        ap t (sym (append_assoc directory (one.0 ∷ []) (n ∷ q))) ∙ last_without_directory capacity old (directory ++ one.0 ∷ []) (Dir from) (files.free one inside) n q

    -- what stood below the directory
    stood : (k : Name) (path : Path) → option_map (entry_at capacity new) (option_and_then (λ next. leads new next path) (child old (Dir was) k)) ≡ t (directory ++ k ∷ path)
    stood k path =
        stays_below old new kept kept' keeps was block puts held_was into capacity (16 - length directory) has_was k path
        ∙ sym (ap (option_map (entry_at capacity old)) (leads-append old (Dir from) directory (k ∷ path) ∙ ap (option_and_then (λ next. leads old next (k ∷ path))) led))

    below_here : (r : Path) → tree_at capacity new (Dir block) r ≡ all_put capacity new directory t puts (directory ++ r)
    below_here [] =
        sym (off_all capacity new directory t puts (directory ++ []) (not_itself directory) ∙ ap t (append-nil directory) ∙ ap (option_map (entry_at capacity old)) led)
    below_here (k ∷ path) =
        ap (λ (o : Option Place). option_map (entry_at capacity new) (option_and_then (λ next. leads new next path) o)) (put_child old new kept kept' keeps was block puts held_was into k)
        ∙ at_all capacity new directory puts t (child old (Dir was) k) k path files.whole last (stood k path)

    each : (q : Path) → graft t directory (tree_at capacity new (Dir block)) q ≡ all_put capacity new directory t puts q
    each q = by_beneath directory q (λ o. grafted_at t (tree_at capacity new (Dir block)) o q ≡ all_put capacity new directory t puts q)
        (λ r is. below_here r ∙ ap (all_put capacity new directory t puts) (sym is))
        (λ none. sym (off_all capacity new directory t puts q (λ n. not_below directory n q none)))

    all : get (root_tree capacity new to) ≡ get (put_places capacity new (root_tree capacity old from) directory puts)
    all =
        (map_law capacity new to whole).same ∙ way.grafted ∙ (λ i q. each q i)
        ∙ ap (λ (c : Contents). all_put capacity new directory c puts) (sym (map_law capacity old from root).same)
        ∙ sym (get-put_places capacity new directory (root_tree capacity old from) puts)

-- ---- the way up

pub grafted_root : (capacity : ℕ) (old new : Blocks) (from block : ℕ) → IsGrafted capacity old new from block [] block
grafted_root capacity old new from block = record { grafted = refl; shape = λ has. has }

pub grafted_up : (capacity : ℕ) (old mid new : Blocks) (kept held_mid kept' : ℕ → Bool) (from to block : ℕ) (directory : Path) → Keeps kept old held_mid mid → Keeps held_mid mid kept' new → IsHeld old kept (Dir from) → IsRoot capacity old from
    → length directory ≤ 16 → IsRewritten mid new held_mid kept' from to directory (Some (Dir block)) → IsGrafted capacity old new from to directory block
grafted_up capacity old mid new kept held_mid kept' from to block directory first second held root deep rewritten =
    let before = frame_law old mid kept held_mid first in
    let law = edit_law mid new held_mid kept' from to directory (Some (Dir block)) second (before.held (Dir from) held) rewritten in
    let there = before.shape capacity 16 (Dir from) held root in
    record {
      grafted = law.grafted capacity 16 there ∙ ap (λ (c : Contents). graft c directory (tree_at capacity new (Dir block))) (before.same capacity 16 (Dir from) held root);
      shape = λ below. law.shape capacity 16 there deep below;
    }
