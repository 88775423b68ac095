-- The finite map of a root is a file tree: lawful names, few entries, short files.
use Rattle.std.proofs.Common.{◌≡◌, ℕ, zero, suc, ◌≤◌, Bool, true, false, cond, eqb, ltb, Option, Some, None, List, [], ◌∷◌, ◌++◌, length, take, drop, refl, sym, ap, subst, ◌∙◌, arith}
use Rattle.std.specs.Prelude.{IsSome, nat_le}
use Rattle.std.specs.Option.{option_map, option_map_or, option_and_then}
use Rattle.std.specs.List.{list_all}
use Rattle.std.specs.FinMap.{FinMap, get}
use Rattle.std.specs.FinMap as map
use Rattle.std.proofs.lemmas.Bool.{and_from, le-leb, leb-true}
use Rattle.std.proofs.lemmas.List.{length-map, length-take}
use Rattle.fs_types.specs.declared.limits.TheConstants.{MAX_ENTRIES}
use Rattle.fs_types.specs.Names.{Name, Path, is_name, is_path, same_name, name_cmp}
use Rattle.fs_types.proofs.Orders.{same_name-is}
use Rattle.plain_trees.specs.Contents.{Entry}
use Rattle.plain_trees.specs.Trees.{Tree, entry_count, IsFileTree}
use Rattle.plain_trees.proofs.Counts.{count-within}
use Rattle.fields.specs.Numbers.{byte_at, number_at}
use Rattle.fields.proofs.Found.{bind_some, passed, not_refused, some_is}
use Rattle.node_format.specs.Headers.{field}
use Rattle.node_format.specs.Items.{Item, named_place, is_dir_place}
use Rattle.node_format.specs.Directories.{name_at, place_at, item_at, items_at}
use Rattle.node_format.specs.declared.place.Place.{Place}
use Rattle.node_format.specs.declared.place.Place.TheVariants.{Dir, File}
use Rattle.nodes.specs.Bodies.{Blocks, body, data_to, head_index}
use Rattle.node_format.specs.Links.{Link}
use Rattle.node_format.proofs.LinkLaws.{link_items_at}
use Rattle.nodes.specs.Chains.{link_of}
use Rattle.nodes.proofs.Chained.{child_in_node}
use Rattle.nodes.specs.Trees.{items_in, child, leads, entry_at, IsRoot, root_tree}
use Rattle.nodes.specs.TreeLaws.{AllFileTrees}
use Rattle.nodes.proofs.Entries.{place_is}
use Rattle.nodes.proofs.ChainCounts.{most_of}
use Rattle.nodes.proofs.RootMaps.{get-root_tree, children-root_tree, leads-append}

-- ---- what is read is lawful

then_some : {A B : Type 0} (g : A → Option B) (r : Option A) (y : B) → option_and_then g r ≡ Some y → (x : A) × (r ≡ Some x) × (g x ≡ Some y)
then_some g None y e = absurd cc
then_some g (Some x) y e = (x, refl, e)

-- a file is not too long
abbrev pub IsShort : Place → Type 0
IsShort (Dir block) = Unit {0}
IsShort (File head size) = size ≤ 16777216

place_short : (kind head size : ℕ) (place : Place) → place_at kind head size ≡ Some place → IsShort place
place_short kind head size place e = on (eqb kind 1) e
  where
    directory : cond (eqb kind 2) (cond (eqb size 0) (Some (Dir head)) None) None ≡ Some place → IsShort place
    directory e =
        let outer = passed (eqb kind 2) (cond (eqb size 0) (Some (Dir head)) None) place e in
        let inner = passed (eqb size 0) (Some (Dir head)) place outer.1 in
        subst IsShort (place_is (Dir head) place inner.1) tt

    on : (b : Bool) → cond b (cond (nat_le size 16777216) (Some (File head size)) None) (cond (eqb kind 2) (cond (eqb size 0) (Some (Dir head)) None) None) ≡ Some place → IsShort place
    on true e =
        let inner = passed (nat_le size 16777216) (Some (File head size)) place e in
        subst IsShort (place_is (File head size) place inner.1) (leb-true size 16777216 inner.0)
    on false e = directory e

name_lawful : (size : ℕ) (bytes : List ℕ) (x : Name × List ℕ) → name_at size bytes ≡ Some x → is_name x.0 ≡ true
name_lawful size bytes x e =
    let long = not_refused (ltb (length bytes) size) (cond (is_name (take size bytes)) (Some (take size bytes, drop size bytes)) None) x e in
    let name = passed (is_name (take size bytes)) (Some (take size bytes, drop size bytes)) x long.1 in
    ap (λ (y : Name × List ℕ). is_name y.0) (sym (some_is (take size bytes, drop size bytes) x name.1)) ∙ name.0

item_lawful : (bytes : List ℕ) (x : Item × List ℕ) → item_at bytes ≡ Some x → (is_name x.0.name ≡ true) × IsShort x.0.place
unfolding item_at
item_lawful bytes x e =
    let kind = bind_some (byte_at bytes) _ x e in
    let size = bind_some (byte_at kind.0.1) _ x kind.2 in
    let name = bind_some (name_at size.0.0 size.0.1) _ x size.2 in
    let head = bind_some (number_at 4 name.0.1) _ x name.2 in
    let length = bind_some (number_at 4 head.0.1) _ x head.2 in
    let place = bind_some (place_at kind.0.0 head.0.0 length.0.0) _ x length.2 in
    let read : Item × List ℕ = (record { name = name.0.0; place = place.0 }, length.0.1) in
    subst (λ (y : Item × List ℕ). (is_name y.0.name ≡ true) × IsShort y.0.place) (some_is read x place.2)
    (name_lawful size.0.0 size.0.1 name.0 name.1, place_short kind.0.0 head.0.0 length.0.0 place.0 place.1)

items_lawful : (count : ℕ) (bytes : List ℕ) (n : Name) (place : Place) → named_place (items_at count bytes) n ≡ Some place → (is_name n ≡ true) × IsShort place
unfolding items_at
items_lawful zero bytes n place e = absurd cc
items_lawful (suc count) bytes n place e = on (item_at bytes) refl e (λ rest. items_lawful count rest n place)
  where
    one : (x : Item × List ℕ) → item_at bytes ≡ Some x → (b : Bool) → same_name x.0.name n ≡ b → cond b (Some x.0.place) (named_place (items_at count x.1) n) ≡ Some place
        → ((rest : List ℕ) → named_place (items_at count rest) n ≡ Some place → (is_name n ≡ true) × IsShort place) → (is_name n ≡ true) × IsShort place
    one x is true same e again =
        let lawful = item_lawful bytes x is in
        (ap is_name (sym (same_name-is x.0.name n same)) ∙ lawful.0, subst IsShort (place_is x.0.place place e) lawful.1)
    one x is false other e again = again x.1 e

    on : (read : Option (Item × List ℕ)) → item_at bytes ≡ read → named_place (option_map_or (λ x. x.0 ∷ items_at count x.1) read []) n ≡ Some place
        → ((rest : List ℕ) → named_place (items_at count rest) n ≡ Some place → (is_name n ≡ true) × IsShort place) → (is_name n ≡ true) × IsShort place
    on None is e again = absurd cc
    on (Some x) is e again = one x is (same_name x.0.name n) refl e again

abbrev some_items : List Item → Option (List Item)
some_items items = Some items

items_are : (xs ys : List Item) → some_items xs ≡ some_items ys → xs ≡ ys
items_are xs ys e = cc

named_lawful : (f : Blocks) (block : ℕ) (n : Name) (place : Place) → child f (Dir block) n ≡ Some place → (is_name n ≡ true) × IsShort place
named_lawful f block n place e =
    let found = child_in_node f block n place e in
    on (f found.0) found.2
  where
    l : Link
    l = (child_in_node f block n place e).1

    leads : named_place l.items n ≡ Some place
    leads = (child_in_node f block n place e).3

    on : (node : Option (List ℕ)) → link_of node ≡ Some l → (is_name n ≡ true) × IsShort place
    on None is = absurd cc
    on (Some bytes) is = items_lawful (field bytes 4) (drop 16 bytes) n place (ap (λ (items : List Item). named_place items n) (link_items_at bytes l is) ∙ leads)

-- ---- paths

child_lawful : (f : Blocks) (at to : Place) (n : Name) → child f at n ≡ Some to → (is_name n ≡ true) × IsShort to
child_lawful f (Dir block) to n e = named_lawful f block n to e
child_lawful f (File head size) to n e = absurd cc

leads_lawful : (f : Blocks) (at to : Place) (p : Path) → IsShort at → leads f at p ≡ Some to → (list_all is_name p ≡ true) × IsShort to
leads_lawful f at to [] short e = (refl, subst IsShort (place_is at to e) short)
leads_lawful f at to (n ∷ p) short e =
    let step = then_some (λ next. leads f next p) (child f at n) to e in
    let here = child_lawful f at step.0 n step.1 in
    let below = leads_lawful f step.0 to p here.1 step.2 in
    (and_from (is_name n) (list_all is_name p) here.0 below.0, below.1)

-- what leads on is a directory
parent : (capacity : ℕ) (f : Blocks) (at to : Place) (n : Name) → child f at n ≡ Some to → entry_at capacity f at ≡ Entry.Dir
parent capacity f (Dir block) to n e = refl
parent capacity f (File head size) to n e = absurd cc

some_place_of : {A B : Type 0} (g : A → B) (o : Option A) → IsSome (option_map g o) → (x : A) × (o ≡ Some x)
some_place_of g None some = absurd cc
some_place_of g (Some x) some = (x, refl)

short_body : (capacity : ℕ) (f : Blocks) (head size : ℕ) → length (body capacity f head size) ≤ size
short_body capacity f head zero = omega arith
short_body capacity f head (suc n) = omega (arith, length-take (suc n) (data_to f (head_index capacity (suc n)) head))

abbrev bytes_in : Entry → List ℕ
bytes_in Entry.Dir = []
bytes_in (Entry.File bytes) = bytes

abbrev some_entry : Entry → Option Entry
some_entry x = Some x

entry_is : (x y : Entry) → some_entry x ≡ some_entry y → x ≡ y
entry_is x y e = cc

module _ (capacity : ℕ) (f : Blocks) (root : ℕ) (has : IsRoot capacity f root) where
  abbrev map_of : Tree
  map_of = root_tree capacity f root

  stands : (p : Path) → get map_of p ≡ option_map (entry_at capacity f) (leads f (Dir root) p)
  stands p = get-root_tree capacity f root has p

  led : (p : Path) → IsSome (get map_of p) → (to : Place) × (leads f (Dir root) p ≡ Some to)
  led p some = some_place_of (entry_at capacity f) (leads f (Dir root) p) (subst IsSome (stands p) some)

  above : (p : Path) (n : Name) → IsSome (get map_of (p ++ n ∷ [])) → (at : Place) × (leads f (Dir root) p ≡ Some at) × (entry_at capacity f at ≡ Entry.Dir)
  above p n some =
      let there = led (p ++ n ∷ []) some in
      let before = then_some (λ next. leads f next (n ∷ [])) (leads f (Dir root) p) there.0 (sym (leads-append f (Dir root) p (n ∷ [])) ∙ there.1) in
      let step = then_some (λ next. leads f next []) (child f before.0 n) there.0 before.2 in
      (before.0, before.1, parent capacity f before.0 step.0 n step.1)

  parents : (p : Path) (n : Name) → IsSome (get map_of (p ++ n ∷ [])) → get map_of p ≡ Some Entry.Dir
  parents p n some =
      let before = above p n some in
      stands p ∙ ap (option_map (entry_at capacity f)) before.1 ∙ ap (λ (x : Entry). Some x) before.2

  few : (p : Path) → entry_count map_of p ≤ MAX_ENTRIES
  few p = on (leads f (Dir root) p) refl
    where
      bare : FinMap name_cmp Bool
      bare = map.empty

      none : ((n : Name) → IsSome (get map_of (p ++ n ∷ [])) → ⊥) → entry_count map_of p ≤ MAX_ENTRIES
      none nothing = let l : entry_count map_of p ≤ map.len bare = count-within map_of p bare (λ n there. absurd (nothing n there)) in omega (arith, map.len-empty name_cmp Bool)

      on : (o : Option Place) → leads f (Dir root) p ≡ o → entry_count map_of p ≤ MAX_ENTRIES
      on None is = none (λ n some. let before = above p n some in absurd cc)
      on (Some (File head size)) is = none (λ n some. let before = above p n some in
          let same : File head size ≡ before.0 = place_is (File head size) before.0 (sym is ∙ before.1) in
          let e : Entry.File (body capacity f head size) ≡ Entry.Dir = ap (entry_at capacity f) same ∙ before.2 in
          absurd cc)
      on (Some (Dir block)) is =
          let same : entry_count map_of p ≡ length (items_in f block) =
          ap length (children-root_tree capacity f root has p block is) ∙ length-map (items_in f block) (λ (item : Item). (item.name, is_dir_place item.place)) in
          let l : length (items_in f block) ≤ MAX_ENTRIES = most_of f block in
          omega arith

  lawful : (p : Path) → IsSome (get map_of p) → is_path p ≡ true
  lawful p some =
      let there = led p some in
      let names = leads_lawful f (Dir root) there.0 p tt there.1 in
      let most : length p ≤ 16 = (has p there.0 there.1).1 in
      and_from (list_all is_name p) (nat_le (length p) 16) names.0 (le-leb (length p) 16 most)

  short : (p : Path) (bytes : List ℕ) → get map_of p ≡ Some (Entry.File bytes) → length bytes ≤ 16777216
  short p bytes is = on (leads f (Dir root) p) refl (sym (stands p) ∙ is)
    where
      on : (o : Option Place) → leads f (Dir root) p ≡ o → option_map (entry_at capacity f) o ≡ Some (Entry.File bytes) → length bytes ≤ 16777216
      on None led e = absurd cc
      on (Some (Dir block)) led e = absurd cc
      on (Some (File head size)) led e =
          let small : size ≤ 16777216 = (leads_lawful f (Dir root) (File head size) p tt led).1 in
          let same : length (body capacity f head size) ≡ length bytes = ap (λ (x : Entry). length (bytes_in x)) (entry_is (Entry.File (body capacity f head size)) (Entry.File bytes) e) in
          let most : length (body capacity f head size) ≤ size = short_body capacity f head size in
          omega arith

  pub file_tree : IsFileTree map_of
  file_tree = record {
    shape = record { root = stands []; parents = parents };
    paths = lawful;
    entries = few;
    lengths = short;
  }

pub all_file_trees : AllFileTrees
all_file_trees capacity f root has = file_tree capacity f root has
