-- What is told as lost is what is missing from the rest of the tree.
use Rattle.std.proofs.Common.{◌≡◌, ◌⊎◌, inl, inr, ℕ, zero, suc, ◌+◌, ◌<◌, ◌≤◌, Bool, true, false, cond, not, Option, Some, None, List, [], ◌∷◌, ◌++◌, length, refl, sym, ap, subst, ◌∙◌, arith}
use Rattle.std.specs.Prelude.{Contains, ◌==◌, nat_lt}
use Rattle.std.specs.Option.{option_map_or, option_and_then}
use Rattle.std.specs.List.{flat_map, list_all}
use Rattle.std.proofs.lemmas.Bool.{true≢false, and_parts, ltb-true, cases_lt, ne_eqb}
use Rattle.std.proofs.lemmas.List.{append-nil, length-append}
use Rattle.std.proofs.lemmas.List.Concat.{flat_map-append}
use Rattle.std.proofs.lemmas.List.Elements.{Contains-append_cases}
use Rattle.std.proofs.lemmas.Option.{same_Some, none-some, cond_some}
use Rattle.fs_types.specs.Names.{Name, Path, same_name}
use Rattle.node_format.specs.EntryLaws.{same_name-true, contained-named_place}
use Rattle.node_format.specs.Items.{Item, is_before, are_ascending, named_place}
use Rattle.node_format.specs.Links.{Link}
use Rattle.node_format.specs.Order.{both_true, and_true, all_after}
use Rattle.node_format.specs.declared.place.Place.{Place}
use Rattle.node_format.specs.declared.place.Place.TheVariants.{Dir, File}
use Rattle.node_format.proofs.LinkLaws.{link_ascending}
use Rattle.nodes.specs.Bodies.{Blocks}
use Rattle.nodes.specs.Chains.{link_of, most_after, is_later}
use Rattle.reclaim.specs.Looks.{last_name, are_after, may_follow}
use Rattle.salvages.specs.LossLaws.{path_bytes, IsLostAt, LossLaw}
use Rattle.salvages.specs.Losses.{path_to, loss, way, lost_at, lost_item, ways_at, ways_item, lost_entries, lost_of_link, lost_in, ways_of_link, ways_in, lost_under, lost_from, lost_of}
use Rattle.known_nodes.specs.Rests.{following, link_after, items_from, is_cut_from, items_left, child_left, leads_left}
use Rattle.known_nodes.specs.WholeFiles.{is_file}
use Rattle.salvages.specs.declared.found.Way.{Way}
use Rattle.salvages.specs.declared.losses.Loss.{Loss}
use Rattle.salvages.specs.declared.losses.LossKind.{LossKind}

-- ---- names ascend along what is left

before_all : (name : Name) (items : List Item) → are_after name items ≡ true → are_ascending items ≡ true → list_all (λ other. is_before name other.name) items ≡ true
before_all name [] is order = refl
before_all name (item ∷ items) is order =
    let parts = both_true (list_all (λ other. is_before item.name other.name) items) (are_ascending items) order in
    and_true _ _ is (all_after name item.name items is parts.0)

first_after : (name : Name) (front back : List Item) → list_all (λ other. is_before name other.name) front ≡ true → are_after (last_name name front) back ≡ true → are_after name (front ++ back) ≡ true
first_after name [] back all is = is
first_after name (item ∷ front) back all is = (both_true (is_before name item.name) (list_all (λ other. is_before name other.name) front) all).0

joined : (before : Name) (front back : List Item) → are_ascending front ≡ true → are_ascending back ≡ true → are_after (last_name before front) back ≡ true → are_ascending (front ++ back) ≡ true
joined before [] back f b is = b
joined before (item ∷ front) back f b is =
    let own = both_true (list_all (λ other. is_before item.name other.name) front) (are_ascending front) f in
    let rest = joined item.name front back own.1 b is in
    and_true _ _ (before_all item.name (front ++ back) (first_after item.name front back own.0 is) rest) rest

node_ascends : (node : Option (List ℕ)) (link : Link) → link_of node ≡ Some link → are_ascending link.items ≡ true
node_ascends None link is = absurd cc
node_ascends (Some bytes) link is = link_ascending bytes link is

-- the node after one is a node of a directory, whose names go on
record IsNext (f : Blocks) (link next : Link) : Type 0 where
  is : link_of (f link.next) ≡ Some next
  goes_on : may_follow (last_name [] link.items) (Some next) ≡ true

next_is : (f : Blocks) (link next : Link) → link_after f link ≡ Some next → IsNext f link next
next_is f link next = on (link_of (f link.next)) refl
  where
    on : (o : Option Link) → link_of (f link.next) ≡ o → option_and_then (following (last_name [] link.items)) o ≡ Some next → IsNext f link next
    on None is e = absurd (none-some next e)
    on (Some other) is e =
        let own = cond_some (may_follow (last_name [] link.items) (Some other)) other next e in
        record { is = is ∙ ap (λ (l : Link). Some l) own.1; goes_on = subst (λ (l : Link). may_follow (last_name [] link.items) (Some l) ≡ true) own.1 own.0 }

first_on : (name : Name) (front back : List Item) → 0 < length front → are_after name front ≡ true → are_after name (front ++ back) ≡ true
first_on name [] back some is = absurd (omega (arith, some))
first_on name (item ∷ front) back some is = is

begins_after : (n : ℕ) (f : Blocks) (link : Link) (name : Name) → may_follow name (Some link) ≡ true → are_after name (items_from n f link) ≡ true
unfolding items_from
begins_after zero f link name is = (and_parts (is_later link) (are_after name link.items) is).1
begins_after (suc n) f link name is =
    let parts = and_parts (is_later link) (are_after name link.items) is in
    let some : 0 < length link.items = ltb-true 0 (length link.items) (and_parts link.chained (nat_lt 0 (length link.items)) parts.0).1 in
    first_on name link.items (option_map_or (items_from n f) (link_after f link) []) some parts.1

pub ascend_from : (n : ℕ) (f : Blocks) (node : Option (List ℕ)) (link : Link) → link_of node ≡ Some link → are_ascending (items_from n f link) ≡ true
unfolding items_from
ascend_from zero f node link is = node_ascends node link is
ascend_from (suc n) f node link is = on (link_after f link) refl (λ node next. ascend_from n f node next)
  where
    on : (o : Option Link) → link_after f link ≡ o → ((node : Option (List ℕ)) (next : Link) → link_of node ≡ Some next → are_ascending (items_from n f next) ≡ true) → are_ascending (link.items ++ option_map_or (items_from n f) o []) ≡ true
    on None none again = ap are_ascending (append-nil link.items) ∙ node_ascends node link is
    on (Some next) after again =
        let own = next_is f link next after in
        joined [] link.items (items_from n f next) (node_ascends node link is) (again (f link.next) next own.is) (begins_after n f next (last_name [] link.items) own.goes_on)

-- ---- elements of lists

pub in_none : {X : Type 0} (x : X) → Contains [] x → ⊥
in_none x (k, lt, is) = omega arith

pub head_in : {X : Type 0} (x : X) (xs : List X) → Contains (x ∷ xs) x
head_in x xs = (0, omega arith, refl)

pub later_in : {X : Type 0} (x y : X) (xs : List X) → Contains xs y → Contains (x ∷ xs) y
later_in x y xs (k, lt, is) = (suc k, omega arith, is)

pub one_is : {X : Type 0} (x y : X) → Contains (x ∷ []) y → y ≡ x
one_is x y (zero, lt, is) = sym is
one_is x y (suc k, lt, is) = absurd (omega arith)

pub first_or : {X : Type 0} (x y : X) (xs : List X) → Contains (x ∷ xs) y → (x ≡ y) ⊎ Contains xs y
first_or x y xs (zero, lt, is) = inl is
first_or x y xs (suc k, lt, is) = inr (k, omega arith, is)

pub in_left : {X : Type 0} (x : X) (xs ys : List X) → Contains xs x → Contains (xs ++ ys) x
in_left x [] ys h = absurd (in_none x h)
in_left x (y ∷ xs) ys h = elim (first_or y x xs h) [
  | inl is ↦ (0, omega arith, is)
  | inr more ↦ later_in y x (xs ++ ys) (in_left x xs ys more)
]

pub in_right : {X : Type 0} (x : X) (xs ys : List X) → Contains ys x → Contains (xs ++ ys) x
in_right x [] ys h = h
in_right x (y ∷ xs) ys h = later_in y x (xs ++ ys) (in_right x xs ys h)

-- an element of a `flat_map` is one of what an element brings
pub record IsBrought {X Y : Type 0} (g : X → List Y) (xs : List X) (y : Y) : Type 0 where
  pub by : X
  pub within : Contains xs by
  pub brings : Contains (g by) y

pub brought : {X Y : Type 0} (g : X → List Y) (xs : List X) (y : Y) → Contains (flat_map g xs) y → IsBrought g xs y
brought g [] y h = absurd (in_none y h)
brought g (x ∷ xs) y h = elim (Contains-append_cases (g x) (flat_map g xs) y h) [
  | inl own ↦ record { by = x; within = head_in x xs; brings = own }
  | inr more ↦ let rest = brought g xs y more in record { by = rest.by; within = later_in x rest.by xs rest.within; brings = rest.brings }
]

pub brings_in : {X Y : Type 0} (g : X → List Y) (xs : List X) (x : X) (y : Y) → Contains xs x → Contains (g x) y → Contains (flat_map g xs) y
brings_in g [] x y within own = absurd (in_none x within)
brings_in {X} {Y} g (z ∷ xs) x y within own = elim (first_or z x xs within) [
  | inl is ↦ in_left y (g z) (flat_map g xs) (subst (λ (w : X). Contains (g w) y) (sym is) own)
  | inr more ↦ in_right y (g z) (flat_map g xs) (brings_in g xs x y more own)
]

-- ---- paths of one name more

same_option : (o : Option Place) → option_and_then (λ next. Some next) o ≡ o
same_option None = refl
same_option (Some next) = refl

pub leads_more : (f : Blocks) (p : Path) (n : Name) (at : Place) → leads_left f at (p ++ n ∷ []) ≡ option_and_then (λ next. child_left f next n) (leads_left f at p)
leads_more f [] n at = same_option (child_left f at n)
leads_more f (m ∷ p) n at =
    elim (child_left f at m) as (λ o. option_and_then (λ next. leads_left f next (p ++ n ∷ [])) o ≡ option_and_then (λ next. child_left f next n) (option_and_then (λ next. leads_left f next p) o))
    [ None ↦ refl | Some next ↦ leads_more f p n next ]

path_more : (p : Path) (n : Name) → path_bytes (p ++ n ∷ []) ≡ path_bytes p ++ 47 ∷ n
path_more p n = flat_map-append (λ (name : Name). 47 ∷ name) p (n ∷ []) ∙ ap (λ (xs : List ℕ). path_bytes p ++ xs) (append-nil (47 ∷ n))

pub length_more : (p : Path) (n : Name) → length (p ++ n ∷ []) ≡ suc (length p)
length_more p n = length-append p (n ∷ []) ∙ omega arith

-- a path with names has a last one
pub record IsLonger (p : Path) : Type 0 where
  pub front : Path
  pub last : Name
  pub is : p ≡ front ++ last ∷ []

pub longer : (n : Name) (p : Path) → IsLonger (n ∷ p)
longer n [] = record { front = []; last = n; is = refl }
longer n (m ∷ p) = let rest = longer m p in record { front = n ∷ rest.front; last = rest.last; is = ap (λ (q : Path). n ∷ q) rest.is }

-- ---- what a directory has, and what is in it

module _ (f : Blocks) (block : ℕ) (link : Link) (is : link_of (f block) ≡ Some link) where
  pub items_are : items_left f block ≡ items_from most_after f link
  items_are = ap (λ (o : Option Link). option_map_or (items_from most_after f) o []) is

  item_named : (item : Item) → Contains (items_from most_after f link) item → child_left f (Dir block) item.name ≡ Some item.place
  item_named item within = ap (λ (items : List Item). named_place items item.name) items_are ∙ contained-named_place (items_from most_after f link) item (ascend_from most_after f (f block) link is) within

  named_item : (n : Name) (place : Place) → child_left f (Dir block) n ≡ Some place → (item : Item) × Contains (items_from most_after f link) item × (item.name ≡ n) × (item.place ≡ place)
  named_item n place e = named (items_from most_after f link) (sym (ap (λ (items : List Item). named_place items n) items_are) ∙ e)
    where
      named : (items : List Item) → named_place items n ≡ Some place → (item : Item) × Contains items item × (item.name ≡ n) × (item.place ≡ place)
      named [] e = absurd (none-some place e)
      named (item ∷ items) e = on (same_name item.name n) refl e (λ e. named items e)
        where
          on : (b : Bool) → same_name item.name n ≡ b → cond b (Some item.place) (named_place items n) ≡ Some place
              → (named_place items n ≡ Some place → (other : Item) × Contains items other × (other.name ≡ n) × (other.place ≡ place))
              → (other : Item) × Contains (item ∷ items) other × (other.name ≡ n) × (other.place ≡ place)
          on true same e again = (item, head_in item items, same_name-true item.name n same, same_Some item.place place e)
          on false other e again = let rest = again e in (rest.0, later_in item rest.0 items rest.1, rest.2, rest.3)

-- ---- directories of a level

record IsWay (f : Blocks) (root k : ℕ) (w : Way) : Type 0 where
  path : Path
  bytes : w.path ≡ path_bytes path
  long : length path ≡ k
  leads : leads_left f (Dir root) path ≡ Some (Dir w.block)

-- all directories whose paths have so many names
record AreWays (f : Blocks) (root k : ℕ) (ways : List Way) : Type 0 where
  right : (w : Way) → Contains ways w → IsWay f root k w
  all : (p : Path) (block : ℕ) → length p ≡ k → leads_left f (Dir root) p ≡ Some (Dir block) → Contains ways (way (path_bytes p) block)

abbrev some_place : Place → Option Place
some_place place = Some place

dir_is : (a b : ℕ) → Some (Dir a) ≡ Some (Dir b) → a ≡ b
dir_is a b e = cc

no_file : (a head size : ℕ) → Some (Dir a) ≡ Some (File head size) → ⊥
no_file a head size e = cc

ways_begin : (f : Blocks) (root : ℕ) → AreWays f root 0 (way [] root ∷ [])
ways_begin f root = record {
  right = λ w within.
      let is = one_is (way [] root) w within in
      record { path = []; bytes = ap (λ (v : Way). v.path) is; long = refl; leads = ap (λ (v : Way). Some (Dir v.block)) (sym is) };
  all = all;
}
  where
    all : (p : Path) (block : ℕ) → length p ≡ 0 → leads_left f (Dir root) p ≡ Some (Dir block) → Contains (way [] root ∷ []) (way (path_bytes p) block)
    all [] block long e = (0, omega arith, ap (way []) (dir_is root block e))
    all (n ∷ p) block long e = absurd (omega (arith, long))

-- what an entry of a directory leads to
pub item_leads : (f : Blocks) (root : ℕ) (p : Path) (block : ℕ) (link : Link) (item : Item) → leads_left f (Dir root) p ≡ Some (Dir block) → link_of (f block) ≡ Some link → Contains (items_from most_after f link) item
    → leads_left f (Dir root) (p ++ item.name ∷ []) ≡ Some item.place
item_leads f root p block link item leads is within =
    leads_more f p item.name (Dir root) ∙ ap (λ (o : Option Place). option_and_then (λ next. child_left f next item.name) o) leads ∙ item_named f block link is item within

path_item : (w : Way) (p : Path) (item : Item) → w.path ≡ path_bytes p → path_to w.path item ≡ path_bytes (p ++ item.name ∷ [])
path_item w p item bytes = ap (λ (xs : List ℕ). xs ++ 47 ∷ item.name) bytes ∙ sym (path_more p item.name)

way_under : (f : Blocks) (root k : ℕ) (w v : Way) → IsWay f root k w → Contains (ways_in f w) v → IsWay f root (suc k) v
way_under f root k w v own within = on (link_of (f w.block)) refl within
  where
    at : (link : Link) (item : Item) (place : Place) → link_of (f w.block) ≡ Some link → Contains (items_from most_after f link) item → item.place ≡ place → Contains (ways_at (path_to w.path item) place) v → IsWay f root (suc k) v
    at link item (File head size) is within same brings = absurd (in_none v brings)
    at link item (Dir block) is within same brings =
        let e = one_is (way (path_to w.path item) block) v brings in
        record {
          path = own.path ++ item.name ∷ [];
          bytes = ap (λ (u : Way). u.path) e ∙ path_item w own.path item own.bytes;
          long = length_more own.path item.name ∙ ap suc own.long;
          leads = item_leads f root own.path w.block link item own.leads is within ∙ ap some_place same ∙ ap (λ (u : Way). Some (Dir u.block)) (sym e);
        }

    on : (o : Option Link) → link_of (f w.block) ≡ o → Contains (option_map_or (ways_of_link most_after f w.path) o []) v → IsWay f root (suc k) v
    on None is h = absurd (in_none v h)
    on (Some link) is h =
        let by = brought (ways_item w.path) (items_from most_after f link) v h in
        at link by.by by.by.place is by.within refl by.brings

-- a path of one name more goes over an entry of a directory
pub record IsOver (f : Blocks) (root : ℕ) (front : Path) (n : Name) (place : Place) : Type 0 where
  pub block : ℕ
  pub leads : leads_left f (Dir root) front ≡ Some (Dir block)
  pub link : Link
  pub is : link_of (f block) ≡ Some link
  pub item : Item
  pub within : Contains (items_from most_after f link) item
  pub named : item.name ≡ n
  pub placed : item.place ≡ place

pub goes_over : (f : Blocks) (root : ℕ) (front : Path) (n : Name) (place : Place) → leads_left f (Dir root) (front ++ n ∷ []) ≡ Some place → IsOver f root front n place
goes_over f root front n place e = on (leads_left f (Dir root) front) refl (sym (leads_more f front n (Dir root)) ∙ e)
  where
    at : (block : ℕ) → leads_left f (Dir root) front ≡ Some (Dir block) → (o : Option Link) → link_of (f block) ≡ o → named_place (option_map_or (items_from most_after f) o []) n ≡ Some place → IsOver f root front n place
    at block leads None is e = absurd (none-some place e)
    at block leads (Some link) is e =
        let own = named_item f block link is n place (ap (λ (o : Option Link). named_place (option_map_or (items_from most_after f) o []) n) is ∙ e) in
        record { block = block; leads = leads; link = link; is = is; item = own.0; within = own.1; named = own.2; placed = own.3 }

    on : (o : Option Place) → leads_left f (Dir root) front ≡ o → option_and_then (λ next. child_left f next n) o ≡ Some place → IsOver f root front n place
    on None leads e = absurd (none-some place e)
    on (Some (File head size)) leads e = absurd (none-some place e)
    on (Some (Dir block)) leads e = at block leads (link_of (f block)) refl e

ways_next : (f : Blocks) (root k : ℕ) (ways : List Way) → AreWays f root k ways → AreWays f root (suc k) (flat_map (ways_in f) ways)
ways_next f root k ways are = record {
  right = λ v within. let by = brought (ways_in f) ways v within in way_under f root k by.by v (are.right by.by by.within) by.brings;
  all = all;
}
  where
    under : (front : Path) (n : Name) (block : ℕ) → length front ≡ k → leads_left f (Dir root) (front ++ n ∷ []) ≡ Some (Dir block) → Contains (flat_map (ways_in f) ways) (way (path_bytes (front ++ n ∷ [])) block)
    under front n block long e =
        let over = goes_over f root front n (Dir block) e in
        let w = way (path_bytes front) over.block in
        let v = way (path_bytes (front ++ n ∷ [])) block in
        let same : way (path_to w.path over.item) block ≡ v = ap (λ (m : Name). way (path_bytes front ++ 47 ∷ m) block) over.named ∙ ap (λ (xs : List ℕ). way xs block) (sym (path_more front n)) in
        let one : Contains (ways_at (path_to w.path over.item) (Dir block)) v = (0, omega arith, same) in
        let own : Contains (ways_item w.path over.item) v = subst (λ (place : Place). Contains (ways_at (path_to w.path over.item) place) v) (sym over.placed) one in
        let all_own : Contains (ways_of_link most_after f w.path over.link) v = brings_in (ways_item w.path) (items_from most_after f over.link) over.item v over.within own in
        let here : Contains (ways_in f w) v = subst (λ (o : Option Link). Contains (option_map_or (ways_of_link most_after f w.path) o []) v) (sym over.is) all_own in
        brings_in (ways_in f) ways w v (are.all front over.block long over.leads) here

    all : (p : Path) (block : ℕ) → length p ≡ suc k → leads_left f (Dir root) p ≡ Some (Dir block) → Contains (flat_map (ways_in f) ways) (way (path_bytes p) block)
    all [] block long e = absurd (omega (arith, long))
    all (n ∷ p) block long e =
        let own = longer n p in
        let count : length own.front ≡ k = omega (arith, ap length own.is, length_more own.front own.last, long) in
        subst (λ (q : Path). Contains (flat_map (ways_in f) ways) (way (path_bytes q) block)) (sym own.is)
        (under own.front own.last block count (ap (leads_left f (Dir root)) (sym own.is) ∙ e))

-- ---- what is told is lost

module _ (capacity : ℕ) (f : Blocks) (root : ℕ) where
  file_told : (k : ℕ) (w : Way) (l : Loss) → k < 16 → IsWay f root k w → (link : Link) → link_of (f w.block) ≡ Some link → (item : Item) → Contains (items_from most_after f link) item
      → (place : Place) → item.place ≡ place → Contains (lost_at capacity f (path_to w.path item) place) l → (p : Path) × (l.path ≡ path_bytes p) × IsLostAt capacity f root l.kind p
  file_told k w l few own link is item within (Dir block) same h = absurd (in_none l h)
  file_told k w l few own link is item within (File head size) same h = on (is_file capacity f head size) refl h
    where
      on : (b : Bool) → is_file capacity f head size ≡ b → Contains (cond b [] (loss LossKind.File (path_to w.path item) ∷ [])) l → (p : Path) × (l.path ≡ path_bytes p) × IsLostAt capacity f root l.kind p
      on true whole h = absurd (in_none l h)
      on false lost h =
          let e = one_is (loss LossKind.File (path_to w.path item)) l h in
          let most : length (own.path ++ item.name ∷ []) ≤ 16 = omega (arith, length_more own.path item.name, own.long, few) in (
            own.path ++ item.name ∷ [],
            ap (λ (m : Loss). m.path) e ∙ path_item w own.path item own.bytes,
            subst (λ (kind : LossKind). IsLostAt capacity f root kind (own.path ++ item.name ∷ [])) (sym (ap (λ (m : Loss). m.kind) e))
                (head, size, item_leads f root own.path w.block link item own.leads is within ∙ ap (λ (x : Place). Some x) same, lost, most),
          )

  entries_told : (k : ℕ) (w : Way) (l : Loss) → IsWay f root k w → (link : Link) → link_of (f w.block) ≡ Some link → (cut : Bool) → (cut ≡ true → ((k < 16) × (is_cut_from most_after f link ≡ true)) ⊎ ((k ≡ 16) × (0 < length link.items)))
      → Contains (lost_entries cut w.path) l → (p : Path) × (l.path ≡ path_bytes p) × IsLostAt capacity f root l.kind p
  entries_told k w l own link is false breaks h = absurd (in_none l h)
  entries_told k w l own link is true breaks h =
      let e = one_is (loss LossKind.Entries w.path) l h in (
        own.path,
        ap (λ (m : Loss). m.path) e ∙ own.bytes,
        subst (λ (kind : LossKind). IsLostAt capacity f root kind own.path) (sym (ap (λ (m : Loss). m.kind) e))
            (w.block, link, own.leads, is, subst (λ (j : ℕ). ((j < 16) × (is_cut_from most_after f link ≡ true)) ⊎ ((j ≡ 16) × (0 < length link.items))) (sym own.long) (breaks refl)),
      )

  directory_told : (k : ℕ) (w : Way) (l : Loss) → k ≤ 16 → IsWay f root k w → link_of (f w.block) ≡ None → Contains (loss LossKind.Directory w.path ∷ []) l → (p : Path) × (l.path ≡ path_bytes p) × IsLostAt capacity f root l.kind p
  directory_told k w l few own is h =
      let e = one_is (loss LossKind.Directory w.path) l h in
      let most : length own.path ≤ 16 = omega (arith, own.long, few) in (
        own.path,
        ap (λ (m : Loss). m.path) e ∙ own.bytes,
        subst (λ (kind : LossKind). IsLostAt capacity f root kind own.path) (sym (ap (λ (m : Loss). m.kind) e)) (w.block, own.leads, is, most),
      )

  told_in : (k : ℕ) (w : Way) (l : Loss) → k < 16 → IsWay f root k w → Contains (lost_in capacity f w) l → (p : Path) × (l.path ≡ path_bytes p) × IsLostAt capacity f root l.kind p
  told_in k w l few own h = on (link_of (f w.block)) refl h
    where
      both : (link : Link) → link_of (f w.block) ≡ Some link → Contains (flat_map (lost_item capacity f w.path) (items_from most_after f link)) l ⊎ Contains (lost_entries (is_cut_from most_after f link) w.path) l
          → (p : Path) × (l.path ≡ path_bytes p) × IsLostAt capacity f root l.kind p
      both link is (inl files) =
          let by = brought (lost_item capacity f w.path) (items_from most_after f link) l files in
          file_told k w l few own link is by.by by.within by.by.place refl by.brings
      both link is (inr entries) = entries_told k w l own link is (is_cut_from most_after f link) (λ cut. inl (few, cut)) entries

      on : (o : Option Link) → link_of (f w.block) ≡ o → Contains (option_map_or (lost_of_link most_after capacity f w.path) o (loss LossKind.Directory w.path ∷ [])) l → (p : Path) × (l.path ≡ path_bytes p) × IsLostAt capacity f root l.kind p
      on None is h = directory_told k w l (omega (arith, few)) own is h
      on (Some link) is h = both link is (Contains-append_cases (flat_map (lost_item capacity f w.path) (items_from most_after f link)) (lost_entries (is_cut_from most_after f link) w.path) l h)

  some_length : (n : ℕ) → not (n == 0) ≡ true → 0 < n
  some_length zero e = absurd (true≢false (sym e))
  some_length (suc n) e = omega arith

  told_under : (w : Way) (l : Loss) → IsWay f root 16 w → Contains (lost_under f w) l → (p : Path) × (l.path ≡ path_bytes p) × IsLostAt capacity f root l.kind p
  told_under w l own h = on (link_of (f w.block)) refl h
    where
      on : (o : Option Link) → link_of (f w.block) ≡ o → Contains (option_map_or (λ link. lost_entries (not (length link.items == 0)) w.path) o (loss LossKind.Directory w.path ∷ [])) l → (p : Path) × (l.path ≡ path_bytes p) × IsLostAt capacity f root l.kind p
      on None is h = directory_told 16 w l (omega arith) own is h
      on (Some link) is h = entries_told 16 w l own link is (not (length link.items == 0)) (λ some. inr (refl, some_length (length link.items) some)) h

  told_from : (levels k : ℕ) (ways : List Way) (l : Loss) → k + levels ≡ 16 → AreWays f root k ways → Contains (lost_from levels capacity f ways) l → (p : Path) × (l.path ≡ path_bytes p) × IsLostAt capacity f root l.kind p
  unfolding lost_from
  told_from zero k ways l sum are h =
      let by = brought (lost_under f) ways l h in
      let last : k ≡ 16 = omega (arith, sum) in
      told_under by.by l (subst (λ (j : ℕ). IsWay f root j by.by) last (are.right by.by by.within)) by.brings
  told_from (suc levels) k ways l sum are h = elim (Contains-append_cases (flat_map (lost_in capacity f) ways) (lost_from levels capacity f (flat_map (ways_in f) ways)) l h) [
    | inl here ↦ let by = brought (lost_in capacity f) ways l here in told_in k by.by l (omega (arith, sum)) (are.right by.by by.within) by.brings
    | inr later ↦ told_from levels (suc k) (flat_map (ways_in f) ways) l (omega (arith, sum)) (ways_next f root k ways are) later
  ]

  -- ---- what is lost is told

  -- the directory of a path tells something at its level
  record Tells (front : Path) (block : ℕ) (l : Loss) : Type 0 where
    leads : leads_left f (Dir root) front ≡ Some (Dir block)
    few : length front ≤ 16
    inside : length front < 16 → Contains (lost_in capacity f (way (path_bytes front) block)) l
    last : length front ≡ 16 → Contains (lost_under f (way (path_bytes front) block)) l

  tells_from : (levels k : ℕ) (ways : List Way) (front : Path) (block : ℕ) (l : Loss) → k + levels ≡ 16 → AreWays f root k ways → k ≤ length front → Tells front block l → Contains (lost_from levels capacity f ways) l
  unfolding lost_from
  tells_from zero k ways front block l sum are least tells =
      let few = tells.few in
      let long : length front ≡ 16 = omega (arith, sum, least, few) in
      brings_in (lost_under f) ways (way (path_bytes front) block) l (are.all front block (omega (arith, long, sum)) tells.leads) (tells.last long)
  tells_from (suc levels) k ways front block l sum are least tells = elim (cases_lt k (length front)) [
    | inl more ↦
        in_right l (flat_map (lost_in capacity f) ways) (lost_from levels capacity f (flat_map (ways_in f) ways))
        (tells_from levels (suc k) (flat_map (ways_in f) ways) front block l (omega (arith, sum)) (ways_next f root k ways are) (omega (arith, more)) tells)
    | inr here ↦
        let long : length front ≡ k = omega (arith, here, least) in
        in_left l (flat_map (lost_in capacity f) ways) (lost_from levels capacity f (flat_map (ways_in f) ways))
        (brings_in (lost_in capacity f) ways (way (path_bytes front) block) l (are.all front block long tells.leads) (tells.inside (omega (arith, long, sum))))
  ]

  tells_all : (front : Path) (block : ℕ) (l : Loss) → Tells front block l → Contains (lost_of capacity f root) l
  tells_all front block l tells = tells_from 16 0 (way [] root ∷ []) front block l refl (ways_begin f root) (omega arith) tells

  in_with : (w : Way) (link : Link) (l : Loss) → link_of (f w.block) ≡ Some link → Contains (lost_of_link most_after capacity f w.path link) l → Contains (lost_in capacity f w) l
  in_with w link l is h = subst (λ (o : Option Link). Contains (option_map_or (lost_of_link most_after capacity f w.path) o (loss LossKind.Directory w.path ∷ [])) l) (sym is) h

  file_lost : (p : Path) (head size : ℕ) → leads_left f (Dir root) p ≡ Some (File head size) → is_file capacity f head size ≡ false → length p ≤ 16 → Contains (lost_of capacity f root) (loss LossKind.File (path_bytes p))
  file_lost [] head size leads lost few = absurd (no_file root head size leads)
  file_lost (n ∷ p) head size leads lost few =
      let own = longer n p in
      let over = goes_over f root own.front own.last (File head size) (ap (leads_left f (Dir root)) (sym own.is) ∙ leads) in
      let path = path_bytes own.front in
      let l = loss LossKind.File (path_bytes (n ∷ p)) in
      let same : loss LossKind.File (path_to path over.item) ≡ l = ap (λ (m : Name). loss LossKind.File (path ++ 47 ∷ m)) over.named ∙ ap (loss LossKind.File) (sym (path_more own.front own.last)) ∙ ap (λ (q : Path). loss LossKind.File (path_bytes q)) (sym own.is) in
      let one : Contains (lost_at capacity f (path_to path over.item) (File head size)) l = subst (λ (b : Bool). Contains (cond b [] (loss LossKind.File (path_to path over.item) ∷ [])) l) (sym lost) (0, omega arith, same) in
      let entry : Contains (lost_item capacity f path over.item) l = subst (λ (place : Place). Contains (lost_at capacity f (path_to path over.item) place) l) (sym over.placed) one in
      let files = brings_in (lost_item capacity f path) (items_from most_after f over.link) over.item l over.within entry in
      let count : length own.front < 16 = omega (arith, ap length own.is, length_more own.front own.last, few) in
      tells_all own.front over.block l (record {
        leads = over.leads;
        few = omega (arith, count);
        inside = λ _. in_with (way path over.block) over.link l over.is (in_left l (flat_map (lost_item capacity f path) (items_from most_after f over.link)) (lost_entries (is_cut_from most_after f over.link) path) files);
        last = λ long. absurd (omega (arith, long, count));
      })

  directory_lost : (p : Path) (block : ℕ) → leads_left f (Dir root) p ≡ Some (Dir block) → link_of (f block) ≡ None → length p ≤ 16 → Contains (lost_of capacity f root) (loss LossKind.Directory (path_bytes p))
  directory_lost p block leads is few =
      let l = loss LossKind.Directory (path_bytes p) in
      tells_all p block l (record {
        leads = leads;
        few = few;
        inside = λ _. subst (λ (o : Option Link). Contains (option_map_or (lost_of_link most_after capacity f (path_bytes p)) o (l ∷ [])) l) (sym is) (head_in l []);
        last = λ _. subst (λ (o : Option Link). Contains (option_map_or (λ link. lost_entries (not (length link.items == 0)) (path_bytes p)) o (l ∷ [])) l) (sym is) (head_in l []);
      })

  not_none : (n : ℕ) → 0 < n → not (n == 0) ≡ true
  not_none n some = ap not (ne_eqb n 0 (λ e. omega (arith, e, some)))

  entries_lost : (p : Path) (block : ℕ) (link : Link) → leads_left f (Dir root) p ≡ Some (Dir block) → link_of (f block) ≡ Some link
      → ((length p < 16) × (is_cut_from most_after f link ≡ true)) ⊎ ((length p ≡ 16) × (0 < length link.items)) → Contains (lost_of capacity f root) (loss LossKind.Entries (path_bytes p))
  entries_lost p block link leads is (inl (few, cut)) =
      let l = loss LossKind.Entries (path_bytes p) in
      let own : Contains (lost_entries (is_cut_from most_after f link) (path_bytes p)) l = subst (λ (b : Bool). Contains (lost_entries b (path_bytes p)) l) (sym cut) (head_in l []) in
      tells_all p block l (record {
        leads = leads;
        few = omega (arith, few);
        inside = λ _. in_with (way (path_bytes p) block) link l is (in_right l (flat_map (lost_item capacity f (path_bytes p)) (items_from most_after f link)) (lost_entries (is_cut_from most_after f link) (path_bytes p)) own);
        last = λ long. absurd (omega (arith, long, few));
      })
  entries_lost p block link leads is (inr (long, some)) =
      let l = loss LossKind.Entries (path_bytes p) in
      let own : Contains (lost_entries (not (length link.items == 0)) (path_bytes p)) l = subst (λ (b : Bool). Contains (lost_entries b (path_bytes p)) l) (sym (not_none (length link.items) some)) (head_in l []) in
      tells_all p block l (record {
        leads = leads;
        few = omega (arith, long);
        inside = λ few. absurd (omega (arith, few, long));
        last = λ _. subst (λ (o : Option Link). Contains (option_map_or (λ m. lost_entries (not (length m.items == 0)) (path_bytes p)) o (loss LossKind.Directory (path_bytes p) ∷ [])) l) (sym is) own;
      })

  lost_at_kind : (kind : LossKind) (p : Path) → IsLostAt capacity f root kind p → Contains (lost_of capacity f root) (loss kind (path_bytes p))
  lost_at_kind LossKind.File p (head, size, leads, lost, few) = file_lost p head size leads lost few
  lost_at_kind LossKind.Directory p (block, leads, is, few) = directory_lost p block leads is few
  lost_at_kind LossKind.Entries p (block, link, leads, is, breaks) = entries_lost p block link leads is breaks

pub losses_are : LossLaw
losses_are capacity f root l = (
  λ h. told_from capacity f root 16 0 (way [] root ∷ []) l refl (ways_begin f root) h,
  λ (p, path, lost). subst (λ (xs : List ℕ). Contains (lost_of capacity f root) (loss l.kind xs)) (sym path) (lost_at_kind capacity f root l.kind p lost),
)
