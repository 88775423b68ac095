-- What is left is listed, and made.
use Rattle.std.proofs.Common.{◌≡◌, ◌∙◌, ◌⊎◌, inl, inr, ℕ, zero, suc, ◌+◌, ◌<◌, ◌≤◌, Bool, true, false, Option, Some, None, List, [], ◌∷◌, ◌++◌, length, map, take, get_or, refl, sym, ap, arith}
use Rattle.std.specs.Prelude.{nat_le, sum_by}
use Rattle.std.specs.Option.{option_map_or}
use Rattle.std.specs.List.{flat_map}
use Rattle.std.proofs.lemmas.List.{append-nil, append_assoc, map-append, take_all, take_more}
use Rattle.std.proofs.lemmas.List.Concat.{flat_map-append}
use Rattle.std.proofs.lemmas.List.Sums.{sum_by-append, sum_by-take-le}
use Rattle.fs_types.specs.Names.{Path}
use Rattle.fs_types.specs.declared.call.Call.{Call}
use Rattle.plain_trees.specs.Contents.{Entry}
use Rattle.node_format.specs.Items.{Item}
use Rattle.node_format.specs.Links.{Link}
use Rattle.nodes.specs.Bodies.{Blocks}
use Rattle.salvages.specs.Lefts.{left_from, left_item, made_at, next_left}
use Rattle.known_nodes.specs.Rests.{link_after, items_from}
use Rattle.salvages.specs.declared.lefts.Left.{Left}

-- ---- the nodes of a directory

module _ (f : Blocks) (path : Path) where
  items_end : (n : ℕ) (link : Link) → (n ≡ 0) ⊎ (link_after f link ≡ None) → items_from n f link ≡ link.items
  unfolding items_from
  items_end zero link end = refl
  items_end (suc n) link (inl wrong) = absurd (omega (arith, wrong))
  items_end (suc n) link (inr none) = ap (λ (o : Option Link). link.items ++ option_map_or (items_from n f) o []) none ∙ append-nil link.items

  items_more : (n : ℕ) (link next : Link) → link_after f link ≡ Some next → items_from (suc n) f link ≡ link.items ++ items_from n f next
  unfolding items_from
  items_more n link next is = ap (λ (o : Option Link). link.items ++ option_map_or (items_from n f) o []) is

  -- no node is looked at after this one
  pub nodes_end : (n : ℕ) (link : Link) (items : List Item) (before after : List Left) → (n ≡ 0) ⊎ (link_after f link ≡ None) → items ≡ link.items → after ≡ before ++ map (left_item path) items
      → after ≡ before ++ map (left_item path) (items_from n f link)
  nodes_end n link items before after end same is = is ∙ ap (λ (xs : List Item). before ++ map (left_item path) xs) (same ∙ sym (items_end n link end))

  pub nodes_more : (n m : ℕ) (link next : Link) (items : List Item) (before mid after : List Left) → n ≡ suc m → link_after f link ≡ Some next → items ≡ link.items → mid ≡ before ++ map (left_item path) items
      → after ≡ mid ++ map (left_item path) (items_from m f next) → after ≡ before ++ map (left_item path) (items_from n f link)
  nodes_more n m link next items before mid after more then same first rest =
      rest ∙ ap (λ (xs : List Left). xs ++ map (left_item path) (items_from m f next)) first ∙ append_assoc before (map (left_item path) items) (map (left_item path) (items_from m f next))
      ∙ ap (λ (xs : List Left). before ++ xs) (sym (map-append (left_item path) items (items_from m f next)))
      ∙ ap (λ (xs : List Item). before ++ map (left_item path) (xs ++ items_from m f next)) same
      ∙ ap (λ (xs : List Item). before ++ map (left_item path) xs) (sym (items_more m link next then))
      ∙ ap (λ (k : ℕ). before ++ map (left_item path) (items_from k f link)) (sym more)

-- ---- levels

pub level_left : (f : Blocks) (all before after : List Left) (k n : ℕ) (lefts next : List Left) → k ≡ suc n → before ++ left_from k f lefts ≡ all → after ≡ before ++ lefts → next ≡ flat_map (next_left f) lefts → after ++ left_from n f next ≡ all
unfolding left_from
level_left f all before after k n lefts next more is added are =
    (λ i. added i ++ left_from n f (are i)) ∙ append_assoc before lefts (left_from n f (flat_map (next_left f) lefts)) ∙ ap (λ (m : ℕ). before ++ left_from m f lefts) (sym more) ∙ is

pub last_left : (f : Blocks) (all before after : List Left) (k : ℕ) (lefts : List Left) → k ≡ 0 → before ++ left_from k f lefts ≡ all → after ≡ before ++ lefts → after ≡ all
unfolding left_from
last_left f all before after k lefts last is added = added ∙ ap (λ (m : ℕ). before ++ left_from m f lefts) (sym last) ∙ is

-- ---- one more of a list

pub brings_more : {X Y : Type 0} (g : X → List Y) (xs : List X) (i : ℕ) (x : X) (before all next : List Y) → i < length xs → x ≡ get_or xs i x → all ≡ before ++ flat_map g (take i xs) → next ≡ all ++ g x → next ≡ before ++ flat_map g (take (i + 1) xs)
brings_more {X} {Y} g xs i x before all next within at is more =
    let one : flat_map g (take (i + 1) xs) ≡ flat_map g (take i xs) ++ g x =
    ap (flat_map g) (take_more xs i x within) ∙ flat_map-append g (take i xs) (get_or xs i x ∷ []) ∙ ap (λ (ys : List Y). flat_map g (take i xs) ++ ys) (append-nil (g (get_or xs i x)) ∙ ap g (sym at)) in
    more ∙ ap (λ (ys : List Y). ys ++ g x) is ∙ append_assoc before (flat_map g (take i xs)) (g x) ∙ ap (λ (ys : List Y). before ++ ys) (sym one)

pub sums_more : {X : Type 0} (g : X → ℕ) (xs : List X) (i : ℕ) (x : X) → i < length xs → x ≡ get_or xs i x → sum_by g (take (i + 1) xs) ≡ sum_by g (take i xs) + g x
sums_more {X} g xs i x within at =
    let all : sum_by g (take (i + 1) xs) ≡ sum_by g (take i xs ++ get_or xs i x ∷ []) = ap (sum_by g) (take_more xs i x within) in
    let parts = sum_by-append g (take i xs) (get_or xs i x ∷ []) in
    let own : g x ≡ g (get_or xs i x) = ap g at in
    omega (arith, all, parts, own)

-- more than there may be, with those after them too
pub sums_past : {X : Type 0} (g : X → ℕ) (xs : List X) (i most left : ℕ) (x : X) → i < length xs → x ≡ get_or xs i x → left + sum_by g (take i xs) ≡ most → left < g x → most < sum_by g xs
sums_past {X} g xs i most left x within at is past =
    let one = sums_more g xs i x within at in
    let least = sum_by-take-le g xs (i + 1) in
    omega (arith, one, least, is, past)

pub sums_within : {X : Type 0} (g : X → ℕ) (xs : List X) (i most left : ℕ) → length xs ≤ i → left + sum_by g (take i xs) ≡ most → sum_by g xs ≤ most
sums_within {X} g xs i most left past is =
    let all : sum_by g (take i xs) ≡ sum_by g xs = ap (sum_by g) (take_all i xs past) in
    omega (arith, all, is)

-- ---- the call for a path

pub made_root : (p : Path) (o : Option Entry) → length p ≡ 0 → made_at p o ≡ []
made_root [] o none = refl
made_root (n ∷ p) o none = absurd (omega (arith, none))

pub made_none : (p : Path) → made_at p None ≡ []
made_none [] = refl
made_none (n ∷ p) = refl

pub made_dir : (p : Path) → 0 < length p → made_at p (Some Entry.Dir) ≡ Call.Mkdir p ∷ []
made_dir [] some = absurd (omega (arith, some))
made_dir (n ∷ p) some = refl

pub made_file : (p : Path) (bytes : List ℕ) → 0 < length p → made_at p (Some (Entry.File bytes)) ≡ Call.WriteFile p bytes ∷ []
made_file [] bytes some = absurd (omega (arith, some))
made_file (n ∷ p) bytes some = refl
