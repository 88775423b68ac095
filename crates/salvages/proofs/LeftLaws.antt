-- All that paths of a tree lead to is listed.
use Rattle.std.proofs.Common.{◌≡◌, ◌⊎◌, inl, inr, ℕ, zero, suc, ◌+◌, ◌<◌, ◌≤◌, Bool, true, false, cond, Option, Some, None, List, [], ◌∷◌, ◌++◌, length, map, refl, sym, ap, subst, ◌∙◌, arith}
use Rattle.std.specs.Prelude.{Contains, nat_lt}
use Rattle.std.specs.Option.{option_map_or}
use Rattle.std.specs.List.{flat_map}
use Rattle.std.proofs.lemmas.Bool.{cases_lt, lt-ltb}
use Rattle.std.proofs.lemmas.List.Elements.{Contains-append_cases}
use Rattle.std.proofs.lemmas.Option.{same_Some}
use Rattle.fs_types.specs.Names.{Name, Path}
use Rattle.node_format.specs.Items.{Item}
use Rattle.node_format.specs.Links.{Link}
use Rattle.node_format.specs.declared.place.Place.{Place}
use Rattle.node_format.specs.declared.place.Place.TheVariants.{Dir, File}
use Rattle.nodes.specs.Bodies.{Blocks}
use Rattle.nodes.specs.Chains.{link_of, most_after}
use Rattle.salvages.specs.Lefts.{left, left_item, left_in, next_left, left_from, left_of}
use Rattle.known_nodes.specs.Rests.{items_from, items_left, leads_left}
use Rattle.salvages.specs.declared.lefts.Left.{Left}
use Rattle.salvages.proofs.LossLaws.{in_none, head_in, later_in, one_is, first_or, in_left, in_right, brought, brings_in, length_more, longer, items_are, item_leads, goes_over}

-- ---- elements of a `map`

record IsMapped {X Y : Type 0} (g : X → Y) (xs : List X) (y : Y) : Type 0 where
  by : X
  within : Contains xs by
  gives : g by ≡ y

mapped : {X Y : Type 0} (g : X → Y) (xs : List X) (y : Y) → Contains (map g xs) y → IsMapped g xs y
mapped g [] y h = absurd (in_none y h)
mapped g (x ∷ xs) y h = elim (first_or (g x) y (map g xs) h) [
  | inl is ↦ record { by = x; within = head_in x xs; gives = is }
  | inr more ↦ let rest = mapped g xs y more in record { by = rest.by; within = later_in x rest.by xs rest.within; gives = rest.gives }
]

pub in_map : {X Y : Type 0} (g : X → Y) (xs : List X) (x : X) → Contains xs x → Contains (map g xs) (g x)
in_map g [] x h = absurd (in_none x h)
in_map {X} {Y} g (z ∷ xs) x h = elim (first_or z x xs h) [
  | inl is ↦ subst (λ (w : X). Contains (g z ∷ map g xs) (g w)) is (head_in (g z) (map g xs))
  | inr more ↦ later_in (g z) (g x) (map g xs) (in_map g xs x more)
]

module _ (f : Blocks) (root : ℕ) where
  -- what a path of so many names leads to
  record IsLeftAt (k : ℕ) (l : Left) : Type 0 where
    long : length l.path ≡ k
    leads : leads_left f (Dir root) l.path ≡ Some l.place

  -- all that such paths lead to
  record AreLeft (k : ℕ) (lefts : List Left) : Type 0 where
    right : (l : Left) → Contains lefts l → IsLeftAt k l
    all : (p : Path) (place : Place) → length p ≡ k → leads_left f (Dir root) p ≡ Some place → Contains lefts (left p place)

  abbrev some_place : Place → Option Place
  some_place place = Some place

  lefts_begin : AreLeft 0 (left [] (Dir root) ∷ [])
  lefts_begin = record {
    right = λ l within.
        let is = one_is (left [] (Dir root)) l within in
        record { long = ap (λ (m : Left). length m.path) is; leads = subst (λ (m : Left). leads_left f (Dir root) m.path ≡ Some m.place) (sym is) refl };
    all = all;
  }
    where
      all : (p : Path) (place : Place) → length p ≡ 0 → leads_left f (Dir root) p ≡ Some place → Contains (left [] (Dir root) ∷ []) (left p place)
      all [] place long e = (0, omega arith, ap (left []) (same_Some (Dir root) place e))
      all (n ∷ p) place long e = absurd (omega (arith, long))

  -- what stands right in a directory
  left_under : (k : ℕ) (l m : Left) → IsLeftAt k l → Contains (next_left f l) m → IsLeftAt (suc k) m
  left_under k l m own within = on l.place refl within
    where
      at : (block : ℕ) (link : Link) → l.place ≡ Dir block → link_of (f block) ≡ Some link → Contains (map (left_item l.path) (items_left f block)) m → IsLeftAt (suc k) m
      at block link same is h =
          let by = mapped (left_item l.path) (items_left f block) m h in
          let item = by.by in
          let there : Contains (items_from most_after f link) item = subst (λ (items : List Item). Contains items item) (items_are f block link is) by.within in
          let leads = item_leads f root l.path block link item (own.leads ∙ ap some_place same) is there in
          subst (λ (r : Left). IsLeftAt (suc k) r) by.gives (record { long = length_more l.path item.name ∙ ap suc own.long; leads = leads })

      linked : (block : ℕ) → l.place ≡ Dir block → (o : Option Link) → link_of (f block) ≡ o → Contains (map (left_item l.path) (option_map_or (items_from most_after f) o [])) m → IsLeftAt (suc k) m
      linked block same None is h = absurd (in_none m h)
      linked block same (Some link) is h = at block link same is (subst (λ (o : Option Link). Contains (map (left_item l.path) (option_map_or (items_from most_after f) o [])) m) (sym is) h)

      in_directory : (block : ℕ) → l.place ≡ Dir block → (b : Bool) → Contains (cond b (map (left_item l.path) (items_left f block)) []) m → IsLeftAt (suc k) m
      in_directory block same false h = absurd (in_none m h)
      in_directory block same true h = linked block same (link_of (f block)) refl h

      on : (place : Place) → l.place ≡ place → Contains (left_in f l.path place) m → IsLeftAt (suc k) m
      on (File head size) same h = absurd (in_none m h)
      on (Dir block) same h = in_directory block same (nat_lt (length l.path) 16) h

  lefts_next : (k : ℕ) (lefts : List Left) → k < 16 → AreLeft k lefts → AreLeft (suc k) (flat_map (next_left f) lefts)
  lefts_next k lefts few are = record {
    right = λ m within. let by = brought (next_left f) lefts m within in left_under k by.by m (are.right by.by by.within) by.brings;
    all = all;
  }
    where
      under : (front : Path) (n : Name) (place : Place) → length front ≡ k → leads_left f (Dir root) (front ++ n ∷ []) ≡ Some place → Contains (flat_map (next_left f) lefts) (left (front ++ n ∷ []) place)
      under front n place long e =
          let over = goes_over f root front n place e in
          let items = items_left f over.block in
          let there : Contains items over.item = subst (λ (xs : List Item). Contains xs over.item) (sym (items_are f over.block over.link over.is)) over.within in
          let one : Contains (map (left_item front) items) (left_item front over.item) = in_map (left_item front) items over.item there in
          let same : left_item front over.item ≡ left (front ++ n ∷ []) place = (λ i. left (front ++ over.named i ∷ []) (over.placed i)) in
          let own : Contains (map (left_item front) items) (left (front ++ n ∷ []) place) = subst (λ (m : Left). Contains (map (left_item front) items) m) same one in
          let short : nat_lt (length front) 16 ≡ true = lt-ltb (length front) 16 (omega (arith, long, few)) in
          let here : Contains (next_left f (left front (Dir over.block))) (left (front ++ n ∷ []) place) = subst (λ (b : Bool). Contains (cond b (map (left_item front) items) []) (left (front ++ n ∷ []) place)) (sym short) own in
          brings_in (next_left f) lefts (left front (Dir over.block)) (left (front ++ n ∷ []) place) (are.all front (Dir over.block) long over.leads) here

      all : (p : Path) (place : Place) → length p ≡ suc k → leads_left f (Dir root) p ≡ Some place → Contains (flat_map (next_left f) lefts) (left p place)
      all [] place long e = absurd (omega (arith, long))
      all (n ∷ p) place long e =
          let own = longer n p in
          let count : length own.front ≡ k = omega (arith, ap length own.is, length_more own.front own.last, long) in
          subst (λ (q : Path). Contains (flat_map (next_left f) lefts) (left q place)) (sym own.is)
          (under own.front own.last place count (ap (leads_left f (Dir root)) (sym own.is) ∙ e))

  right_from : (levels k : ℕ) (lefts : List Left) (l : Left) → k + levels ≡ 16 → AreLeft k lefts → Contains (left_from levels f lefts) l → (leads_left f (Dir root) l.path ≡ Some l.place) × (length l.path ≤ 16)
  unfolding left_from
  right_from zero k lefts l sum are h = let own = are.right l h in (own.leads, omega (arith, own.long, sum))
  right_from (suc levels) k lefts l sum are h = elim (Contains-append_cases lefts (left_from levels f (flat_map (next_left f) lefts)) l h) [
    | inl here ↦ let own = are.right l here in (own.leads, omega (arith, own.long, sum))
    | inr later ↦ right_from levels (suc k) (flat_map (next_left f) lefts) l (omega (arith, sum)) (lefts_next k lefts (omega (arith, sum)) are) later
  ]

  all_from : (levels k : ℕ) (lefts : List Left) (p : Path) (place : Place) → k + levels ≡ 16 → AreLeft k lefts → k ≤ length p → length p ≤ 16 → leads_left f (Dir root) p ≡ Some place → Contains (left_from levels f lefts) (left p place)
  unfolding left_from
  all_from zero k lefts p place sum are least most e = are.all p place (omega (arith, sum, least, most)) e
  all_from (suc levels) k lefts p place sum are least most e = elim (cases_lt k (length p)) [
    | inl more ↦
        in_right (left p place) lefts (left_from levels f (flat_map (next_left f) lefts))
        (all_from levels (suc k) (flat_map (next_left f) lefts) p place (omega (arith, sum)) (lefts_next k lefts (omega (arith, sum)) are) (omega (arith, more)) most e)
    | inr here ↦ in_left (left p place) lefts (left_from levels f (flat_map (next_left f) lefts)) (are.all p place (omega (arith, here, least)) e)
  ]

  -- what is listed is what paths that are not too long lead to
  pub left_right : (l : Left) → Contains (left_of f root) l → (leads_left f (Dir root) l.path ≡ Some l.place) × (length l.path ≤ 16)
  left_right l h = right_from 16 0 (left [] (Dir root) ∷ []) l refl lefts_begin h

  pub left_all : (p : Path) (place : Place) → length p ≤ 16 → leads_left f (Dir root) p ≡ Some place → Contains (left_of f root) (left p place)
  left_all p place most e = all_from 16 0 (left [] (Dir root) ∷ []) p place refl lefts_begin (omega arith) most e
