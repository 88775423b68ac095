-- What is found is added up.
use Rattle.std.proofs.Common.{◌≡◌, ℕ, zero, suc, ◌+◌, ◌≤◌, ◌⊎◌, inl, inr, Bool, Option, Some, None, List, [], ◌∷◌, ◌++◌, length, refl, sym, ap, subst, ◌∙◌, arith}
use Rattle.std.specs.Prelude.{sum_by, ◌==◌, not}
use Rattle.std.specs.Option.{option_map_or}
use Rattle.std.specs.List.{flat_map}
use Rattle.std.proofs.lemmas.List.{append-nil, append_assoc}
use Rattle.std.proofs.lemmas.List.Concat.{flat_map-append}
use Rattle.std.proofs.lemmas.List.Sums.{sum_by-append}
use Rattle.node_format.specs.Items.{Item}
use Rattle.node_format.specs.Links.{Link}
use Rattle.nodes.specs.Bodies.{Blocks}
use Rattle.nodes.specs.Chains.{link_of, most_after}
use Rattle.known_nodes.specs.Rests.{link_after, items_from, is_cut_from}
use Rattle.salvages.specs.Losses.{Adds, Uncounted, losses_cost, lost_item, ways_item, item_cost, lost_entries, lost_of_link, ways_of_link, link_cost, loss, lost_in, ways_in, cost_in}
use Rattle.salvages.specs.declared.found.Found.{Found}
use Rattle.salvages.specs.declared.found.Way.{Way}
use Rattle.salvages.specs.declared.losses.Loss.{Loss}
use Rattle.salvages.specs.declared.losses.LossFault.{LossFault}
use Rattle.salvages.specs.declared.losses.LossKind.{LossKind}

pub adds_none : (f : Found) → Adds [] [] 0 f f
adds_none f = record { losses_are = sym (append-nil f.losses.items); ways_are = sym (append-nil f.ways.items); cost_is = omega arith }

pub adds_on : {l m : List Loss} {v w : List Way} {c d : ℕ} {a b e : Found} → Adds l v c a b → Adds m w d b e → Adds (l ++ m) (v ++ w) (c + d) a e
adds_on {l} {m} {v} {w} {c} {d} {a} {b} {e} first second = record {
  losses_are = second.losses_are ∙ ap (λ (xs : List Loss). xs ++ m) first.losses_are ∙ append_assoc a.losses.items l m;
  ways_are = second.ways_are ∙ ap (λ (xs : List Way). xs ++ w) first.ways_are ∙ append_assoc a.ways.items v w;
  cost_is = let p = first.cost_is in let q = second.cost_is in omega arith;
}

pub adds_as : {l m : List Loss} {v w : List Way} {c d : ℕ} {a b : Found} → l ≡ m → v ≡ w → c ≡ d → Adds l v c a b → Adds m w d a b
adds_as {l} {m} {v} {w} {c} {d} {a} {b} losses ways cost adds = record {
  losses_are = adds.losses_are ∙ ap (λ (xs : List Loss). a.losses.items ++ xs) losses;
  ways_are = adds.ways_are ∙ ap (λ (xs : List Way). a.ways.items ++ xs) ways;
  cost_is = let p = adds.cost_is in omega (arith, p, cost);
}

-- what costs too much before costs too much after
pub uncounted_more : (c d : ℕ) (why : LossFault) → c ≤ d → Uncounted c why → Uncounted d why
uncounted_more c d (LossFault.Refused fault) le is = is
uncounted_more c d LossFault.TooManyLines le much = omega (arith, le, much)

-- a part of all was added, and the rest is left
pub record IsLeft (all left : List Loss) (ways ways_left : List Way) (cost cost_left : ℕ) (old new : Found) : Type 0 where
  pub losses_are : new.losses.items ++ left ≡ old.losses.items ++ all
  pub ways_are : new.ways.items ++ ways_left ≡ old.ways.items ++ ways
  pub cost_is : new.cost + cost_left ≡ old.cost + cost

pub left_begun : (all : List Loss) (ways : List Way) (cost : ℕ) (f : Found) → IsLeft all all ways ways cost cost f f
left_begun all ways cost f = record { losses_are = refl; ways_are = refl; cost_is = refl }

pub left_on : (all left l : List Loss) (ways ways_left v : List Way) (cost cost_left c : ℕ) (old now new : Found) → IsLeft all (l ++ left) ways (v ++ ways_left) cost (c + cost_left) old now → Adds l v c now new → IsLeft all left ways ways_left cost cost_left old new
left_on all left l ways ways_left v cost cost_left c old now new is adds = record {
  losses_are = ap (λ (xs : List Loss). xs ++ left) adds.losses_are ∙ append_assoc now.losses.items l left ∙ is.losses_are;
  ways_are = ap (λ (xs : List Way). xs ++ ways_left) adds.ways_are ∙ append_assoc now.ways.items v ways_left ∙ is.ways_are;
  cost_is = let p = adds.cost_is in let q = is.cost_is in omega arith;
}

pub left_done : (all : List Loss) (ways : List Way) (cost : ℕ) (old new : Found) → IsLeft all [] ways [] cost 0 old new → Adds all ways cost old new
left_done all ways cost old new is = record {
  losses_are = sym (append-nil new.losses.items) ∙ is.losses_are;
  ways_are = sym (append-nil new.ways.items) ∙ is.ways_are;
  cost_is = let p = is.cost_is in omega arith;
}

pub left_much : (all left : List Loss) (ways ways_left : List Way) (cost cost_left c : ℕ) (old now : Found) (why : LossFault) → c ≤ cost_left → IsLeft all left ways ways_left cost cost_left old now → Uncounted (now.cost + c) why → Uncounted (old.cost + cost) why
left_much all left ways ways_left cost cost_left c old now why le is much = uncounted_more (now.cost + c) (old.cost + cost) why (let p = is.cost_is in omega (arith, le, p)) much

-- ---- the nodes of a directory

module _ (capacity : ℕ) (f : Blocks) (path : List ℕ) where
  -- the last of so many nodes
  pub lost_last : (link : Link) → lost_of_link 0 capacity f path link ≡ flat_map (lost_item capacity f path) link.items ++ lost_entries (not (link.next == 0)) path
  unfolding items_from is_cut_from
  lost_last link = refl

  pub ways_last : (link : Link) → ways_of_link 0 f path link ≡ flat_map (ways_item path) link.items ++ []
  unfolding items_from
  ways_last link = sym (append-nil (flat_map (ways_item path) link.items))

  pub cost_last : (link : Link) → link_cost 0 capacity f path link ≡ sum_by (item_cost capacity f path) link.items + losses_cost (lost_entries (not (link.next == 0)) path)
  unfolding items_from is_cut_from
  cost_last link = refl

  -- one after which none is lawful
  items_end : (n : ℕ) (link : Link) → link_after f link ≡ None → items_from n f link ≡ link.items
  unfolding items_from
  items_end zero link none = refl
  items_end (suc n) link none = ap (λ (o : Option Link). link.items ++ option_map_or (items_from n f) o []) none ∙ append-nil link.items

  cut_end : (n : ℕ) (link : Link) → link_after f link ≡ None → is_cut_from n f link ≡ not (link.next == 0)
  unfolding is_cut_from
  cut_end zero link none = refl
  cut_end (suc n) link none = ap (λ (o : Option Link). option_map_or (is_cut_from n f) o (not (link.next == 0))) none

  pub lost_end : (n : ℕ) (link : Link) → link_after f link ≡ None → lost_of_link n capacity f path link ≡ flat_map (lost_item capacity f path) link.items ++ lost_entries (not (link.next == 0)) path
  lost_end n link none = λ i. flat_map (lost_item capacity f path) (items_end n link none i) ++ lost_entries (cut_end n link none i) path

  pub ways_end : (n : ℕ) (link : Link) → link_after f link ≡ None → ways_of_link n f path link ≡ flat_map (ways_item path) link.items ++ []
  ways_end n link none = ap (flat_map (ways_item path)) (items_end n link none) ∙ sym (append-nil (flat_map (ways_item path) link.items))

  pub cost_end : (n : ℕ) (link : Link) → link_after f link ≡ None → link_cost n capacity f path link ≡ sum_by (item_cost capacity f path) link.items + losses_cost (lost_entries (not (link.next == 0)) path)
  cost_end n link none = λ i. sum_by (item_cost capacity f path) (items_end n link none i) + losses_cost (lost_entries (cut_end n link none i) path)

  -- one with another after it
  items_more : (n : ℕ) (link next : Link) → link_after f link ≡ Some next → items_from (suc n) f link ≡ link.items ++ items_from n f next
  unfolding items_from
  items_more n link next is = ap (λ (o : Option Link). link.items ++ option_map_or (items_from n f) o []) is

  cut_more : (n : ℕ) (link next : Link) → link_after f link ≡ Some next → is_cut_from (suc n) f link ≡ is_cut_from n f next
  unfolding is_cut_from
  cut_more n link next is = ap (λ (o : Option Link). option_map_or (is_cut_from n f) o (not (link.next == 0))) is

  pub lost_more : (n : ℕ) (link next : Link) → link_after f link ≡ Some next → lost_of_link (suc n) capacity f path link ≡ flat_map (lost_item capacity f path) link.items ++ lost_of_link n capacity f path next
  lost_more n link next is =
      (λ i. flat_map (lost_item capacity f path) (items_more n link next is i) ++ lost_entries (cut_more n link next is i) path)
      ∙ ap (λ (xs : List Loss). xs ++ lost_entries (is_cut_from n f next) path) (flat_map-append (lost_item capacity f path) link.items (items_from n f next))
      ∙ append_assoc (flat_map (lost_item capacity f path) link.items) (flat_map (lost_item capacity f path) (items_from n f next)) (lost_entries (is_cut_from n f next) path)

  pub ways_more : (n : ℕ) (link next : Link) → link_after f link ≡ Some next → ways_of_link (suc n) f path link ≡ flat_map (ways_item path) link.items ++ ways_of_link n f path next
  ways_more n link next is = ap (flat_map (ways_item path)) (items_more n link next is) ∙ flat_map-append (ways_item path) link.items (items_from n f next)

  pub cost_more : (n : ℕ) (link next : Link) → link_after f link ≡ Some next → link_cost (suc n) capacity f path link ≡ sum_by (item_cost capacity f path) link.items + link_cost n capacity f path next
  cost_more n link next is =
      let all : link_cost (suc n) capacity f path link ≡ sum_by (item_cost capacity f path) (link.items ++ items_from n f next) + losses_cost (lost_entries (is_cut_from n f next) path) =
      λ i. sum_by (item_cost capacity f path) (items_more n link next is i) + losses_cost (lost_entries (cut_more n link next is i) path) in
      omega (arith, all, sum_by-append (item_cost capacity f path) link.items (items_from n f next))

  -- ---- what the calls for a node and for those after it add

  -- no node is looked at after this one
  at_lost : (n : ℕ) (link : Link) → (n ≡ 0) ⊎ (link_after f link ≡ None) → flat_map (lost_item capacity f path) link.items ++ lost_entries (not (link.next == 0)) path ≡ lost_of_link n capacity f path link
  at_lost n link (inl zero_is) = sym (ap (λ (k : ℕ). lost_of_link k capacity f path link) zero_is ∙ lost_last link)
  at_lost n link (inr none) = sym (lost_end n link none)

  at_ways : (n : ℕ) (link : Link) → (n ≡ 0) ⊎ (link_after f link ≡ None) → flat_map (ways_item path) link.items ++ [] ≡ ways_of_link n f path link
  at_ways n link (inl zero_is) = sym (ap (λ (k : ℕ). ways_of_link k f path link) zero_is ∙ ways_last link)
  at_ways n link (inr none) = sym (ways_end n link none)

  at_cost : (n : ℕ) (link : Link) → (n ≡ 0) ⊎ (link_after f link ≡ None) → sum_by (item_cost capacity f path) link.items + losses_cost (lost_entries (not (link.next == 0)) path) ≡ link_cost n capacity f path link
  at_cost n link (inl zero_is) = sym (ap (λ (k : ℕ). link_cost k capacity f path link) zero_is ∙ cost_last link)
  at_cost n link (inr none) = sym (cost_end n link none)

  module _ (n : ℕ) (link : Link) (items : List Item) (a b : Found) (same : items ≡ link.items)
      (first : Adds (flat_map (lost_item capacity f path) items) (flat_map (ways_item path) items) (sum_by (item_cost capacity f path) items) a b) where
    -- after the last node
    pub end_adds : (cut : Bool) (e : Found) → (n ≡ 0) ⊎ (link_after f link ≡ None) → cut ≡ not (link.next == 0) → Adds (lost_entries cut path) [] (losses_cost (lost_entries cut path)) b e
        → Adds (lost_of_link n capacity f path link) (ways_of_link n f path link) (link_cost n capacity f path link) a e
    end_adds cut e end is more = adds_as
        ((λ i. flat_map (lost_item capacity f path) (same i) ++ lost_entries (is i) path) ∙ at_lost n link end)
        (ap (λ (xs : List Item). flat_map (ways_item path) xs ++ []) same ∙ at_ways n link end)
        ((λ i. sum_by (item_cost capacity f path) (same i) + losses_cost (lost_entries (is i) path)) ∙ at_cost n link end)
        (adds_on first more)

    pub end_much : (cut : Bool) (why : LossFault) → (n ≡ 0) ⊎ (link_after f link ≡ None) → cut ≡ not (link.next == 0) → Uncounted (b.cost + losses_cost (lost_entries cut path)) why → Uncounted (a.cost + link_cost n capacity f path link) why
    end_much cut why end is much =
        let all : sum_by (item_cost capacity f path) items + losses_cost (lost_entries cut path) ≡ link_cost n capacity f path link =
        (λ i. sum_by (item_cost capacity f path) (same i) + losses_cost (lost_entries (is i) path)) ∙ at_cost n link end in
        let so_far = first.cost_is in
        uncounted_more (b.cost + losses_cost (lost_entries cut path)) (a.cost + link_cost n capacity f path link) why (omega (arith, so_far, all)) much

    -- and with another node after it
    pub more_adds : (m : ℕ) (next : Link) (e : Found) → n ≡ suc m → link_after f link ≡ Some next → Adds (lost_of_link m capacity f path next) (ways_of_link m f path next) (link_cost m capacity f path next) b e
        → Adds (lost_of_link n capacity f path link) (ways_of_link n f path link) (link_cost n capacity f path link) a e
    more_adds m next e is after more = adds_as
        (ap (λ (xs : List Item). flat_map (lost_item capacity f path) xs ++ lost_of_link m capacity f path next) same ∙ sym (ap (λ (k : ℕ). lost_of_link k capacity f path link) is ∙ lost_more m link next after))
        (ap (λ (xs : List Item). flat_map (ways_item path) xs ++ ways_of_link m f path next) same ∙ sym (ap (λ (k : ℕ). ways_of_link k f path link) is ∙ ways_more m link next after))
        (ap (λ (xs : List Item). sum_by (item_cost capacity f path) xs + link_cost m capacity f path next) same ∙ sym (ap (λ (k : ℕ). link_cost k capacity f path link) is ∙ cost_more m link next after))
        (adds_on first more)

    pub more_much : (m : ℕ) (next : Link) (why : LossFault) → n ≡ suc m → link_after f link ≡ Some next → Uncounted (b.cost + link_cost m capacity f path next) why → Uncounted (a.cost + link_cost n capacity f path link) why
    more_much m next why is after much =
        let all : sum_by (item_cost capacity f path) items + link_cost m capacity f path next ≡ link_cost n capacity f path link =
        ap (λ (xs : List Item). sum_by (item_cost capacity f path) xs + link_cost m capacity f path next) same ∙ sym (ap (λ (k : ℕ). link_cost k capacity f path link) is ∙ cost_more m link next after) in
        let so_far = first.cost_is in
        uncounted_more (b.cost + link_cost m capacity f path next) (a.cost + link_cost n capacity f path link) why (omega (arith, so_far, all)) much

  -- what the entries of a node cost, all after it costs too
  least : (n : ℕ) (link : Link) (o : Option Link) → link_after f link ≡ o → sum_by (item_cost capacity f path) link.items ≤ link_cost n capacity f path link
  least zero link o is = omega (arith, cost_last link)
  least (suc n) link None is = omega (arith, cost_end (suc n) link is)
  least (suc n) link (Some next) is = omega (arith, cost_more n link next is)

  pub first_much : (n : ℕ) (link : Link) (items : List Item) (cost : ℕ) (why : LossFault) → items ≡ link.items → Uncounted (cost + sum_by (item_cost capacity f path) items) why → Uncounted (cost + link_cost n capacity f path link) why
  first_much n link items cost why same much =
      let le = least n link (link_after f link) refl in
      let is : sum_by (item_cost capacity f path) items ≡ sum_by (item_cost capacity f path) link.items = ap (sum_by (item_cost capacity f path)) same in
      uncounted_more (cost + sum_by (item_cost capacity f path) items) (cost + link_cost n capacity f path link) why (omega (arith, le, is)) much

-- ---- a directory

module _ (capacity : ℕ) (f : Blocks) (w : Way) (path : List ℕ) (node : Link) (at : path ≡ w.path) (is : Some node ≡ link_of (f w.block)) where
  cost_same : link_cost most_after capacity f path node ≡ cost_in capacity f w
  cost_same = ap (λ (p : List ℕ). link_cost most_after capacity f p node) at ∙ ap (λ (o : Option Link). option_map_or (link_cost most_after capacity f w.path) o (length w.path)) is

  pub directory_adds : (a b : Found) → Adds (lost_of_link most_after capacity f path node) (ways_of_link most_after f path node) (link_cost most_after capacity f path node) a b → Adds (lost_in capacity f w) (ways_in f w) (cost_in capacity f w) a b
  directory_adds a b adds = adds_as
      (ap (λ (p : List ℕ). lost_of_link most_after capacity f p node) at ∙ ap (λ (o : Option Link). option_map_or (lost_of_link most_after capacity f w.path) o (loss LossKind.Directory w.path ∷ [])) is)
      (ap (λ (p : List ℕ). ways_of_link most_after f p node) at ∙ ap (λ (o : Option Link). option_map_or (ways_of_link most_after f w.path) o []) is)
      cost_same
      adds

  pub directory_much : (cost : ℕ) (why : LossFault) → Uncounted (cost + link_cost most_after capacity f path node) why → Uncounted (cost + cost_in capacity f w) why
  directory_much cost why much = subst (λ (c : ℕ). Uncounted (cost + c) why) cost_same much
