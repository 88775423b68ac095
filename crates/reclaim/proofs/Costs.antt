-- What reads cost: sums over the blocks that were read.
use Rattle.std.proofs.Common.{◌≡◌, ℕ, zero, suc, inl, inr, ◌+◌, ◌*◌, ◌<◌, ◌≤◌, Bool, true, false, cond, Option, Some, None, List, [], ◌∷◌, length, take, refl, sym, ap, subst, ◌∙◌, arith}
use Rattle.std.specs.Prelude.{Contains, slice_index, is_some, not}
use Rattle.std.specs.FinSet as set
use Rattle.std.specs.Ordering.{nat_cmp}
use Rattle.std.specs.Option.{option_map_or}
use Rattle.std.specs.List.{sum_by, filter}
use Rattle.std.proofs.lemmas.Bool.{true≢false}
use Rattle.std.proofs.lemmas.List.{take_more}
use Rattle.std.proofs.lemmas.List.Elements.{Contains-append_right}
use Rattle.std.proofs.lemmas.List.Sums.{sum_by-cons, sum_by_push, sum_by-take-le}
use Rattle.std.proofs.Math.Nat.{add-mul, mul-le-mul_right, zero-mul}
use Rattle.node_format.specs.Items.{Item}
use Rattle.nodes.specs.PageCounts.{pages_for}
use Rattle.node_format.specs.Links.{Link}
use Rattle.node_format.specs.declared.place.Place.{Place}
use Rattle.node_format.specs.declared.place.Place.TheVariants.{Dir}
use Rattle.nodes.specs.Bodies.{Blocks}
use Rattle.nodes.specs.Chains.{link_of, next_of, link_items}
use Rattle.nodes.specs.Reached.{Reached, PlaceNames, IsFirst, IsNamed}
use Rattle.nodes.proofs.Chained.{among_chain}
use Rattle.directory.specs.Depths.{HasDirectories, names_directory, is_directory_at, loud_of}
use Rattle.directory.proofs.Counting.{filter_has}
use Rattle.directory.proofs.Levels.{any_contains, directory_is}
use Rattle.reclaim.specs.Sound.{HoldsLink, IsSoundNode, IsSoundPlace}
use Rattle.reclaim.specs.Passes.{Pass, AreReached, HasRead, IsPass, Begins}
use Rattle.reclaim.specs.Verified.{HasCost, depth_reads, name_any_directory, once_reads, once_pages, all_reads, all_pages}

-- ---- sums

-- one element more
pub sum_more : (f : ℕ → ℕ) (xs : List ℕ) (i : ℕ) → i < length xs → sum_by f (take (i + 1) xs) ≡ sum_by f (take i xs) + f (slice_index xs i)
sum_more f xs i below = ap (sum_by f) (take_more xs i 0 below) ∙ sum_by_push f (take i xs) (slice_index xs i)

-- no more than all
pub sum_within : (f : ℕ → ℕ) (xs : List ℕ) (i : ℕ) → i < length xs → sum_by f (take i xs) + f (slice_index xs i) ≤ sum_by f xs
sum_within f xs i below = omega (arith, sum_more f xs i below, sum_by-take-le f xs (i + 1))

-- one sum and another
sum_plus : (g h : ℕ → ℕ) (xs : List ℕ) → sum_by (λ b. g b + h b) xs ≡ sum_by g xs + sum_by h xs
sum_plus g h [] = refl
sum_plus g h (x ∷ xs) = omega (arith, sum_by-cons (λ b. g b + h b) x xs, sum_by-cons g x xs, sum_by-cons h x xs, sum_plus g h xs)

-- ---- the looks and the levels

-- whether a block holds a node of a directory
abbrev pub holds_link : Blocks → ℕ → Bool
holds_link f b = is_some (link_of (f b))

-- levels that read nodes of directories alone: those that name directories, and once each
levels : (f : Blocks) (quiet : set.FinSet nat_cmp) (xs : List ℕ) → ((b : ℕ) (l : Link) → Contains xs b → link_of (f b) ≡ Some l → name_any_directory l.items ≡ false → set.contains quiet b ≡ true)
    → 16 * length (loud_of quiet (filter (holds_link f) xs)) + length (filter (holds_link f) xs) ≤ sum_by (λ b. depth_reads (f b)) xs
levels f quiet [] silent = omega arith
levels f quiet (x ∷ xs) silent = omega (arith, sum_by-cons (λ b. depth_reads (f b)) x xs, on (link_of (f x)) refl, levels f quiet xs (λ b l has. silent b l (Contains-append_right (x ∷ []) xs b has)))
  where
    rest : List ℕ
    rest = filter (holds_link f) xs

    one : (l : Link) (known directory : Bool) → set.contains quiet x ≡ known → name_any_directory l.items ≡ directory → link_of (f x) ≡ Some l
        → 16 * length (cond (not known) (x ∷ loud_of quiet rest) (loud_of quiet rest)) + suc (length rest) ≤ (cond directory 16 0 + 1) + (16 * length (loud_of quiet rest) + length rest)
    one l true directory is any own = omega arith
    one l false true is any own = omega arith
    one l false false is any own = absurd (true≢false (sym (silent x l (0, omega arith, refl) own any) ∙ is))

    on : (o : Option Link) → link_of (f x) ≡ o → 16 * length (loud_of quiet (cond (is_some o) (x ∷ rest) rest)) + length (cond (is_some o) (x ∷ rest) rest)
        ≤ option_map_or (λ l. cond (name_any_directory l.items) 16 0 + 1) o 0 + (16 * length (loud_of quiet rest) + length rest)
    on None own = omega arith
    on (Some l) own = one l (set.contains quiet x) (name_any_directory l.items) refl refl own

filter_only : (p : ℕ → Bool) (xs : List ℕ) (x : ℕ) → Contains (filter p xs) x → Contains xs x
filter_only p [] x h = h
filter_only p (y ∷ xs) x h = on (p y) h (filter_only p xs x)
  where
    more : Contains xs x → Contains (y ∷ xs) x
    more (k, below, at) = (suc k, omega (arith, below), at)

    on : (t : Bool) → Contains (cond t (y ∷ filter p xs) (filter p xs)) x → (Contains (filter p xs) x → Contains xs x) → Contains (y ∷ xs) x
    on true (zero, lt, same) again = (0, omega arith, same)
    on true (suc k, lt, same) again = more (again (k, omega (arith, lt), same))
    on false h again = more (again h)

is_held : (f : Blocks) (b : ℕ) → HoldsLink f b → holds_link f b ≡ true
is_held f b own = ap is_some own.1

held_is : (f : Blocks) (b : ℕ) → holds_link f b ≡ true → HoldsLink f b
held_is f b is = on (link_of (f b)) refl is
  where
    on : (o : Option Link) → link_of (f b) ≡ o → is_some o ≡ true → HoldsLink f b
    on None e is = absurd cc
    on (Some l) e is = (l, e)

filter_is : (p : ℕ → Bool) (xs : List ℕ) (x : ℕ) → Contains (filter p xs) x → p x ≡ true
filter_is p [] x h = absurd (omega (arith, h.1))
filter_is p (y ∷ xs) x h = on (p y) refl h (filter_is p xs x)
  where
    on : (t : Bool) → p y ≡ t → Contains (cond t (y ∷ filter p xs) (filter p xs)) x → (Contains (filter p xs) x → p x ≡ true) → p x ≡ true
    on true is (zero, lt, same) again = subst (λ (b : ℕ). p b ≡ true) same is
    on true is (suc k, lt, same) again = again (k, omega (arith, lt), same)
    on false is h again = again h

held_items : (node : Option (List ℕ)) (item : Item) → Contains (link_items node) item → (l : Link) × (link_of node ≡ Some l) × Contains l.items item
held_items node item h = on (link_of node) refl h
  where
    on : (o : Option Link) → link_of node ≡ o → Contains (option_map_or (λ l. l.items) o []) item → (l : Link) × (link_of node ≡ Some l) × Contains l.items item
    on None is h = absurd (omega (arith, h.1))
    on (Some l) is h = (l, is, h)

-- the node after one of a directory is one
pub next_held : (capacity : ℕ) (f : Blocks) (b : ℕ) → IsSoundNode capacity f b → HoldsLink f b → 0 < next_of (f b) → HoldsLink f (next_of (f b))
next_held capacity f b sound (l, is) some =
    let own = sound.directory (l, is) in
    let here = among_chain f b own.0 own.1 b (0, omega arith, refl) in
    let at : next_of (f b) ≡ here.l.next = ap (λ (o : Option Link). option_map_or (λ x. x.next) o 0) here.is in
    let there = among_chain f b own.0 own.1 here.l.next (here.on (omega (arith, at, some))) in
    subst (HoldsLink f) (sym at) (there.l, there.is)

-- of the reached blocks, where they are sound, the nodes of directories have all that directories name
pub reached_directories : (capacity blocks : ℕ) (f : Blocks) (roots marked : List ℕ) → ((b : ℕ) → Reached f roots b → Contains marked b) → ((b : ℕ) → Contains marked b → Reached f roots b)
    → ((b : ℕ) → Reached f roots b → IsSoundNode capacity f b) → ((root : ℕ) → Contains roots root → HoldsLink f root) → HasDirectories f blocks roots (filter (holds_link f) marked)
reached_directories capacity blocks f roots marked has only sound directories = record { first = first; next = next; on = on }
  where
    in_list : (b : ℕ) → Reached f roots b → HoldsLink f b → Contains (filter (holds_link f) marked) b
    in_list b reached own = filter_has (holds_link f) marked b (has b reached) (is_held f b own)

    was_reached : (b : ℕ) → Contains (filter (holds_link f) marked) b → Reached f roots b
    was_reached b held = only b (filter_only (holds_link f) marked b held)

    first : (b : ℕ) → Contains roots b → b < blocks → Contains (filter (holds_link f) marked) b
    first b rooted below = in_list b (IsFirst rooted) (directories b rooted)

    place : (parent : ℕ) (item : Item) → Reached f roots parent → Contains (link_items (f parent)) item → IsSoundPlace capacity f item.place
    place parent item reached h =
        let own = held_items (f parent) item h in
        (sound parent reached).names.entries own.0 own.1 item own.2

    next : (parent b : ℕ) → Contains (filter (holds_link f) marked) parent → b < blocks → names_directory (link_items (f parent)) b ≡ true → Contains (filter (holds_link f) marked) b
    next parent b held below names =
        let reached = was_reached parent held in
        let found = any_contains (λ item. is_directory_at item.place b) (link_items (f parent)) names in
        let is : found.0.place ≡ Dir b = directory_is found.0.place b found.2 in
        let own : HoldsLink f b = subst (IsSoundPlace capacity f) is (place parent found.0 reached found.1) in
        in_list b (IsNamed reached (inl (found.0, found.1, subst (λ (p : Place). PlaceNames p b) (sym is) refl))) own

    on : (b : ℕ) → Contains (filter (holds_link f) marked) b → 0 < next_of (f b) → next_of (f b) < blocks → Contains (filter (holds_link f) marked) (next_of (f b))
    on b held some below =
        let reached = was_reached b held in
        in_list (next_of (f b)) (IsNamed reached (inr (inr (some, refl)))) (next_held capacity f b (sound b reached) (held_is f b (filter_is (holds_link f) marked b held)) some)

-- ---- passes

-- a pass read blocks that it had marked
pub has_read : (f : Blocks) (old p : Pass) (before after : ℕ) → IsPass f p → p.roots ≡ old.roots → Begins old.order p.order → after + old.next ≤ before + length p.order → HasRead f old before after
has_read f old p before after pass same begins most = record {
  seen = p.order;
  begins = begins;
  are = record { distinct = pass.distinct; reached = λ b h. subst (λ (l : List ℕ). Reached f l b) same (pass.reached b h) };
  most = most;
}

-- ---- what verification costs

-- nothing
pub none_read : (cost : Option (List ℕ) → ℕ) (f : Blocks) (roots : List ℕ) (before : ℕ) → HasCost cost f roots before before
none_read cost f roots before = record {
  blocks = [];
  are = record { distinct = λ i j less below same. omega arith; reached = λ b h. absurd (omega (arith, h.1)) };
  most = omega arith;
}

module _ (cost : Option (List ℕ) → ℕ) (f : Blocks) where
  -- so many of the marked blocks were looked at, and one more
  pub looked_once : (p : Pass) (before after : ℕ) → IsPass f p → p.next < length p.order → after ≤ before + (sum_by (λ b. cost (f b)) (take p.next p.order) + cost (f (slice_index p.order p.next)))
      → HasCost cost f p.roots before after
  looked_once p before after pass left most = record {
    blocks = p.order;
    are = record { distinct = pass.distinct; reached = pass.reached };
    most = omega (arith, most, sum_within (λ b. cost (f b)) p.order p.next left);
  }

  -- all were
  pub looked_all : (p : Pass) (before after : ℕ) → IsPass f p → after ≤ before + sum_by (λ b. cost (f b)) (take p.next p.order) → HasCost cost f p.roots before after
  looked_all p before after pass most = record {
    blocks = p.order;
    are = record { distinct = pass.distinct; reached = pass.reached };
    most = omega (arith, most, sum_by-take-le (λ b. cost (f b)) p.order p.next);
  }

  -- the marked blocks were looked at so far, and one more was
  pub looked_one : (h : Blocks) (p : Pass) (roots : List ℕ) (block before mid after : ℕ) → h ≡ f → IsPass f p → p.roots ≡ roots → p.next < length p.order → block ≡ slice_index p.order p.next
      → mid ≤ before + sum_by (λ b. cost (f b)) (take p.next p.order) → after ≤ mid + cost (h block) → HasCost cost f roots before after
  looked_one h p roots block before mid after same pass own left at so_far one =
      let here : after ≤ mid + cost (f (slice_index p.order p.next)) = subst (λ (k : ℕ). after ≤ mid + cost (f k)) at (subst (λ (g : Blocks). after ≤ mid + cost (g block)) same one) in
      subst (λ (l : List ℕ). HasCost cost f l before after) own (looked_once p before after pass left (omega (arith, so_far, here)))

-- of the same sizes
pub pages_same : (page limit other size before after : ℕ) (node : Option (List ℕ)) → other ≡ page → size ≡ limit → after ≤ before + once_pages other size node → after ≤ before + once_pages page limit node
pages_same page limit other size before after node pages sizes most =
    subst (λ (n : ℕ). after ≤ before + once_pages page n node) sizes (subst (λ (n : ℕ). after ≤ before + once_pages n size node) pages most)

-- no depth was asked
pub looked_cost : (cost depth : Option (List ℕ) → ℕ) (f : Blocks) (roots own : List ℕ) (before after : ℕ) → own ≡ roots → HasCost cost f own before after
    → HasCost (λ node. cost node + depth node) f roots before after
looked_cost cost depth f roots own before after same looked = record {
  blocks = looked.blocks;
  are = subst (λ (l : List ℕ). AreReached f l looked.blocks) same looked.are;
  most = omega (arith, looked.most, sum_plus (λ b. cost (f b)) (λ b. depth (f b)) looked.blocks);
}

-- a sum of so many each
sum_times : (g : ℕ → ℕ) (unit : ℕ) (xs : List ℕ) → sum_by (λ b. g b * unit) xs ≡ sum_by g xs * unit
sum_times g unit [] = sym (zero-mul unit)
sum_times g unit (x ∷ xs) =
    sum_by-cons (λ b. g b * unit) x xs ∙ ap (λ (n : ℕ). g x * unit + n) (sum_times g unit xs) ∙ sym (add-mul (g x) (sum_by g xs) unit)
    ∙ ap (λ (n : ℕ). n * unit) (sym (sum_by-cons g x xs))

-- so many reads asked so many pages
pub paged : (before after reads more count unit : ℕ) → after + reads * unit ≤ before + more * unit → more ≤ reads + count → after ≤ before + count * unit
paged before after reads more count unit asks most =
    let all : more * unit ≤ (reads + count) * unit = mul-le-mul_right unit most in
    let parts : (reads + count) * unit ≡ reads * unit + count * unit = add-mul reads count unit in
    omega (arith, asks, all, parts)

-- and the depths were, of the nodes of directories among all blocks that the roots reach
module _ (f : Blocks) (roots : List ℕ) (p : Pass) (quiet : set.FinSet nat_cmp) (pass : IsPass f p) (same : p.roots ≡ roots)
    (silent : (b : ℕ) (l : Link) → Contains p.order b → link_of (f b) ≡ Some l → name_any_directory l.items ≡ false → set.contains quiet b ≡ true) where
  pub depth_cost : (before mid after : ℕ) → mid ≤ before + sum_by (λ b. once_reads (f b)) p.order
      → after ≤ mid + (16 * length (loud_of quiet (filter (holds_link f) p.order)) + length (filter (holds_link f) p.order)) → HasCost all_reads f roots before after
  depth_cost before mid after looked deep = record {
    blocks = p.order;
    are = subst (λ (l : List ℕ). AreReached f l p.order) same (record { distinct = pass.distinct; reached = pass.reached });
    most = omega (arith, looked, deep, levels f quiet p.order silent, sum_plus (λ b. once_reads (f b)) (λ b. depth_reads (f b)) p.order);
  }

  -- in pages, where a read asks so many at most
  pub depth_pages : (page limit before mid after reads more : ℕ) → mid ≤ before + sum_by (λ b. once_pages page limit (f b)) p.order
      → after + reads * pages_for page limit ≤ mid + more * pages_for page limit
      → more ≤ reads + (16 * length (loud_of quiet (filter (holds_link f) p.order)) + length (filter (holds_link f) p.order)) → HasCost (all_pages page limit) f roots before after
  depth_pages page limit before mid after reads more looked asks deep =
      let unit = pages_for page limit in
      let few : more ≤ reads + sum_by (λ b. depth_reads (f b)) p.order = omega (arith, deep, levels f quiet p.order silent) in
      record {
        blocks = p.order;
        are = subst (λ (l : List ℕ). AreReached f l p.order) same (record { distinct = pass.distinct; reached = pass.reached });
        most =
            omega (
              arith,
              looked,
              paged mid after reads more (sum_by (λ b. depth_reads (f b)) p.order) unit asks few,
              sum_times (λ b. depth_reads (f b)) unit p.order,
              sum_plus (λ b. once_pages page limit (f b)) (λ b. depth_reads (f b) * unit) p.order,
            );
      }
