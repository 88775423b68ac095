-- Each node is read once: what was read before is done, or stands above.
use Rattle.std.proofs.Common.{◌≡◌, ◌≢◌, ◌⊎◌, inl, inr, ℕ, zero, suc, ◌+◌, ◌-◌, ◌≤◌, ◌<◌, Option, Some, None, List, [], ◌∷◌, ◌++◌, length, get_or, take, refl, sym, ap, subst, ◌∙◌, arith}
use Rattle.std.proofs.lemmas.Bool.{cases_lt}
use Rattle.std.proofs.lemmas.List.{length-append, get_or_append_left, get_or-append-add, take_all}
use Rattle.std.proofs.lemmas.List.Elements.{Contains-append_left, Contains-push, Contains-push_cases, Contains-get_or}
use Rattle.std.proofs.lemmas.Grind.{get_or_default_zero}
use Rattle.std.proofs.lemmas.List.Sums.{sum_by_more}
use Rattle.std.specs.Prelude.{sum_by, Contains, slice_get, slice_index}
use Rattle.nodes.specs.Bodies.{Blocks}
use Rattle.nodes.specs.Chains.{link_of, link_items, next_of}
use Rattle.nodes.specs.Reached.{Reached, Names, IsNamed}
use Rattle.node_format.specs.Items.{Item}
use Rattle.node_format.specs.declared.place.Place.{Place}
use Rattle.node_format.specs.declared.place.Place.TheVariants.{Dir, File}
use Rattle.reclaim.specs.Passes.{AreDistinct, AreReached}
use Rattle.tree_counts.specs.Counted.{leads_of, own, weight, IsLow, most_steps, size_from, own_size, Has, AreSizes, StillHas, AreDone, IsUnder, IsNext, IsLater, IsGoneTo, ReadsOnce}
use Rattle.tree_counts.specs.Sizes.{sized, place_one, place_length}
use Rattle.tree_counts.specs.declared.node_sizes.NodeSizes.{NodeSizes}
use Rattle.tree_counts.specs.declared.tree_size.TreeSize.{TreeSize}
use Rattle.tree_counts.proofs.Sums.{in_none}
use Rattle.tree_counts.proofs.Weights.{not_under, weight_step}
use Rattle.tree_counts.proofs.Trees.{led_names}

-- ---- lists of blocks, none twice

distinct_push : (xs : List ℕ) (x : ℕ) → AreDistinct xs → (Contains xs x → ⊥) → AreDistinct (xs ++ x ∷ [])
distinct_push xs x distinct fresh i j less below = by (cases_lt j (length xs))
  where
    size : length (xs ++ x ∷ []) ≡ length xs + 1
    size = length-append xs (x ∷ [])

    before : (k : ℕ) → k < length xs → slice_index (xs ++ x ∷ []) k ≡ slice_index xs k
    before k lt = get_or_append_left xs (x ∷ []) 0 k lt

    last : slice_index (xs ++ x ∷ []) (length xs) ≡ x
    last = let e : length xs + 0 ≡ length xs = omega arith in ap (slice_index (xs ++ x ∷ [])) (sym e) ∙ get_or-append-add xs (x ∷ []) 0 0

    by : (j < length xs) ⊎ (length xs ≤ j) → slice_index (xs ++ x ∷ []) i ≢ slice_index (xs ++ x ∷ []) j
    by (inl inside) same = distinct i j less inside (sym (before i (omega (arith, less, inside))) ∙ same ∙ before j inside)
    by (inr past) same =
        let here : j ≡ length xs = omega (arith, below, size, past) in
        let lower : i < length xs = omega (arith, less, here) in
        fresh (i, lower, get_or_default_zero xs i x lower ∙ sym (before i lower) ∙ same ∙ ap (slice_index (xs ++ x ∷ [])) here ∙ last)

-- ---- a block is read

-- what was read is done, or is above this block, or is this block
abbrev pub IsDoneOrAbove : Blocks → NodeSizes → ℕ → Type 0
IsDoneOrAbove f s block = (b : ℕ) → Contains s.read.items b → ((size : TreeSize) × Has s b size) ⊎ IsUnder f b block

pub not_read : (f : Blocks) (n : ℕ) (roots : List ℕ) (s : NodeSizes) (block : ℕ) → IsLow f n block → ((size : TreeSize) → Has s block size → ⊥) → IsGoneTo f roots s block → Contains s.read.items block → ⊥
not_read f n roots s block low unknown gone has = by (gone.done block has)
  where
    by : ((size : TreeSize) × Has s block size) ⊎ IsUnder f block block → ⊥
    by (inl (size, is)) = unknown size is
    by (inr under) = not_under f n block low under

pub reads_block : (f : Blocks) (n : ℕ) (roots : List ℕ) (s : NodeSizes) (read : List ℕ) (block : ℕ) → IsLow f n block → ((size : TreeSize) → Has s block size → ⊥) → read ≡ s.read.items ++ block ∷ [] → Reached f roots block → IsGoneTo f roots s block → AreReached f roots read
reads_block f n roots s read block low unknown is reached gone =
    subst (AreReached f roots) (sym is)
    (record {
      distinct = distinct_push s.read.items block gone.are.distinct (not_read f n roots s block low unknown gone);
      reached = λ b has. by b (Contains-push_cases s.read.items block b has);
    })
  where
    by : (b : ℕ) → Contains s.read.items b ⊎ (block ≡ b) → Reached f roots b
    by b (inl old) = gone.are.reached b old
    by b (inr same) = subst (Reached f roots) same reached

-- ---- what a block leads to is gone over

-- what was read since is done, but for this block
abbrev pub AreDoneBut : ℕ → NodeSizes → NodeSizes → Type 0
AreDoneBut block s t = (b : ℕ) → Contains t.read.items b → (Contains s.read.items b ⊎ (block ≡ b)) ⊎ ((size : TreeSize) × Has t b size)

pub begins_below : (block : ℕ) (s t : NodeSizes) → t.read.items ≡ s.read.items ++ block ∷ [] → AreDoneBut block s t
begins_below block s t is b has = inl (Contains-push_cases s.read.items block b (subst (λ (l : List ℕ). Contains l b) is has))

-- the next block that this one leads to may be gone over
pub gone_on : (f : Blocks) (roots : List ℕ) (block c : ℕ) (s t : NodeSizes) → Contains (leads_of (f block)) c → StillHas s t → AreDoneBut block s t → IsGoneTo f roots s block → AreReached f roots t.read.items → IsGoneTo f roots t c
gone_on f roots block c s t has stays done gone are = record { are = are; done = λ b read. by b (done b read) }
  where
    old : (b : ℕ) → ((size : TreeSize) × Has s b size) ⊎ IsUnder f b block → ((size : TreeSize) × Has t b size) ⊎ IsUnder f b c
    old b (inl (size, is)) = inl (size, stays b size is)
    old b (inr under) = inr (IsLater under has)

    by : (b : ℕ) → (Contains s.read.items b ⊎ (block ≡ b)) ⊎ ((size : TreeSize) × Has t b size) → ((size : TreeSize) × Has t b size) ⊎ IsUnder f b c
    by b (inl (inl before)) = old b (gone.done b before)
    by b (inl (inr same)) = inr (subst (λ (x : ℕ). IsUnder f x c) same (IsNext has))
    by b (inr is) = inl is

pub done_on : (block : ℕ) (s t u : NodeSizes) → AreDoneBut block s t → StillHas t u → AreDone t u → AreDoneBut block s u
done_on block s t u done stays more b has = by (more b has)
  where
    old : (Contains s.read.items b ⊎ (block ≡ b)) ⊎ ((size : TreeSize) × Has t b size) → (Contains s.read.items b ⊎ (block ≡ b)) ⊎ ((size : TreeSize) × Has u b size)
    old (inl x) = inl x
    old (inr (size, is)) = inr (size, stays b size is)

    by : Contains t.read.items b ⊎ ((size : TreeSize) × Has u b size) → (Contains s.read.items b ⊎ (block ≡ b)) ⊎ ((size : TreeSize) × Has u b size)
    by (inl before) = old (done b before)
    by (inr is) = inr is

-- ---- how much it leads to is found

-- one block more is found, and nothing else changes
pub record Puts (s t : NodeSizes) (block : ℕ) (size : TreeSize) : Type 0 where
  pub has : Has t block size
  pub others : (b : ℕ) → b ≢ block → slice_get t.found.items b ≡ slice_get s.found.items b
  pub read : t.read.items ≡ s.read.items
  pub all : length t.found.items ≡ length s.found.items

same_size : (s : NodeSizes) (b : ℕ) (x y : TreeSize) → Has s b x → Has s b y → x ≡ y
same_size s b x y is other = let same : Some (Some x) ≡ Some (Some y) = sym is ∙ other in cc

either_block : (b c : ℕ) → (b ≡ c) ⊎ (b ≢ c)
either_block b c = by (cases_lt b c) (cases_lt c b)
  where
    by : (b < c) ⊎ (c ≤ b) → (c < b) ⊎ (b ≤ c) → (b ≡ c) ⊎ (b ≢ c)
    by (inl x) y = inr (λ same. omega (arith, x, same))
    by (inr x) (inl y) = inr (λ same. omega (arith, y, same))
    by (inr x) (inr y) = inl (omega (arith, x, y))

pub puts_sizes : (f : Blocks) (blocks : ℕ) (s t : NodeSizes) (block : ℕ) (size : TreeSize) → Puts s t block size → size ≡ size_from f block → AreSizes f blocks s → AreSizes f blocks t
puts_sizes f blocks s t block size puts right are = record { all = puts.all ∙ are.all; right = λ b x has. by b x has (either_block b block) }
  where
    by : (b : ℕ) (x : TreeSize) → Has t b x → (b ≡ block) ⊎ (b ≢ block) → x ≡ size_from f b
    by b x has (inl same) = same_size t b x size has (subst (λ (c : ℕ). Has t c size) (sym same) puts.has) ∙ right ∙ ap (size_from f) (sym same)
    by b x has (inr apart) = are.right b x (sym (puts.others b apart) ∙ has)

pub puts_stays : (s t u : NodeSizes) (block : ℕ) (size : TreeSize) → ((size : TreeSize) → Has s block size → ⊥) → StillHas s t → Puts t u block size → StillHas s u
puts_stays s t u block size unknown stays puts b x has = by (either_block b block)
  where
    by : (b ≡ block) ⊎ (b ≢ block) → Has u b x
    by (inl same) = absurd (unknown x (subst (λ (c : ℕ). Has s c x) same has))
    by (inr apart) = puts.others b apart ∙ stays b x has

pub puts_done : (s t u : NodeSizes) (block : ℕ) (size : TreeSize) → AreDoneBut block s t → Puts t u block size → AreDone s u
puts_done s t u block size done puts b has = by (done b (subst (λ (l : List ℕ). Contains l b) puts.read has)) (either_block b block)
  where
    by : (Contains s.read.items b ⊎ (block ≡ b)) ⊎ ((size : TreeSize) × Has t b size) → (b ≡ block) ⊎ (b ≢ block) → Contains s.read.items b ⊎ ((size : TreeSize) × Has u b size)
    by (inl (inl before)) either = inl before
    by (inl (inr same)) either = inr (size, subst (λ (c : ℕ). Has u c size) same puts.has)
    by (inr (x, is)) (inl same) = inr (size, subst (λ (c : ℕ). Has u c size) (sym same) puts.has)
    by (inr (x, is)) (inr apart) = inr (x, puts.others b apart ∙ is)

-- ---- how much it is

-- the entries of a node, and some of the blocks that it leads to
abbrev pub size_to : Blocks → ℕ → List ℕ → TreeSize
size_to f b leads = sized (own place_one (f b) + sum_by (weight place_one f most_steps) leads) (own place_length (f b) + sum_by (weight place_length f most_steps) leads)

pub size_begins : (f : Blocks) (b : ℕ) (size : TreeSize) → size ≡ own_size (f b) → size ≡ size_to f b []
size_begins f b size is =
    let entries : own place_one (f b) ≡ own place_one (f b) + 0 = omega arith in
    let lengths : own place_length (f b) ≡ own place_length (f b) + 0 = omega arith in
    is ∙ (λ i. sized (entries i) (lengths i))

pub size_more : (f : Blocks) (b i : ℕ) (leads : List ℕ) (size more sum : TreeSize) → i < length leads → size ≡ size_to f b (take i leads) → more ≡ size_from f (get_or leads i 0)
    → ((m n p q : ℕ) → size ≡ sized m n → more ≡ sized p q → sum ≡ sized (m + p) (n + q)) → sum ≡ size_to f b (take (i + 1) leads)
size_more f b i leads size more sum within so_far next plus =
    let V = weight place_one f most_steps in
    let W = weight place_length f most_steps in
    let entries : (own place_one (f b) + sum_by V (take i leads)) + V (get_or leads i 0) ≡ own place_one (f b) + sum_by V (take (i + 1) leads) = omega (arith, sum_by_more V leads i 0 within) in
    let lengths : (own place_length (f b) + sum_by W (take i leads)) + W (get_or leads i 0) ≡ own place_length (f b) + sum_by W (take (i + 1) leads) = omega (arith, sum_by_more W leads i 0 within) in
    plus (own place_one (f b) + sum_by V (take i leads)) (own place_length (f b) + sum_by W (take i leads)) (V (get_or leads i 0)) (W (get_or leads i 0)) so_far next
    ∙ (λ j. sized (entries j) (lengths j))

pub size_whole : (f : Blocks) (n b i : ℕ) (leads : List ℕ) (size : TreeSize) → n ≤ most_steps → IsLow f n b → leads ≡ leads_of (f b) → length leads ≤ i → size ≡ size_to f b (take i leads) → size ≡ size_from f b
size_whole f n b i leads size few low are past is =
    is ∙ ap (size_to f b) (take_all i leads past ∙ are)
    ∙ (λ j. sized (sym (weight_step place_one f n b few low) j) (sym (weight_step place_length f n b few low) j))

-- what a block leads to is reached
pub led_reached : (f : Blocks) (roots : List ℕ) (b c : ℕ) → Reached f roots b → Contains (leads_of (f b)) c → Reached f roots c
led_reached f roots b c reached has = IsNamed reached (led_names (f b) c has)

-- ---- all of a root

pub none_gone : (f : Blocks) (roots : List ℕ) (s : NodeSizes) (block : ℕ) → s.read.items ≡ [] → IsGoneTo f roots s block
none_gone f roots s block none = record {
  are = record {
    distinct = λ i j less below. absurd (let size = ap length none in omega (arith, below, size));
    reached = λ b has. absurd (in_none b (subst (λ (l : List ℕ). Contains l b) none has));
  };
  done = λ b has. absurd (in_none b (subst (λ (l : List ℕ). Contains l b) none has));
}

-- ---- one root after the other

-- how much each block leads to that was read is found
abbrev pub AreAllFound : NodeSizes → Type 0
AreAllFound s = (b : ℕ) → Contains s.read.items b → (size : TreeSize) × Has s b size

pub none_found : (s : NodeSizes) → s.read.items ≡ [] → AreAllFound s
none_found s none b has = absurd (in_none b (subst (λ (l : List ℕ). Contains l b) none has))

pub none_reached : (f : Blocks) (roots : List ℕ) (s : NodeSizes) → s.read.items ≡ [] → AreReached f roots s.read.items
none_reached f roots s none = (none_gone f roots s 0 none).are

pub found_on : (s t : NodeSizes) → AreAllFound s → StillHas s t → AreDone s t → AreAllFound t
found_on s t found stays done b has = by (done b has)
  where
    by : Contains s.read.items b ⊎ ((size : TreeSize) × Has t b size) → (size : TreeSize) × Has t b size
    by (inl before) = let (size, is) = found b before in (size, stays b size is)
    by (inr now) = now

-- so the next root may be gone over
pub next_gone : (f : Blocks) (roots : List ℕ) (s : NodeSizes) (root : ℕ) → AreReached f roots s.read.items → AreAllFound s → IsGoneTo f roots s root
next_gone f roots s root are found = record { are = are; done = λ b has. inl (found b has) }
