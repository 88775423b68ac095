-- What the figures of a history mean for `df`.
use Rattle.std.proofs.Common.{◌≡◌, ◌≢◌, ◌↔◌, inl, inr, ℕ, zero, suc, ◌+◌, ◌-◌, ◌<◌, ◌≤◌, Bool, true, false, cond, ◌&&◌, ◌||◌, not, Some, List, [], ◌∷◌, ◌++◌, length, take, drop, map, get_or, count_by, refl, sym, ap, subst, ◌∙◌, arith}
use Rattle.std.proofs.lemmas.Bool.{true≢false, cases_lt, cases_eq}
use Rattle.std.proofs.lemmas.Grind.{get_or_default_zero}
use Rattle.std.proofs.lemmas.List.{length-append, length-map, length-take-le, length-drop, get_or-take, get_or-drop}
use Rattle.std.proofs.lemmas.List.Elements.{Contains-get_or, Contains-append_left, Contains-append_right, Contains-append_cases}
use Rattle.std.proofs.lemmas.List.Sums.{sum_by-cons}
use Rattle.std.proofs.lemmas.Option.{slice_get_within}
use Rattle.std.specs.BTreeMap.{is_at}
use Rattle.std.specs.Cmp.{tied_itself}
use Rattle.std.specs.FinSet as set
use Rattle.std.specs.List.{AllByRecursion}
use Rattle.std.specs.List.Sorted.{IsStrictlySortedBy}
use Rattle.std.specs.Map.{remove_entry}
use Rattle.std.specs.Ordering.{nat_cmp, is_eq}
use Rattle.std.specs.Prelude.{Contains, slice_get, slice_index}
use Rattle.std.specs.declared.cmp.Ordering.{Ordering}
use Rattle.std.specs.declared.cmp.Ordering.TheVariants.{Less, Equal, Greater}
use Rattle.fs_types.specs.Names.{Name, name_cmp}
use Rattle.fs_types.specs.declared.call.Version.{Version}
use Rattle.fs_types.proofs.Orders.{names_total, names_exact}
use Rattle.plain_trees.specs.Trees.{Tree}
use Rattle.plain_trees.proofs.Beneath.{None≢Some, same_Some}
use Rattle.history_machine.specs.Machine.{Space}
use Rattle.flash_model.specs.Device.{Device}
use Rattle.block_ring.specs.Ring.{data_blocks}
use Rattle.node_store.specs.NodePages.{node_of}
use Rattle.nodes.specs.Bodies.{Blocks}
use Rattle.nodes.specs.Reached.{Reached}
use Rattle.tree_counts.specs.Counts.{IsAlone}
use Rattle.working_state.specs.Roots.{IsSpace}
use Rattle.working_state.specs.Seen.{tree_on}
use Rattle.working_state.specs.declared.state.State.{State}
use Rattle.mounting.specs.Records.{group_roots, working_roots}
use Rattle.system.specs.HistorySpace.{after_forget}
use Rattle.system.specs.SpaceLaws.{FreesLaw, RemovalLaw, after_removal}
use Rattle.system.proofs.Measured.{listed_reached, reached_to}
use Rattle.system.proofs.Syncs.{reached_from}

-- ---- one count of what is free

same_member : (x y : Bool) {P : Type 0} → ((x ≡ true) ↔ P) → ((y ≡ true) ↔ P) → x ≡ y
same_member true y p q = sym (q.1 (p.0 refl))
same_member false true p q = p.1 (q.0 refl)
same_member false false p q = refl

-- a state has one space
free_once : (d : Device) (s : State) (a b : Space) → IsSpace d s a → IsSpace d s b → a.free ≡ b.free
free_once d s a b x y =
    let same : (n : ℕ) → set.contains x.reached n ≡ set.contains y.reached n = λ n. same_member (set.contains x.reached n) (set.contains y.reached n) (x.are_reached n) (y.are_reached n) in
    x.free ∙ (λ i. count_by (λ n. not (set.contains s.storage.bad n || same n i)) (data_blocks d.geometry.blocks)) ∙ sym y.free

-- no version forgotten leaves the space
space_now : (d : Device) (s : State) (a : Space) → IsSpace d (after_forget s 0) a → IsSpace d s a
space_now d s a is = record { blocks = is.blocks; bad = is.bad; reached = is.reached; are_reached = is.are_reached; free = is.free; anchors = is.anchors }

pub frees_law : FreesLaw
frees_law d s count frees before after is was will =
    let first : before.free ≡ is.free = free_once d s before is.now.space was (space_now d s is.now.space is.now.is) ∙ is.now.free_is in
    let last : after.free ≡ is.free + frees = free_once d (after_forget s count) after is.after.space will is.after.is ∙ is.after.free_is in
    omega (arith, first, last)

-- ---- a list without one of its items

abbrev without : {X : Type 0} → List X → ℕ → List X
without xs k = take k xs ++ drop (suc k) xs

-- each item of it is one of the list at another place
without_has : (xs : List ℕ) (k r : ℕ) → k < length xs → Contains (without xs k) r → (i : ℕ) × (i < length xs) × (i ≢ k) × (slice_index xs i ≡ r)
without_has xs k r within has = elim (Contains-append_cases (take k xs) (drop (suc k) xs) r has) [
  | inl (i, below, at) ↦
      let low : i < k = omega (arith, length-take-le k xs (omega arith)) in
      (i, omega arith, λ same. absurd (omega (arith, same)), sym (get_or_default_zero xs i r (omega arith)) ∙ sym (get_or-take k xs i r low) ∙ at)
  | inr (i, below, at) ↦
      let low : suc k + i < length xs = omega (arith, length-drop (suc k) xs) in
      (suc k + i, low, λ same. absurd (omega (arith, same)), sym (get_or_default_zero xs (suc k + i) r low) ∙ sym (get_or-drop (suc k) xs i r) ∙ at)
]

has_without : (xs : List ℕ) (k i : ℕ) → i < length xs → i ≢ k → Contains (without xs k) (slice_index xs i)
has_without xs k i within apart = elim (cases_lt i k) [
  | inl low ↦
      Contains-append_left (take k xs) (drop (suc k) xs) (slice_index xs i) (take_has low)
  | inr high ↦ Contains-append_right (take k xs) (drop (suc k) xs) (slice_index xs i) (drop_has (past high))
]
  where
    past : k ≤ i → suc k ≤ i
    past high = elim (cases_eq i k) [
      | inl same ↦ absurd (apart same)
      | inr other ↦ elim (cases_lt k i) [
        | inl less ↦ omega arith
        | inr more ↦ absurd (other (omega arith))
      ]
    ]

    long : i < k → i < length (take k xs)
    long low = elim (cases_lt k (length xs)) [
      | inl less ↦ omega (arith, length-take-le k xs (omega arith))
      | inr more ↦ subst (λ (l : List ℕ). i < length l) (sym (all k xs more)) within
    ]
      where
        all : (n : ℕ) (ys : List ℕ) → length ys ≤ n → take n ys ≡ ys
        all zero [] few = refl
        all (suc n) [] few = refl
        all zero (y ∷ ys) few = absurd (omega arith)
        all (suc n) (y ∷ ys) few = ap (λ (l : List ℕ). y ∷ l) (all n ys (omega arith))

    take_has : i < k → Contains (take k xs) (slice_index xs i)
    take_has low = (i, long low, get_or-take k xs i (slice_index xs i) low ∙ get_or_default_zero xs i (slice_index xs i) within)

    drop_has : suc k ≤ i → Contains (drop (suc k) xs) (slice_index xs i)
    drop_has high = (
      i - suc k,
      omega (arith, length-drop (suc k) xs),
      get_or-drop (suc k) xs (i - suc k) (slice_index xs i)
          ∙ ap (λ (j : ℕ). get_or xs j (slice_index xs i)) (let e : suc k + (i - suc k) ≡ i = omega arith in e)
          ∙ get_or_default_zero xs i (slice_index xs i) within,
    )

-- ---- what the others reach

module _ (f : Blocks) (roots : List ℕ) (k : ℕ) (within : k < length roots) where
  -- what the others reach all reach
  others_all : (b : ℕ) → Reached f (without roots k) b → Reached f roots b
  others_all b reached =
      let (root, has, own) = reached_from f (without roots k) b reached in
      let (i, low, apart, at) = without_has roots k root within has in
      reached_to f roots root b (subst (Contains roots) at (Contains-get_or roots i 0 low)) own

  -- a block that one keeps alone the others do not reach
  alone_not_others : (b : ℕ) → IsAlone f roots k b → Reached f (without roots k) b → ⊥
  alone_not_others b alone reached =
      let (root, has, own) = reached_from f (without roots k) b reached in
      let (i, low, apart, at) = without_has roots k root within has in
      alone.others i low apart (subst (λ (r : ℕ). Reached f (r ∷ []) b) (sym at) own)

  alone_all : (b : ℕ) → IsAlone f roots k b → Reached f roots b
  alone_all b alone = reached_to f roots (slice_index roots k) b (Contains-get_or roots k 0 within) alone.own

  -- a block that is reached, and not by the others, one keeps alone
  not_others_alone : (b : ℕ) → Reached f roots b → (Reached f (without roots k) b → ⊥) → IsAlone f roots k b
  not_others_alone b reached none =
      let (root, (i, low, at), own) = reached_from f roots b reached in
      record {
        own = elim (cases_eq i k) [
          | inl same ↦ subst (λ (r : ℕ). Reached f (r ∷ []) b) (sym at ∙ get_or_default_zero roots i root low ∙ ap (slice_index roots) same) own
          | inr other ↦ absurd (none (reached_to f (without roots k) (slice_index roots i) b (has_without roots k i low other) (subst (λ (r : ℕ). Reached f (r ∷ []) b) (sym at ∙ get_or_default_zero roots i root low) own)))
        ];
        others = λ other below apart own. none (reached_to f (without roots k) (slice_index roots other) b (has_without roots k other below apart) own);
      }

-- what passes one test passes one of two others, and not both
count_two : (p q r : ℕ → Bool) (xs : List ℕ) → ((b : ℕ) → cond (p b) 1 0 ≡ cond (q b) 1 0 + cond (r b) 1 0) → count_by p xs ≡ count_by q xs + count_by r xs
count_two p q r [] each = refl
count_two p q r (x ∷ xs) each =
    omega (arith, each x, count_two p q r xs each, sum_by-cons (λ b. cond (p b) 1 0) x xs, sum_by-cons (λ b. cond (q b) 1 0) x xs, sum_by-cons (λ b. cond (r b) 1 0) x xs)

module _ (f : Blocks) (roots : List ℕ) (k : ℕ) (within : k < length roots) (bad all others alone : set.FinSet nat_cmp) (are : (b : ℕ) → (set.contains all b ≡ true) ↔ Reached f roots b)
    (are_others : (b : ℕ) → (set.contains others b ≡ true) ↔ Reached f (without roots k) b) (are_alone : (b : ℕ) → (set.contains alone b ≡ true) ↔ IsAlone f roots k b) (blocks : ℕ) where
  each : (b : ℕ) (t x y z : Bool) → set.contains all b ≡ x → set.contains others b ≡ y → set.contains alone b ≡ z → cond (not (t || y)) 1 0 ≡ cond (not (t || x)) 1 0 + cond (not t && z) 1 0
  each b true x y z is_x is_y is_z = refl
  each b false true true true is_x is_y is_z = absurd (alone_not_others f roots k within b ((are_alone b).0 is_z) ((are_others b).0 is_y))
  each b false true true false is_x is_y is_z = refl
  each b false true false true is_x is_y is_z = refl
  each b false true false false is_x is_y is_z =
      absurd (true≢false (sym ((are_alone b).1 (not_others_alone f roots k within b ((are b).0 is_x) (λ reached. true≢false (sym ((are_others b).1 reached) ∙ is_y)))) ∙ is_z))
  each b false false true z is_x is_y is_z = absurd (true≢false (sym ((are b).1 (others_all f roots k within b ((are_others b).0 is_y))) ∙ is_x))
  each b false false false true is_x is_y is_z = absurd (true≢false (sym ((are b).1 (alone_all f roots k within b ((are_alone b).0 is_z))) ∙ is_x))
  each b false false false false is_x is_y is_z = refl

  -- the blocks that are free beside the others are those beside all, and those that one keeps alone
  freed : count_by (λ b. not (set.contains bad b || set.contains others b)) (data_blocks blocks)
      ≡ count_by (λ b. not (set.contains bad b || set.contains all b)) (data_blocks blocks) + count_by (λ b. not (set.contains bad b) && set.contains alone b) (data_blocks blocks)
  freed = count_two (λ b. not (set.contains bad b || set.contains others b)) (λ b. not (set.contains bad b || set.contains all b)) (λ b. not (set.contains bad b) && set.contains alone b) (data_blocks blocks)
      (λ b. each b (set.contains bad b) (set.contains all b) (set.contains others b) (set.contains alone b) refl refl refl)

-- ---- a checkpoint is removed

equal-is : (o : Ordering) → is_eq o ≡ true → o ≡ Equal
equal-is Less e = absurd (true≢false (sym e))
equal-is Equal e = refl
equal-is Greater e = absurd (true≢false (sym e))

-- a name that comes after another one is not it
not_at : (first name : Name) → name_cmp first name ≡ Less → (b : Bool) → is_at (name_cmp name) first ≡ b → b ≡ false
not_at first name less false is = refl
not_at first name less true is =
    let same : name ≡ first = names_exact name first (equal-is (name_cmp name first) is) in
    let tied : name_cmp first name ≡ Equal = subst (λ (n : Name). name_cmp first n ≡ Equal) (sym same) (tied_itself names_total first) in
    absurd (let no : Less ≡ Equal = sym less ∙ tied in cc)

less_at : (first : Name) (es : List (Name × ℕ)) (k : ℕ) (e : Name × ℕ) → AllByRecursion (λ y. name_cmp first y ≡ Less) (map (λ e. e.0) es) → slice_get es k ≡ Some e → name_cmp first e.0 ≡ Less
less_at first [] k e all is = absurd (None≢Some is)
less_at first (x ∷ es) zero e all is = subst (λ (y : Name × ℕ). name_cmp first y.0 ≡ Less) (same_Some is) all.0
less_at first (x ∷ es) (suc k) e all is = less_at first es k e all.1 is

removed_at : (es : List (Name × ℕ)) (k : ℕ) (name : Name) (root : ℕ) → IsStrictlySortedBy name_cmp (map (λ e. e.0) es) → slice_get es k ≡ Some (name, root)
    → remove_entry (is_at (name_cmp name)) es ≡ without es k
unfolding IsStrictlySortedBy
removed_at [] k name root sorted is = absurd (None≢Some is)
removed_at (e ∷ es) zero name root sorted is =
    let same : name ≡ e.0 = ap (λ (x : Name × ℕ). x.0) (sym (same_Some is)) in
    let at : is_at (name_cmp name) e.0 ≡ true = subst (λ (n : Name). is_at (name_cmp name) n ≡ true) same (ap is_eq (tied_itself names_total name)) in
    ap (λ (t : Bool). cond t es (e ∷ remove_entry (is_at (name_cmp name)) es)) at
removed_at (e ∷ es) (suc k) name root sorted is =
    let less = less_at e.0 es k (name, root) sorted.0 is in
    ap (λ (t : Bool). cond t es (e ∷ remove_entry (is_at (name_cmp name)) es)) (not_at e.0 name less (is_at (name_cmp name) e.0) refl)
    ∙ ap (λ (l : List (Name × ℕ)). e ∷ l) (removed_at es k name root sorted.1 is)

without_map : {X Y : Type 0} (g : X → Y) (xs : List X) (k : ℕ) → map g (without xs k) ≡ without (map g xs) k
without_map g [] zero = refl
without_map g [] (suc k) = refl
without_map g (x ∷ xs) zero = refl
without_map g (x ∷ xs) (suc k) = ap (λ l. g x ∷ l) (without_map g xs k)

without_before : {X : Type 0} (xs ys : List X) (k : ℕ) → xs ++ without ys k ≡ without (xs ++ ys) (length xs + k)
without_before [] ys k = let same : k ≡ 0 + k = omega arith in ap (without ys) same
without_before (x ∷ xs) ys k =
    let same : suc (length xs + k) ≡ suc (length xs) + k = omega arith in
    ap (λ l. x ∷ l) (without_before xs ys k) ∙ ap (without (x ∷ (xs ++ ys))) same

without_after : {X : Type 0} (xs ys : List X) (k : ℕ) → k < length xs → without xs k ++ ys ≡ without (xs ++ ys) k
without_after [] ys k within = absurd (omega arith)
without_after (x ∷ xs) ys zero within = refl
without_after (x ∷ xs) ys (suc k) within = ap (λ l. x ∷ l) (without_after xs ys k (omega arith))

-- the roots that are left
module _ (s : State) (k : ℕ) (name : Name) (root : ℕ) (sorted : IsStrictlySortedBy name_cmp (map (λ e. e.0) s.history.checkpoints)) (is : slice_get s.history.checkpoints k ≡ Some (name, root)) where
  abbrev versions : List ℕ
  versions = map (λ (v : Version ℕ). v.root) s.history.versions

  abbrev checkpoints : List ℕ
  checkpoints = map (λ (e : Name × ℕ). e.1) s.history.checkpoints

  abbrev place : ℕ
  place = length s.history.versions + k

  among : k < length s.history.checkpoints
  among = slice_get_within s.history.checkpoints k (name, root) is

  same_place : length versions + k ≡ place
  same_place = ap (λ (n : ℕ). n + k) (length-map s.history.versions (λ (v : Version ℕ). v.root))

  within_history : place < length (versions ++ checkpoints)
  within_history =
      let many = length-map s.history.versions (λ (v : Version ℕ). v.root) in
      let few = length-map s.history.checkpoints (λ (e : Name × ℕ). e.1) in
      omega (arith, among, length-append versions checkpoints, many, few)

  within : place < length (working_roots s)
  within = omega (arith, within_history, length-append (versions ++ checkpoints) (group_roots s.group))

  left : working_roots (after_removal s name) ≡ without (working_roots s) place
  left =
      ap (λ (es : List (Name × ℕ)). (versions ++ map (λ (e : Name × ℕ). e.1) es) ++ group_roots s.group) (removed_at s.history.checkpoints k name root sorted is)
      ∙ ap (λ (l : List ℕ). (versions ++ l) ++ group_roots s.group) (without_map (λ (e : Name × ℕ). e.1) s.history.checkpoints k)
      ∙ ap (λ (l : List ℕ). l ++ group_roots s.group) (without_before versions checkpoints k ∙ ap (without (versions ++ checkpoints)) same_place)
      ∙ without_after (versions ++ checkpoints) (group_roots s.group) place within_history

pub removal_law : RemovalLaw
removal_law d s k name root alone before after mounted is keeps was will =
    let roots = working_roots s in
    let sorted : IsStrictlySortedBy name_cmp (map (λ (e : Name × ℕ). e.0) s.history.checkpoints) = subst (IsStrictlySortedBy name_cmp) (names s.history.checkpoints) mounted.machine.named in
    let gone = left s k name root sorted is in
    let there : (b : ℕ) → (set.contains was.reached b ≡ true) ↔ Reached (node_of d) roots b =
    λ b. (λ has. (listed_reached d s b).1 ((was.are_reached b).0 has), λ reached. (was.are_reached b).1 ((listed_reached d s b).0 reached)) in
    let others : (b : ℕ) → (set.contains will.reached b ≡ true) ↔ Reached (node_of d) (without roots (length s.history.versions + k)) b =
    λ b. (
      λ has. subst (λ (l : List ℕ). Reached (node_of d) l b) gone ((listed_reached d (after_removal s name) b).1 ((will.are_reached b).0 has)),
      λ reached. (will.are_reached b).1 ((listed_reached d (after_removal s name) b).0 (subst (λ (l : List ℕ). Reached (node_of d) l b) (sym gone) reached)),
    ) in
    let more = freed (node_of d) roots (length s.history.versions + k) (within s k name root sorted is) s.storage.bad was.reached will.reached keeps.alone there others keeps.are_alone d.geometry.blocks in
    omega (arith, was.free, will.free, keeps.kept, more)
  where
    names : (es : List (Name × ℕ)) → map (λ (e : Name × Tree). e.0) (map {B = Name × Tree} (λ (e : Name × ℕ). (e.0, tree_on d e.1)) es) ≡ map (λ (e : Name × ℕ). e.0) es
    names [] = refl
    names (e ∷ es) = ap (λ l. e.0 ∷ l) (names es)
