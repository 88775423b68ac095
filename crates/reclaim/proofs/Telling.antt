-- What a table tells after one node more was read.
use Rattle.std.proofs.Common.{◌≡◌, ◌≢◌, ◌↔◌, ◌⊎◌, inl, inr, ℕ, zero, suc, ◌+◌, ◌<◌, Bool, true, false, cond, Option, Some, None, Result, Ok, Err, List, [], ◌∷◌, length, take, refl, sym, ap, subst, ◌∙◌, arith}
use Rattle.std.specs.FinSet as set
use Rattle.std.specs.Ordering.{nat_cmp}
use Rattle.std.specs.Prelude.{Contains, slice_index, nat_lt, is_some, ◌&&◌, ◌||◌, OnOk, IfOk, eqb}
use Rattle.std.specs.Option.{option_map_or}
use Rattle.std.specs.List.{sum_by}
use Rattle.std.proofs.lemmas.Bool.{true≢false, cases_lt, and_parts, and_from, ne_eqb, lt-ltb, eqb-true, eq-eqb}
use Rattle.std.proofs.lemmas.Cmp.{nat_cmp_total}
use Rattle.std.specs.Cmp.{unsigned_tied}
use Rattle.std.proofs.lemmas.List.{take-append-le}
use Rattle.std.proofs.lemmas.List.Elements.{Contains-get_or}
use Rattle.node_format.specs.Items.{Item, is_dir_place}
use Rattle.node_format.specs.declared.place.Place.TheVariants.{Dir}
use Rattle.directory.specs.Depths.{AreQuiet, names_directory, is_directory_at}
use Rattle.directory.proofs.Levels.{any_contains, directory_is}
use Rattle.node_format.specs.Links.{Link}
use Rattle.nodes.specs.Bodies.{Blocks}
use Rattle.nodes.specs.Chains.{link_of, next_of, link_items}
use Rattle.nodes.specs.Reached.{Reached}
use Rattle.block_ring.proofs.RingOrder.{contains-insert_same, contains-kept}
use Rattle.reclaim.specs.Passes.{Pass, IsPass, Advances, AreNoted}
use Rattle.reclaim.specs.Looks.{NextHoldsLink, IsLooked}
use Rattle.reclaim.specs.Sound.{HoldsLink}
use Rattle.reclaim.specs.Tables.{IsSized, IsTold, HasSeen, NamesDirectory, has_link}
use Rattle.reclaim.specs.Verified.{AreLooked, name_any_directory}
use Rattle.reclaim.specs.declared.table.Table.{Table}
use Rattle.reclaim.proofs.Costs.{sum_more}
use Rattle.reclaim.proofs.Marking.{begins_at, begins_length}

-- a list without elements
none_named : (named : List ℕ) → ((c : ℕ) → Contains named c → ⊥) → eqb (length named) 0 ≡ true
none_named [] none = refl
none_named (x ∷ named) none = absurd (none x (0, omega arith, refl))

-- another block of a set with one more was in it before
contains_other : (members : set.FinSet nat_cmp) (b c : ℕ) → c ≢ b → set.contains (set.insert members b) c ≡ true → set.contains members c ≡ true
contains_other members b c other has =
    ap (λ t. t || set.contains members c) (sym (unsigned_tied c b ∙ ne_eqb c b other))
    ∙ sym (set.contains-insert nat_cmp_total members b c) ∙ has

-- ---- what was read

module _ (p q : Pass) (block : ℕ) (on : Advances p q) (left : p.next < length p.order) (at : block ≡ slice_index p.order p.next) (next : q.next ≡ p.next + 1) where
  seen_on : (b : ℕ) → HasSeen p b → HasSeen q b
  seen_on b (k, lt, is) = (k, omega (arith, lt, next), begins_at p.order q.order k on.begins (omega (arith, lt, left)) ∙ is)

  seen_new : HasSeen q block
  seen_new = (p.next, omega (arith, next), begins_at p.order q.order p.next on.begins left ∙ sym at)

  pub seen_back : (b : ℕ) → HasSeen q b → HasSeen p b ⊎ (block ≡ b)
  seen_back b (k, lt, is) = elim (cases_lt k p.next) [
    | inl before ↦ inl (k, before, sym (begins_at p.order q.order k on.begins (omega (arith, before, left))) ∙ is)
    | inr past ↦
        let same : k ≡ p.next = omega (arith, past, lt, next) in
        inr (at ∙ sym (begins_at p.order q.order p.next on.begins left) ∙ ap (slice_index q.order) (sym same) ∙ is)
  ]

  pub looked_on : (capacity : ℕ) (f : Blocks) (plain : Bool) → AreLooked capacity f plain p → (NextHoldsLink f (f block) → IsLooked capacity f plain (f block)) → AreLooked capacity f plain q
  looked_on capacity f plain looked own b seen = on_case (seen_back b seen)
    where
      on_case : HasSeen p b ⊎ (block ≡ b) → NextHoldsLink f (f b) → IsLooked capacity f plain (f b)
      on_case (inl before) = looked b before
      on_case (inr same) = subst (λ (c : ℕ). NextHoldsLink f (f c) → IsLooked capacity f plain (f c)) same own

  pub reads_on : (g : ℕ → ℕ) → sum_by g (take q.next q.order) ≡ sum_by g (take p.next p.order) + g block
  reads_on g =
      let more : p.next < length q.order = omega (arith, left, begins_length p.order q.order on.begins) in
      ap (λ (n : ℕ). sum_by g (take n q.order)) next ∙ sum_more g q.order p.next more
      ∙ (λ i. sum_by g (begun i) + g (last i))
    where
      begun : take p.next q.order ≡ take p.next p.order
      begun = ap (take p.next) (sym on.begins.1) ∙ take-append-le p.next p.order on.begins.0 (omega (arith, left))

      last : slice_index q.order p.next ≡ block
      last = begins_at p.order q.order p.next on.begins left ∙ sym at

  -- ---- what is told

  module _ (f : Blocks) (t u : Table) (named : List ℕ) (told : IsTold f p t) (below : block < p.blocks) (sized : IsSized t.links.blocks u) (directories : (b : ℕ) → Contains named b ↔ NamesDirectory (f block) b)
      (noted : AreNoted t.named.members named t.links.blocks u.named.members) (stay : (b : ℕ) → b ≢ block → set.contains t.links.members b ≡ true → slice_index u.words b ≡ slice_index t.words b) where
    quiet_on : (silent : Bool) → u.quiet.members ≡ cond silent (set.insert t.quiet.members block) t.quiet.members → ((b : ℕ) → set.contains t.links.members b ≡ true → set.contains u.links.members b ≡ true)
        → (silent ≡ true → (set.contains u.links.members block ≡ true) × ((c : ℕ) → NamesDirectory (f block) c → ⊥)) → (b : ℕ) → set.contains u.quiet.members b ≡ true
        → (b < q.blocks) × (set.contains u.links.members b ≡ true) × ((c : ℕ) → NamesDirectory (f b) c → ⊥)
    quiet_on silent is stays own b has = by silent own (eqb b block) refl (ap (λ s. set.contains s b) (sym is) ∙ has)
      where
        before : set.contains t.quiet.members b ≡ true → (b < q.blocks) × (set.contains u.links.members b ≡ true) × ((c : ℕ) → NamesDirectory (f b) c → ⊥)
        before was = let old = told.quiet b was in (omega (arith, old.0, on.blocks), stays b old.1, old.2)

        by : (s : Bool) → (s ≡ true → (set.contains u.links.members block ≡ true) × ((c : ℕ) → NamesDirectory (f block) c → ⊥)) → (here : Bool) → eqb b block ≡ here
            → set.contains (cond s (set.insert t.quiet.members block) t.quiet.members) b ≡ true → (b < q.blocks) × (set.contains u.links.members b ≡ true) × ((c : ℕ) → NamesDirectory (f b) c → ⊥)
        by false own here e was = before was
        by true own true e was =
            let same : block ≡ b = sym (eqb-true b block e) in
            let mine = own refl in
            (omega (arith, same, below, on.blocks), subst (λ (c : ℕ). set.contains u.links.members c ≡ true) same mine.0, subst (λ (a : ℕ). (c : ℕ) → NamesDirectory (f a) c → ⊥) same mine.1)
        by true own false e was = before (contains_other t.quiet.members block b (λ same. true≢false (sym (eq-eqb b block same) ∙ e)) was)

    silent_on : (silent : Bool) → u.quiet.members ≡ cond silent (set.insert t.quiet.members block) t.quiet.members → (HoldsLink f block → ((c : ℕ) → NamesDirectory (f block) c → ⊥) → silent ≡ true)
        → (b : ℕ) → HasSeen q b → HoldsLink f b → ((c : ℕ) → NamesDirectory (f b) c → ⊥) → set.contains u.quiet.members b ≡ true
    silent_on silent is own b seen holds none = ap (λ s. set.contains s b) is ∙ by silent own (seen_back b seen)
      where
        by : (s : Bool) → (HoldsLink f block → ((c : ℕ) → NamesDirectory (f block) c → ⊥) → s ≡ true) → HasSeen p b ⊎ (block ≡ b) → set.contains (cond s (set.insert t.quiet.members block) t.quiet.members) b ≡ true
        by true own (inl before) = contains-kept t.quiet.members block b (told.silent b before holds none)
        by false own (inl before) = told.silent b before holds none
        by true own (inr same) = subst (λ (c : ℕ). set.contains (set.insert t.quiet.members block) c ≡ true) same (contains-insert_same t.quiet.members block)
        by false own (inr same) =
            absurd (true≢false (sym (own (subst (HoldsLink f) (sym same) holds) (subst (λ (a : ℕ). (c : ℕ) → NamesDirectory (f a) c → ⊥) (sym same) none))))

    size : u.links.blocks ≡ p.blocks
    size = sized.links ∙ told.sized.links

    all_sized : IsSized q.blocks u
    all_sized = subst (λ (n : ℕ). IsSized n u) (told.sized.links ∙ sym on.blocks) sized

    new_names : (b : ℕ) → set.contains u.named.members b ≡ true → (a : ℕ) × HasSeen q a × NamesDirectory (f a) b
    new_names b has = by (noted.only b has)
      where
        by : (set.contains t.named.members b ≡ true) ⊎ Contains named b → (a : ℕ) × HasSeen q a × NamesDirectory (f a) b
        by (inl before) = let own = told.names b before in (own.0, seen_on own.0 own.1, own.2)
        by (inr now) = (block, seen_new, (directories b).0 now)

    new_named : (a b : ℕ) → HasSeen q a → NamesDirectory (f a) b → b < q.blocks → set.contains u.named.members b ≡ true
    new_named a b seen names less = by (seen_back a seen)
      where
        by : HasSeen p a ⊎ (block ≡ a) → set.contains u.named.members b ≡ true
        by (inl before) = noted.stay b (told.named a b before names (omega (arith, less, on.blocks)))
        by (inr same) = noted.all b ((directories b).1 (subst (λ (c : ℕ). NamesDirectory (f c) b) (sym same) names)) (omega (arith, less, on.blocks, told.sized.links))

    -- the node is none of a directory
    pub told_other : link_of (f block) ≡ None → u.links.members ≡ t.links.members → u.quiet.members ≡ t.quiet.members → IsTold f q u
    told_other none links quiet = record {
      sized = all_sized;
      held = λ b has.
          let own = told.held b (ap (λ s. set.contains s b) (sym links) ∙ has) in
          (own.0, stay b (λ same. true≢false (ap is_some (sym own.0.1 ∙ ap (λ (c : ℕ). link_of (f c)) same ∙ none))) (ap (λ s. set.contains s b) (sym links) ∙ has) ∙ own.1, seen_on b own.2);
      links = λ b seen holds. by b holds (seen_back b seen);
      names = new_names;
      named = new_named;
      quiet = quiet_on false quiet (λ b has. ap (λ s. set.contains s b) links ∙ has) (λ yes_. absurd (true≢false (sym yes_)));
      silent = silent_on false quiet (λ holds no_names. absurd (true≢false (ap is_some (sym holds.1 ∙ none))));
    }
      where
        by : (b : ℕ) → HoldsLink f b → HasSeen p b ⊎ (block ≡ b) → has_link u b ≡ true
        by b holds (inl before) =
            let parts = and_parts (nat_lt b t.links.blocks) (set.contains t.links.members b) (told.links b before holds) in
            and_from (nat_lt b u.links.blocks) (set.contains u.links.members b) (ap (nat_lt b) sized.links ∙ parts.0) (ap (λ s. set.contains s b) links ∙ parts.1)
        by b holds (inr same) = absurd (true≢false (ap is_some (sym holds.1 ∙ ap (λ (c : ℕ). link_of (f c)) (sym same) ∙ none)))

    -- it is one
    pub told_link : (l : Link) → link_of (f block) ≡ Some l → u.links.members ≡ set.insert t.links.members block → slice_index u.words block ≡ l.next
        → u.quiet.members ≡ cond (eqb (length named) 0) (set.insert t.quiet.members block) t.quiet.members → IsTold f q u
    told_link l is links next quiet = record {
      sized = all_sized;
      held = λ b has. held b (eqb b block) refl (ap (λ s. set.contains s b) (sym links) ∙ has);
      links = λ b seen holds.
          and_from (nat_lt b u.links.blocks) (set.contains u.links.members b) (inside b holds (seen_back b seen)) (ap (λ s. set.contains s b) links ∙ there b holds (seen_back b seen));
      names = new_names;
      named = new_named;
      quiet = quiet_on (eqb (length named) 0) quiet (λ b has. ap (λ s. set.contains s b) links ∙ contains-kept t.links.members block b has)
          (λ empty. (ap (λ s. set.contains s block) links ∙ contains-insert_same t.links.members block, λ c names. (let in_list = (directories c).1 names in omega (arith, in_list.1, eqb-true (length named) 0 empty))));
      silent = silent_on (eqb (length named) 0) quiet (λ holds no_names. none_named named (λ c has. no_names c ((directories c).0 has)));
    }
      where
        inside : (b : ℕ) → HoldsLink f b → HasSeen p b ⊎ (block ≡ b) → nat_lt b u.links.blocks ≡ true
        inside b holds (inl before) = ap (nat_lt b) sized.links ∙ (and_parts (nat_lt b t.links.blocks) (set.contains t.links.members b) (told.links b before holds)).0
        inside b holds (inr same) = lt-ltb b u.links.blocks (omega (arith, same, below, size))

        there : (b : ℕ) → HoldsLink f b → HasSeen p b ⊎ (block ≡ b) → set.contains (set.insert t.links.members block) b ≡ true
        there b holds (inl before) = contains-kept t.links.members block b (and_parts (nat_lt b t.links.blocks) (set.contains t.links.members b) (told.links b before holds)).1
        there b holds (inr same) = subst (λ (c : ℕ). set.contains (set.insert t.links.members block) c ≡ true) same (contains-insert_same t.links.members block)

        held : (b : ℕ) (here : Bool) → eqb b block ≡ here → set.contains (set.insert t.links.members block) b ≡ true → HoldsLink f b × (slice_index u.words b ≡ next_of (f b)) × HasSeen q b
        held b true e has =
            let same : block ≡ b = sym (eqb-true b block e) in
            subst (λ (c : ℕ). HoldsLink f c × (slice_index u.words c ≡ next_of (f c)) × HasSeen q c) same
            ((l, is), next ∙ sym (ap (λ (o : Option Link). option_map_or (λ k. k.next) o 0) is), seen_new)
        held b false e has =
            let other : b ≢ block = λ same. true≢false (sym (eq-eqb b block same) ∙ e) in
            let before = contains_other t.links.members block b other has in
            let own = told.held b before in
            (own.0, stay b other before ∙ own.1, seen_on b own.2)

    -- by what was noted
    pub told_on : (linked : Bool) → linked ≡ is_some (link_of (f block)) → u.links.members ≡ cond linked (set.insert t.links.members block) t.links.members
        → ((l : Link) → link_of (f block) ≡ Some l → slice_index u.words block ≡ l.next)
        → u.quiet.members ≡ cond (linked && eqb (length named) 0) (set.insert t.quiet.members block) t.quiet.members → IsTold f q u
    told_on linked is links next quiet = by (link_of (f block)) refl
      where
        by : (o : Option Link) → link_of (f block) ≡ o → IsTold f q u
        by None own =
            let none : linked ≡ false = is ∙ ap is_some own in
            told_other own (links ∙ ap (λ (s : Bool). cond s (set.insert t.links.members block) t.links.members) none)
            (quiet ∙ ap (λ (s : Bool). cond (s && eqb (length named) 0) (set.insert t.quiet.members block) t.quiet.members) none)
        by (Some l) own =
            let some : linked ≡ true = is ∙ ap is_some own in
            told_link l own (links ∙ ap (λ (s : Bool). cond s (set.insert t.links.members block) t.links.members) some) (next l own)
            (quiet ∙ ap (λ (s : Bool). cond (s && eqb (length named) 0) (set.insert t.quiet.members block) t.quiet.members) some)

-- nothing was read
pub looked_none : (capacity : ℕ) (f : Blocks) (plain : Bool) (p : Pass) → p.next ≡ 0 → AreLooked capacity f plain p
looked_none capacity f plain p none b (k, lt, at) = absurd (omega (arith, lt, none))

pub told_none : (f : Blocks) (p : Pass) (t : Table) → p.next ≡ 0 → IsSized p.blocks t → t.links.members ≡ set.empty → t.named.members ≡ set.empty → t.quiet.members ≡ set.empty → IsTold f p t
told_none f p t none sized links named quiet = record {
  sized = sized;
  held = λ b has. absurd (true≢false (sym has ∙ ap (λ s. set.contains s b) links ∙ set.contains-empty nat_cmp b));
  links = λ b (k, lt, at). absurd (omega (arith, lt, none));
  names = λ b has. absurd (true≢false (sym has ∙ ap (λ s. set.contains s b) named ∙ set.contains-empty nat_cmp b));
  named = λ a b (k, lt, at). absurd (omega (arith, lt, none));
  quiet = λ b has. absurd (true≢false (sym has ∙ ap (λ s. set.contains s b) quiet ∙ set.contains-empty nat_cmp b));
  silent = λ b (k, lt, at). absurd (omega (arith, lt, none));
}

-- ---- what the walk of depths is told

pub told_quiet : (f : Blocks) (p : Pass) (t : Table) → IsTold f p t → AreQuiet f t.quiet.members t.words
told_quiet f p t told b has =
    let own = told.quiet b has in
    (omega (arith, own.0, told.sized.words), sym (told.held b own.1).1, λ c. none c (names_directory (link_items (f b)) c) refl own.2)
  where
    none : (c : ℕ) (s : Bool) → names_directory (link_items (f b)) c ≡ s → ((c : ℕ) → NamesDirectory (f b) c → ⊥) → names_directory (link_items (f b)) c ≡ false
    none c false is silent = is
    none c true is silent =
        let found = any_contains (λ (item : Item). is_directory_at item.place c) (link_items (f b)) is in
        absurd (silent c (found.0, found.1, directory_is found.0.place c found.2))

-- a node that names no directory has none among its entries
any_directory : (items : List Item) (item : Item) (c : ℕ) → Contains items item → item.place ≡ Dir c → name_any_directory items ≡ true
any_directory [] item c (k, lt, at) is = absurd (omega (arith, lt))
any_directory (x ∷ items) item c (zero, lt, at) is = ap (λ (s : Bool). s || name_any_directory items) (ap (λ (i : Item). is_dir_place i.place) at ∙ ap is_dir_place is)
any_directory (x ∷ items) item c (suc k, lt, at) is = either (is_dir_place x.place) (any_directory items item c (k, omega (arith, lt), at) is)
  where
    either : (s : Bool) → name_any_directory items ≡ true → (s || name_any_directory items) ≡ true
    either true rest = refl
    either false rest = rest

pub told_silent : (f : Blocks) (p : Pass) (t : Table) (b : ℕ) (l : Link) → IsTold f p t → HasSeen p b → link_of (f b) ≡ Some l → name_any_directory l.items ≡ false → set.contains t.quiet.members b ≡ true
told_silent f p t b l told seen is none =
    told.silent b seen (l, is) (λ c names. true≢false (sym (any_directory l.items names.0 c (subst (λ (xs : List Item). Contains xs names.0) (ap (λ (o : Option Link). option_map_or (λ k. k.items) o []) is) names.1) names.2) ∙ none))

-- ---- what calls answer

pub on_any : {T E : Type 0} (r : Result T E) (P : Type 0) → P → OnOk r P
on_any (Ok x) P h = h
on_any (Err e) P h = tt

pub ok_any : {T E : Type 0} (r : Result T E) (P : T → Type 0) → ((x : T) → P x) → IfOk r P
ok_any (Ok x) P h = h x
ok_any (Err e) P h = tt

-- the block that is read next is reached
pub next_reached : (f : Blocks) (p : Pass) (block : ℕ) → IsPass f p → p.next < length p.order → block ≡ slice_index p.order p.next → Reached f p.roots block
next_reached f p block pass left at = subst (Reached f p.roots) (sym at) (pass.reached _ (Contains-get_or p.order p.next 0 left))
