-- What a table keeps of the heads of files.
use Rattle.std.proofs.Common.{◌≡◌, ◌≢◌, ◌⊎◌, inl, inr, ℕ, zero, suc, ◌+◌, ◌<◌, ◌≤◌, Bool, true, false, cond, Option, Some, None, List, [], ◌∷◌, ◌++◌, length, take, drop, refl, sym, ap, subst, ◌∙◌, arith}
use Rattle.std.specs.Prelude.{Contains, slice_index, slice_index_or, slice_set, is_some, nat_le, eqb, ◌||◌, ◌&&◌}
use Rattle.std.specs.FinSet as set
use Rattle.std.specs.Option.{option_map, option_map_or}
use Rattle.std.specs.Ordering.{nat_cmp}
use Rattle.std.proofs.lemmas.Bool.{true≢false, cases_lt, and_parts, and_from, leb-true, le-leb, eqb-true, eq-eqb, ne_eqb}
use Rattle.std.proofs.lemmas.List.{get_or-set_same, get_or-set_other, length-set, take_all, take_more, append_assoc, append-nil, take-append-drop}
use Rattle.std.proofs.lemmas.List.Elements.{Contains-append_left, Contains-append_right, Contains-append_cases, Contains-push, Contains-push_cases, Contains-get_or}
use Rattle.std.specs.Cmp.{unsigned_tied}
use Rattle.std.proofs.lemmas.Cmp.{nat_cmp_total}
use Rattle.block_ring.proofs.RingOrder.{contains-insert_same, contains-kept}
use Rattle.node_format.specs.declared.place.Place.{Place}
use Rattle.node_format.specs.declared.place.Place.TheVariants.{Dir, File}
use Rattle.nodes.specs.Bodies.{head_index}
use Rattle.reclaim.specs.Heads.{fits, FitsHead, FitHeads, IsKept, KeepsHeads, IsNew, KeepsLinks, longest_by}
use Rattle.reclaim.specs.Passes.{AreNoted}
use Rattle.reclaim.specs.Tables.{IsSized, TakesIn}
use Rattle.reclaim.specs.declared.edge.Edge.{Edge}
use Rattle.reclaim.specs.declared.looks.Parts.{Parts}
use Rattle.reclaim.specs.declared.table.Table.{Table}

-- ---- lengths

pub fits_parts : (capacity size most : ℕ) → fits capacity size most ≡ true → (size ≤ most) × (head_index capacity size ≡ head_index capacity most)
fits_parts capacity size most is =
    let both = and_parts (nat_le size most) (eqb (head_index capacity size) (head_index capacity most)) is in
    (leb-true size most both.0, eqb-true (head_index capacity size) (head_index capacity most) both.1)

pub fits_from : (capacity size most : ℕ) → size ≤ most → head_index capacity size ≡ head_index capacity most → fits capacity size most ≡ true
fits_from capacity size most le same =
    and_from (nat_le size most) (eqb (head_index capacity size) (head_index capacity most)) (le-leb size most le) (eq-eqb (head_index capacity size) (head_index capacity most) same)

pub fits_on : (capacity size mid most : ℕ) → fits capacity size mid ≡ true → fits capacity mid most ≡ true → fits capacity size most ≡ true
fits_on capacity size mid most first second =
    let a = fits_parts capacity size mid first in
    let b = fits_parts capacity mid most second in
    fits_from capacity size most (omega (arith, a.0, b.0)) (a.1 ∙ b.1)

pub fits_itself : (capacity size : ℕ) → fits capacity size size ≡ true
fits_itself capacity size = fits_from capacity size size (omega arith) refl

-- no file that has bytes fits where none may
pub fits_none : (capacity n : ℕ) → fits capacity (suc n) 0 ≡ true → ⊥
fits_none capacity n is = omega (arith, (fits_parts capacity (suc n) 0 is).0)

-- of two lengths with one index the greater has room for the less
pub fits_either : (capacity a b most : ℕ) → fits capacity a most ≡ true → fits capacity b most ≡ true → fits capacity a b ≡ false → fits capacity b a ≡ true
fits_either capacity a b most first second fails = elim (cases_lt b a) [
  | inl less ↦ fits_from capacity b a (omega (arith, less)) ((fits_parts capacity b most second).1 ∙ sym (fits_parts capacity a most first).1)
  | inr past ↦ absurd (true≢false (sym (fits_from capacity a b past ((fits_parts capacity a most first).1 ∙ sym (fits_parts capacity b most second).1)) ∙ fails))
]

-- ---- entries

pub by_same : (P : Type 0) (a b : ℕ) → (a ≡ b → P) → (a ≢ b → P) → P
by_same P a b same other = on (eqb a b) refl
  where
    on : (s : Bool) → eqb a b ≡ s → P
    on true is = same (eqb-true a b is)
    on false is = other (λ e. true≢false (sym (eq-eqb a b e) ∙ is))

pub by_bool : (P : Type 0) (t : Bool) → (t ≡ true → P) → (t ≡ false → P) → P
by_bool P true holds fails = holds refl
by_bool P false holds fails = fails refl

-- another block of a set with one more was in it before
pub contains_other : (members : set.FinSet nat_cmp) (b c : ℕ) → c ≢ b → set.contains (set.insert members b) c ≡ true → set.contains members c ≡ true
contains_other members b c other has =
    ap (λ t. t || set.contains members c) (sym (unsigned_tied c b ∙ ne_eqb c b other))
    ∙ sym (set.contains-insert nat_cmp_total members b c) ∙ has

pub lacked : (members : set.FinSet nat_cmp) (b c : ℕ) → set.contains (set.insert members b) c ≡ false → set.contains members c ≡ false
lacked members b c lacks = by_bool (set.contains members c ≡ false) (set.contains members c) (λ has. absurd (true≢false (sym (contains-kept members b c has) ∙ lacks))) (λ none. none)

lacks_other : (members : set.FinSet nat_cmp) (b c : ℕ) → c ≢ b → set.contains members c ≡ false → set.contains (set.insert members b) c ≡ false
lacks_other members b c other lacks =
    by_bool (set.contains (set.insert members b) c ≡ false) (set.contains (set.insert members b) c) (λ has. absurd (true≢false (sym (contains_other members b c other has) ∙ lacks))) (λ none. none)

-- the file of an entry has bytes
file_fits : (capacity : ℕ) (most : ℕ → ℕ) (head size : ℕ) → 0 < size → FitsHead capacity most (File head size) → fits capacity size (most head) ≡ true
file_fits capacity most head zero some is = absurd (omega (arith, some))
file_fits capacity most head (suc n) some is = is

fits_some : (capacity size : ℕ) → 0 < size → fits capacity size 0 ≡ true → ⊥
fits_some capacity size some is = omega (arith, some, (fits_parts capacity size 0 is).0)

pub kept_file : (capacity : ℕ) (t : Table) (head size : ℕ) → 0 < size → head < t.links.blocks → set.contains t.links.members head ≡ false → fits capacity size (slice_index t.words head) ≡ true
    → IsKept capacity t (File head size)
kept_file capacity t head zero some below lacks is = absurd (omega (arith, some))
kept_file capacity t head (suc n) some below lacks is = (below, lacks, is)

some_of : (n : ℕ) → n ≢ 0 → 0 < n
some_of zero other = absurd (other refl)
some_of (suc n) other = omega arith

module _ (capacity : ℕ) (most : ℕ → ℕ) (seen : List ℕ) (told : List Place) (t : Table) (keeps : KeepsHeads capacity most seen told t) where
  pub told_more : (place : Place) → IsKept capacity t place → KeepsHeads capacity most seen (told ++ place ∷ []) t
  told_more place own = record {
    beyond = keeps.beyond;
    links = keeps.links;
    all = keeps.all;
    read = keeps.read;
    kept = λ at has. elim (Contains-push_cases told place at has) [
      | inl before ↦ keeps.kept at before
      | inr same ↦ subst (IsKept capacity t) same own
    ];
    from = λ b links read some. Contains-append_left told (place ∷ []) (File b (slice_index t.words b)) (keeps.from b links read some);
  }

  -- an entry that is last of those that fit
  last_fits : (head size : ℕ) → 0 < size → FitHeads capacity most (told ++ File head size ∷ []) → fits capacity size (most head) ≡ true
  last_fits head size some fit = file_fits capacity most head size some (fit (File head size) (Contains-push told (File head size)))

  pub none_fits : (head size : ℕ) → 0 < size → most head ≡ 0 → FitHeads capacity most (told ++ File head size ∷ []) → ⊥
  none_fits head size some none fit = fits_some capacity size some (ap (fits capacity size) (sym none) ∙ last_fits head size some fit)

  pub read_fits : (head size : ℕ) → 0 < size → set.contains t.links.members head ≡ false → set.contains t.read.members head ≡ true → fits capacity size (slice_index t.words head) ≡ false
      → FitHeads capacity most (told ++ File head size ∷ []) → ⊥
  read_fits head size some links read fails fit = true≢false (sym (last_fits head size some fit) ∙ ap (fits capacity size) (sym (keeps.read head read links)) ∙ fails)

  -- neither of two lengths has room for the other
  pub others_fit : (head size : ℕ) → 0 < size → set.contains t.links.members head ≡ false → set.contains t.read.members head ≡ false → slice_index t.words head ≢ 0
      → fits capacity (slice_index t.words head) size ≡ false → fits capacity size (slice_index t.words head) ≡ false → FitHeads capacity most (told ++ File head size ∷ []) → ⊥
  others_fit head size some links read word fails neither fit =
      let w = slice_index t.words head in
      let own = file_fits capacity most head w (some_of w word) (fit (File head w) (Contains-append_left told (File head size ∷ []) (File head w) (keeps.from head links read word))) in
      true≢false (sym (fits_either capacity w size (most head) own (last_fits head size some fit) fails) ∙ neither)

  -- the word of a head becomes a length that has room for it
  pub head_set : (u : Table) (head size : ℕ) → 0 < size → u.links ≡ t.links → u.read ≡ t.read → u.words ≡ slice_set t.words head size → head < t.links.blocks → head < length t.words
      → set.contains t.links.members head ≡ false → set.contains t.read.members head ≡ false → (slice_index t.words head ≡ 0) ⊎ (fits capacity (slice_index t.words head) size ≡ true)
      → KeepsHeads capacity most seen (told ++ File head size ∷ []) u
  head_set u head size some same_links same_read words below inside links read room = record {
    beyond = λ b past. keeps.beyond b (λ less. past (subst (λ l. b < l.blocks) (sym same_links) less));
    links = λ b has. keeps.links b (ap (λ l. set.contains l.members b) (sym same_links) ∙ has);
    all = λ b has. ap (λ l. set.contains l.members b) same_read ∙ keeps.all b has;
    read = λ b has lacks.
        let has' : set.contains t.read.members b ≡ true = ap (λ l. set.contains l.members b) (sym same_read) ∙ has in
        let other : b ≢ head = λ same. true≢false (sym has' ∙ ap (set.contains t.read.members) same ∙ read) in
        word_other b other ∙ keeps.read b has' (ap (λ l. set.contains l.members b) (sym same_links) ∙ lacks);
    kept = λ at has. elim (Contains-push_cases told (File head size) at has) [
      | inl before ↦ stays at (keeps.kept at before)
      | inr same ↦ subst (IsKept capacity u) same (kept_file capacity u head size some (subst (λ l. head < l.blocks) (sym same_links) below) (ap (λ l. set.contains l.members head) same_links ∙ links) (ap (fits capacity size) word_here ∙ fits_itself capacity size))
    ];
    from = λ b lacks unread word. by_same (Contains (told ++ File head size ∷ []) (File b (slice_index u.words b))) b head
        (λ same. subst (λ (c : ℕ). Contains (told ++ File head size ∷ []) (File c (slice_index u.words c))) (sym same)
        (subst (λ (w : ℕ). Contains (told ++ File head size ∷ []) (File head w)) (sym word_here) (Contains-push told (File head size))))
        (λ other. subst (λ (w : ℕ). Contains (told ++ File head size ∷ []) (File b w)) (sym (word_other b other))
        (Contains-append_left told (File head size ∷ []) (File b (slice_index t.words b)) (keeps.from b (ap (λ l. set.contains l.members b) (sym same_links) ∙ lacks) (ap (λ l. set.contains l.members b) (sym same_read) ∙ unread) (λ none. word (word_other b other ∙ none)))));
  }
    where
      word_here : slice_index u.words head ≡ size
      word_here = ap (λ (xs : List ℕ). slice_index xs head) words ∙ get_or-set_same t.words head size 0 inside

      word_other : (b : ℕ) → b ≢ head → slice_index u.words b ≡ slice_index t.words b
      word_other b other = ap (λ (xs : List ℕ). slice_index xs b) words ∙ get_or-set_other t.words head b size 0 other

      grown : (n : ℕ) → fits capacity (suc n) (slice_index t.words head) ≡ true → fits capacity (suc n) size ≡ true
      grown n is = elim room [
        | inl none ↦ absurd (fits_none capacity n (ap (fits capacity (suc n)) (sym none) ∙ is))
        | inr more ↦ fits_on capacity (suc n) (slice_index t.words head) size is more
      ]

      stays : (at : Place) → IsKept capacity t at → IsKept capacity u at
      stays (Dir block) own = tt
      stays (File b zero) own = own
      stays (File b (suc n)) (lt, lacks, is) = (
        subst (λ l. b < l.blocks) (sym same_links) lt,
        ap (λ l. set.contains l.members b) same_links ∙ lacks,
        by_same (fits capacity (suc n) (slice_index u.words b) ≡ true) b head
            (λ same. ap (λ (c : ℕ). fits capacity (suc n) (slice_index u.words c)) same ∙ ap (fits capacity (suc n)) word_here ∙ grown n (ap (λ (c : ℕ). fits capacity (suc n) (slice_index t.words c)) (sym same) ∙ is))
            (λ other. ap (fits capacity (suc n)) (word_other b other) ∙ is),
      )

  -- ---- a node that was read

  -- an entry told of a file that its head has fails room for
  pub longest_bad : (block allowed : ℕ) → most block ≡ allowed → set.contains t.links.members block ≡ false → slice_index t.words block ≢ 0 → fits capacity (slice_index t.words block) allowed ≡ false
      → FitHeads capacity most told → ⊥
  longest_bad block allowed allows fresh word fails fit = by_bool ⊥ (set.contains t.read.members block)
      (λ read. true≢false (sym (fits_itself capacity w) ∙ ap (fits capacity w) (keeps.read block read fresh ∙ allows) ∙ fails))
      (λ unread. true≢false (sym (file_fits capacity most block w (some_of w word) (fit (File block w) (keeps.from block fresh unread word))) ∙ ap (fits capacity w) allows ∙ fails))
    where
      w : ℕ
      w = slice_index t.words block

  module _ (u : Table) (block allowed : ℕ) (linked : Bool) (allows : most block ≡ allowed) (link : linked ≡ true → most block ≡ 0) (fresh : set.contains t.links.members block ≡ false)
      (room : (slice_index t.words block ≡ 0) ⊎ (fits capacity (slice_index t.words block) allowed ≡ true)) (size : u.links.blocks ≡ t.links.blocks)
      (links : u.links.members ≡ cond linked (set.insert t.links.members block) t.links.members) (read : u.read.members ≡ set.insert t.read.members block)
      (others : (b : ℕ) → b ≢ block → slice_index u.words b ≡ slice_index t.words b) (own : linked ≡ false → slice_index u.words block ≡ allowed) where
    had : (b : ℕ) → b ≢ block → set.contains u.links.members b ≡ true → set.contains t.links.members b ≡ true
    had b other has = on linked (ap (λ s. set.contains s b) (sym links) ∙ has)
      where
        on : (l : Bool) → set.contains (cond l (set.insert t.links.members block) t.links.members) b ≡ true → set.contains t.links.members b ≡ true
        on true has = contains_other t.links.members block b other has
        on false has = has

    lacked_links : (b : ℕ) → set.contains u.links.members b ≡ false → set.contains t.links.members b ≡ false
    lacked_links b lacks = on linked (ap (λ s. set.contains s b) (sym links) ∙ lacks)
      where
        on : (l : Bool) → set.contains (cond l (set.insert t.links.members block) t.links.members) b ≡ false → set.contains t.links.members b ≡ false
        on true lacks = lacked t.links.members block b lacks
        on false lacks = lacks

    lacks_links : (b : ℕ) → b ≢ block → set.contains t.links.members b ≡ false → set.contains u.links.members b ≡ false
    lacks_links b other lacks = by_bool (set.contains u.links.members b ≡ false) (set.contains u.links.members b) (λ has. absurd (true≢false (sym (had b other has) ∙ lacks))) (λ none. none)

    -- a block that is no node of a directory
    unlinked : set.contains u.links.members block ≡ false → linked ≡ false
    unlinked lacks = on linked (ap (λ s. set.contains s block) (sym links) ∙ lacks)
      where
        on : (l : Bool) → set.contains (cond l (set.insert t.links.members block) t.links.members) block ≡ false → l ≡ false
        on true lacks = absurd (true≢false (sym (contains-insert_same t.links.members block) ∙ lacks))
        on false lacks = refl

    was_read : (b : ℕ) → b ≢ block → set.contains u.read.members b ≡ true → set.contains t.read.members b ≡ true
    was_read b other has = contains_other t.read.members block b other (ap (λ s. set.contains s b) (sym read) ∙ has)

    grown : (n : ℕ) → fits capacity (suc n) (slice_index t.words block) ≡ true → fits capacity (suc n) allowed ≡ true
    grown n is = elim room [
      | inl none ↦ absurd (fits_none capacity n (ap (fits capacity (suc n)) (sym none) ∙ is))
      | inr more ↦ fits_on capacity (suc n) (slice_index t.words block) allowed is more
    ]

    stays : (at : Place) → IsKept capacity t at → IsKept capacity u at
    stays (Dir b) own = tt
    stays (File b zero) own = own
    stays (File b (suc n)) (lt, lacks, is) = by_same (IsKept capacity u (File b (suc n))) b block
        (λ same.
        let here : fits capacity (suc n) allowed ≡ true = grown n (ap (λ (c : ℕ). fits capacity (suc n) (slice_index t.words c)) (sym same) ∙ is) in
        by_bool (IsKept capacity u (File b (suc n))) linked
        (λ yes_. absurd (fits_none capacity n (ap (fits capacity (suc n)) (sym (link yes_) ∙ allows) ∙ here)))
        (λ fails. (
          omega (arith, lt, size),
          ap (λ s. set.contains s b) links ∙ ap (λ l. set.contains (cond l (set.insert t.links.members block) t.links.members) b) fails ∙ lacks,
          ap (λ (c : ℕ). fits capacity (suc n) (slice_index u.words c)) same ∙ ap (fits capacity (suc n)) (own fails) ∙ here,
        )))
        (λ other. (omega (arith, lt, size), lacks_links b other lacks, ap (fits capacity (suc n)) (others b other) ∙ is))

    pub node_on : KeepsHeads capacity most (seen ++ block ∷ []) told u
    node_on = record {
      beyond = λ b past. keeps.beyond b (λ less. past (omega (arith, less, size)));
      links = λ b has. by_same (most b ≡ 0) b block
          (λ same. ap most same ∙ by_bool (most block ≡ 0) linked link (λ fails. absurd (true≢false (sym has ∙ ap (λ s. set.contains s b) links ∙ ap (λ l. set.contains (cond l (set.insert t.links.members block) t.links.members) b) fails ∙ ap (set.contains t.links.members) same ∙ fresh))))
          (λ other. keeps.links b (had b other has));
      all = λ b has. ap (λ s. set.contains s b) read ∙ elim (Contains-push_cases seen block b has) [
        | inl before ↦ contains-kept t.read.members block b (keeps.all b before)
        | inr same ↦ subst (λ (c : ℕ). set.contains (set.insert t.read.members block) c ≡ true) same (contains-insert_same t.read.members block)
      ];
      read = λ b has lacks. by_same (slice_index u.words b ≡ most b) b block
          (λ same. ap (slice_index u.words) same ∙ own (unlinked (ap (set.contains u.links.members) (sym same) ∙ lacks)) ∙ sym allows ∙ ap most (sym same))
          (λ other. others b other ∙ keeps.read b (was_read b other has) (lacked_links b lacks));
      kept = λ at has. stays at (keeps.kept at has);
      from = λ b lacks unread word. by_same (Contains told (File b (slice_index u.words b))) b block
          (λ same. absurd (true≢false (sym (contains-insert_same t.read.members block) ∙ ap (set.contains (set.insert t.read.members block)) (sym same) ∙ ap (λ s. set.contains s b) (sym read) ∙ unread)))
          (λ other. subst (λ (w : ℕ). Contains told (File b w)) (sym (others b other))
          (keeps.from b (lacked_links b lacks) (lacked t.read.members block b (ap (λ s. set.contains s b) (sym read) ∙ unread)) (λ none. word (others b other ∙ none))));
    }

-- what a test of a word says
pub room_of : (capacity word allowed : ℕ) → (eqb word 0 || fits capacity word allowed) ≡ true → (word ≡ 0) ⊎ (fits capacity word allowed ≡ true)
room_of capacity word allowed is = on (eqb word 0) refl is
  where
    on : (s : Bool) → eqb word 0 ≡ s → (s || fits capacity word allowed) ≡ true → (word ≡ 0) ⊎ (fits capacity word allowed ≡ true)
    on true e is = inl (eqb-true word 0 e)
    on false e is = inr is

pub room_not : (capacity word allowed : ℕ) → (eqb word 0 || fits capacity word allowed) ≡ false → (word ≢ 0) × (fits capacity word allowed ≡ false)
room_not capacity word allowed is = on (eqb word 0) refl is
  where
    on : (s : Bool) → eqb word 0 ≡ s → (s || fits capacity word allowed) ≡ false → (word ≢ 0) × (fits capacity word allowed ≡ false)
    on true e is = absurd (true≢false is)
    on false e is = (λ none. true≢false (sym (eq-eqb word 0 none) ∙ e), is)

-- an empty file
pub empty_kept : (capacity : ℕ) (t : Table) (place : Place) (head size : ℕ) → place ≡ File head size → size ≡ 0 → eqb head 0 ≡ true → IsKept capacity t place
empty_kept capacity t place head size is none same = subst (IsKept capacity t) (sym (is ∙ ap (File head) none)) (eqb-true head 0 same)

pub empty_fits : (capacity : ℕ) (most : ℕ → ℕ) (told : List Place) (place : Place) (head size : ℕ) → place ≡ File head size → size ≡ 0 → eqb head 0 ≡ false → FitHeads capacity most (told ++ place ∷ []) → ⊥
empty_fits capacity most told place head size is none other fit =
    let own : head ≡ 0 = subst (FitsHead capacity most) (is ∙ ap (File head) none) (fit place (Contains-push told place)) in
    true≢false (sym (eq-eqb head 0 own) ∙ other)

-- entries that fit begin with those told before
pub fit_before : (capacity : ℕ) (most : ℕ → ℕ) (told more : List Place) → FitHeads capacity most (told ++ more) → FitHeads capacity most told
fit_before capacity most told more fit at has = fit at (Contains-append_left told more at has)

-- ---- tables whose words of heads changed

pub links_itself : (t : Table) → KeepsLinks t t
links_itself t = record { same = refl; count = refl; stay = λ b has. refl }

pub links_on : (t u v : Table) → KeepsLinks t u → KeepsLinks u v → KeepsLinks t v
links_on t u v first second = record {
  same = second.same ∙ ap (λ (x : Table). record x { words = v.words }) first.same;
  count = second.count ∙ first.count;
  stay = λ b has. second.stay b (ap (λ (x : Table). set.contains x.links.members b) first.same ∙ has) ∙ first.stay b has;
}

pub links_sized : (blocks : ℕ) (t u : Table) → KeepsLinks t u → IsSized blocks t → IsSized blocks u
links_sized blocks t u keeps sized = record {
  words = keeps.count ∙ sized.words;
  links = ap (λ (x : Table). x.links.blocks) keeps.same ∙ sized.links;
  named = ap (λ (x : Table). x.named.blocks) keeps.same ∙ sized.named;
  quiet = ap (λ (x : Table). x.quiet.blocks) keeps.same ∙ sized.quiet;
  read = ap (λ (x : Table). x.read.blocks) keeps.same ∙ sized.read;
}

-- ---- lists of entries

-- those of a list that fit and one more of it are among all
pub fit_so_far : (capacity : ℕ) (most : ℕ → ℕ) (told places : List Place) (i : ℕ) (d : Place) → i < length places → FitHeads capacity most (told ++ places)
    → FitHeads capacity most ((told ++ take i places) ++ slice_index_or places i d ∷ [])
fit_so_far capacity most told places i d below fit at has = elim (Contains-push_cases (told ++ take i places) (slice_index_or places i d) at has) [
  | inl before ↦ elim (Contains-append_cases told (take i places) at before) [
    | inl first ↦ fit at (Contains-append_left told places at first)
    | inr then_ ↦ fit at (Contains-append_right told places at (subst (λ (l : List Place). Contains l at) (take-append-drop i places) (Contains-append_left (take i places) (drop i places) at then_)))
  ]
  | inr same ↦ subst (FitsHead capacity most) same (fit _ (Contains-append_right told places _ (Contains-get_or places i d below)))
]

pub told_so_far : (capacity : ℕ) (most : ℕ → ℕ) (seen : List ℕ) (told places : List Place) (t : Table) (i : ℕ) (d : Place) → i < length places
    → KeepsHeads capacity most seen ((told ++ take i places) ++ slice_index_or places i d ∷ []) t → KeepsHeads capacity most seen (told ++ take (i + 1) places) t
told_so_far capacity most seen told places t i d below keeps =
    subst (λ (l : List Place). KeepsHeads capacity most seen l t) (append_assoc told (take i places) (slice_index_or places i d ∷ []) ∙ ap (λ (l : List Place). told ++ l) (sym (take_more places i d below))) keeps

pub told_all : (capacity : ℕ) (most : ℕ → ℕ) (seen : List ℕ) (told places : List Place) (t : Table) (i : ℕ) → length places ≤ i
    → KeepsHeads capacity most seen (told ++ take i places) t → KeepsHeads capacity most seen (told ++ places) t
told_all capacity most seen told places t i past keeps = subst (λ (l : List Place). KeepsHeads capacity most seen (told ++ l) t) (take_all i places past) keeps

pub told_none : (capacity : ℕ) (most : ℕ → ℕ) (seen : List ℕ) (told places : List Place) (t : Table) → KeepsHeads capacity most seen told t → KeepsHeads capacity most seen (told ++ take 0 places) t
told_none capacity most seen told places t keeps = subst (λ (l : List Place). KeepsHeads capacity most seen l t) (sym (append-nil told)) keeps

-- ---- a node that is taken in: its own word, what it says of the next one, and its entries

some_mapped : (edge : Option Edge) → is_some (option_map (λ (e : Edge). e.next) edge) ≡ is_some edge
some_mapped None = refl
some_mapped (Some e) = refl

module _ (t t1 t2 t3 : Table) (block allowed : ℕ) (edge : Option Edge) (next : Option ℕ) (next_is : next ≡ option_map (λ (e : Edge). e.next) edge) (within : block < length t.words)
    (first : t1.words ≡ slice_set t.words block allowed) (same : t1 ≡ record t { words = t1.words; read = t1.read }) (read : t1.read ≡ record t.read { members = set.insert t.read.members block })
    (sized : IsSized t1.links.blocks t2) (links : t2.links.members ≡ cond (is_some next) (set.insert t1.links.members block) t1.links.members)
    (second : t2.words ≡ option_map_or (λ n. slice_set t1.words block n) next t1.words) (read2 : t2.read ≡ t1.read) (keeps : KeepsLinks t2 t3) where
  some_next : is_some next ≡ is_some edge
  some_next = ap is_some next_is ∙ some_mapped edge

  pub same_links : t1.links ≡ t.links
  same_links = ap (λ (x : Table). x.links) same

  pub all_links : t2.links.members ≡ cond (is_some edge) (set.insert t.links.members block) t.links.members
  all_links = links ∙ ap (λ l. cond (is_some next) (set.insert l.members block) l.members) same_links ∙ ap (λ (s : Bool). cond s (set.insert t.links.members block) t.links.members) some_next

  both : t2.words ≡ option_map_or (λ n. slice_set (slice_set t.words block allowed) block n) next (slice_set t.words block allowed)
  both = second ∙ ap (λ (xs : List ℕ). option_map_or (λ n. slice_set xs block n) next xs) first

  other_word : (b : ℕ) → b ≢ block → slice_index t2.words b ≡ slice_index t.words b
  other_word b other = ap (λ (xs : List ℕ). slice_index xs b) both ∙ on next
    where
      here : slice_index (slice_set t.words block allowed) b ≡ slice_index t.words b
      here = get_or-set_other t.words block b allowed 0 other

      on : (o : Option ℕ) → slice_index (option_map_or (λ n. slice_set (slice_set t.words block allowed) block n) o (slice_set t.words block allowed)) b ≡ slice_index t.words b
      on None = here
      on (Some n) = get_or-set_other (slice_set t.words block allowed) block b n 0 other ∙ here

  own_word : is_some edge ≡ false → slice_index t2.words block ≡ allowed
  own_word none = ap (λ (xs : List ℕ). slice_index xs block) both ∙ on next (some_next ∙ none)
    where
      on : (o : Option ℕ) → is_some o ≡ false → slice_index (option_map_or (λ n. slice_set (slice_set t.words block allowed) block n) o (slice_set t.words block allowed)) block ≡ allowed
      on None is = get_or-set_same t.words block allowed 0 within
      on (Some n) is = absurd (true≢false is)

  next_word : (n : ℕ) → next ≡ Some n → slice_index t2.words block ≡ n
  next_word n is =
      ap (λ (xs : List ℕ). slice_index xs block) (both ∙ ap (λ (o : Option ℕ). option_map_or (λ n. slice_set (slice_set t.words block allowed) block n) o (slice_set t.words block allowed)) is)
      ∙ get_or-set_same (slice_set t.words block allowed) block n 0 (omega (arith, within, length-set t.words block allowed))

  taken_next : (n : ℕ) → option_map (λ (e : Edge). e.next) edge ≡ Some n → slice_index t3.words block ≡ n
  taken_next n is =
      keeps.stay block (ap (λ s. set.contains s block) all_links ∙ ap (λ (s : Bool). set.contains (cond s (set.insert t.links.members block) t.links.members) block) linked ∙ contains-insert_same t.links.members block)
      ∙ next_word n (next_is ∙ is)
    where
      linked : is_some edge ≡ true
      linked = sym (some_mapped edge) ∙ ap is_some is

  taken_stay : (b : ℕ) → b ≢ block → set.contains t.links.members b ≡ true → slice_index t3.words b ≡ slice_index t.words b
  taken_stay b other has = keeps.stay b (ap (λ s. set.contains s b) all_links ∙ on (is_some edge)) ∙ other_word b other
    where
      on : (s : Bool) → set.contains (cond s (set.insert t.links.members block) t.links.members) b ≡ true
      on true = contains-kept t.links.members block b has
      on false = has

  pub takes_in : (parts : Parts) (directories : List ℕ) → edge ≡ parts.edge → AreNoted t1.named.members directories t1.links.blocks t2.named.members
      → t2.quiet.members ≡ cond (is_some next && eqb (length directories) 0) (set.insert t1.quiet.members block) t1.quiet.members → TakesIn t block parts directories t3
  takes_in parts directories is named quiet = record {
    sized = links_sized t.links.blocks t2 t3 keeps (subst (λ l. IsSized l.blocks t2) same_links sized);
    links = ap (λ (x : Table). x.links.members) keeps.same ∙ all_links ∙ ap (λ (e : Option Edge). cond (is_some e) (set.insert t.links.members block) t.links.members) is;
    named = subst (λ (x : Table). AreNoted t.named.members directories t.links.blocks x.named.members) (sym keeps.same) (subst (λ (x : Table). AreNoted x.named.members directories x.links.blocks t2.named.members) same named);
    quiet = ap (λ (x : Table). x.quiet.members) keeps.same ∙ quiet ∙ ap (λ (x : Table). cond (is_some next && eqb (length directories) 0) (set.insert x.quiet.members block) x.quiet.members) same
        ∙ ap (λ (s : Bool). cond (s && eqb (length directories) 0) (set.insert t.quiet.members block) t.quiet.members) (some_next ∙ ap is_some is);
    next = λ n own. taken_next n (ap (option_map (λ (e : Edge). e.next)) is ∙ own);
    stay = taken_stay;
  }

  pub taken_node : (capacity : ℕ) (most : ℕ → ℕ) (seen : List ℕ) (told : List Place) (parts : Parts) → KeepsHeads capacity most seen told t → IsNew capacity most parts block t → parts.edge ≡ edge
      → allowed ≡ longest_by capacity parts.index parts.used → (slice_index t.words block ≡ 0) ⊎ (fits capacity (slice_index t.words block) allowed ≡ true) → KeepsHeads capacity most (seen ++ block ∷ []) told t2
  taken_node capacity most seen told parts kept new same_edge is room =
      node_on capacity most seen told t kept t2 block allowed (is_some edge) (new.allows ∙ sym is) (λ some. new.link (ap is_some same_edge ∙ some)) new.fresh room
      (sized.links ∙ ap (λ l. l.blocks) same_links) all_links (ap (λ r. r.members) (read2 ∙ read)) other_word own_word
