-- Looks at free blocks, one after the other.
use Rattle.std.proofs.Common.{◌≡◌, ◌∙◌, ◌⊎◌, ℕ, zero, suc, ◌+◌, ◌-◌, ◌*◌, ◌<◌, ◌≤◌, Bool, true, false, cond, Some, None, List, [], count_by, vec_len, refl, sym, ap, subst, inl, inr, arith}
use Rattle.std.proofs.Math.Nat.{add-mul}
use Rattle.std.proofs.lemmas.Bool.{true≢false, both_ways, cases_Bool, cases_lt, cond-true, cond-false, eq-eqb}
use Rattle.std.proofs.lemmas.List.Sums.{sum_by-cons}
use Rattle.std.proofs.lemmas.Map.{lookup-remove_entry}
use Rattle.std.specs.Cmp.{nat_eq_equiv}
use Rattle.std.specs.FinSet as set
use Rattle.std.specs.List.{range_with_len}
use Rattle.std.specs.Map.{lookup, remove_entry}
use Rattle.std.specs.Ordering.{nat_cmp}
use Rattle.std.specs.Prelude.{◌≢◌, not, ◌||◌, is_some, nat_eq, Vec, Ok, Err}
use Rattle.std.specs.Global.{Global}
use Rattle.fs_types.specs.declared.fault.Fault.{Fault}
use Rattle.flash_model.specs.declared.geometry.Geometry.{Geometry}
use Rattle.flash_model.specs.Blocks.{block_of-at, block_of-same}
use Rattle.flash_model.specs.Device.{Device, block_of, erased}
use Rattle.flash_model.specs.Geometry.{IsGeometry}
use Rattle.flash_model.specs.Reading.{OnlyReads}
use Rattle.node_store.specs.NodeCache.{NodeCache, node_in, without, IsBounded}
use Rattle.node_store.specs.Caching.{IsTruthful}
use Rattle.node_store.specs.CachingLaws.{read_truthful}
use Rattle.node_store.specs.FittingLaws.{still_itself, still_on, still_fits}
use Rattle.node_store.specs.NodeLaws.{node_of-same}
use Rattle.node_store.specs.Storage.{DeviceGoesOn}
use Rattle.node_store.specs.declared.storage.Storage.{Storage}
use Rattle.system.specs.CleaningRounds.{AreClean, CleanCause, CleansBlocks, ErasesBlock, IsBlank, IsLooked, LooksAt, free_between, is_free}

-- ---- how many are free

abbrev one_if : Bool → ℕ
one_if b = cond b 1 0

count_more : (f : ℕ → Bool) (a n : ℕ) → count_by f (range_with_len a (suc n)) ≡ count_by f (range_with_len a n) + one_if (f (a + n))
count_more f a zero =
    let here : a ≡ a + 0 = omega arith in
    sum_by-cons (λ c. one_if (f c)) a [] ∙ (let e : one_if (f a) + 0 ≡ 0 + one_if (f a) = omega arith in e) ∙ ap (λ c. 0 + one_if (f c)) here
count_more f a (suc n) =
    let rest = count_more f (a + 1) n in
    let there : one_if (f (a + 1 + n)) ≡ one_if (f (a + suc n)) = ap (λ c. one_if (f c)) (let e : a + 1 + n ≡ a + suc n = omega arith in e) in
    omega (arith, sum_by-cons (λ c. one_if (f c)) a (range_with_len (a + 1) (suc n)), sum_by-cons (λ c. one_if (f c)) a (range_with_len (a + 1) n))

pub free_one : (s : Storage) (b : ℕ) → free_between s b (b + 1) ≡ one_if (is_free s b)
free_one s b =
    ap (λ n. count_by (is_free s) (range_with_len b n)) (let e : b + 1 - b ≡ 1 = omega arith in e)
    ∙ sum_by-cons (λ c. one_if (is_free s c)) b [] ∙ (let e : one_if (is_free s b) + 0 ≡ one_if (is_free s b) = omega arith in e)

pub free_more : (s : Storage) (from to : ℕ) → from ≤ to → free_between s from (to + 1) ≡ free_between s from to + one_if (is_free s to)
free_more s from to low =
    ap (λ n. count_by (is_free s) (range_with_len from n)) (let e : to + 1 - from ≡ suc (to - from) = omega arith in e)
    ∙ count_more (is_free s) from (to - from) ∙ ap (λ b. free_between s from to + one_if (is_free s b)) (let e : from + (to - from) ≡ to = omega arith in e)

pub free_none : (s : Storage) (from : ℕ) → free_between s from from ≡ 0
free_none s from = ap (λ n. count_by (is_free s) (range_with_len from n)) (let e : from - from ≡ 0 = omega arith in e)

-- ---- one look after another

module _ (d : Device) (s : Storage) (from to : ℕ) (e : Device) (t : Storage) (first : LooksAt d s from to e t) where
  -- blocks from there on are free now where they were
  bad_same : (b : ℕ) → to ≤ b → set.contains t.bad b ≡ set.contains s.bad b
  bad_same b high = by (set.contains s.bad b) refl (set.contains t.bad b) refl
    where
      by : (x : Bool) → set.contains s.bad b ≡ x → (y : Bool) → set.contains t.bad b ≡ y → set.contains t.bad b ≡ set.contains s.bad b
      by true was y is = first.stays_bad b was ∙ sym was
      by false was false is = is ∙ sym was
      by false was true is = let low : b < to = (first.new_bad b is was).0.1 in absurd (omega arith)

  pub same_free : (b : ℕ) → to ≤ b → is_free t b ≡ is_free s b
  same_free b high = λ i. not (set.contains (first.ring i).used b || bad_same b high i)

  module _ (f : Device) (u : Storage) (low : from ≤ to) (then : LooksAt e t to (to + 1) f u) where
    here : (b : ℕ) → IsLooked t to (to + 1) b → IsLooked s from (to + 1) b
    here b looked = (omega (arith, looked.0), looked.1, sym (same_free b looked.0) ∙ looked.2)

    longer : (b : ℕ) → IsLooked s from to b → IsLooked s from (to + 1) b
    longer b looked = (looked.0, omega (arith, looked.1), looked.2)

    new_bad : (b : ℕ) → set.contains u.bad b ≡ true → set.contains s.bad b ≡ false → IsLooked s from (to + 1) b × (f.worn b ≡ true)
    new_bad b is was = elim (cases_Bool (set.contains t.bad b)) [
      | inl mid ↦ let x = first.new_bad b mid was in (longer b x.0, then.device.worn b x.1)
      | inr mid ↦ let x = then.new_bad b is mid in (here b x.0, x.1)
    ]

    pub count : free_between s from (to + 1) ≡ free_between s from to + free_between t to (to + 1)
    count = free_more s from to low ∙ ap (λ b. free_between s from to + one_if b) (sym (same_free to (omega arith))) ∙ ap (λ n. free_between s from to + n) (sym (free_one t to))

    sum_within : (each pages : ℕ) → pages ≡ each → e.operations ≤ d.operations + free_between s from to * each → f.operations ≤ e.operations + free_between t to (to + 1) * pages
        → f.operations ≤ d.operations + free_between s from (to + 1) * each
    sum_within each pages same a b =
        let b' : f.operations ≤ e.operations + free_between t to (to + 1) * each = subst (λ n. f.operations ≤ e.operations + free_between t to (to + 1) * n) same b in
        subst (λ n. f.operations ≤ d.operations + n * each) (sym count) (omega (arith, add-mul (free_between s from to) (free_between t to (to + 1)) each))

    -- a block that was not looked at holds what it did
    pub blank_kept : (b : ℕ) → to ≤ b → IsBlank d b → IsBlank e b
    blank_kept b high blank j within =
        let inside : j < d.geometry.pages = subst (λ (g : Geometry). j < g.pages) first.device.geometry within in
        subst (λ (n : ℕ). e.pages (b * n + j) ≡ erased) (sym (ap (λ (g : Geometry). g.pages) first.device.geometry))
        (first.pages (b * d.geometry.pages + j) (λ looked. let below : b < to = subst (λ n. n < to) (block_of-at d b j inside) looked.1 in absurd (omega arith)) ∙ blank j inside)

    blank_after : (b : ℕ) → b < to → IsBlank e b → IsBlank f b
    blank_after b below blank j within =
        let inside : j < e.geometry.pages = subst (λ (g : Geometry). j < g.pages) then.device.geometry within in
        subst (λ (n : ℕ). f.pages (b * n + j) ≡ erased) (sym (ap (λ (g : Geometry). g.pages) then.device.geometry))
        (then.pages (b * e.geometry.pages + j) (λ looked. let high : to ≤ b = subst (λ n. to ≤ n) (block_of-at e b j inside) looked.0 in absurd (omega arith)) ∙ blank j inside)

    blank_sum : ((b : ℕ) → IsLooked s from (to + 1) b → IsBlank d b) → f.failed_reads ≡ d.failed_reads → f.operations ≤ d.operations + free_between s from (to + 1) * d.geometry.pages
    blank_sum blank still =
        let up = first.device.failed_reads in
        let up' = then.device.failed_reads in
        let early : e.failed_reads ≡ d.failed_reads = omega arith in
        let late : f.failed_reads ≡ e.failed_reads = omega arith in
        sum_within d.geometry.pages e.geometry.pages (ap (λ (g : Geometry). g.pages) first.device.geometry) (first.asks_blank (λ b looked. blank b (longer b looked)) early)
        (then.asks_blank (λ b looked. blank_kept b looked.0 (blank b (here b looked))) late)

    -- what the second look lists as bad is of its own blocks
    then_same : (b : ℕ) → b < to → set.contains u.bad b ≡ set.contains t.bad b
    then_same b below = by (set.contains t.bad b) refl (set.contains u.bad b) refl
      where
        by : (x : Bool) → set.contains t.bad b ≡ x → (y : Bool) → set.contains u.bad b ≡ y → set.contains u.bad b ≡ set.contains t.bad b
        by true was y is = then.stays_bad b was ∙ sym was
        by false was false is = is ∙ sym was
        by false was true is = let high : to ≤ b = (then.new_bad b is was).0.0 in absurd (omega arith)

    blank_stays : (b : ℕ) → IsLooked s from (to + 1) b → IsBlank d b → f.failed_reads ≡ d.failed_reads → set.contains u.bad b ≡ set.contains s.bad b
    blank_stays b looked blank still =
        let up = first.device.failed_reads in
        let up' = then.device.failed_reads in
        let early : e.failed_reads ≡ d.failed_reads = omega arith in
        let late : f.failed_reads ≡ e.failed_reads = omega arith in
        elim (cases_lt b to) [
          | inl below ↦ then_same b below ∙ first.blank_stays b (looked.0, below, looked.2) blank early
          | inr high ↦ then.blank_stays b (high, looked.1, same_free b high ∙ looked.2) (blank_kept b high blank) late ∙ bad_same b high
        ]

    pub looks_on : LooksAt d s from (to + 1) f u
    looks_on = record {
      device = record {
        geometry = then.device.geometry ∙ first.device.geometry;
        worn = λ b was. then.device.worn b (first.device.worn b was);
        failed_reads = omega (arith, first.device.failed_reads, then.device.failed_reads);
        cuts = omega (arith, first.device.cuts, then.device.cuts);
        was_on = λ on. first.device.was_on (then.device.was_on on);
        stays_off = λ off. then.device.stays_off (ap (λ (x : Device). x.powered) (first.device.stays_off off) ∙ off) ∙ first.device.stays_off off;
      };
      pages = λ p none.
          then.pages p (λ looked. none (here (block_of d p) (subst (IsLooked t to (to + 1)) (block_of-same d e p first.device.geometry) looked)))
          ∙ first.pages p (λ looked. none (longer (block_of d p) looked));
      ring = then.ring ∙ first.ring;
      stays_bad = λ b is. then.stays_bad b (first.stays_bad b is);
      new_bad = new_bad;
      failures = omega (arith, first.failures, then.failures);
      fits = still_on d s e t f u first.fits then.fits;
      asks = sum_within (d.geometry.pages + 1) (e.geometry.pages + 1) (ap (λ (g : Geometry). g.pages + 1) first.device.geometry) first.asks then.asks;
      asks_blank = blank_sum;
      blank_stays = blank_stays;
    }

    pub clean_on : AreClean s from to e t → AreClean t to (to + 1) f u → AreClean s from (to + 1) f u
    clean_on clean more b looked = elim (cases_lt b to) [
      | inl below ↦ elim (clean b (looked.0, below, looked.2)) [
        | inl bad ↦ inl (then.stays_bad b bad)
        | inr blank ↦ inr (blank_after b below blank)
      ]
      | inr high ↦ more b (high, looked.1, same_free b high ∙ looked.2)
    ]

-- ---- one block

-- nothing was looked at
pub looks_none : (d : Device) (s : Storage) (from to : ℕ) → LooksAt d s from to d s
looks_none d s from to = record {
  device = record { geometry = refl; worn = λ b was. was; failed_reads = omega arith; cuts = omega arith; was_on = λ on. on; stays_off = λ off. refl };
  pages = λ p none. refl;
  ring = refl;
  stays_bad = λ b is. is;
  new_bad = λ b is was. absurd (both_ways (set.contains s.bad b) was is);
  failures = refl;
  fits = still_itself d s;
  asks = omega arith;
  asks_blank = λ blank still. omega arith;
  blank_stays = λ b looked blank still. refl;
}

pub clean_none : (s : Storage) (from : ℕ) (e : Device) (t : Storage) → AreClean s from from e t
clean_none s from e t b looked = absurd (omega (arith, looked.0, looked.1))

-- a block that is not free is none of those that are looked at
pub clean_busy : (s : Storage) (b : ℕ) (e : Device) (t : Storage) → is_free s b ≡ false → AreClean s b (b + 1) e t
clean_busy s b e t busy c looked =
    let same : c ≡ b = omega (arith, looked.0, looked.1) in
    absurd (both_ways (is_free s b) busy (subst (λ n. is_free s n ≡ true) same looked.2))

pub clean_one : (s : Storage) (b : ℕ) (e : Device) (t : Storage) → (set.contains t.bad b ≡ true) ⊎ IsBlank e b → AreClean s b (b + 1) e t
clean_one s b e t clean c looked =
    let same : b ≡ c = omega (arith, looked.0, looked.1) in
    subst (λ n. (set.contains t.bad n ≡ true) ⊎ IsBlank e n) same clean

within_one : (s : Storage) (b pages n a c : ℕ) → is_free s b ≡ true → n ≤ pages → c ≤ a + n → c ≤ a + free_between s b (b + 1) * pages
within_one s b pages n a c free few is =
    let one : free_between s b (b + 1) ≡ 1 = free_one s b ∙ ap one_if free in
    subst (λ k. c ≤ a + k * pages) (sym one) (omega arith)

-- what is found once a block is taken out is of another block
pub apart_without : (cache : NodeCache) (b c : ℕ) (x : List ℕ) → IsBounded cache → node_in (without cache b) c ≡ Some x → (c ≢ b) × (node_in cache c ≡ Some x)
apart_without cache b c x bounded h =
    let is = lookup-remove_entry nat_eq_equiv (nat_eq b) (λ y z. nat_eq_equiv.congr b y z) c cache.entries bounded.once in
    elim (cases_Bool (nat_eq b c)) [
      | inl same ↦ let none : lookup (nat_eq c) (remove_entry (nat_eq b) cache.entries) ≡ None = is ∙ cond-true _ _ _ same in absurd (true≢false (ap is_some (sym h ∙ none)))
      | inr apart ↦ (λ same. true≢false (sym (eq-eqb b c (sym same)) ∙ apart), sym (cond-false _ _ _ apart) ∙ sym is ∙ h)
    ]

-- its pages were read, and that it is blank
module _ (d : Device) (s : Storage) (e : Device) (page : Vec ℕ Global) (b : ℕ) (lawful : IsGeometry d.geometry) (free : is_free s b ≡ true) (long : vec_len page ≡ vec_len s.page) (reads : OnlyReads d e) (few : e.operations ≤ d.operations + d.geometry.pages) where
  read_on : DeviceGoesOn d e
  read_on = record {
    geometry = reads.geometry;
    worn = λ c was. reads.worn c ∙ was;
    failed_reads = reads.failed_reads;
    cuts = reads.cuts;
    was_on = reads.was_on;
    stays_off = reads.stays_off;
  }

  pub looks_read : LooksAt d s b (b + 1) e (record s { page = page })
  looks_read = record {
    device = read_on;
    pages = λ p none. reads.pages p;
    ring = refl;
    stays_bad = λ c is. is;
    new_bad = λ c is was. absurd (both_ways (set.contains s.bad c) was is);
    failures = ap (λ n. n + set.len s.bad) reads.failures;
    fits = still_fits d s e (record s { page = page }) reads.geometry long refl (λ fits. read_truthful d e s.cache lawful reads fits.truthful);
    asks = within_one s b (d.geometry.pages + 1) d.geometry.pages d.operations e.operations free (omega arith) few;
    asks_blank = λ blank still. within_one s b d.geometry.pages d.geometry.pages d.operations e.operations free (omega arith) few;
    blank_stays = λ c looked blank still. refl;
  }

  -- and then it was erased, or that failed
  module _ (f : Device) (bad' : set.FinSet nat_cmp) (bounded : IsBounded s.cache) (stale : IsBlank d b → d.failed_reads < e.failed_reads) (erases : ErasesBlock e s.bad b f bad') where
    abbrev left : Storage
    left = record s { page = page; cache = without s.cache b; bad = bad' }

    geometry : f.geometry ≡ d.geometry
    geometry = erases.device.geometry ∙ reads.geometry

    self : IsLooked s b (b + 1) b
    self = (omega arith, omega arith, free)

    others : (p : ℕ) → block_of d p ≢ b → f.pages p ≡ d.pages p
    others p apart = erases.others p (λ same. apart (sym (block_of-same d e p reads.geometry) ∙ same)) ∙ reads.pages p

    listed : IsTruthful d s.cache → IsTruthful f (without s.cache b)
    listed truthful = record {
      each = λ c x is.
          let was = apart_without s.cache b c x bounded is in
          node_of-same d f c lawful geometry (λ p own. others p (λ same. was.0 (sym own ∙ same))) ∙ truthful.each c x was.1;
    }

    pub looks_erased : LooksAt d s b (b + 1) f left
    looks_erased = record {
      device = record {
        geometry = geometry;
        worn = λ c was. erases.device.worn c (read_on.worn c was);
        failed_reads = omega (arith, reads.failed_reads, erases.device.failed_reads);
        cuts = omega (arith, reads.cuts, erases.device.cuts);
        was_on = λ on. reads.was_on (erases.device.was_on on);
        stays_off = λ off. erases.device.stays_off (ap (λ (x : Device). x.powered) (reads.stays_off off) ∙ off) ∙ reads.stays_off off;
      };
      pages = λ p none. others p (λ same. none (subst (IsLooked s b (b + 1)) (sym same) self));
      ring = refl;
      stays_bad = erases.stays_bad;
      new_bad = λ c is was. let x = erases.new_bad c is was in (subst (IsLooked s b (b + 1)) (sym x.0) self, x.1);
      failures = omega (arith, reads.failures, erases.failures);
      fits = still_fits d s f left geometry long refl (λ fits. listed fits.truthful);
      asks = within_one s b (d.geometry.pages + 1) (d.geometry.pages + 1) d.operations f.operations free (omega arith) (omega (arith, erases.operations));
      asks_blank = λ blank still. let more = stale (blank b self) in absurd (omega (arith, erases.failed_reads));
      blank_stays = λ c looked blank still.
          let same : c ≡ b = omega (arith, looked.0, looked.1) in
          let more = stale (subst (IsBlank d) same blank) in
          absurd (omega (arith, erases.failed_reads));
    }

-- ---- how a round ends

-- it was refused at a block
pub refused : (d : Device) (s : Storage) (from budget to left : ℕ) (e : Device) (t : Storage) (f : Device) (u : Storage) (fault : Fault) → from ≤ to → LooksAt d s from to e t → LooksAt e t to (to + 1) f u
    → left + free_between s from to ≡ budget → ((b : ℕ) → from ≤ b → b < to → b < s.ring.blocks) → to < s.ring.blocks → free_between t to (to + 1) ≤ left → CleanCause f u.bad fault → CleansBlocks d s from budget (Err fault) f u
refused d s from budget to left e t f u fault low first then so_far within past few why = record {
  to = to + 1;
  looks = looks_on d s from to e t first f u low then;
  few = omega (arith, count d s from to e t first f u low then);
  within = λ b high below. omega arith;
  ends = why;
}

-- as many were looked at as may be
pub paused : (d : Device) (s : Storage) (from budget to left : ℕ) (e : Device) (t : Storage) → LooksAt d s from to e t → left + free_between s from to ≡ budget → left ≡ 0
    → to < s.ring.blocks → is_free t to ≡ true → AreClean s from to e t → CleansBlocks d s from budget (Ok (Some to)) e t
paused d s from budget to left e t looks so_far none within free clean = record {
  to = to;
  looks = looks;
  few = omega arith;
  within = λ b high below. omega arith;
  ends = (refl, within, free, omega arith, clean);
}

-- all were
pub over : (d : Device) (s : Storage) (from budget to left : ℕ) (e : Device) (t : Storage) → LooksAt d s from to e t → left + free_between s from to ≡ budget
    → ((b : ℕ) → from ≤ b → b < to → b < s.ring.blocks) → s.ring.blocks ≤ to → AreClean s from to e t → CleansBlocks d s from budget (Ok None) e t
over d s from budget to left e t looks so_far within past clean = record {
  to = to;
  looks = looks;
  few = omega arith;
  within = within;
  ends = (past, clean);
}
