-- Free blocks are prepared, one after the other.
use Rattle.std.proofs.Common.{◌≡◌, ℕ, zero, suc, ◌+◌, ◌<◌, ◌≤◌, Bool, true, false, ◌||◌, Option, Some, None, Result, Ok, Err, refl, sym, ap, subst, ◌∙◌, add-one, arith}
use Rattle.std.proofs.lemmas.Bool.{true≢false, both_ways}
use Rattle.std.specs.FinSet as set
use Rattle.std.specs.Ordering.{nat_cmp}
use Rattle.std.specs.Prelude.{not, is_some}
use Rattle.fs_types.specs.declared.fault.Fault.{Fault}
use Rattle.fs_types.specs.declared.limits.TheConstants.{ANCHORS}
use Rattle.flash_model.specs.declared.geometry.Geometry.{Geometry}
use Rattle.flash_model.specs.Blocks.{block_of-same}
use Rattle.flash_model.specs.Device.{Device, block_of}
use Rattle.flash_model.specs.Geometry.{IsGeometry}
use Rattle.block_ring.specs.BlockSet.{BlockSet}
use Rattle.block_ring.specs.Ring.{IsDataBlock, Ring}
use Rattle.node_store.specs.NodeCache.{NodeCache, without, IsBounded}
use Rattle.node_store.specs.Caching.{IsTruthful}
use Rattle.node_store.specs.FittingLaws.{still_itself, still_on, still_fits}
use Rattle.node_store.specs.NodeLaws.{node_of-same}
use Rattle.node_store.specs.declared.storage.Storage.{Storage}
use Rattle.system.specs.CleaningRounds.{ErasesBlock, ErasesFree, IsCleanable, IsFreeBlock, LooksAt}
use Rattle.system.specs.Preparations.{Preparation, PrepareEnds, Prepares, PreparesBlocks, PreparesNext, next_unprepared}
use Rattle.system.proofs.LooksAtBlanks.{apart_without}

-- ---- one block is erased

module _ (d : Device) (s : Storage) (b : ℕ) (e : Device) (bad : set.FinSet nat_cmp) (lawful : IsGeometry d.geometry) (free : IsFreeBlock s b) (bounded : IsBounded s.cache) (erases : ErasesBlock d s.bad b e bad) where
  abbrev pub left : Storage
  left = record s { cache = without s.cache b; bad = bad }

  listed : IsTruthful d s.cache → IsTruthful e (without s.cache b)
  listed truthful = record {
    each = λ c x is.
        let was = apart_without s.cache b c x bounded is in
        node_of-same d e c lawful erases.device.geometry (λ p own. erases.others p (λ same. was.0 (sym own ∙ same))) ∙ truthful.each c x was.1;
  }

  pub one_erased : ErasesFree d s e left
  one_erased = record {
    device = erases.device;
    pages = λ p none. erases.others p (λ same. none (subst (IsFreeBlock s) (sym same) free));
    ring = refl;
    stays_bad = erases.stays_bad;
    new_bad = λ c is was. let x = erases.new_bad c is was in (subst (IsFreeBlock s) (sym x.0) free, x.1);
    failures = erases.failures;
    fits = still_fits d s e left erases.device.geometry refl refl (λ fits. listed fits.truthful);
  }

pub still_cleanable : (d : Device) (s : Storage) (e : Device) (t : Storage) → IsCleanable d s → ErasesFree d s e t → IsCleanable e t
still_cleanable d s e t c erases = record {
  lawful = subst IsGeometry (sym erases.device.geometry) c.lawful;
  ring_blocks = ap (λ (r : Ring). r.blocks) erases.ring ∙ c.ring_blocks ∙ ap (λ (g : Geometry). g.blocks) (sym erases.device.geometry);
  fits = erases.fits.fits c.fits;
}

-- ---- the next block is prepared

module _ (d : Device) (s : Storage) (b : ℕ) (e : Device) (bad : set.FinSet nat_cmp) (cache : NodeCache) (cleanable : IsCleanable d s) (free : IsFreeBlock s b)
    (bounded : IsBounded s.cache) (taken : cache ≡ without s.cache b) (erases : ErasesBlock d s.bad b e bad) where
  abbrev now : Storage
  now = record s { cache = cache; bad = bad }

  pub next_erased : ErasesFree d s e now
  next_erased = subst (λ (k : NodeCache). ErasesFree d s e (record s { cache = k; bad = bad })) (sym taken) (one_erased d s b e bad cleanable.lawful free bounded erases)

  pub next_cleanable : IsCleanable e now
  next_cleanable = still_cleanable d s e now cleanable next_erased

-- ---- one after another

pub erases_none : (d : Device) (s : Storage) → ErasesFree d s d s
erases_none d s = record {
  device = record { geometry = refl; worn = λ b was. was; failed_reads = omega arith; cuts = omega arith; was_on = λ on. on; stays_off = λ off. refl };
  pages = λ p none. refl;
  ring = refl;
  stays_bad = λ b is. is;
  new_bad = λ b is was. absurd (both_ways (set.contains s.bad b) was is);
  failures = refl;
  fits = still_itself d s;
}

free_before : (used was is_bad : Bool) → (was ≡ true → is_bad ≡ true) → not (used || is_bad) ≡ true → not (used || was) ≡ true
free_before true was is_bad more is = is
free_before false true is_bad more is = absurd (true≢false (sym is ∙ ap not (more refl)))
free_before false false is_bad more is = refl

module _ (d : Device) (s : Storage) (e : Device) (t : Storage) (first : ErasesFree d s e t) where
  was_free : (b : ℕ) → IsFreeBlock t b → IsFreeBlock s b
  was_free b (at, free) = (
    subst (λ (r : Ring). IsDataBlock r.blocks b) first.ring at,
    free_before (set.contains s.ring.used b) (set.contains s.bad b) (set.contains t.bad b) (first.stays_bad b)
        (sym (ap (λ (r : Ring). not (set.contains r.used b || set.contains t.bad b)) first.ring) ∙ free),
  )

  module _ (f : Device) (u : Storage) (then : ErasesFree e t f u) where
    same_block : (p : ℕ) → block_of e p ≡ block_of d p
    same_block p = block_of-same d e p first.device.geometry

    new_bad : (b : ℕ) → set.contains u.bad b ≡ true → set.contains s.bad b ≡ false → IsFreeBlock s b × (f.worn b ≡ true)
    new_bad b is was = by (set.contains t.bad b) refl
      where
        by : (x : Bool) → set.contains t.bad b ≡ x → IsFreeBlock s b × (f.worn b ≡ true)
        by true mid = let x = first.new_bad b mid was in (x.0, then.device.worn b x.1)
        by false mid = let x = then.new_bad b is mid in (was_free b x.0, x.1)

    pub erases_on : ErasesFree d s f u
    erases_on = record {
      device = record {
        geometry = then.device.geometry ∙ first.device.geometry;
        worn = λ b was. then.device.worn b (first.device.worn b was);
        failed_reads = omega (arith, first.device.failed_reads, then.device.failed_reads);
        cuts = omega (arith, first.device.cuts, then.device.cuts);
        was_on = λ on. first.device.was_on (then.device.was_on on);
        stays_off = λ off. then.device.stays_off (ap (λ (x : Device). x.powered) (first.device.stays_off off) ∙ off) ∙ first.device.stays_off off;
      };
      pages = λ p none.
          then.pages p (λ free. none (was_free (block_of d p) (subst (IsFreeBlock t) (same_block p) free))) ∙ first.pages p none;
      ring = then.ring ∙ first.ring;
      stays_bad = λ b is. then.stays_bad b (first.stays_bad b is);
      new_bad = new_bad;
      failures = omega (arith, first.failures, then.failures);
      fits = still_on d s e t f u first.fits then.fits;
    }

-- what a round of cleaning leaves is of this kind
pub looked_frees : (d : Device) (s : Storage) (from to : ℕ) (e : Device) (t : Storage) → ANCHORS ≤ from → ((b : ℕ) → from ≤ b → b < to → b < s.ring.blocks) → LooksAt d s from to e t → ErasesFree d s e t
looked_frees d s from to e t low inside looks = record {
  device = looks.device;
  pages = λ p none. looks.pages p (λ looked. none ((omega (arith, looked.0), inside (block_of d p) looked.0 looked.1), looked.2));
  ring = looks.ring;
  stays_bad = looks.stays_bad;
  new_bad = λ b is was. let x = looks.new_bad b is was in (((omega (arith, x.0.0), inside b x.0.0 x.0.1), x.0.2), x.1);
  failures = looks.failures;
  fits = looks.fits;
}

-- ---- how it ends

-- where a block was prepared, one was left to be
some_next : (n : ℕ) (x y : Preparation) → Prepares (suc n) x y → (b : ℕ) × (next_unprepared x.storage x.prepared ≡ Some b)
some_next zero x y (z, same, step) = (step.block, subst (λ (v : Preparation). next_unprepared v.storage v.prepared ≡ Some step.block) same step.next)
some_next (suc n) x y (z, prepares, step) = some_next n x z prepares

none_next : (n : ℕ) (x y : Preparation) → next_unprepared x.storage x.prepared ≡ None → Prepares n x y → y ≡ x
none_next zero x y none prepares = prepares
none_next (suc n) x y none prepares = let some = some_next n x y prepares in absurd (not_both (next_unprepared x.storage x.prepared) some.0 none some.1)
  where
    not_both : (o : Option ℕ) (b : ℕ) → o ≡ None → o ≡ Some b → ⊥
    not_both o b none some = let wrong : None ≡ Some b = sym none ∙ some in cc

-- then it asks for nothing
idle : (n : ℕ) (x : Preparation) (budget : ℕ) (result : Result Bool Fault) (y : Preparation) → PrepareEnds n x budget result y → next_unprepared x.storage x.prepared ≡ None → (result ≡ Ok true) × (y ≡ x)
idle n x budget (Ok true) y (prepares, all) none = (refl, none_next n x y none prepares)
idle n x budget (Ok false) y (prepares, few, block, is) none =
    let same = none_next n x y none prepares in
    let wrong : None ≡ Some block = sym none ∙ subst (λ (v : Preparation). next_unprepared v.storage v.prepared ≡ Some block) same is in
    absurd cc
idle n x budget (Err fault) y (before, count, z, prepares, step, why) none =
    let same = none_next before x z none prepares in
    let wrong : None ≡ Some step.block = sym none ∙ subst (λ (v : Preparation). next_unprepared v.storage v.prepared ≡ Some step.block) same step.next in
    absurd cc

pub blocks_prepared : (n : ℕ) (x : Preparation) (budget : ℕ) (result : Result Bool Fault) (y : Preparation) → ErasesFree x.device x.storage y.device y.storage → y.prepared.blocks ≡ x.prepared.blocks → n ≤ budget
    → y.device.operations ≤ x.device.operations + n → PrepareEnds n x budget result y → PreparesBlocks x budget result y
blocks_prepared n x budget result y erases blocks few asks ends = record {
  erases = erases;
  blocks = blocks;
  count = n;
  few = few;
  asks = asks;
  ends = ends;
  idle = idle n x budget result y ends;
}

-- after the last of the erases that may be, by whether a block is left
pub ends_by : (n budget : ℕ) (x y : Preparation) (o : Option ℕ) (none : Bool) → n ≡ budget → o ≡ next_unprepared y.storage y.prepared → Prepares n x y → is_some o ≡ not none → PrepareEnds n x budget (Ok none) y
ends_by n budget x y None true same is prepares some = (prepares, sym is)
ends_by n budget x y (Some b) false same is prepares some = (prepares, same, b, sym is)
ends_by n budget x y None false same is prepares some = absurd (true≢false (sym some))
ends_by n budget x y (Some b) true same is prepares some = absurd (true≢false some)

-- the bits are those of as many blocks
pub same_blocks : (x : Preparation) (result : Result (Unit {0}) Fault) (y : Preparation) → PreparesNext x result y → y.prepared.blocks ≡ x.prepared.blocks
same_blocks x (Ok u) y step = ap (λ (p : BlockSet). p.blocks) step.prepared
same_blocks x (Err fault) y step = ap (λ (p : BlockSet). p.blocks) step.refused

pub one_more : (n : ℕ) (x y z : Preparation) → Prepares n x y → PreparesNext y (Ok tt) z → Prepares (n + 1) x z
one_more n x y z prepares step = subst (λ (k : ℕ). Prepares k x z) (sym (add-one n)) (y, prepares, step)
