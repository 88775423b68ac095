-- How many operations come together.
use Rattle.std.proofs.Common.{◌≡◌, ℕ, ◌+◌, ◌*◌, ◌<◌, ◌≤◌, Bool, true, false, cond, Result, Ok, Err, refl, sym, ap, subst, ◌∙◌, arith}
use Rattle.std.specs.Prelude.{◌/◌, ◌-◌, ◌≢◌, OnOk}
use Rattle.std.specs.FinSet as set
use Rattle.std.specs.Ordering.{nat_cmp}
use Rattle.std.proofs.Math.Nat.{mul-le-mul_right}
use Rattle.std.proofs.lemmas.Nat.{div-mul-add}
use Rattle.fs_types.specs.declared.fault.Fault.{Fault}
use Rattle.fs_types.specs.declared.limits.TheConstants.{ANCHORS}
use Rattle.flash_model.specs.declared.geometry.Geometry.{Geometry}
use Rattle.flash_model.specs.declared.flash.DevFault.{DevFault}
use Rattle.flash_model.specs.declared.flash.DevFault.TheVariants.{Failed, PowerCut}
use Rattle.flash_model.specs.Device.{Device, Operates, Erases, failed, power_after}
use Rattle.flash_model.specs.Reading.{OnlyReads}
use Rattle.record_format.specs.declared.record.Record.{Record}
use Rattle.anchors.specs.declared.anchors.Anchors.{Anchors}
use Rattle.anchors.specs.Anchored.{AsksInTurn, Asked}
use Rattle.anchors.specs.Committing.{IsNextAnchor}
use Rattle.anchors.specs.Programming.{TriesPages}
use Rattle.anchors.specs.Remembering.{BeginsAt, ReadsNone, IsPlaced, TriesEach}

-- one operation that was answered with the power on
pub one_more : {T : Type 0} (old new : Device) (result : Result T DevFault) (reads fails : ℕ) → Operates old new result reads fails → power_after result ≡ true → new.operations ≡ old.operations + 1
one_more old new result reads fails done on = done.operations ∙ ap (λ b. old.operations + cond b 1 0) (done.was_on on)

one_at_most : (on : Bool) → cond on 1 0 ≤ 1
one_at_most true = omega arith
one_at_most false = omega arith

-- one operation, whatever it was answered
pub operates_one : {T : Type 0} (old new : Device) (result : Result T DevFault) (reads fails : ℕ) → Operates old new result reads fails → new.operations ≤ old.operations + 1
operates_one old new result reads fails done = let h = done.operations in let one = one_at_most old.powered in omega arith

-- a program that was not done, after n that were
pub tries_end : (old mid new : Device) (n count : ℕ) (fault : DevFault) → mid.failures ≡ old.failures → mid.operations ≡ old.operations + n → n < count
    → Operates {T = Unit {0}} mid new (Err fault) 0 (failed {T = Unit {0}} (Err fault)) → TriesPages old new count (Err fault)
tries_end old mid new n count Failed failures operations lt done =
    let one = one_more mid new (Err Failed) 0 1 done refl in
    let more = done.failures in (
      omega arith,
      omega arith,
      omega arith,
    )
tries_end old mid new n count PowerCut failures operations lt done = tt

-- an erase that was done, and programs after it
pub tries_on : (old mid new : Device) (count : ℕ) (done : Bool) → AsksInTurn old mid 1 true → AsksInTurn mid new count done → AsksInTurn old new (1 + count) done
tries_on old mid new count true first next = (omega arith, omega arith)
tries_on old mid new count false first next = (omega arith, omega arith, omega arith)

pub Asked_itself : (d : Device) → Asked d d 0
Asked_itself d = record {
  failed = 0;
  failures = omega arith;
  least = omega arith;
  most = omega arith;
}

pub Asked_on : (d e f : Device) (m n : ℕ) → e.geometry ≡ d.geometry → Asked d e m → Asked e f n → Asked d f (m + n)
Asked_on d e f m n same first next = record {
  failed = first.failed + next.failed;
  failures = let h = first.failures in let k = next.failures in omega arith;
  least = let h = first.least in let k = next.least in omega arith;
  most =
      let h = first.most in
      let k : f.operations ≤ e.operations + n + next.failed * (d.geometry.pages + 1) = subst (λ (g : Geometry). f.operations ≤ e.operations + n + next.failed * (g.pages + 1)) same next.most in
      omega arith;
}

-- blocks failed before
pub Asked_later : (d e f : Device) (n : ℕ) → e.geometry ≡ d.geometry → Asked d e 0 → Asked e f n → Asked d f n
Asked_later d e f n same first next = subst (Asked d f) (let is : 0 + n ≡ n = omega arith in is) (Asked_on d e f 0 n same first next)

-- operations on one block that were all done, and those of which one failed
pub asked_done : (old new : Device) (n : ℕ) (done : Bool) → done ≡ true → AsksInTurn old new n done → Asked old new n
asked_done old new n true is tries = record {
  failed = 0;
  failures = let h = tries.0 in omega arith;
  least = let h = tries.1 in omega arith;
  most = let h = tries.1 in omega arith;
}
asked_done old new n false is tries = absurd cc

pub asked_failed : (old new : Device) (n : ℕ) (done : Bool) → done ≡ false → n ≤ old.geometry.pages + 1 → AsksInTurn old new n done → Asked old new 0
asked_failed old new n true is few tries = absurd cc
asked_failed old new n false is few tries = record {
  failed = 1;
  failures = tries.0;
  least = let h = tries.1 in omega arith;
  most = let h = tries.2 in omega arith;
}

-- reads come before
pub asked_after : (old mid new : Device) (reads n : ℕ) → OnlyReads old mid → mid.operations ≡ old.operations + reads → Asked mid new (0 + n) → Asked old new (reads + n)
asked_after old mid new reads n only is asked = record {
  failed = asked.failed;
  failures = let h = only.failures in let k = asked.failures in omega arith;
  least = let k = asked.least in omega arith;
  most =
      let k : new.operations ≤ mid.operations + (0 + n) + asked.failed * (old.geometry.pages + 1) = subst (λ (g : Geometry). new.operations ≤ mid.operations + (0 + n) + asked.failed * (g.pages + 1)) only.geometry asked.most in
      omega arith;
}

-- nothing came before
pub asked_alone : (old new : Device) (n : ℕ) → Asked old new (0 + n) → Asked old new n
asked_alone old new n asked = subst (Asked old new) (let same : 0 + n ≡ n = omega arith in same) asked

-- the next anchor in ring order is another one
pub other_anchor : (g : Geometry) (now : set.FinSet nat_cmp) (home page : ℕ) → 1 ≤ g.pages → home < ANCHORS → (anchor : ℕ) × (page ≡ anchor * g.pages) × IsNextAnchor now home anchor → page / g.pages ≢ home
other_anchor g now home page some lt next here =
    let anchor = next.0 in
    let start : page ≡ anchor * g.pages + 0 = let e = next.1 in omega arith in
    let block : page / g.pages ≡ anchor = ap (λ (p : ℕ). p / g.pages) start ∙ div-mul-add anchor g.pages 0 (omega arith) in
    let apart = next.2 in
    let same : anchor ≡ home = sym block ∙ here in
    absurd (let is = apart.is in let least = apart.some in let most = apart.below in omega arith)

-- a commit after reads
placed_later : (old mid new : Device) (was now : set.FinSet nat_cmp) (anchors : Anchors) (r : Record) (result : Result (Unit {0}) Fault) → OnlyReads old mid → (ReadsNone was anchors → mid.operations ≡ old.operations)
    → mid.operations ≤ old.operations + ANCHORS * r.geometry.pages
    → OnOk result (IsPlaced mid was anchors r 0 new now) → OnOk result ((reads : ℕ) × (ReadsNone was anchors → reads ≡ 0) × (reads ≤ ANCHORS * r.geometry.pages) × IsPlaced old was anchors r reads new now)
placed_later old mid new was now anchors r (Ok u) only quiet few placed =
    let reads = mid.operations - old.operations in
    let is : mid.operations ≡ old.operations + reads = let h = only.operations in omega arith in
    let pages : placed.found.page / mid.geometry.pages ≡ placed.found.page / old.geometry.pages = ap (λ (g : Geometry). placed.found.page / g.pages) only.geometry in (
      reads,
      λ none. let e = quiet none in omega arith,
      omega (arith, is, few),
      record {
        home = placed.home;
        place = placed.place;
        found = placed.found;
        begins_at = subst (λ (g : Geometry). BeginsAt g was anchors placed.home placed.place) only.geometry placed.begins_at;
        newest = placed.newest;
        goes = placed.goes;
        begun = λ here. asked_after old mid new reads placed.found.head.count only is (placed.begun (pages ∙ here));
        elsewhere = λ apart. asked_after old mid new reads (1 + placed.found.head.count) only is (placed.elsewhere (λ here. apart (sym pages ∙ here)));
      },
    )
placed_later old mid new was now anchors r (Err fault) only quiet few placed = tt

-- by the time that the flash and the list are given back
pub placed_after : (old mid new end : Device) (was now list : set.FinSet nat_cmp) (anchors : Anchors) (r : Record) (result : Result (Unit {0}) Fault) → end ≡ new → list ≡ now → OnlyReads old mid → (ReadsNone was anchors → mid.operations ≡ old.operations)
    → mid.operations ≤ old.operations + ANCHORS * r.geometry.pages
    → OnOk result (IsPlaced mid was anchors r 0 new now) → OnOk result ((reads : ℕ) × (ReadsNone was anchors → reads ≡ 0) × (reads ≤ ANCHORS * r.geometry.pages) × IsPlaced old was anchors r reads end list)
placed_after old mid new end was now list anchors r result same listed only quiet few placed = rw (same, listed) (placed_later old mid new was now anchors r result only quiet few placed)

-- an erase was asked for
pub tried_done : (old new : Device) (b : ℕ) (u : Unit {0}) → Erases old b new (Ok u) → AsksInTurn old new 1 true
tried_done old new b u e = (
  let h = e.operates.failures in omega arith,
  one_more old new (Ok u) 0 0 e.operates refl,
)

pub tried_failed : (old new : Device) (b : ℕ) → Erases old b new (Err Failed) → AsksInTurn old new 1 false
tried_failed old new b e =
    let one = one_more old new (Err Failed) 0 1 e.operates refl in (
      e.operates.failures,
      omega arith,
      omega arith,
    )

-- one operation was asked for, whatever came of it
pub tried_once : (old new : Device) (done : Bool) → AsksInTurn old new 1 done → new.operations ≡ old.operations + 1
tried_once old new true tries = tries.1
tried_once old new false tries = omega (arith, tries.1, tries.2)

pub asks_one : (old new : Device) (b : ℕ) (result : Result (Unit {0}) DevFault) → Erases old b new result → new.operations ≤ old.operations + 1
asks_one old new b result e = let h = e.operates.operations in let one = one_at_most old.powered in omega arith

-- each anchor is tried once
pub next_tried : (old mid new step most pages : ℕ) → mid ≤ old + step * (pages + 1) → new ≤ mid + (pages + 1) → step + 1 ≤ most → new ≤ old + most * (pages + 1)
next_tried old mid new step most pages so_far one few = let all : (step + 1) * (pages + 1) ≤ most * (pages + 1) = mul-le-mul_right (pages + 1) few in omega (arith, so_far, one, all)

pub tried_none : (d : Device) (was : set.FinSet nat_cmp) (anchors : Anchors) → TriesEach d was anchors d
tried_none d was anchors = record { reads = 0; none = λ _. refl; once = omega arith; most = omega arith }

pub tried_after : (old mid new : Device) (was : set.FinSet nat_cmp) (anchors : Anchors) (pages : ℕ) → OnlyReads old mid → pages ≡ old.geometry.pages → (ReadsNone was anchors → mid.operations ≡ old.operations)
    → mid.operations ≤ old.operations + ANCHORS * pages → new.operations ≤ mid.operations + ANCHORS * (pages + 1) → TriesEach old was anchors new
tried_after old mid new was anchors pages only same quiet few more =
    let later = only.operations in
    record {
      reads = mid.operations - old.operations;
      none = λ none. let e = quiet none in omega (arith, e);
      once = omega (arith, later, few, same);
      most = omega (arith, later, more, same);
    }
