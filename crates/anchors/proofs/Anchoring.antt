-- How operations on anchors lead on.
use Rattle.std.proofs.Common.{◌≡◌, ◌≢◌, ◌⊎◌, ℕ, ◌+◌, ◌/◌, ◌<◌, ◌≤◌, List, Bool, true, false, cond, eqb, Result, Ok, Err, refl, sym, ap, subst, ◌∙◌, inl, inr, arith}
use Rattle.std.specs.Prelude.{◌||◌, leb, OnErr, IsOk}
use Rattle.fs_types.specs.declared.limits.TheConstants.{ANCHORS, MAX_BAD_BLOCKS}
use Rattle.bad_blocks.specs.Mode.{is_read_only}
use Rattle.std.specs.FinSet as set
use Rattle.std.specs.Ordering.{nat_cmp}
use Rattle.std.specs.Cmp.{unsigned_tied}
use Rattle.std.proofs.lemmas.Bool.{cases_eq, cases_Bool, both_ways, ne_eqb, or_right, or_cases, or_parts, leb-false, eqb-true, eq-eqb}
use Rattle.std.proofs.lemmas.Cmp.{nat_cmp_total}
use Rattle.flash_model.specs.declared.geometry.Geometry.{Geometry}
use Rattle.flash_model.specs.declared.flash.DevFault.{DevFault}
use Rattle.flash_model.specs.declared.flash.DevFault.TheVariants.{Failed, PowerCut}
use Rattle.flash_model.specs.Device.{Device, Page, erased, unreadable, block_of, failed, Wears, AfterErase, Erases, Programs, power_after}
use Rattle.anchors.specs.Anchored.{OnlyAnchors, PowerLeft, Touches, Fades, AreErased}

pub OnlyAnchors_itself : (d : Device) (bad : set.FinSet nat_cmp) → OnlyAnchors d bad d bad
OnlyAnchors_itself d bad = record {
  geometry = refl;
  data_pages = λ p from. refl;
  stays_bad = λ b is. is;
  bad_anchor = λ b is good. absurd (both_ways (set.contains bad b) good is);
  bad_worn = λ b is good. absurd (both_ways (set.contains bad b) good is);
  worn = λ b was. was;
  failures = refl;
  failed_reads = omega arith;
  cuts = omega arith;
  was_on = λ on. on;
  stays_off = λ off. refl;
  list_off = λ off. refl;
}

pub OnlyAnchors_on : (d e f : Device) (was mid now : set.FinSet nat_cmp) → OnlyAnchors d was e mid → OnlyAnchors e mid f now → OnlyAnchors d was f now
OnlyAnchors_on d e f was mid now first next =
    let off_on : d.powered ≡ false → e.powered ≡ false = λ off. ap (λ (x : Device). x.powered) (first.stays_off off) ∙ off in
    record {
      geometry = next.geometry ∙ first.geometry;
      data_pages = λ p from. next.data_pages p (subst (λ (g : Geometry). ANCHORS ≤ p / g.pages) (sym first.geometry) from) ∙ first.data_pages p from;
      stays_bad = λ b is. next.stays_bad b (first.stays_bad b is);
      bad_anchor = λ b is good. elim (cases_Bool (set.contains mid b)) [ inl then_bad ↦ first.bad_anchor b then_bad good | inr then_good ↦ next.bad_anchor b is then_good ];
      bad_worn = λ b is good. elim (cases_Bool (set.contains mid b)) [ inl then_bad ↦ next.worn b (first.bad_worn b then_bad good) | inr then_good ↦ next.bad_worn b is then_good ];
      worn = λ b was. next.worn b (first.worn b was);
      failures = let h = first.failures in let k = next.failures in omega arith;
      failed_reads = let h = first.failed_reads in let k = next.failed_reads in omega arith;
      cuts = let h = first.cuts in let k = next.cuts in omega arith;
      was_on = λ on. first.was_on (next.was_on on);
      stays_off = λ off. next.stays_off (off_on off) ∙ first.stays_off off;
      list_off = λ off. next.list_off (off_on off) ∙ first.list_off off;
    }

pub Fades_on : (a b c : ℕ → Page) → Fades a b → Fades b c → Fades a c
Fades_on a b c first next p = elim (next p) [ inl same ↦ elim (first p) [ inl was ↦ inl (same ∙ was) | inr (inl blank) ↦ inr (inl (same ∙ blank)) | inr (inr torn) ↦ inr (inr (same ∙ torn)) ] | inr gone ↦ inr gone ]

-- the list with one block more
pub listed : (bad : set.FinSet nat_cmp) (b c : ℕ) → set.contains (set.insert bad b) c ≡ (eqb c b || set.contains bad c)
listed bad b c = set.contains-insert nat_cmp_total bad b c ∙ ap (λ t. t || set.contains bad c) (unsigned_tied c b)

pub listed_itself : (bad : set.FinSet nat_cmp) (b : ℕ) → set.contains (set.insert bad b) b ≡ true
listed_itself bad b = listed bad b b ∙ ap (λ t. t || set.contains bad b) (eq-eqb b b refl)

pub listed_other : (bad : set.FinSet nat_cmp) (b c : ℕ) → c ≢ b → set.contains (set.insert bad b) c ≡ set.contains bad c
listed_other bad b c apart = listed bad b c ∙ ap (λ t. t || set.contains bad c) (ne_eqb c b apart)

pub new_listed : (bad : set.FinSet nat_cmp) (b c : ℕ) → set.contains (set.insert bad b) c ≡ true → set.contains bad c ≡ false → c ≡ b
new_listed bad b c now good =
    elim (or_cases (eqb c b) (set.contains bad c) (sym (listed bad b c) ∙ now)) [
      | inl same ↦ eqb-true c b same
      | inr bad_before ↦ absurd (both_ways (set.contains bad c) good bad_before)
    ]

pub len_listed : (bad : set.FinSet nat_cmp) (b : ℕ) → set.contains bad b ≡ false → set.len (set.insert bad b) ≡ set.len bad + 1
len_listed bad b good = set.len-insert nat_cmp_total bad b ∙ ap (λ t. cond t (set.len bad) (set.len bad + 1)) good

wears_on : (old new : Device) (b : ℕ) (result : Result (Unit {0}) DevFault) → Wears old new b result → (c : ℕ) → old.worn c ≡ true → new.worn c ≡ true
wears_on old new b (Ok u) wears c was = wears c ∙ was
wears_on old new b (Err Failed) wears c was = elim (cases_eq c b) [ inl same ↦ ap new.worn same ∙ wears.0 | inr apart ↦ wears.1 c apart ∙ was ]
wears_on old new b (Err PowerCut) wears c was = wears c ∙ was

-- an operation that did not fail
pub touched : (old new : Device) (bad : set.FinSet nat_cmp) (b : ℕ) (result : Result (Unit {0}) DevFault) → b < ANCHORS → Touches old b new result → failed result ≡ 0 → OnlyAnchors old bad new bad
touched old new bad b result lt t none = record {
  geometry = t.geometry;
  data_pages = λ p from. t.others p (λ same. absurd (omega arith));
  stays_bad = λ c is. is;
  bad_anchor = λ c is good. absurd (both_ways (set.contains bad c) good is);
  bad_worn = λ c is good. absurd (both_ways (set.contains bad c) good is);
  worn = wears_on old new b result t.worn;
  failures = let h = t.failures in omega arith;
  failed_reads = let h = t.failed_reads in omega arith;
  cuts = t.cuts;
  was_on = t.was_on;
  stays_off = t.stays_off;
  list_off = λ off. refl;
}

-- an operation that failed, and its block in the list
pub touched_bad : (old new : Device) (bad : set.FinSet nat_cmp) (b : ℕ) → b < ANCHORS → set.contains bad b ≡ false → Touches old b new (Err Failed) → OnlyAnchors old bad new (set.insert bad b)
touched_bad old new bad b lt good t = record {
  geometry = t.geometry;
  data_pages = λ p from. t.others p (λ same. absurd (omega arith));
  stays_bad = λ c is. listed bad b c ∙ or_right (eqb c b) (set.contains bad c) is;
  bad_anchor = λ c is was. let same = new_listed bad b c is was in omega arith;
  bad_worn = λ c is was. ap new.worn (new_listed bad b c is was) ∙ t.worn.0;
  worn = wears_on old new b (Err Failed) t.worn;
  failures = let h = t.failures in let k = len_listed bad b good in omega arith;
  failed_reads = let h = t.failed_reads in omega arith;
  cuts = t.cuts;
  was_on = t.was_on;
  stays_off = t.stays_off;
  list_off = λ off. absurd (both_ways old.powered off (t.was_on t.power));
}

power_left : (old new : Device) (result : Result (Unit {0}) DevFault) → new.powered ≡ power_after result → PowerLeft new result
power_left old new (Ok u) is = tt
power_left old new (Err Failed) is = is
power_left old new (Err PowerCut) is = is

pub erase_touches : (old new : Device) (b : ℕ) (result : Result (Unit {0}) DevFault) → Erases old b new result → Touches old b new result
erase_touches old new b result e = record {
  geometry = e.operates.geometry;
  others = e.others;
  worn = e.worn;
  failures = e.operates.failures;
  failed_reads = let h = e.operates.failed_reads in omega arith;
  cuts = let h = e.operates.cuts in omega arith;
  was_on = λ on. e.operates.was_on (sym e.operates.power ∙ on);
  stays_off = e.operates.off;
  power = power_left old new result e.operates.power;
}

pub program_touches : (old new : Device) (b p : ℕ) (bytes : List ℕ) (result : Result (Unit {0}) DevFault) → block_of old p ≡ b → Programs old p bytes new result → Touches old b new result
program_touches old new b p bytes result block e = record {
  geometry = e.operates.geometry;
  others = λ q apart. e.others q (λ same. apart (ap (block_of old) same ∙ block));
  worn = subst (λ c. Wears old new c result) block e.worn;
  failures = e.operates.failures;
  failed_reads = let h = e.operates.failed_reads in omega arith;
  cuts = let h = e.operates.cuts in omega arith;
  was_on = λ on. e.operates.was_on (sym e.operates.power ∙ on);
  stays_off = e.operates.off;
  power = power_left old new result e.operates.power;
}

pub Touches_itself : (d : Device) (b : ℕ) (u : Unit {0}) → Touches d b d (Ok u)
Touches_itself d b u = record {
  geometry = refl;
  others = λ p apart. refl;
  worn = λ c. refl;
  failures = omega arith;
  failed_reads = refl;
  cuts = omega arith;
  was_on = λ on. on;
  stays_off = λ off. refl;
  power = tt;
}

wears_after : (d e f : Device) (b : ℕ) (result : Result (Unit {0}) DevFault) → ((c : ℕ) → e.worn c ≡ d.worn c) → Wears e f b result → Wears d f b result
wears_after d e f b (Ok u) same wears = λ c. wears c ∙ same c
wears_after d e f b (Err Failed) same wears = (wears.0, λ c apart. wears.1 c apart ∙ same c)
wears_after d e f b (Err PowerCut) same wears = λ c. wears c ∙ same c

pub Touches_on : (d e f : Device) (b : ℕ) (u : Unit {0}) (result : Result (Unit {0}) DevFault) → Touches d b e (Ok u) → Touches e b f result → Touches d b f result
Touches_on d e f b u result first next = record {
  geometry = next.geometry ∙ first.geometry;
  others = λ p apart. next.others p (λ same. apart (sym (ap (λ (g : Geometry). p / g.pages) first.geometry) ∙ same)) ∙ first.others p apart;
  worn = wears_after d e f b result first.worn next.worn;
  failures = let h = first.failures in let k = next.failures in omega arith;
  failed_reads = next.failed_reads ∙ first.failed_reads;
  cuts = let h = first.cuts in let k = next.cuts in omega arith;
  was_on = λ on. first.was_on (next.was_on on);
  stays_off = λ off. next.stays_off (ap (λ (x : Device). x.powered) (first.stays_off off) ∙ off) ∙ first.stays_off off;
  power = next.power;
}

fades_here : (was now : Page) (result : Result (Unit {0}) DevFault) → AfterErase was now result → (now ≡ was) ⊎ ((now ≡ erased) ⊎ (now ≡ unreadable))
fades_here was now (Ok u) after = inr (inl after)
fades_here was now (Err f) after = after

pub erase_fades : (old new : Device) (b : ℕ) (result : Result (Unit {0}) DevFault) → Erases old b new result → Fades old.pages new.pages
erase_fades old new b result e p = elim (cases_eq (block_of old p) b) [ inl own ↦ fades_here (old.pages p) (new.pages p) result (e.own p own) | inr other ↦ inl (e.others p other) ]

-- one anchor more
pub erased_next : (d e : Device) (was now : set.FinSet nat_cmp) (b : ℕ) (done : Bool) → e.geometry ≡ d.geometry → AreErased d was b
    → (done ≡ true → (p : ℕ) → block_of d p ≡ b → e.pages p ≡ erased) → ((p : ℕ) → block_of d p ≢ b → e.pages p ≡ d.pages p)
    → now ≡ cond done was (set.insert was b) → AreErased e now (b + 1)
erased_next d e was now b done same before own others list p lt good =
    let block : block_of e p ≡ block_of d p = ap (λ (g : Geometry). p / g.pages) same in
    let lt_was : block_of d p < b + 1 = subst (λ n. n < b + 1) block lt in
    let good_was : set.contains now (block_of d p) ≡ false = ap (set.contains now) (sym block) ∙ good in
    elim (cases_eq (block_of d p) b) [
      | inl here ↦ own (kept done list (ap (set.contains now) (sym here) ∙ good_was)) p here
      | inr apart ↦ others p apart ∙ before p (omega arith) (stood done list apart ∙ good_was)
    ]
  where
    kept : (t : Bool) → now ≡ cond t was (set.insert was b) → set.contains now b ≡ false → t ≡ true
    kept true is free = refl
    kept false is free = absurd (both_ways (set.contains now b) free (ap (λ s. set.contains s b) is ∙ listed_itself was b))

    stood : (t : Bool) → now ≡ cond t was (set.insert was b) → block_of d p ≢ b → set.contains was (block_of d p) ≡ set.contains now (block_of d p)
    stood true is apart = ap (λ s. set.contains s (block_of d p)) (sym is)
    stood false is apart = sym (ap (λ s. set.contains s (block_of d p)) is ∙ listed_other was b (block_of d p) apart)

-- the anchors behind are not in the list
pub good_behind : (was now : set.FinSet nat_cmp) (b : ℕ) (done : Bool) → now ≡ cond done was (set.insert was b)
    → ((c : ℕ) → b ≤ c → c < ANCHORS → set.contains was c ≡ false) → (c : ℕ) → b + 1 ≤ c → c < ANCHORS → set.contains now c ≡ false
good_behind was now b true is good c from lt = ap (λ s. set.contains s c) is ∙ good c (omega arith) lt
good_behind was now b false is good c from lt = ap (λ s. set.contains s c) is ∙ listed_other was b c (λ e. absurd (omega arith)) ∙ good c (omega arith) lt

pub room_behind : (was now : set.FinSet nat_cmp) (b : ℕ) (done : Bool) → now ≡ cond done was (set.insert was b) → set.contains was b ≡ false → set.len now ≤ set.len was + 1
room_behind was now b true is good = let h = ap set.len is in omega arith
room_behind was now b false is good = let h = ap set.len is in let k = len_listed was b good in omega arith

-- an erase reads nothing
pub erase_reads : (old new : Device) (b : ℕ) (result : Result (Unit {0}) DevFault) → Erases old b new result → new.failed_reads ≡ old.failed_reads
erase_reads old new b result e = let h = e.operates.failed_reads in omega arith

-- a block is listed where there is room
pub room_left : (bad : set.FinSet nat_cmp) → is_read_only bad ≡ false → set.len bad < MAX_BAD_BLOCKS
room_left bad writable = leb-false MAX_BAD_BLOCKS (set.len bad) (or_parts (leb MAX_BAD_BLOCKS (set.len bad)) _ writable).0

pub ok_with_room : {T E : Type 0} (r : Result T E) (n : ℕ) → OnErr r (n ≡ MAX_BAD_BLOCKS) → n < MAX_BAD_BLOCKS → IsOk r
ok_with_room (Ok x) n full lt = refl
ok_with_room (Err e) n full lt = absurd (omega arith)

pub lt_le : (m n : ℕ) → m < n → m ≤ n
lt_le m n lt = omega arith
