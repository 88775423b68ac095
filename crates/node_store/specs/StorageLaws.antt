-- How takes, writes of blocks and reads evolve a storage.
use Rattle.std.specs.Prelude.{◌≡◌, ◌≢◌, ℕ, zero, suc, ◌+◌, ◌-◌, ◌/◌, ◌<◌, ◌≤◌, Bool, true, false, ◌||◌, cond, not, List, Result, Ok, Err, count_by, refl}
use Rattle.std.specs.FinSet as set
use Rattle.std.specs.Ordering.{nat_cmp}
use Rattle.std.specs.Cmp.{unsigned_tied}
use Rattle.std.specs.List.{range_with_len}
use Rattle.std.proofs.Common.{sym, ◌∙◌, ap, subst, inl, inr, arith, eqb}
use Rattle.std.proofs.lemmas.Bool.{cases_eq, cases_Bool, both_ways, ne_eqb, or_right, or_left, or_cases, eq-eqb, eqb-true}
use Rattle.std.proofs.lemmas.Cmp.{nat_cmp_total}
use Rattle.std.proofs.lemmas.List.Sums.{sum_by-cons}
use Rattle.flash_model.specs.declared.geometry.Geometry.{Geometry}
use Rattle.flash_model.specs.declared.flash.DevFault.{DevFault}
use Rattle.flash_model.specs.declared.flash.DevFault.TheVariants.{Failed, PowerCut}
use Rattle.flash_model.specs.Geometry.{IsGeometry, block_bytes}
use Rattle.flash_model.specs.Device.{Device, block_of, failed}
use Rattle.block_ring.specs.Ring.{Ring, IsDataBlock, IsNext, IsTaken, is_busy, free_count}
use Rattle.block_ring.specs.RingLaws.{next_on}
use Rattle.block_ring.specs.FreeCount.{free_count-alike}
use Rattle.node_store.specs.NodePages.{HasPages, HoldsNode}
use Rattle.node_format.specs.Headers.{IsNode}
use Rattle.node_store.specs.NodeLaws.{node_of-pages, HoldsNode_same}
use Rattle.flash_model.specs.Reading.{OnlyReads_itself, OnlyReads_on}
use Rattle.node_store.specs.Writing.{IsBlockWritten, IsFilledInOrder, WritesBlock}
use Rattle.node_store.specs.WritingLaws.{order_on, order_from}
use Rattle.node_store.specs.Storage.{Storage, storage, is_kept, Evolved, IsUntouched, IsAdded, Pays, IsNextBlock, PassesBad}
use Rattle.fs_types.specs.declared.limits.TheConstants.{ANCHORS, MAX_BAD_BLOCKS}

pub Evolved_itself : (s : Storage) → Evolved s s
Evolved_itself s = record {
  device = record {
    geometry = refl;
    worn = λ b was. was;
    failed_reads = omega arith;
    cuts = omega arith;
    was_on = λ on. on;
    stays_off = λ off. refl;
  };
  pages = record {
    kept_pages = λ p kept. refl;
    anchor_pages = λ p below. refl;
    free_pages = λ p free. refl;
    order = λ b kept fresh. absurd (both_ways (is_kept s b) fresh kept);
    filled = λ on b kept fresh good. absurd (both_ways (is_kept s b) fresh kept);
  };
  ring = record {
    blocks = refl;
    kept = λ b kept. kept;
    noted = λ b kept fresh. absurd (both_ways (is_kept s b) fresh kept);
    note_stays = λ b noted. noted;
    taken = refl;
  };
  bad = record {
    stays_bad = λ b bad. bad;
    bad_used = λ b bad good. absurd (both_ways (set.contains s.bad b) good bad);
    bad_data = λ b bad good. absurd (both_ways (set.contains s.bad b) good bad);
    bad_worn = λ b bad good. absurd (both_ways (set.contains s.bad b) good bad);
    failures = refl;
  };
}

-- a block that is not kept later was not kept before
pub Evolved_fresh : (s t : Storage) (b : ℕ) → Evolved s t → is_kept t b ≡ false → is_kept s b ≡ false
Evolved_fresh s t b e fresh =
    elim (cases_Bool (is_kept s b)) [ inl was ↦ absurd (both_ways (is_kept t b) fresh (e.kept b was)) | inr not_so ↦ not_so ]

-- a block that is not bad later was not bad before
still_good : (t u : Storage) (b : ℕ) → Evolved t u → set.contains u.bad b ≡ false → set.contains t.bad b ≡ false
still_good t u b e good =
    elim (cases_Bool (set.contains t.bad b)) [ inl was ↦ absurd (both_ways (set.contains u.bad b) good (e.stays_bad b was)) | inr not_so ↦ not_so ]

pub Evolved_on : (s t u : Storage) → Evolved s t → Evolved t u → Evolved s u
Evolved_on s t u e f =
    let same : (p : ℕ) → block_of t.device p ≡ block_of s.device p = λ p. ap (λ (g : Geometry). p / g.pages) e.geometry in
    record {
      device = record {
        geometry = f.geometry ∙ e.geometry;
        worn = λ b was. f.worn b (e.worn b was);
        failed_reads = omega arith;
        cuts = omega arith;
        was_on = λ on. e.was_on (f.was_on on);
        stays_off = λ off. f.stays_off (ap (λ (x : Device). x.powered) (e.stays_off off) ∙ off) ∙ e.stays_off off;
      };
      pages = record {
        kept_pages = λ p kept. f.kept_pages p (ap (is_kept t) (same p) ∙ e.kept (block_of s.device p) kept) ∙ e.kept_pages p kept;
        anchor_pages = λ p below. f.anchor_pages p (subst (λ b. b < ANCHORS) (sym (same p)) below) ∙ e.anchor_pages p below;
        free_pages = λ p free.
            f.free_pages p (ap (is_kept u) (same p) ∙ free) ∙ e.free_pages p (Evolved_fresh t u (block_of s.device p) f free);
        order = λ b kept fresh. elim (cases_Bool (is_kept t b)) [
          | inl then_kept ↦ order_on s.device t.device u.device b f.geometry same
              (λ p own. f.kept_pages p (ap (is_kept t) own ∙ then_kept)) (e.order b then_kept fresh)
          | inr then_fresh ↦ order_from s.device t.device u.device b same
              (λ p own. e.free_pages p (ap (is_kept t) own ∙ then_fresh)) (f.order b kept then_fresh)
        ];
        filled = λ on b kept fresh good. elim (cases_Bool (is_kept t b)) [
          | inl then_kept ↦ HoldsNode_same t.device u.device b f.geometry (λ p own. f.kept_pages p (ap (is_kept t) own ∙ then_kept))
              (e.filled (f.was_on on) b then_kept fresh (still_good t u b f good))
          | inr then_fresh ↦ f.filled on b kept then_fresh good
        ];
      };
      ring = record {
        blocks = f.blocks ∙ e.blocks;
        kept = λ b kept. f.kept b (e.kept b kept);
        noted = λ b kept fresh. elim (cases_Bool (is_kept t b)) [
          | inl then_kept ↦ f.note_stays b (e.noted b then_kept fresh)
          | inr then_fresh ↦ f.noted b kept then_fresh
        ];
        note_stays = λ b noted. f.note_stays b (e.note_stays b noted);
        taken = f.taken ∙ e.taken;
      };
      bad = record {
        stays_bad = λ b bad. f.stays_bad b (e.stays_bad b bad);
        bad_used = λ b bad good. elim (cases_Bool (set.contains t.bad b)) [
          | inl then_bad ↦ f.kept b (e.bad_used b then_bad good)
          | inr then_good ↦ f.bad_used b bad then_good
        ];
        bad_data = λ b bad good. elim (cases_Bool (set.contains t.bad b)) [
          | inl then_bad ↦ e.bad_data b then_bad good
          | inr then_good ↦ subst (λ n. IsDataBlock n b) e.blocks (f.bad_data b bad then_good)
        ];
        bad_worn = λ b bad good. elim (cases_Bool (set.contains t.bad b)) [
          | inl then_bad ↦ f.worn b (e.bad_worn b then_bad good)
          | inr then_good ↦ f.bad_worn b bad then_good
        ];
        failures = omega arith;
      };
    }

pub Untouched_itself : (s : Storage) → IsUntouched s s
Untouched_itself s = record { device = OnlyReads_itself s.device; bad = refl; ring = refl }

pub Untouched_on : (s t u : Storage) → IsUntouched s t → IsUntouched t u → IsUntouched s u
Untouched_on s t u e f = record {
  device = OnlyReads_on s.device t.device u.device e.device f.device;
  bad = f.bad ∙ e.bad;
  ring = f.ring ∙ e.ring;
}

-- reads evolve a storage
pub Untouched_evolved : (s t : Storage) → IsUntouched s t → Evolved s t
Untouched_evolved s t u = record {
  device = record {
    geometry = u.device.geometry;
    worn = λ b was. u.device.worn b ∙ was;
    failed_reads = u.device.failed_reads;
    cuts = u.device.cuts;
    was_on = u.device.was_on;
    stays_off = u.device.stays_off;
  };
  pages = record {
    kept_pages = λ p kept. u.device.pages p;
    anchor_pages = λ p below. u.device.pages p;
    free_pages = λ p free. u.device.pages p;
    order = λ b kept fresh. absurd (both_ways (is_kept t b) (ap (λ (r : Ring). set.contains r.used b) u.ring ∙ fresh) kept);
    filled = λ on b kept fresh good. absurd (both_ways (is_kept t b) (ap (λ (r : Ring). set.contains r.used b) u.ring ∙ fresh) kept);
  };
  ring = record {
    blocks = ap (λ (r : Ring). r.blocks) u.ring;
    kept = λ b kept. ap (λ (r : Ring). set.contains r.used b) u.ring ∙ kept;
    noted = λ b kept fresh. absurd (both_ways (is_kept t b) (ap (λ (r : Ring). set.contains r.used b) u.ring ∙ fresh) kept);
    note_stays = λ b noted. ap (λ (r : Ring). set.contains r.note b) u.ring ∙ noted;
    taken = ap (λ (r : Ring). free_count r t.bad + r.takes) u.ring ∙ ap (λ bads. free_count s.ring bads + s.ring.takes) u.bad;
  };
  bad = record {
    stays_bad = λ b bad. ap (λ bads. set.contains bads b) u.bad ∙ bad;
    bad_used = λ b bad good. absurd (both_ways (set.contains t.bad b) (ap (λ bads. set.contains bads b) u.bad ∙ good) bad);
    bad_data = λ b bad good. absurd (both_ways (set.contains t.bad b) (ap (λ bads. set.contains bads b) u.bad ∙ good) bad);
    bad_worn = λ b bad good. absurd (both_ways (set.contains t.bad b) (ap (λ bads. set.contains bads b) u.bad ∙ good) bad);
    failures = ap (λ n. n + set.len s.bad) u.device.failures ∙ ap (λ bads. s.device.failures + set.len bads) (sym u.bad);
  };
}

-- a kept block is another
apart_from : (s : Storage) (b c : ℕ) → is_kept s b ≡ false → is_kept s c ≡ true → c ≢ b
apart_from s b c fresh kept same = both_ways (is_kept s c) (ap (is_kept s) same ∙ fresh) kept

-- the bad list with one block more
listed : (bad : set.FinSet nat_cmp) (b c : ℕ) → set.contains (set.insert bad b) c ≡ (eqb c b || set.contains bad c)
listed bad b c = set.contains-insert nat_cmp_total bad b c ∙ ap (λ t. t || set.contains bad c) (unsigned_tied c b)

stays_listed : (bad : set.FinSet nat_cmp) (b c : ℕ) → set.contains bad c ≡ true → set.contains (set.insert bad b) c ≡ true
stays_listed bad b c was = listed bad b c ∙ or_right (eqb c b) (set.contains bad c) was

here_listed : (bad : set.FinSet nat_cmp) (b c : ℕ) → c ≡ b → set.contains (set.insert bad b) c ≡ true
here_listed bad b c same = listed bad b c ∙ or_left (eqb c b) (set.contains bad c) (eq-eqb c b same)

pub new_listed : (bad : set.FinSet nat_cmp) (b c : ℕ) → set.contains (set.insert bad b) c ≡ true → set.contains bad c ≡ false → c ≡ b
new_listed bad b c now good =
    elim (or_cases (eqb c b) (set.contains bad c) (sym (listed bad b c) ∙ now)) [
      | inl same ↦ eqb-true c b same
      | inr bad_before ↦ absurd (both_ways (set.contains bad c) good bad_before)
    ]

-- the block that became used with a take is the one taken
became : (old : Ring) (bad : set.FinSet nat_cmp) (b : ℕ) (new : Ring) (c : ℕ) → IsTaken old bad b new → set.contains new.used c ≡ true
    → set.contains old.used c ≡ false → c ≡ b
became old bad b new c take used fresh = new_listed old.used b c (ap (λ s. set.contains s c) (sym (ap (λ (r : Ring). r.used) take.ring)) ∙ used) fresh

-- a block that is not used after a take is another
apart_then : (old : Ring) (bad : set.FinSet nat_cmp) (b : ℕ) (new : Ring) (c : ℕ) → IsTaken old bad b new → set.contains new.used c ≡ false → c ≢ b
apart_then old bad b new c take free same = both_ways (set.contains new.used c) free (ap (set.contains new.used) same ∙ take.used)

-- where power stays on and no operation failed, the bytes were written
written_on : (d : Device) (b : ℕ) (bytes : List ℕ) (result : Result (Unit {0}) DevFault) → IsBlockWritten d b bytes result → failed result ≡ 0 → d.powered ≡ true
    → HasPages d b bytes
written_on d b bytes (Ok u) ends none on = ends
written_on d b bytes (Err Failed) ends none on = cc
written_on d b bytes (Err PowerCut) ends none on = absurd (both_ways d.powered ends on)

-- a take, and a write of the block in which no operation failed
pub took_good : (s : Storage) (b : ℕ) (ring : Ring) (bytes : List ℕ) (d : Device) (result : Result (Unit {0}) DevFault)
    → IsNode (block_bytes s.device.geometry) bytes → IsTaken s.ring s.bad b ring → WritesBlock s.device b bytes d result → failed result ≡ 0
    → Evolved s (record { device = d; bad = s.bad; ring = ring })
took_good s b ring bytes d result node take w none = record {
  device = record {
    geometry = w.geometry;
    worn = w.worn;
    failed_reads = omega arith;
    cuts = w.cuts;
    was_on = w.was_on;
    stays_off = w.stays_off;
  };
  pages = record {
    kept_pages = λ p kept. w.others p (apart_from s b (block_of s.device p) take.fresh kept);
    anchor_pages = λ p below. w.others p (λ same. absurd (omega (arith, take.next.data_block.0)));
    free_pages = λ p free. w.others p (apart_then s.ring s.bad b ring (block_of s.device p) take free);
    order = λ c kept fresh. subst (λ n. IsFilledInOrder s.device n d) (sym (became s.ring s.bad b ring c take kept fresh)) w.order;
    filled = λ on c kept fresh good.
        subst (HoldsNode d) (sym (became s.ring s.bad b ring c take kept fresh)) (record {
          bytes = bytes;
          node = subst (λ (g : Geometry). IsNode (block_bytes g) bytes) (sym w.geometry) node;
          pages = written_on d b bytes result w.ends none on;
        });
  };
  ring = record {
    blocks = ap (λ (r : Ring). r.blocks) take.ring;
    kept = take.kept;
    noted = take.noted;
    note_stays = take.note_stays;
    taken = take.paid;
  };
  bad = record {
    stays_bad = λ c bad. bad;
    bad_used = λ c bad good. absurd (both_ways (set.contains s.bad c) good bad);
    bad_data = λ c bad good. absurd (both_ways (set.contains s.bad c) good bad);
    bad_worn = λ c bad good. absurd (both_ways (set.contains s.bad c) good bad);
    failures = let fails = w.failures in omega arith;
  };
}

-- a used block is as busy when it is listed
busy_alike : (r : Ring) (bad : set.FinSet nat_cmp) (b c : ℕ) → set.contains r.used b ≡ true → is_busy r (set.insert bad b) c ≡ is_busy r bad c
busy_alike r bad b c used =
    elim (cases_eq c b) [
      | inl same ↦
          let here : set.contains r.used c ≡ true = ap (set.contains r.used) same ∙ used in
          or_left (set.contains r.used c) (set.contains (set.insert bad b) c) here ∙ sym (or_left (set.contains r.used c) (set.contains bad c) here)
      | inr apart ↦ ap (λ t. set.contains r.used c || t) (listed bad b c ∙ ap (λ t. t || set.contains bad c) (ne_eqb c b apart))
    ]

-- as many blocks are free when a used one is listed
pub free_alike : (r : Ring) (bad : set.FinSet nat_cmp) (b : ℕ) → set.contains r.used b ≡ true → free_count r (set.insert bad b) ≡ free_count r bad
free_alike r bad b used = free_count-alike r r (set.insert bad b) bad refl (λ c at. busy_alike r bad b c used)

-- the list is one longer with a block that was good
pub len_listed : (bad : set.FinSet nat_cmp) (b : ℕ) → set.contains bad b ≡ false → set.len (set.insert bad b) ≡ set.len bad + 1
len_listed bad b good = set.len-insert nat_cmp_total bad b ∙ ap (λ t. cond t (set.len bad) (set.len bad + 1)) good

-- a take, a write in which an operation failed, and the block in the list
pub took_bad : (s : Storage) (b : ℕ) (ring : Ring) (bytes : List ℕ) (d : Device) → IsTaken s.ring s.bad b ring
    → WritesBlock s.device b bytes d (Err Failed) → Evolved s (record { device = d; bad = set.insert s.bad b; ring = ring })
took_bad s b ring bytes d take w = record {
  device = record {
    geometry = w.geometry;
    worn = w.worn;
    failed_reads = omega arith;
    cuts = w.cuts;
    was_on = w.was_on;
    stays_off = w.stays_off;
  };
  pages = record {
    kept_pages = λ p kept. w.others p (apart_from s b (block_of s.device p) take.fresh kept);
    anchor_pages = λ p below. w.others p (λ same. absurd (omega (arith, take.next.data_block.0)));
    free_pages = λ p free. w.others p (apart_then s.ring s.bad b ring (block_of s.device p) take free);
    order = λ c kept fresh. subst (λ n. IsFilledInOrder s.device n d) (sym (became s.ring s.bad b ring c take kept fresh)) w.order;
    filled = λ on c kept fresh good.
        absurd (both_ways (set.contains (set.insert s.bad b) c) good (here_listed s.bad b c (became s.ring s.bad b ring c take kept fresh)));
  };
  ring = record {
    blocks = ap (λ (r : Ring). r.blocks) take.ring;
    kept = take.kept;
    noted = take.noted;
    note_stays = take.note_stays;
    taken = ap (λ n. n + ring.takes) (free_alike ring s.bad b take.used) ∙ take.paid;
  };
  bad = record {
    stays_bad = stays_listed s.bad b;
    bad_used = λ c bad good. ap (set.contains ring.used) (new_listed s.bad b c bad good) ∙ take.used;
    bad_data = λ c bad good. subst (IsDataBlock s.ring.blocks) (sym (new_listed s.bad b c bad good)) take.next.data_block;
    bad_worn = λ c bad good. ap d.worn (new_listed s.bad b c bad good) ∙ w.ends;
    failures = let fails = w.failures in let more = len_listed s.bad b take.good in omega arith;
  };
}

abbrev one_if : Bool → ℕ
one_if t = cond t 1 0

-- a test that holds nowhere counts nothing
none_counted : (p : ℕ → Bool) (a n : ℕ) → ((c : ℕ) → a ≤ c → c < a + n → p c ≡ false) → count_by p (range_with_len a n) ≡ 0
none_counted p a zero none = refl
none_counted p a (suc n) none =
    let rest = none_counted p (a + 1) n (λ c low high. none c (omega arith) (omega arith)) in
    sum_by-cons (λ c. one_if (p c)) a (range_with_len (a + 1) n) ∙ ap (λ k. one_if (p a) + k) rest
    ∙ ap (λ t. one_if t + 0) (none a (omega arith) (omega arith))

-- where every data block is used or bad, none is free
pub none_free : (r : Ring) (bad : set.FinSet nat_cmp) → ((b : ℕ) → IsDataBlock r.blocks b → is_busy r bad b ≡ true) → free_count r bad ≡ 0
none_free r bad busy =
    none_counted (λ b. not (is_busy r bad b)) ANCHORS (r.blocks - ANCHORS) (λ c low high. ap not (busy c (low, omega arith)))

-- a take, and a write that was done, add the node
pub took_added : (s : Storage) (b : ℕ) (ring : Ring) (bytes : List ℕ) (d : Device) (u : Unit {0}) → IsGeometry s.device.geometry
    → s.ring.blocks ≡ s.device.geometry.blocks → IsNode (block_bytes s.device.geometry) bytes → set.len s.bad < MAX_BAD_BLOCKS
    → IsTaken s.ring s.bad b ring → WritesBlock s.device b bytes d (Ok u) → IsAdded s bytes (storage d s.bad ring) b
took_added s b ring bytes d u lawful blocks node room take w =
    let same = sym w.geometry in
    let below : b < d.geometry.blocks =
    subst (λ n. b < n) (blocks ∙ ap (λ (g : Geometry). g.blocks) same) take.next.data_block.1 in
    record {
      fresh = take.fresh;
      kept = take.used;
      node = node_of-pages d b bytes (subst IsGeometry same lawful) take.next.data_block.0 below
          (subst (λ (g : Geometry). IsNode (block_bytes g) bytes) same node) w.ends;
      pages = w.ends;
      room = room;
    }

-- what takes cost, by how the write of the block ended
pub pays_good : (s : Storage) (b : ℕ) (ring : Ring) (d : Device) → IsTaken s.ring s.bad b ring → Pays s (storage d s.bad ring) 1
pays_good s b ring d take = let takes = ap (λ (r : Ring). r.takes) take.ring in omega arith

pub pays_bad : (s : Storage) (b : ℕ) (ring : Ring) (d : Device) → IsTaken s.ring s.bad b ring → Pays s (storage d (set.insert s.bad b) ring) 0
pays_bad s b ring d take = let takes = ap (λ (r : Ring). r.takes) take.ring in let more = len_listed s.bad b take.good in omega arith

-- one free block less, though the block is bad
pub less_free : (s : Storage) (b : ℕ) (ring : Ring) → IsTaken s.ring s.bad b ring
    → free_count ring (set.insert s.bad b) < free_count s.ring s.bad
less_free s b ring take =
    let takes = ap (λ (r : Ring). r.takes) take.ring in
    let paid = take.paid in
    let alike = free_alike ring s.bad b take.used in
    omega arith

-- what is used after a take, beside the block that was taken, was used before
was_used : (old : Ring) (bad : set.FinSet nat_cmp) (b : ℕ) (new : Ring) (c : ℕ) → IsTaken old bad b new → c ≢ b → set.contains new.used c ≡ true
    → set.contains old.used c ≡ true
was_used old bad b new c take other used =
    elim (cases_Bool (set.contains old.used c)) [
      | inl was ↦ was
      | inr was_not ↦ absurd (other (became old bad b new c take used was_not))
    ]

pub Passes_itself : (s : Storage) → PassesBad s s
Passes_itself s = λ bad b has next. next

pub Passes_on : (s t u : Storage) → Evolved t u → PassesBad s t → PassesBad t u → PassesBad s u
Passes_on s t u e first second = λ bad b has next. first bad b (λ c is. has c (e.stays_bad c is)) (second bad b has next)

-- the next block after bad ones is the next block
pub Passes_next : (s t u : Storage) (b : ℕ) → Evolved t u → PassesBad s t → IsNextBlock t u b → IsNextBlock s u b
Passes_next s t u b e passes at = record { next = passes u.bad b e.stays_bad at.next; last = at.last }

-- a take passes the block that it takes, where this one is bad afterwards
pub took_passed : (s : Storage) (b : ℕ) (ring : Ring) (d : Device) → IsTaken s.ring s.bad b ring → PassesBad s (storage d (set.insert s.bad b) ring)
took_passed s b ring d take = λ bad c has next.
    let here : set.contains bad b ≡ true = has b (here_listed s.bad b b refl) in
    let after : IsNext (is_busy ring bad) s.ring.blocks b c =
    subst (λ last. IsNext (is_busy ring bad) s.ring.blocks last c) (ap (λ (r : Ring). r.last) take.ring) (subst (λ n. IsNext (is_busy ring bad) n ring.last c) (ap (λ (r : Ring). r.blocks) take.ring) next) in
    next_on (is_busy s.ring s.bad) (is_busy ring bad) (is_busy s.ring bad) s.ring.blocks s.ring.last b c take.last_block take.next after
    (λ x was. elim (or_cases (set.contains s.ring.used x) (set.contains s.bad x) was) [
      | inl used ↦ or_left (set.contains s.ring.used x) (set.contains bad x) used
      | inr is_bad ↦ or_right (set.contains s.ring.used x) (set.contains bad x) (has x (stays_listed s.bad b x is_bad))
    ])
    (or_right (set.contains s.ring.used b) (set.contains bad b) here)
    (λ x was. elim (or_cases (set.contains s.ring.used x) (set.contains bad x) was) [
      | inl used ↦ or_left (set.contains ring.used x) (set.contains bad x) (take.kept x used)
      | inr is_bad ↦ or_right (set.contains ring.used x) (set.contains bad x) is_bad
    ])
    (λ x other is. elim (or_cases (set.contains ring.used x) (set.contains bad x) is) [
      | inl used ↦ or_left (set.contains s.ring.used x) (set.contains bad x) (was_used s.ring s.bad b ring x take other used)
      | inr is_bad ↦ or_right (set.contains s.ring.used x) (set.contains bad x) is_bad
    ])
