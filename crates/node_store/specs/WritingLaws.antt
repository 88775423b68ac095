-- How erases and programs make up an attempt to write a block.
use Rattle.std.specs.Prelude.{◌≡◌, ◌≢◌, ◌⊎◌, ℕ, ◌+◌, ◌*◌, ◌/◌, ◌<◌, ◌≤◌, Bool, true, false, if◌then◌else◌, List, length, Result, Ok, Err, refl}
use Rattle.std.proofs.Common.{sym, ◌∙◌, ap, subst, inl, inr, arith}
use Rattle.std.proofs.lemmas.Bool.{cases_eq, cases_lt, cases_Bool, both_ways}
use Rattle.flash_model.specs.declared.geometry.Geometry.{Geometry}
use Rattle.flash_model.specs.declared.flash.DevFault.{DevFault}
use Rattle.flash_model.specs.declared.flash.DevFault.TheVariants.{Failed, PowerCut}
use Rattle.flash_model.specs.Device.{Device, Page, bytes_of, erased, unreadable, block_of, Operates, Programs, Erases}
use Rattle.flash_model.specs.Geometry.{IsGeometry, block_bytes}
use Rattle.flash_model.specs.Blocks.{block_of-at}
use Rattle.node_store.specs.NodePages.{page_bytes}
use Rattle.nodes.specs.PageCounts.{pages_for}
use Rattle.node_store.specs.NodeLaws.{lawful_has_room, pages_for-most}
use Rattle.node_store.specs.Writing.{has_data, IsInOrder, IsFilledInOrder, WritesBlock, IsWriting}

-- before the first program
pub IsWriting_start : (d : Device) (b : ℕ) (bytes : List ℕ)
    → ((j : ℕ) → j < d.geometry.pages → d.pages (b * d.geometry.pages + j) ≡ erased) → IsWriting d b bytes 0 d
IsWriting_start d b bytes blank = record {
  geometry = refl;
  others = λ p apart. refl;
  written = λ j below. absurd (omega arith);
  blank = λ j from below. blank j below;
  worn = λ c. refl;
  failures = refl;
  failed_reads = refl;
  cuts = omega arith;
  was_on = λ on. on;
  stays_off = λ off. refl;
}

-- what an operation does to the power and the cuts
was_on : {T : Type 0} (old new : Device) (result : Result T DevFault) (reads fails : ℕ) → Operates old new result reads fails
    → new.powered ≡ true → old.powered ≡ true
was_on old new result reads fails o on = o.was_on (sym o.power ∙ on)

-- the program of the next page
pub program_next : (old mid new : Device) (b place p : ℕ) (bytes page : List ℕ) (u : Unit {0}) → IsWriting old b bytes place mid
    → place < old.geometry.pages → p ≡ b * old.geometry.pages + place → page ≡ page_bytes old.geometry.page place bytes
    → Programs mid p page new (Ok u) → IsWriting old b bytes (place + 1) new
program_next old mid new b place p bytes page u w below at is programs = record {
  geometry = programs.operates.geometry ∙ w.geometry;
  others = λ q apart. programs.others q (λ same. apart (ap (block_of old) (same ∙ at) ∙ block_of-at old b place below)) ∙ w.others q apart;
  written = λ j under. elim (cases_eq j place) [
    | inl same ↦ ap (λ k. new.pages (b * old.geometry.pages + k)) same ∙ ap new.pages (sym at) ∙ programs.page ∙ ap bytes_of is
        ∙ ap (λ k. bytes_of (page_bytes old.geometry.page k bytes)) (sym same)
    | inr apart ↦
        let other : b * old.geometry.pages + j ≢ p = λ same. apart (omega arith) in
        let before : j < place = omega arith in
        programs.others (b * old.geometry.pages + j) other ∙ w.written j before
  ];
  blank = λ j from under.
      let other : b * old.geometry.pages + j ≢ p = λ same. absurd (omega arith) in
      programs.others (b * old.geometry.pages + j) other ∙ w.blank j (omega arith) under;
  worn = λ c. programs.worn c ∙ w.worn c;
  failures = programs.operates.failures ∙ omega arith;
  failed_reads = programs.operates.failed_reads ∙ omega arith;
  cuts = omega arith;
  was_on = λ on. w.was_on (was_on mid new (Ok u) 0 0 programs.operates on);
  stays_off = λ off. programs.operates.off (ap (λ (x : Device). x.powered) (w.stays_off off) ∙ off) ∙ w.stays_off off;
}

-- pages that have data up to a place, and none from it on, are in order
order_until : (d : Device) (g : Geometry) (b n : ℕ) → d.geometry ≡ g
    → ((j : ℕ) → j < n → has_data (d.pages (b * g.pages + j)) ≡ true)
    → ((j : ℕ) → n ≤ j → j < g.pages → has_data (d.pages (b * g.pages + j)) ≡ false) → IsInOrder d b
order_until d g b n same full none = record {
  behind = subst (λ (h : Geometry). (j k : ℕ) → j < k → k < h.pages → has_data (d.pages (b * h.pages + j)) ≡ false → has_data (d.pages (b * h.pages + k)) ≡ false)
      (sym same)
      (λ j k before below empty. elim (cases_lt k n) [
        | inl within ↦ absurd (both_ways (has_data (d.pages (b * g.pages + j))) empty (full j (omega arith)))
        | inr past ↦ none k past below
      ]);
}

-- so are those of a block after the program of its next page, whatever it leaves
program_order : (old mid new : Device) (b place p : ℕ) (bytes : List ℕ) → IsWriting old b bytes place mid
    → p ≡ b * old.geometry.pages + place → new.geometry ≡ old.geometry
    → ((q : ℕ) → q ≢ p → new.pages q ≡ mid.pages q) → IsInOrder new b
program_order old mid new b place p bytes w at geometry others =
    let written : (j : ℕ) → j < place → has_data (new.pages (b * old.geometry.pages + j)) ≡ true = λ j below.
    ap has_data (others (b * old.geometry.pages + j) (λ same. absurd (omega arith)) ∙ w.written j below) in
    let blank : (j : ℕ) → place + 1 ≤ j → j < old.geometry.pages → has_data (new.pages (b * old.geometry.pages + j)) ≡ false = λ j from below.
    ap has_data (others (b * old.geometry.pages + j) (λ same. absurd (omega arith)) ∙ w.blank j (omega arith) below) in
    elim (cases_Bool (has_data (new.pages (b * old.geometry.pages + place)))) [
      | inl full ↦ order_until new old.geometry b (place + 1) geometry
          (λ j below. elim (cases_eq j place) [
            | inl same ↦ ap (λ k. has_data (new.pages (b * old.geometry.pages + k))) same ∙ full
            | inr apart ↦ written j (omega arith)
          ])
          blank
      | inr empty ↦ order_until new old.geometry b place geometry written
          (λ j from below. elim (cases_eq j place) [
            | inl same ↦ ap (λ k. has_data (new.pages (b * old.geometry.pages + k))) same ∙ empty
            | inr apart ↦ blank j (omega arith) below
          ])
    ]

-- after the last page
pub all_written : (old new : Device) (b : ℕ) (bytes : List ℕ) (u : Unit {0})
    → IsWriting old b bytes (pages_for old.geometry.page (length bytes)) new → WritesBlock old b bytes new (Ok u)
all_written old new b bytes u w = record {
  geometry = w.geometry;
  others = w.others;
  worn = λ c was. w.worn c ∙ was;
  failures = w.failures ∙ omega arith;
  failed_reads = w.failed_reads;
  cuts = w.cuts;
  was_on = w.was_on;
  stays_off = w.stays_off;
  order = inr (order_until new old.geometry b (pages_for old.geometry.page (length bytes)) w.geometry (λ j below. ap has_data (w.written j below))
      (λ j from below. ap has_data (w.blank j from below)));
  ends = record {
    each = subst (λ (g : Geometry). (j : ℕ) → j < pages_for g.page (length bytes) → new.pages (b * g.pages + j) ≡ bytes_of (page_bytes g.page j bytes)) (sym w.geometry) w.written;
    rest = subst (λ (g : Geometry). (j : ℕ) → pages_for g.page (length bytes) ≤ j → j < g.pages → new.pages (b * g.pages + j) ≡ erased) (sym w.geometry) w.blank;
  };
}

-- the block of a failed operation is worn, and those that were stay so
record WornAt (old new : Device) (b : ℕ) : Type 0 where
  here : new.worn b ≡ true
  stays : (c : ℕ) → old.worn c ≡ true → new.worn c ≡ true

worn_at : (old new : Device) (b : ℕ) → new.worn b ≡ true → ((c : ℕ) → c ≢ b → new.worn c ≡ old.worn c) → WornAt old new b
worn_at old new b here others = record {
  here = here;
  stays = λ c was. elim (cases_eq c b) [ inl same ↦ ap new.worn same ∙ here | inr apart ↦ others c apart ∙ was ];
}

-- a program that was not done
pub program_fails : (old mid new : Device) (b place p : ℕ) (bytes page : List ℕ) (fault : DevFault) → IsWriting old b bytes place mid
    → place < old.geometry.pages → p ≡ b * old.geometry.pages + place
    → Programs mid p page new (Err fault) → WritesBlock old b bytes new (Err fault)
program_fails old mid new b place p bytes page Failed w below at programs =
    let block : block_of mid p ≡ b = ap (λ (g : Geometry). p / g.pages) w.geometry ∙ ap (block_of old) at ∙ block_of-at old b place below in
    let worn = worn_at mid new b (ap new.worn (sym block) ∙ programs.worn.0) (λ c apart. programs.worn.1 c (λ same. apart (same ∙ block))) in
    record {
      geometry = programs.operates.geometry ∙ w.geometry;
      others = λ q apart. programs.others q (λ same. apart (ap (block_of old) (same ∙ at) ∙ block_of-at old b place below)) ∙ w.others q apart;
      worn = λ c was. worn.stays c (w.worn c ∙ was);
      failures = programs.operates.failures ∙ omega arith;
      failed_reads = programs.operates.failed_reads ∙ omega arith;
      cuts = omega arith;
      was_on = λ on. w.was_on (was_on mid new (Err Failed) 0 1 programs.operates on);
      stays_off = λ off. programs.operates.off (ap (λ (x : Device). x.powered) (w.stays_off off) ∙ off) ∙ w.stays_off off;
      order = inr (program_order old mid new b place p bytes w at (programs.operates.geometry ∙ w.geometry) programs.others);
      ends = worn.here;
    }
program_fails old mid new b place p bytes page PowerCut w below at programs = record {
  geometry = programs.operates.geometry ∙ w.geometry;
  others = λ q apart. programs.others q (λ same. apart (ap (block_of old) (same ∙ at) ∙ block_of-at old b place below)) ∙ w.others q apart;
  worn = λ c was. programs.worn c ∙ w.worn c ∙ was;
  failures = programs.operates.failures ∙ omega arith;
  failed_reads = programs.operates.failed_reads ∙ omega arith;
  cuts = omega arith;
  was_on = λ on. w.was_on (was_on mid new (Err PowerCut) 0 0 programs.operates on);
  stays_off = λ off. programs.operates.off (ap (λ (x : Device). x.powered) (w.stays_off off) ∙ off) ∙ w.stays_off off;
  order = inr (program_order old mid new b place p bytes w at (programs.operates.geometry ∙ w.geometry) programs.others);
  ends = programs.operates.power;
}

-- an erase that was not done
pub erase_fails : (old new : Device) (b : ℕ) (bytes : List ℕ) (fault : DevFault) → Erases old b new (Err fault) → WritesBlock old b bytes new (Err fault)
erase_fails old new b bytes Failed erases =
    let worn = worn_at old new b erases.worn.0 erases.worn.1 in
    record {
      geometry = erases.operates.geometry;
      others = erases.others;
      worn = worn.stays;
      failures = erases.operates.failures;
      failed_reads = erases.operates.failed_reads ∙ omega arith;
      cuts = omega arith;
      was_on = was_on old new (Err Failed) 0 1 erases.operates;
      stays_off = erases.operates.off;
      order = inl (λ p own. erases.own p own);
      ends = worn.here;
    }
erase_fails old new b bytes PowerCut erases = record {
  geometry = erases.operates.geometry;
  others = erases.others;
  worn = λ c was. erases.worn c ∙ was;
  failures = erases.operates.failures;
  failed_reads = erases.operates.failed_reads ∙ omega arith;
  cuts = omega arith;
  was_on = was_on old new (Err PowerCut) 0 0 erases.operates;
  stays_off = erases.operates.off;
  order = inl (λ p own. erases.own p own);
  ends = erases.operates.power;
}

-- an erase that was done leaves blank pages
pub erase_blank : (old new : Device) (b : ℕ) (u : Unit {0}) → Erases old b new (Ok u)
    → (j : ℕ) → j < new.geometry.pages → new.pages (b * new.geometry.pages + j) ≡ erased
erase_blank old new b u erases j below =
    let same : block_of old (b * new.geometry.pages + j) ≡ b =
    ap (λ (g : Geometry). (b * new.geometry.pages + j) / g.pages) (sym erases.operates.geometry) ∙ block_of-at new b j below in
    erases.own (b * new.geometry.pages + j) same

-- pages that were erased have no data where the next erase was not done
no_data : (was now : Page) → was ≡ erased → (now ≡ was) ⊎ ((now ≡ erased) ⊎ (now ≡ unreadable)) → has_data now ≡ false
no_data was now blank left =
    elim left [
      | inl same ↦ ap has_data (same ∙ blank)
      | inr other ↦ elim other [ inl here ↦ ap has_data here | inr lost ↦ ap has_data lost ]
    ]

-- programs of an erased block fill it in order
order_after : (old mid new : Device) (b : ℕ) (u : Unit {0}) → new.geometry ≡ mid.geometry → Erases old b mid (Ok u) → IsFilledInOrder mid b new → IsInOrder new b
order_after old mid new b u geometry erases filled =
    elim filled [
      | inl unerased ↦ record {
        behind = λ j k before below empty.
            let here : block_of mid (b * new.geometry.pages + k) ≡ b =
            ap (λ (g : Geometry). (b * new.geometry.pages + k) / g.pages) (sym geometry) ∙ block_of-at new b k below in
            let first : block_of old (b * new.geometry.pages + k) ≡ b =
            ap (λ (g : Geometry). (b * new.geometry.pages + k) / g.pages) (sym erases.operates.geometry) ∙ here in
            no_data (mid.pages (b * new.geometry.pages + k)) (new.pages (b * new.geometry.pages + k))
            (erases.own (b * new.geometry.pages + k) first) (unerased (b * new.geometry.pages + k) here);
      }
      | inr order ↦ order
    ]

-- an erase, and then the programs
pub erase_then : (old mid new : Device) (b : ℕ) (bytes : List ℕ) (u : Unit {0}) (result : Result (Unit {0}) DevFault)
    → Erases old b mid (Ok u) → WritesBlock mid b bytes new result → WritesBlock old b bytes new result
erase_then old mid new b bytes u result erases w = record {
  geometry = w.geometry ∙ erases.operates.geometry;
  others = λ p apart.
      w.others p (λ same. apart (ap (λ (g : Geometry). p / g.pages) (sym erases.operates.geometry) ∙ same)) ∙ erases.others p apart;
  worn = λ c was. w.worn c (erases.worn c ∙ was);
  failures = w.failures ∙ omega arith;
  failed_reads = w.failed_reads ∙ erases.operates.failed_reads ∙ omega arith;
  cuts = omega arith;
  was_on = λ on. was_on old mid (Ok u) 0 0 erases.operates (w.was_on on);
  stays_off = λ off. w.stays_off (ap (λ (x : Device). x.powered) (erases.operates.off off) ∙ off) ∙ erases.operates.off off;
  order = inr (order_after old mid new b u w.geometry erases w.order);
  ends = w.ends;
}

-- a page that the bytes need is in the block
pub place_below : (g h : Geometry) (place size : ℕ) → h ≡ g → IsGeometry g → size ≤ block_bytes g → place < pages_for h.page size → place < g.pages
place_below g h place size same lawful fits below =
    let room = lawful_has_room g lawful in
    let most = pages_for-most g.page g.pages size (omega arith) fits in
    let count : pages_for h.page size ≡ pages_for g.page size = ap (λ (k : Geometry). pages_for k.page size) same in
    omega arith

-- an operation counts once, where power is on
pub counts_once : (on : Bool) (before after : ℕ) → after ≡ before + (if on then 1 else 0) → after ≤ before + 1
counts_once true before after e = omega (arith, e)
counts_once false before after e = omega (arith, e)

-- blocks that are filled in order stay so while their pages do
in_order_same : (d e : Device) (b : ℕ) → e.geometry ≡ d.geometry → ((p : ℕ) → block_of d p ≡ b → e.pages p ≡ d.pages p) → IsInOrder d b → IsInOrder e b
in_order_same d e b geometry same order = record {
  behind = subst (λ (g : Geometry). (j k : ℕ) → j < k → k < g.pages → has_data (e.pages (b * g.pages + j)) ≡ false → has_data (e.pages (b * g.pages + k)) ≡ false)
      (sym geometry)
      (λ j k before below empty.
      ap has_data (same (b * d.geometry.pages + k) (block_of-at d b k below))
      ∙ order.behind j k before below (ap has_data (sym (same (b * d.geometry.pages + j) (block_of-at d b j (omega arith)))) ∙ empty));
}

pub order_on : (s t u : Device) (b : ℕ) → u.geometry ≡ t.geometry → ((p : ℕ) → block_of t p ≡ block_of s p)
    → ((p : ℕ) → block_of t p ≡ b → u.pages p ≡ t.pages p) → IsFilledInOrder s b t → IsFilledInOrder s b u
order_on s t u b geometry blocks same filled =
    elim filled [
      | inl unerased ↦ inl (λ p own.
          subst (λ now. (now ≡ s.pages p) ⊎ ((now ≡ erased) ⊎ (now ≡ unreadable))) (sym (same p (blocks p ∙ own))) (unerased p own))
      | inr order ↦ inr (in_order_same t u b geometry same order)
    ]

-- what filled a block in order did so from before, where its pages were the same
pub order_from : (s t u : Device) (b : ℕ) → ((p : ℕ) → block_of t p ≡ block_of s p)
    → ((p : ℕ) → block_of s p ≡ b → t.pages p ≡ s.pages p) → IsFilledInOrder t b u → IsFilledInOrder s b u
order_from s t u b blocks before filled =
    elim filled [
      | inl unerased ↦ inl (λ p own.
          subst (λ was. (u.pages p ≡ was) ⊎ ((u.pages p ≡ erased) ⊎ (u.pages p ≡ unreadable))) (before p own) (unerased p (blocks p ∙ own)))
      | inr order ↦ inr order
    ]
