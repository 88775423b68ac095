-- What was read, one page after the other.
use Rattle.std.proofs.Common.{◌≡◌, ℕ, suc, ◌+◌, ◌-◌, ◌*◌, ◌/◌, ◌<◌, ◌≤◌, Bool, true, false, cond, ltb, List, ◌++◌, length, Option, Some, None, Result, Ok, Err, inl, inr, refl, sym, ap, subst, ◌∙◌, append_assoc, arith}
use Rattle.std.specs.FinSet as set
use Rattle.std.specs.Ordering.{nat_cmp}
use Rattle.std.proofs.lemmas.Bool.{cases_Bool, lt-ltb}
use Rattle.std.proofs.lemmas.List.{append-nil, length-append}
use Rattle.std.specs.Prelude.{◌&&◌}
use Rattle.std.proofs.Math.Nat.{mul-le-mul_right}
use Rattle.std.specs.Option.{option_map, option_and_then}
use Rattle.fs_types.specs.declared.fault.Fault.{Fault}
use Rattle.fs_types.specs.declared.fault.Fault.TheVariants.{ReadFailed, PowerCut}
use Rattle.fs_types.specs.declared.limits.TheConstants.{ANCHORS}
use Rattle.flash_model.specs.declared.geometry.Geometry.{Geometry}
use Rattle.flash_model.specs.Device.{Device, Page, bytes_of, Reads}
use Rattle.flash_model.specs.declared.flash.DevFault.{DevFault}
use Rattle.flash_model.specs.declared.flash.DevFault.TheVariants.{Failed}
use Rattle.flash_model.specs.declared.flash.PageState.{PageState}
use Rattle.flash_model.specs.Reading.{OnlyReads, OnlyReads_itself, OnlyReads_on, OnlyReads_from_read}
use Rattle.record_format.specs.Pages.{page_head_of, used_bytes}
use Rattle.record_format.specs.Payloads.{payload_at}
use Rattle.record_format.specs.declared.page_head.PageHead.{PageHead}
use Rattle.anchors.specs.Anchored.{AreErased}
use Rattle.anchors.specs.Parts.{Part, part_of, parts_on, part_bytes, head_at, is_part, are_parts, is_valid_record, record_head, best_below, best_on, newest_at, bytes_from, held_bytes}
use Rattle.anchors.specs.declared.best.Best.{Best}
use Rattle.anchors.specs.Payloads.{IsLongFront}
use Rattle.anchors.specs.Reading.{PageReadCause, MayRead, ReadsFew}

-- the part in a page of an anchor whose bytes are read
pub data_part : (g : Geometry) (pages : ℕ → Page) (p : ℕ) (shown : List ℕ) (found : Option PageHead) → p / g.pages < ANCHORS → pages p ≡ bytes_of shown → found ≡ page_head_of shown
    → option_map (λ head. record { head = head; bytes = used_bytes head shown }) found ≡ parts_on g pages p
data_part g pages p shown found lt held tells = rw (lt-ltb _ _ lt, held, tells) refl

pub no_part : (g : Geometry) (pages : ℕ → Page) (p : ℕ) → part_of (pages p) ≡ None → None ≡ parts_on g pages p
no_part g pages p none = elim (cases_Bool (ltb (p / g.pages) ANCHORS)) [
  | inl within ↦ sym (ap (λ b. cond b (part_of (pages p)) None) within ∙ none)
  | inr beyond ↦ sym (ap (λ b. cond b (part_of (pages p)) None) beyond)
]

-- the header of a part that was read, and its bytes
pub part_head : (parts : ℕ → Option Part) (p : ℕ) (shown : List ℕ) (found : Option PageHead) → option_map (λ head. record { head = head; bytes = used_bytes head shown }) found ≡ parts p → found ≡ head_at parts p
part_head parts p shown None e = ap (option_map (λ part. part.head)) e
part_head parts p shown (Some head) e = ap (option_map (λ part. part.head)) e

pub part_held : (parts : ℕ → Option Part) (p : ℕ) (shown : List ℕ) (found : Option PageHead) → option_map (λ head. record { head = head; bytes = used_bytes head shown }) found ≡ parts p → held_bytes found shown ≡ part_bytes (parts p)
part_held parts p shown None e = ap part_bytes e
part_held parts p shown (Some head) e = ap part_bytes e

-- the header of the valid record that begins at a page that was read
record_begins : (g : Geometry) (parts : ℕ → Option Part) (p : ℕ) (shown : List ℕ) (found : Option PageHead) → option_map (λ head. record { head = head; bytes = used_bytes head shown }) found ≡ parts p
    → option_and_then (λ first. cond (is_valid_record g parts p first) (Some first) None) found ≡ record_head g parts p
record_begins g parts p shown found e = ap (option_and_then (λ first. cond (is_valid_record g parts p first) (Some first) None)) (part_head parts p shown found e)

begins_as : (g : Geometry) (parts : ℕ → Option Part) (p : ℕ) (shown : List ℕ) (found : Option PageHead) (first : PageHead) (valid : Bool) → option_map (λ head. record { head = head; bytes = used_bytes head shown }) found ≡ parts p → found ≡ Some first
    → is_valid_record g parts p first ≡ valid → cond valid (Some first) None ≡ record_head g parts p
begins_as g parts p shown found first valid e is same =
    ap (λ b. cond b (Some first) None) (sym same) ∙ ap (option_and_then (λ first. cond (is_valid_record g parts p first) (Some first) None)) (sym is) ∙ record_begins g parts p shown found e

-- a refusal after reads
pub ReadCause_on : (old mid new : Device) (fault : Fault) → OnlyReads old mid → PageReadCause mid new fault → PageReadCause old new fault
ReadCause_on old mid new ReadFailed reads cause = let h = reads.failed_reads in omega arith
ReadCause_on old mid new PowerCut reads cause = cause
ReadCause_on old mid new _ reads cause = cause

-- a read is one operation at most
one_at_most : (on : Bool) → cond on 1 0 ≤ 1
one_at_most true = omega arith
one_at_most false = omega arith

pub reads_one : (old : Device) (p : ℕ) (was : List ℕ) (new : Device) (now : List ℕ) (result : Result PageState DevFault) → Reads old p was new now result → new.operations ≤ old.operations + 1
reads_one old p was new now result reads = let h = reads.operates.operations in let one = one_at_most old.powered in omega arith

-- pages may still be read after others were
pub still_read : (d e : Device) (g : Geometry) (was now : List ℕ) → OnlyReads d e → length now ≡ length was → MayRead d g was → MayRead e g now
still_read d e g was now reads len may = record { same = reads.geometry ∙ may.same; lawful = may.lawful; whole = len ∙ may.whole }

pub reads_none : {T : Type 0} (d : Device) (n : ℕ) (t : T) → ReadsFew d d n (Ok t)
reads_none d n t = record { only_reads = OnlyReads_itself d; operations = omega arith; why = tt }

-- one read, and a refusal by it
pub reads_done : {T : Type 0} (old : Device) (p : ℕ) (was : List ℕ) (new : Device) (now : List ℕ) (state : PageState) (t : T) → Reads old p was new now (Ok state) → ReadsFew old new 1 (Ok t)
reads_done old p was new now state t reads = record {
  only_reads = OnlyReads_from_read old p was new now (Ok state) reads;
  operations = reads_one old p was new now (Ok state) reads;
  why = tt;
}

pub reads_failed : {T : Type 0} (old : Device) (p : ℕ) (was : List ℕ) (new : Device) (now : List ℕ) → Reads old p was new now (Err Failed) → ReadsFew {T = T} old new 1 (Err ReadFailed)
reads_failed old p was new now reads = record {
  only_reads = OnlyReads_from_read old p was new now (Err Failed) reads;
  operations = reads_one old p was new now (Err Failed) reads;
  why = let one = reads.operates.failed_reads in omega arith;
}

pub reads_cut : {T : Type 0} (old : Device) (p : ℕ) (was : List ℕ) (new : Device) (now : List ℕ) → Reads old p was new now (Err DevFault.PowerCut) → ReadsFew {T = T} old new 1 (Err PowerCut)
reads_cut old p was new now reads = record {
  only_reads = OnlyReads_from_read old p was new now (Err DevFault.PowerCut) reads;
  operations = reads_one old p was new now (Err DevFault.PowerCut) reads;
  why = reads.operates.power;
}

-- a refusal after other reads
pub reads_on : {T U : Type 0} (d e f : Device) (n m most : ℕ) (fault : Fault) → OnlyReads d e → e.operations ≤ d.operations + n → ReadsFew {T = T} e f m (Err fault) → n + m ≤ most → ReadsFew {T = U} d f most (Err fault)
reads_on d e f n m most fault first few next all = record {
  only_reads = OnlyReads_on d e f first next.only_reads;
  operations = let h = next.operations in omega arith;
  why = ReadCause_on d e f fault first next.why;
}

-- the pages of one more anchor are no more than those of all
pub one_more_anchor : (anchor pages : ℕ) → anchor < ANCHORS → anchor * pages + pages ≤ ANCHORS * pages
one_more_anchor anchor pages lt = let most : (anchor + 1) * pages ≤ ANCHORS * pages = mul-le-mul_right pages (omega arith) in omega (arith, most)

-- what is erased stays so while pages are read
pub erased_read : (d e : Device) (bad : set.FinSet nat_cmp) (n : ℕ) → OnlyReads d e → AreErased d bad n → AreErased e bad n
erased_read d e bad n reads is p lt good =
    reads.pages p
    ∙ is p (subst (λ (g : Geometry). p / g.pages < n) reads.geometry lt) (subst (λ (g : Geometry). set.contains bad (p / g.pages) ≡ false) reads.geometry good)

-- one page of a record after the other
are_parts_first : (g : Geometry) (parts : ℕ → Option Part) (p : ℕ) (first : PageHead) (n others : ℕ) → are_parts g parts p first n (suc others) ≡ (is_part g first n (head_at parts (p + n)) && are_parts g parts p first (n + 1) others)
unfolding are_parts
are_parts_first g parts p first n others = refl

pub parts_go_on : (g : Geometry) (parts : ℕ → Option Part) (p : ℕ) (first : PageHead) (n : ℕ) (found : Option PageHead) (total : Bool) → n < first.count → found ≡ head_at parts (p + n) → is_part g first n found ≡ true
    → are_parts g parts p first n (first.count - n) ≡ total → are_parts g parts p first (n + 1) (first.count - (n + 1)) ≡ total
parts_go_on g parts p first n found total lt read is so_far =
    let k : suc (first.count - (n + 1)) ≡ first.count - n = omega arith in
    let one : is_part g first n (head_at parts (p + n)) ≡ true = ap (is_part g first n) (sym read) ∙ is in
    sym (ap (λ b. b && are_parts g parts p first (n + 1) (first.count - (n + 1))) one) ∙ sym (are_parts_first g parts p first n (first.count - (n + 1))) ∙ ap (are_parts g parts p first n) k ∙ so_far

pub parts_stop : (g : Geometry) (parts : ℕ → Option Part) (p : ℕ) (first : PageHead) (n : ℕ) (found : Option PageHead) (total : Bool) → n < first.count → found ≡ head_at parts (p + n) → is_part g first n found ≡ false
    → are_parts g parts p first n (first.count - n) ≡ total → false ≡ total
parts_stop g parts p first n found total lt read is so_far =
    let k : suc (first.count - (n + 1)) ≡ first.count - n = omega arith in
    let one : is_part g first n (head_at parts (p + n)) ≡ false = ap (is_part g first n) (sym read) ∙ is in
    sym (ap (λ b. b && are_parts g parts p first (n + 1) (first.count - (n + 1))) one) ∙ sym (are_parts_first g parts p first n (first.count - (n + 1))) ∙ ap (are_parts g parts p first n) k ∙ so_far

pub parts_end : (g : Geometry) (parts : ℕ → Option Part) (p : ℕ) (first : PageHead) (n : ℕ) (total : Bool) → first.count ≤ n → are_parts g parts p first n (first.count - n) ≡ total → true ≡ total
unfolding are_parts
parts_end g parts p first n total le so_far =
    let k : first.count - n ≡ 0 = omega arith in
    sym (ap (are_parts g parts p first n) k) ∙ so_far

-- the bytes of one page after the other
bytes_first : (g : Geometry) (parts : ℕ → Option Part) (p n others : ℕ) → bytes_from g parts p n (suc others) ≡ part_bytes (parts (p + n)) ++ bytes_from g parts p (n + 1) others
unfolding bytes_from
bytes_first g parts p n others = refl

pub bytes_go_on : (g : Geometry) (parts : ℕ → Option Part) (p n count : ℕ) (bytes more total : List ℕ) → n < count → more ≡ part_bytes (parts (p + n))
    → bytes ++ bytes_from g parts p n (count - n) ≡ total → (bytes ++ more) ++ bytes_from g parts p (n + 1) (count - (n + 1)) ≡ total
bytes_go_on g parts p n count bytes more total lt is so_far =
    let k : suc (count - (n + 1)) ≡ count - n = omega arith in
    let rest = bytes_from g parts p (n + 1) (count - (n + 1)) in
    append_assoc bytes more rest
    ∙ ap (λ x. bytes ++ x) (ap (λ x. x ++ rest) is ∙ sym (bytes_first g parts p n (count - (n + 1))) ∙ ap (bytes_from g parts p n) k)
    ∙ so_far

pub bytes_end : (g : Geometry) (parts : ℕ → Option Part) (p n count : ℕ) (bytes total : List ℕ) → count ≤ n → bytes ++ bytes_from g parts p n (count - n) ≡ total → bytes ≡ total
unfolding bytes_from
bytes_end g parts p n count bytes total le so_far =
    let k : count - n ≡ 0 = omega arith in
    sym (ap (λ m. bytes ++ bytes_from g parts p n m) k ∙ append-nil bytes) ∙ so_far

-- a payload of which the first bytes are refused whatever follows
pub long_refused : (g : Geometry) (sequence : ℕ) (front bytes rest total : List ℕ) (fault : Fault) → IsLongFront bytes front → bytes ++ rest ≡ total
    → ((others : List ℕ) → 0 < length others → payload_at g sequence (front ++ others) ≡ Err fault) → payload_at g sequence total ≡ Err fault
long_refused g sequence front bytes rest total fault is so_far refuses =
    ap (payload_at g sequence) (sym so_far ∙ ap (λ (x : List ℕ). x ++ rest) is.is ∙ append_assoc front is.rest rest)
    ∙ refuses (is.rest ++ rest) (let some = is.some in omega (arith, length-append is.rest rest))

-- a part that is read later is the part that was there
pub read_on : (g : Geometry) (old mid : ℕ → Page) (p : ℕ) (shown : List ℕ) (found : Option PageHead) → mid ≡ old
    → option_map (λ head. record { head = head; bytes = used_bytes head shown }) found ≡ parts_on g mid p → option_map (λ head. record { head = head; bytes = used_bytes head shown }) found ≡ parts_on g old p
read_on g old mid p shown found same e = e ∙ ap (λ (pages : ℕ → Page). parts_on g pages p) same

pub best_none : (g : Geometry) (parts : ℕ → Option Part) → record { found = None; twice = false } ≡ best_below g parts 0
unfolding best_below
best_none g parts = refl

-- before the first page
pub parts_start : (g : Geometry) (parts : ℕ → Option Part) (p : ℕ) (first : PageHead) → are_parts g parts p first 0 (first.count - 0) ≡ are_parts g parts p first 0 first.count
parts_start g parts p first = ap (are_parts g parts p first 0) (let all : first.count - 0 ≡ first.count = omega arith in all)

-- the record that is found is the newest, where no other has its sequence
pub found_once : (g : Geometry) (parts : ℕ → Option Part) (best : Best) → best ≡ best_on g parts → best.twice ≡ false → best.found ≡ newest_at g parts
found_once g parts best is once =
    let once_on : (best_on g parts).twice ≡ false = ap (λ (b : Best). b.twice) (sym is) ∙ once in
    ap (λ (b : Best). b.found) is ∙ sym (ap (λ t. cond t None (best_on g parts).found) once_on)
