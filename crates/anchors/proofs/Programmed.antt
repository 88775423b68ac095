-- The pages of a record, one after the other.
use Rattle.std.proofs.Common.{◌≡◌, ◌≢◌, ℕ, ◌+◌, ◌*◌, ◌<◌, ◌≤◌, List, length, drop, None, Err, sym, ap, ◌∙◌, inl, inr, arith}
use Rattle.std.proofs.lemmas.Bool.{cases_eq}
use Rattle.std.proofs.lemmas.Nat.{mul-le}
use Rattle.std.proofs.lemmas.List.{length-take}
use Rattle.flash_model.specs.declared.geometry.Geometry.{Geometry}
use Rattle.flash_model.specs.declared.flash.DevFault.{DevFault}
use Rattle.flash_model.specs.declared.flash.DevFault.TheVariants.{Failed, PowerCut}
use Rattle.flash_model.specs.Device.{Page, erased, bytes_of, AfterProgram}
use Rattle.flash_model.specs.Geometry.{IsGeometry}
use Rattle.anchors.specs.Parts.{room, part_of}
use Rattle.anchors.specs.Programming.{piece, bytes_for, Fills, HasRecordPages, EndsAt}
use Rattle.anchors.proofs.Places.{page_least}

module _ (g : Geometry) (old mid new : ℕ → Page) (p sequence : ℕ) (payload : List ℕ) (count n : ℕ) (so_far : HasRecordPages g old mid p sequence payload count n) (lt : n < count)
    (others : (q : ℕ) → q ≢ p + n → new q ≡ mid q) where
  -- the next page is programmed
  pub pages_next : new (p + n) ≡ bytes_of (bytes_for g sequence payload count n) → HasRecordPages g old new p sequence payload count (n + 1)
  pages_next is = record {
    others = λ q out. others q (λ same. elim out [ inl before ↦ absurd (omega arith) | inr after ↦ absurd (omega arith) ]) ∙ so_far.others q out;
    done = λ m below. elim (cases_eq m n) [
      | inl same ↦ ap (λ k. new (p + k)) same ∙ is ∙ ap (λ k. bytes_of (bytes_for g sequence payload count k)) (sym same)
      | inr apart ↦ others (p + m) (λ same. apart (omega arith)) ∙ so_far.done m (omega arith)
    ];
    rest = λ m from below. ap part_of (others (p + m) (λ same. absurd (omega arith))) ∙ so_far.rest m (omega arith) below;
  }

  -- it holds no part
  pub pages_lost : part_of (new (p + n)) ≡ None → HasRecordPages g old new p sequence payload count n
  pages_lost none = record {
    others = λ q out. others q (λ same. elim out [ inl before ↦ absurd (omega arith) | inr after ↦ absurd (omega arith) ]) ∙ so_far.others q out;
    done = λ m below. others (p + m) (λ same. absurd (omega arith)) ∙ so_far.done m below;
    rest = λ m from below. elim (cases_eq m n) [
      | inl same ↦ ap (λ k. part_of (new (p + k))) same ∙ none
      | inr apart ↦ ap part_of (others (p + m) (λ same. apart (omega arith))) ∙ so_far.rest m from below
    ];
  }

  -- a program that was not done
  pub pages_end : (fault : DevFault) → mid (p + n) ≡ erased → AfterProgram (mid (p + n)) (bytes_for g sequence payload count n) (new (p + n)) (Err fault)
      → (k : ℕ) × EndsAt count k (Err fault) × HasRecordPages g old new p sequence payload count k
  pages_end Failed blank after = (n, lt, pages_lost (ap part_of after))
  pages_end PowerCut blank after = elim after [
    | inl same ↦ (n, omega arith, pages_lost (ap part_of (same ∙ blank)))
    | inr (inl whole) ↦ (n + 1, omega arith, pages_next whole)
    | inr (inr torn) ↦ (n, omega arith, pages_lost (ap part_of torn))
  ]

-- the piece of one page more is within the payload, and has room on a page
pub piece_inside : (g : Geometry) (payload : List ℕ) (count n : ℕ) → Fills g payload count → n < count → n * room g ≤ length payload
piece_inside g payload count n fill lt =
    let most : (n + 1) * room g ≤ count * room g = mul-le (n + 1) (room g) count (room g) (omega arith) (omega arith) in
    let low = fill.low in
    omega arith

pub piece_fits : (g : Geometry) (payload : List ℕ) (n : ℕ) (bytes : List ℕ) → IsGeometry g → bytes ≡ piece g payload n → 20 + length bytes ≤ g.page
piece_fits g payload n bytes lawful is =
    let short = length-take (room g) (drop (n * room g) payload) in
    let least = page_least g lawful in
    let same = ap length is in
    omega arith

pub room_on : (a b c : ℕ) → a ≤ b → b ≤ c → a ≤ c
room_on a b c first next = omega arith

pub failed_none : (new old : ℕ) → new ≡ old + 0 → new ≡ old
failed_none new old is = omega arith
