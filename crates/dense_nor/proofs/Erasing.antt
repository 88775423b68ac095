-- A block while its marks are made 0, and while its sectors are erased.
use Rattle.std.proofs.Common.{◌≡◌, ◌≢◌, ℕ, ◌+◌, ◌*◌, ◌/◌, ◌%◌, ◌<◌, ◌≤◌, true, List, length, slice_index, take, Result, Ok, Err, ap, sym, subst, ◌∙◌, inl, inr, refl, arith}
use Rattle.std.specs.Prelude.{bit_and}
use Rattle.std.specs.Int.Bits.{and_zero_r}
use Rattle.std.proofs.lemmas.Bool.{cases_eq, cases_lt}
use Rattle.std.proofs.lemmas.List.{get_or-take}
use Rattle.flash_model.specs.declared.flash.DevFault.{DevFault}
use Rattle.nor_part.specs.Part.{is_blank, HasCleared, KeepsOthers, ProgramsPage, ErasesSector}
use Rattle.dense_nor.specs.Marks.{mark_start, mark_of, entry_of, BeginsMark}
use Rattle.dense_nor.specs.Parts.{GivesZeros, MakesNoMark}
use Rattle.dense_nor.specs.Blocks.{IsOfBlock, IsOfMarks, IsSpoilt, IsUnmarked, MarksNothing}
use Rattle.dense_nor.proofs.EntryBytes.{same_or_not, entry-at, entry-same, unmarked, begins_other, blank_first, blank_entry, entry-length}
use Rattle.dense_nor.proofs.Places.{marks_within}

-- what makes marks 0
pub record Spoils (given : List ℕ) : Type 0 where
  pub zeros : (k : ℕ) → k < 256 → k % 8 < 4 → slice_index given k ≡ 0
  pub sums : (k : ℕ) → k < 256 → 4 ≤ k % 8 → slice_index given k ≡ 255
  pub whole : length given ≡ 256

pub spoil_gives : (given : List ℕ) (i : ℕ) → Spoils given → i < 32 → GivesZeros 4 given i
spoil_gives given i spoils low k below = (omega (arith, spoils.whole, low, below), spoils.zeros (8 * i + k) (omega (arith, low, below)) (omega (arith, below)))

-- a page that it was programmed over is spoilt
pub spoilt_page : (old given new : List ℕ) → Spoils given → HasCleared old given new → IsSpoilt new
spoilt_page old given new spoils clears i k low below =
    clears (8 * i + k) (omega (arith, spoils.whole, low, below))
    ∙ ap (λ (b : ℕ). bit_and (slice_index old (8 * i + k)) b) (spoils.zeros (8 * i + k) (omega (arith, low, below)) (omega (arith, below)))
    ∙ and_zero_r (slice_index old (8 * i + k))

-- on a spoilt page no mark begins
spoilt_first : (page : List ℕ) (i : ℕ) → IsSpoilt page → i < 32 → slice_index (entry_of page i) 0 ≢ 85
spoilt_first page i spoilt low same =
    let first : slice_index (entry_of page i) 0 ≡ 0 = entry-at page i 0 (omega arith) ∙ spoilt i 0 low (omega arith) in
    absurd (omega (arith, first, same))

pub spoilt_unmarked : (page bytes : List ℕ) (i : ℕ) → IsSpoilt page → i < 32 → ¬ (entry_of page i ≡ mark_of bytes)
spoilt_unmarked page bytes i spoilt low = unmarked (entry_of page i) bytes (spoilt_first page i spoilt low)

pub spoilt_unbegun : (page : List ℕ) (i : ℕ) → IsSpoilt page → i < 32 → ¬ BeginsMark (entry_of page i)
spoilt_unbegun page i spoilt low = begins_other (entry_of page i) (spoilt_first page i spoilt low)

pub blank_unmarked : (page bytes : List ℕ) (i : ℕ) → length page ≡ 256 → i < 32 → is_blank page ≡ true → ¬ (entry_of page i ≡ mark_of bytes)
blank_unmarked page bytes i whole low blank =
    unmarked (entry_of page i) bytes (blank_first (entry_of page i) (entry-length page i whole low) (blank_entry page i whole low blank))

-- a mark that began before, and stands now that 0 was given for its beginning, stood before
stood : (old given new bytes : List ℕ) (i : ℕ) → Spoils given → KeepsOthers old given new → length old ≡ 256 → length new ≡ 256 → i < 32
    → BeginsMark (entry_of old i) → entry_of new i ≡ mark_of bytes → entry_of old i ≡ mark_of bytes
stood old given new bytes i spoils keeps first second low begun stands =
    entry-same new old i second first low (λ k below. elim (cases_lt k 4) [
      | inl less ↦
          let before : slice_index (entry_of old i) k ≡ slice_index mark_start k = sym (get_or-take 4 (entry_of old i) k 0 less) ∙ ap (λ (xs : List ℕ). slice_index xs k) begun in
          let after : slice_index (entry_of new i) k ≡ slice_index mark_start k =
          sym (get_or-take 4 (entry_of new i) k 0 less) ∙ ap (λ (xs : List ℕ). slice_index (take 4 xs) k) stands in
          sym (entry-at old i k below) ∙ before ∙ sym after ∙ entry-at new i k below
      | inr more ↦ sym (keeps (8 * i + k) (λ there. spoils.sums (8 * i + k) (omega (arith, low, below)) (omega (arith, more, below))))
    ]) ∙ stands

-- the marks of the first pages were made 0
pub record IsSpoiling (n b u : ℕ) (old now : ℕ → List ℕ) : Type 0 where
  pub others : (x : ℕ) → ¬ IsOfMarks n b x → now x ≡ old x
  pub later : (x : ℕ) → u ≤ x → now x ≡ old x
  pub spoilt : (x : ℕ) → IsOfMarks n b x → x < u → IsSpoilt (now x)

pub spoiling_begun : (n b u : ℕ) (old : ℕ → List ℕ) → ((x : ℕ) → IsOfMarks n b x → u ≤ x) → IsSpoiling n b u old old
spoiling_begun n b u old first = record {
  others = λ x out. refl;
  later = λ x high. refl;
  spoilt = λ x of low. absurd (omega (arith, first x of, low));
}

pub spoiling_more : (n b u : ℕ) (old mid new : ℕ → List ℕ) (given : List ℕ) → IsSpoiling n b u old mid → IsOfMarks n b u → Spoils given
    → ProgramsPage mid u given new (Ok tt) → IsSpoiling n b (u + 1) old new
spoiling_more n b u old mid new given so_far of spoils done = record {
  others = λ x out. done.others x (λ same. out (subst (IsOfMarks n b) (sym same) of)) ∙ so_far.others x out;
  later = λ x high. done.others x (λ same. absurd (omega (arith, same, high))) ∙ so_far.later x (omega (arith, high));
  spoilt = λ x of_x low. elim (cases_eq x u) [
    | inl same ↦ subst (λ (y : ℕ). IsSpoilt (new y)) (sym same) (spoilt_page (mid u) given (new u) spoils done.own)
    | inr apart ↦ subst IsSpoilt (sym (done.others x apart)) (so_far.spoilt x of_x (omega (arith, low, apart)))
  ];
}

-- a page without marks stays
pub other_kept : (n b u x : ℕ) (mid new : ℕ → List ℕ) (given : List ℕ) (result : Result (Unit {0}) DevFault) → IsOfMarks n b u → ProgramsPage mid u given new result
    → ¬ IsOfMarks n b x → new x ≡ mid x
other_kept n b u x mid new given result of done out = done.others x (λ same. out (subst (IsOfMarks n b) (sym same) of))

-- whatever the answer, no mark stands that did not stand
pub spoiling_ended : (n b u : ℕ) (old mid new : ℕ → List ℕ) (given : List ℕ) (result : Result (Unit {0}) DevFault) → IsSpoiling n b u old mid → IsOfMarks n b u → Spoils given
    → ProgramsPage mid u given new result → KeepsOthers (mid u) given (new u) → ((i : ℕ) → GivesZeros 4 given i → MakesNoMark mid new u i)
    → ((x : ℕ) → length (mid x) ≡ 256) → ((x : ℕ) → length (new x) ≡ 256) → MarksNothing n b old new
spoiling_ended n b u old mid new given result so_far of spoils done keeps law first second x d i of_x of_d low stands = elim (cases_eq x u) [
  | inl same ↦
      let here : entry_of (new u) i ≡ mark_of (new d) = subst (λ (y : ℕ). entry_of (new y) i ≡ mark_of (new d)) same stands in
      let began : entry_of (mid u) i ≡ mark_of (new d) = elim (same_or_not (take 4 (entry_of (mid u) i)) mark_start) [
        | inl begun ↦ stood (mid u) given (new u) (new d) i spoils keeps (first u) (second u) low begun here
        | inr none ↦ absurd (law i (spoil_gives given i spoils low) none d here)
      ] in
      ap (λ (xs : List ℕ). entry_of xs i) (ap old same ∙ sym (so_far.later u (omega arith))) ∙ began
  | inr apart ↦ elim (cases_lt x u) [
    | inl less ↦ absurd (spoilt_unmarked (new x) (new d) i (subst IsSpoilt (sym (done.others x apart)) (so_far.spoilt x of_x less)) low stands)
    | inr more ↦ ap (λ (xs : List ℕ). entry_of xs i) (sym (done.others x apart ∙ so_far.later x more)) ∙ stands
  ]
]

pub spoiling_done : (n b u : ℕ) (old new : ℕ → List ℕ) → IsSpoiling n b u old new → ((x : ℕ) → IsOfMarks n b x → x < u) → MarksNothing n b old new
spoiling_done n b u old new so_far end x d i of_x of_d low stands = absurd (spoilt_unmarked (new x) (new d) i (so_far.spoilt x of_x (end x of_x)) low stands)

-- the first sectors of a block were erased
pub record IsErasing (n b s : ℕ) (old now : ℕ → List ℕ) : Type 0 where
  pub others : (x : ℕ) → ¬ IsOfBlock n b x → now x ≡ old x
  pub later : (x : ℕ) → 16 * s ≤ x → now x ≡ old x
  pub blank : (x : ℕ) → IsOfBlock n b x → x < 16 * s → is_blank (now x) ≡ true

pub erasing_begun : (n b s : ℕ) (old : ℕ → List ℕ) → s ≡ n * b → IsErasing n b s old old
erasing_begun n b s old first = record {
  others = λ x out. refl;
  later = λ x high. refl;
  blank = λ x of low. absurd (omega (arith, of.0, low, first));
}

of_sector : (n b s x : ℕ) → n * b ≤ s → s < n * b + n → x / 16 ≡ s → IsOfBlock n b x
of_sector n b s x low high is = (omega (arith, low, is), omega (arith, high, is))

pub erasing_more : (n b s : ℕ) (old mid new : ℕ → List ℕ) → IsErasing n b s old mid → n * b ≤ s → s < n * b + n → ErasesSector mid s new (Ok tt) → IsErasing n b (s + 1) old new
erasing_more n b s old mid new so_far low high done = record {
  others = λ x out. done.others x (λ is. out (of_sector n b s x low high is)) ∙ so_far.others x out;
  later = λ x past. done.others x (λ is. absurd (omega (arith, is, past))) ∙ so_far.later x (omega (arith, past));
  blank = λ x of less. elim (cases_eq (x / 16) s) [
    | inl is ↦ done.own x is
    | inr apart ↦ subst (λ (page : List ℕ). is_blank page ≡ true) (sym (done.others x apart)) (so_far.blank x of (omega (arith, less, apart)))
  ];
}

-- a page of another block stays
pub block_kept : (n b s x : ℕ) (mid new : ℕ → List ℕ) (result : Result (Unit {0}) DevFault) → n * b ≤ s → s < n * b + n → ErasesSector mid s new result → ¬ IsOfBlock n b x → new x ≡ mid x
block_kept n b s x mid new result low high done out = done.others x (λ is. out (of_sector n b s x low high is))

-- an erase of a sector that was not done leaves no mark
pub erasing_ended : (n b s : ℕ) (old mid new : ℕ → List ℕ) (fault : DevFault) → IsErasing n b s old mid → ((x : ℕ) → IsOfMarks n b x → IsSpoilt (old x))
    → ErasesSector mid s new (Err fault) → ((x i : ℕ) → x / 16 ≡ s → i < 32 → MakesNoMark mid new x i) → ((x : ℕ) → length (new x) ≡ 256) → IsUnmarked n b new
erasing_ended n b s old mid new fault so_far spoilt done law whole x i of low d = elim (cases_eq (x / 16) s) [
  | inl is ↦ law x i is low (spoilt_unbegun (mid x) i (subst IsSpoilt (sym (so_far.later x (omega (arith, is)))) (spoilt x of)) low) d
  | inr apart ↦ elim (cases_lt x (16 * s)) [
    | inl less ↦ blank_unmarked (new x) (new d) i (whole x) low (subst (λ (page : List ℕ). is_blank page ≡ true) (sym (done.others x apart)) (so_far.blank x (marks_within n b x of) less))
    | inr more ↦ spoilt_unmarked (new x) (new d) i (subst IsSpoilt (sym (done.others x apart ∙ so_far.later x more)) (spoilt x of)) low
  ]
]
