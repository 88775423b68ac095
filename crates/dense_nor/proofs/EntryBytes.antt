-- The eight bytes at a place of a page.
use Rattle.std.proofs.Common.{◌≡◌, ◌≢◌, ℕ, zero, suc, ◌+◌, ◌*◌, ◌<◌, ◌≤◌, ◌⊎◌, Bool, true, false, List, [], length, slice_index, take, drop, replicate, ap, sym, ◌∙◌, inl, inr, refl, arith}
use Rattle.std.specs.Prelude.{bit_and, bytes_eq}
use Rattle.std.specs.Int.Bits.{and_zero_r}
use Rattle.std.proofs.lemmas.Bool.{cases_lt, false_from_ne_true}
use Rattle.std.proofs.lemmas.Slice.Eq.{bytes_eq-Decides}
use Rattle.std.proofs.lemmas.Grind.{and_numeral, same_number_lists}
use Rattle.std.proofs.lemmas.Nat.{and_comm}
use Rattle.std.proofs.lemmas.List.{length-take-le, length-drop, get_or-take, get_or-drop, get_or-replicate, drop_all}
use Rattle.nor_part.specs.Part.{is_blank, HasCleared, KeepsOthers}
use Rattle.nor_part.proofs.Pages.{blank_at, blank_from_bytes}
use Rattle.dense_nor.specs.Parts.{GivesZeros}
use Rattle.dense_nor.specs.Marks.{mark_of, entry_of, BeginsMark}

pub entry-length : (page : List ℕ) (i : ℕ) → length page ≡ 256 → i < 32 → length (entry_of page i) ≡ 8
entry-length page i whole low = length-take-le 8 (drop (8 * i) page) (omega (arith, length-drop (8 * i) page))

-- a byte of them
pub entry-at : (page : List ℕ) (i k : ℕ) → k < 8 → slice_index (entry_of page i) k ≡ slice_index page (8 * i + k)
entry-at page i k low = get_or-take 8 (drop (8 * i) page) k 0 low ∙ get_or-drop (8 * i) page k 0

-- they are the same where each of their bytes is
pub entry-same : (old new : List ℕ) (i : ℕ) → length old ≡ 256 → length new ≡ 256 → i < 32
    → ((k : ℕ) → k < 8 → slice_index new (8 * i + k) ≡ slice_index old (8 * i + k)) → entry_of new i ≡ entry_of old i
entry-same old new i first second low each =
    let long : length (entry_of new i) ≡ 8 = entry-length new i second low in
    same_number_lists (entry_of new i) (entry_of old i) (long ∙ sym (entry-length old i first low))
    (λ k below. let less : k < 8 = omega (arith, long, below) in entry-at new i k less ∙ each k less ∙ sym (entry-at old i k less))

none : (page : List ℕ) (i : ℕ) → length page ≡ 256 → 32 ≤ i → drop (8 * i) page ≡ []
none page i whole high = drop_all (8 * i) page (omega (arith, whole, high))

-- past the last place there is none
pub entry-past : (old new : List ℕ) (i : ℕ) → length old ≡ 256 → length new ≡ 256 → 32 ≤ i → entry_of new i ≡ entry_of old i
entry-past old new i first second high =
    ap (take 8) (none new i second high ∙ sym (none old i first high))

-- whether two lists are the same
pub same_or_not : (xs ys : List ℕ) → (xs ≡ ys) ⊎ ¬ (xs ≡ ys)
same_or_not xs ys = go (bytes_eq xs ys) refl
  where
    go : (b : Bool) → bytes_eq xs ys ≡ b → (xs ≡ ys) ⊎ ¬ (xs ≡ ys)
    go true is = inl ((bytes_eq-Decides xs ys).0 is)
    go false is = inr (λ same. let yes = (bytes_eq-Decides xs ys).1 same in absurd cc)

-- bytes that begin with another one than a mark does are none
pub unmarked : (entry bytes : List ℕ) → slice_index entry 0 ≢ 85 → ¬ (entry ≡ mark_of bytes)
unmarked entry bytes other same = other (ap (λ (xs : List ℕ). slice_index xs 0) same)

pub begins_other : (entry : List ℕ) → slice_index entry 0 ≢ 85 → ¬ BeginsMark entry
begins_other entry other same = other (sym (get_or-take 4 entry 0 0 (omega arith)) ∙ ap (λ (xs : List ℕ). slice_index xs 0) same)

-- nor are blank ones
pub blank_first : (entry : List ℕ) → length entry ≡ 8 → is_blank entry ≡ true → slice_index entry 0 ≢ 85
blank_first entry long blank same = let first : slice_index entry 0 ≡ 255 = blank_at entry 0 blank (omega (arith, long)) in absurd (omega (arith, first, same))

-- of a blank page the bytes at each place are
pub blank_entry : (page : List ℕ) (i : ℕ) → length page ≡ 256 → i < 32 → is_blank page ≡ true → is_blank (entry_of page i) ≡ true
blank_entry page i whole low blank =
    blank_from_bytes (entry_of page i) (λ k below. let less : k < 8 = omega (arith, entry-length page i whole low, below) in
    entry-at page i k less ∙ blank_at page (8 * i + k) blank (omega (arith, less)))

-- what is given to a page has bytes for a place, and others that stay
pub record IsPadded (p : ℕ) (entry given : List ℕ) : Type 0 where
  pub own : (k : ℕ) → k < 8 → slice_index given (8 * p + k) ≡ slice_index entry k
  pub others : (k : ℕ) → k < 256 → (k < 8 * p) ⊎ (8 * p + 8 ≤ k) → slice_index given k ≡ 255
  pub len : length given ≡ 256

-- the bytes at another place stay
pub entry_beside : (p i : ℕ) (entry given old new : List ℕ) → IsPadded p entry given → KeepsOthers old given new → length old ≡ 256 → length new ≡ 256 → i ≢ p
    → entry_of new i ≡ entry_of old i
entry_beside p i entry given old new padded keeps first second apart = elim (cases_lt i 32) [
  | inl low ↦ entry-same old new i first second low (λ k below. elim (cases_lt i p) [
    | inl less ↦ keeps (8 * i + k) (λ there. padded.others (8 * i + k) (omega (arith, low, below)) (inl (omega (arith, less, below))))
    | inr more ↦ keeps (8 * i + k) (λ there. padded.others (8 * i + k) (omega (arith, low, below)) (inr (omega (arith, more, apart, below))))
  ])
  | inr high ↦ entry-past old new i first second high
]

-- those at the place are programmed
pub entry_cleared : (p : ℕ) (entry given old new : List ℕ) → p < 32 → IsPadded p entry given → HasCleared old given new → length entry ≡ 8 → HasCleared (entry_of old p) entry (entry_of new p)
entry_cleared p entry given old new low padded clears eight k below =
    let less : k < 8 = omega (arith, eight, below) in
    entry-at new p k less ∙ clears (8 * p + k) (omega (arith, low, less, padded.len))
    ∙ ap (λ (b : ℕ). bit_and (slice_index old (8 * p + k)) b) (padded.own k less) ∙ ap (λ (b : ℕ). bit_and b (slice_index entry k)) (sym (entry-at old p k less))

pub gives_zeros : (count p : ℕ) (entry given : List ℕ) → count ≤ 8 → p < 32 → IsPadded p entry given → entry ≡ replicate 8 0 → GivesZeros count given p
gives_zeros count p entry given few low padded zeros k below =
    let less : k < 8 = omega (arith, few, below) in
    (omega (arith, low, less, padded.len), padded.own k less ∙ ap (λ (xs : List ℕ). slice_index xs k) zeros ∙ get_or-replicate 8 k 0 0 less)

-- bytes over which 0 was programmed are neither blank nor a mark
pub zeros_trace : (old new : List ℕ) → length new ≡ 8 → HasCleared old (replicate 8 0) new → (is_blank new ≡ false) × ((bytes : List ℕ) → ¬ (new ≡ mark_of bytes))
zeros_trace old new long clears =
    let first : slice_index new 0 ≡ 0 = clears 0 (omega arith) ∙ and_zero_r (slice_index old 0) in (
      false_from_ne_true (is_blank new) (λ blank. let set : slice_index new 0 ≡ 255 = blank_at new 0 blank (omega (arith, long)) in absurd (omega (arith, first, set))),
      λ bytes. unmarked new bytes (λ same. absurd (omega (arith, first, same))),
    )

-- a mark has bytes
pub mark_small : (bytes : List ℕ) (k : ℕ) → slice_index (mark_of bytes) k < 256
mark_small bytes zero = omega arith
mark_small bytes (suc zero) = omega arith
mark_small bytes (suc (suc zero)) = omega arith
mark_small bytes (suc (suc (suc zero))) = omega arith
mark_small bytes (suc (suc (suc (suc zero)))) = omega arith
mark_small bytes (suc (suc (suc (suc (suc zero))))) = omega arith
mark_small bytes (suc (suc (suc (suc (suc (suc zero)))))) = omega arith
mark_small bytes (suc (suc (suc (suc (suc (suc (suc zero))))))) = omega arith
mark_small bytes (suc (suc (suc (suc (suc (suc (suc (suc k)))))))) = omega arith

-- blank bytes that are programmed are those that were given
pub cleared-is : (old bytes new : List ℕ) → length old ≡ length bytes → length new ≡ length bytes → is_blank old ≡ true → ((k : ℕ) → slice_index bytes k < 256)
    → HasCleared old bytes new → new ≡ bytes
cleared-is old bytes new first second blank small clears =
    same_number_lists new bytes second (λ k below. let inside : k < length bytes = omega (arith, second, below) in
    let was : slice_index old k ≡ 255 = blank_at old k blank (omega (arith, first, inside)) in
    clears k inside ∙ ap (λ b. bit_and b (slice_index bytes k)) was ∙ and_comm 255 (slice_index bytes k) ∙ and_numeral (slice_index bytes k) 254 refl ∙ (omega (arith, small k)))
