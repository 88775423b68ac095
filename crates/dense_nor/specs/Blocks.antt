-- The pages of a block on a serial NOR part, while it is erased.
use Rattle.std.specs.Prelude.{◌≡◌, ℕ, ◌+◌, ◌*◌, ◌<◌, ◌≤◌, List, slice_index}
use Rattle.dense_nor.specs.Layout.{data_pages}
use Rattle.dense_nor.specs.Marks.{entry_of, mark_of}
use Rattle.dense_nor.specs.Parts.{HasNoMark}

-- the page of the part is one of block b, of n sectors
abbrev pub IsOfBlock : ℕ → ℕ → ℕ → Type 0
IsOfBlock n b x = (16 * n * b ≤ x) × (x < 16 * n * b + 16 * n)

-- and has marks
abbrev pub IsOfMarks : ℕ → ℕ → ℕ → Type 0
IsOfMarks n b x = (16 * n * b + data_pages n ≤ x) × (x < 16 * n * b + 16 * n)

-- the first four bytes at each place of a page are 0
abbrev pub IsSpoilt : List ℕ → Type 0
IsSpoilt page = (i k : ℕ) → i < 32 → k < 4 → slice_index page (8 * i + k) ≡ 0

-- where a mark with the sum of a page of other kind stands on a page of marks, it stood before
abbrev pub MarksNothing : ℕ → ℕ → (ℕ → List ℕ) → (ℕ → List ℕ) → Type 0
MarksNothing n b old new = (x d i : ℕ) → IsOfMarks n b x → ¬ IsOfMarks n b d → i < 32 → entry_of (new x) i ≡ mark_of (new d) → entry_of (old x) i ≡ mark_of (new d)

-- no mark with the sum of a page stands on a page of marks
abbrev pub IsUnmarked : ℕ → ℕ → (ℕ → List ℕ) → Type 0
IsUnmarked n b held = (x i : ℕ) → IsOfMarks n b x → i < 32 → HasNoMark held x i
