use Rattle.std.proofs.Common.{◌≡◌, ◌≢◌, ◌<◌, ◌/◌, ◌*◌, ◌+◌, ℕ, true, vec_len}
use Rattle.nor_part.specs.Part.{is_blank}
use Rattle.nor_part.specs.Memory.{memory_page_at, AreFullPages}
use Rattle.nor_part.proofs.memory_nor.set_sector.Given as goal

abbrev pub invariant-loop-place : goal.invariant-loop-place
invariant-loop-place l =
    ((n : ℕ) → n / 16 ≢ l.sector → memory_page_at l.pages.items n ≡ memory_page_at l.initial.pages.items n)
    × ((n : ℕ) → n / 16 ≡ l.sector → n < 16 * l.sector + l.place → is_blank (memory_page_at l.pages.items n) ≡ true)
    × (vec_len l.pages ≡ vec_len l.initial.pages)
    × AreFullPages l.pages.items
