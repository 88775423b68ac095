-- A byte shifted out, bit by bit.
use Rattle.std.proofs.Common.{◌≡◌, ℕ, ◌+◌, add-one, refl}
use Rattle.dense_nor.specs.Sums.{shifted, shifted_by}

pub shifted_none : (crc : ℕ) → shifted_by 0 crc ≡ crc
unfolding shifted_by
shifted_none crc = refl

pub shifted_more : (bits crc : ℕ) → shifted_by (bits + 1) crc ≡ shifted (shifted_by bits crc)
unfolding shifted_by
shifted_more bits crc = rw add-one refl
