-- The cyclic redundancy check of 32 bits of IEEE 802.3, which zip and PNG have too.
use Rattle.std.specs.Prelude.{ℕ, zero, suc, ◌/◌, ◌%◌, ◌==◌, List, fold, bit_xor, if◌then◌else◌}

-- the lowest bit is shifted out, and where it was set the polynomial is added
unfoldable pub shifted : ℕ → ℕ
shifted crc = if crc % 2 == 1 then bit_xor (crc / 2) 0xEDB88320 else crc / 2

-- so many bits
unfoldable pub shifted_by : ℕ → ℕ → ℕ
shifted_by zero crc = crc
shifted_by (suc bits) crc = shifted (shifted_by bits crc)

-- a byte is taken in
unfoldable pub with_byte : ℕ → ℕ → ℕ
with_byte crc byte = shifted_by 8 (bit_xor crc byte)

-- the sum of bytes
unfoldable pub crc_of : List ℕ → ℕ
crc_of bytes = bit_xor (fold with_byte 0xFFFFFFFF bytes) 0xFFFFFFFF
