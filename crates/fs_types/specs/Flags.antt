-- The flags of `open`, by their bits.
use Rattle.std.specs.Prelude.{ℕ, Bool, not, ◌==◌, ◌&&◌, ◌||◌, nat_lt, bit_and}
use Rattle.fs_types.specs.declared.open_flags.OpenFlags.{OpenFlags}

-- the flags have this bit
abbrev pub has_bit : ℕ → OpenFlags → Bool
has_bit bit flags = bit_and flags.0 bit == bit

-- opened for reading, for writing (POSIX.1-2017 O_RDONLY, O_WRONLY, O_RDWR)
abbrev pub can_read : OpenFlags → Bool
can_read = has_bit 1

abbrev pub can_write : OpenFlags → Bool
can_write = has_bit 2

-- O_CREAT, O_EXCL, O_TRUNC
abbrev pub creates : OpenFlags → Bool
creates = has_bit 4

abbrev pub is_exclusive : OpenFlags → Bool
is_exclusive = has_bit 8

abbrev pub truncates : OpenFlags → Bool
truncates = has_bit 16

-- for reading or writing, O_EXCL only with O_CREAT, O_TRUNC only for writing, and no other bit
abbrev pub are_lawful : OpenFlags → Bool
are_lawful flags = (can_read flags || can_write flags) && (creates flags || not (is_exclusive flags)) && (can_write flags || not (truncates flags)) && nat_lt flags.0 32
