-- Read-only mode, which bad blocks put on.
use Rattle.std.specs.Prelude.{ℕ, ◌||◌, Bool, nat_le, count_by}
use Rattle.std.specs.List.{range_with_len}
use Rattle.std.specs.FinSet as set
use Rattle.std.specs.Ordering.{nat_cmp}
use Rattle.fs_types.specs.declared.limits.TheConstants.{ANCHORS, MAX_BAD_BLOCKS}

-- how many of the anchors, the blocks before the first data block, are bad
abbrev pub bad_anchors : set.FinSet nat_cmp → ℕ
bad_anchors bad = count_by (set.contains bad) (range_with_len 0 ANCHORS)

-- read-only mode is on while as many blocks are bad as may be, or seven anchors
abbrev pub is_read_only : set.FinSet nat_cmp → Bool
is_read_only bad = nat_le MAX_BAD_BLOCKS (set.len bad) || nat_le 7 (bad_anchors bad)
