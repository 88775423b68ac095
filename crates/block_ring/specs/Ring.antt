-- Which blocks are used, and which one is taken next.
use Rattle.std.specs.Prelude.{◌≡◌, ℕ, ◌+◌, ◌-◌, ◌<◌, ◌≤◌, Bool, true, false, not, ◌||◌, ◌++◌, if◌then◌else◌, nat_lt, List, count_by, find, Option, Some, None, refl}
use Rattle.std.specs.Coded.{Coded, code_by, coded×, coded_ℕ}
use Rattle.std.specs.FinSet as set
use Rattle.std.specs.List.{range_with_len}
use Rattle.std.specs.Ordering.{nat_cmp}
use Rattle.fs_types.specs.declared.limits.TheConstants.{ANCHORS}
use Rattle.block_ring.specs.BlockSet.{BlockSet}

-- how many blocks the flash has, those that are used, the note of those that became used since it was emptied, the
-- last one taken, and how many were taken
pub record Ring : Type 0 where
  pub blocks : ℕ
  pub used : set.FinSet nat_cmp
  pub note : set.FinSet nat_cmp
  pub last : ℕ
  pub takes : ℕ

-- it is stored as the tuple of its fields
abbrev pub ring_code : Coded Ring
ring_code =
    code_by ((ℕ × (set.FinSet nat_cmp × set.FinSet nat_cmp)) × (ℕ × ℕ))
    (coded× (coded× coded_ℕ (coded× (set.code coded_ℕ) (set.code coded_ℕ))) (coded× coded_ℕ coded_ℕ))
    (λ r. ((r.blocks, (r.used, r.note)), (r.last, r.takes)))
    (λ p. record { blocks = p.0.0; used = p.0.1.0; note = p.0.1.1; last = p.1.0; takes = p.1.1 }) (λ _. refl)

-- block b of a flash of n blocks holds data: the anchors do not
abbrev pub IsDataBlock : ℕ → ℕ → Type 0
IsDataBlock n b = (ANCHORS ≤ b) × (b < n)

-- each block of the set is a data block of a flash of n blocks
abbrev pub AreDataBlocks : ℕ → set.FinSet nat_cmp → Type 0
AreDataBlocks n s = (b : ℕ) → set.contains s b ≡ true → IsDataBlock n b

-- the data blocks in ascending order
abbrev pub data_blocks : ℕ → List ℕ
data_blocks n = range_with_len ANCHORS (n - ANCHORS)

-- the flash has a lawful size, and the used blocks and the last one taken are data blocks
pub record IsRing (blocks : ℕ) (used : set.FinSet nat_cmp) (last : ℕ) : Type 0 where
  pub size : (16 ≤ blocks) × (blocks ≤ 65536)
  pub last_block : IsDataBlock blocks last
  pub used_blocks : AreDataBlocks blocks used

-- the note is one of the same flash, and has data blocks alone
pub record IsNote (blocks : ℕ) (note : BlockSet) : Type 0 where
  pub same_blocks : note.blocks ≡ blocks
  pub noted_blocks : AreDataBlocks blocks note.members

-- block b may not be taken: it is used or bad
abbrev pub is_busy : Ring → set.FinSet nat_cmp → ℕ → Bool
is_busy r bad b = set.contains r.used b || set.contains bad b

-- how many data blocks are neither used nor bad
abbrev pub free_count : Ring → set.FinSet nat_cmp → ℕ
free_count r bad = count_by (λ b. not (is_busy r bad b)) (data_blocks r.blocks)

-- the data blocks in ring order after `last`: to n - 1, and then from the first one on to `last` itself
abbrev pub ring_order : ℕ → ℕ → List ℕ
ring_order n last = range_with_len (last + 1) (n - (last + 1)) ++ range_with_len ANCHORS (last + 1 - ANCHORS)

-- the first data block in ring order after the last one taken that is neither used nor bad, none where there is none
abbrev pub next_free : Ring → set.FinSet nat_cmp → Option ℕ
next_free r bad = find (λ b. not (is_busy r bad b)) (ring_order r.blocks r.last)

-- how far b comes after `last` in ring order, which goes on at the first data block after n - 1: from 1 to n - ANCHORS for `last` itself
abbrev pub distance : ℕ → ℕ → ℕ → ℕ
distance n last b = if nat_lt last b then b - last else b + (n - ANCHORS) - last

-- data block b is not busy, and each one that comes before it is
pub record IsNext (busy : ℕ → Bool) (n last b : ℕ) : Type 0 where
  pub data_block : IsDataBlock n b
  pub free : busy b ≡ false
  pub first : (c : ℕ) → IsDataBlock n c → distance n last c < distance n last b → busy c ≡ true

-- the first data block in ring order after `last` that is not busy; none where all are busy
abbrev pub IsFirstFree : (ℕ → Bool) → ℕ → ℕ → Option ℕ → Type 0
IsFirstFree busy n last None = (b : ℕ) → IsDataBlock n b → busy b ≡ true
IsFirstFree busy n last (Some b) = IsNext busy n last b

-- block b is taken: it is the first data block after the last one taken that is neither used nor bad, and from then on it
-- is used, noted and the last one taken
pub record IsTaken (old : Ring) (bad : set.FinSet nat_cmp) (b : ℕ) (new : Ring) : Type 0 where
  pub last_block : IsDataBlock old.blocks old.last
  pub next : IsNext (is_busy old bad) old.blocks old.last b
  pub ring : new ≡ record old { used = set.insert old.used b; note = set.insert old.note b; last = b; takes = old.takes + 1 }
  -- so it was free, it alone becomes used, what was noted stays so, and one free block less is left
  pub fresh : set.contains old.used b ≡ false
  pub good : set.contains bad b ≡ false
  pub used : set.contains new.used b ≡ true
  pub kept : (c : ℕ) → set.contains old.used c ≡ true → set.contains new.used c ≡ true
  pub noted : (c : ℕ) → set.contains new.used c ≡ true → set.contains old.used c ≡ false → set.contains new.note c ≡ true
  pub note_stays : (c : ℕ) → set.contains old.note c ≡ true → set.contains new.note c ≡ true
  pub paid : free_count new bad + new.takes ≡ free_count old bad + old.takes
