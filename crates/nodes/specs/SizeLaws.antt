-- The size of a node, by its first bytes.
use Rattle.std.specs.Prelude.{◌≡◌, ℕ, suc, ◌+◌, ◌<◌, ◌≤◌, ◌==◌, Bool, true, false, nat_le, nat_lt, if◌then◌else◌, List, ◌++◌, length, take, slice_index, Option, Some, None, refl}
use Rattle.std.proofs.Common.{sym, ◌∙◌, ap, arith, get_or-take}
use Rattle.std.proofs.lemmas.Bool.{leb-true}
use Rattle.std.proofs.Math.Seq.{take-append_seam}
use Rattle.fs_types.specs.declared.limits.TheConstants.{NODE_ENTRIES}
use Rattle.node_format.specs.Headers.{node_size, field, body_magic, directory_magic, chain_magic, body_size, directory_size}

-- a node has at least its header, and fits in its block
pub record IsWithin (block size : ℕ) : Type 0 where
  pub least : 16 ≤ size
  pub most : size ≤ block

pub if_some : {A : Type 0} (b : Bool) (o : Option A) (x : A) → (if b then o else None) ≡ Some x → (b ≡ true) × (o ≡ Some x)
if_some true o x h = (refl, h)
if_some false o x h = cc

either : {P : Type 0} (b : Bool) (o r : Option ℕ) (x : ℕ) → (if b then o else r) ≡ Some x → (o ≡ Some x → P) → (r ≡ Some x → P) → P
either true o r x h first second = first h
either false o r x h first second = second h

body_within : (block used size : ℕ) → body_size block used ≡ Some size → IsWithin block size
body_within block used size h =
    let outer = if_some (nat_lt 0 used) _ size h in
    let inner = if_some (nat_le (80 + used) block) _ size outer.1 in
    let is : 80 + used ≡ size = cc in
    let fits : 80 + used ≤ block = leb-true (80 + used) block inner.0 in
    record { least = omega arith; most = omega arith }

directory_within : (block count used size : ℕ) → directory_size block count used ≡ Some size → IsWithin block size
directory_within block count used size h =
    let outer = if_some (nat_le count NODE_ENTRIES) _ size h in
    let inner = if_some (nat_le (16 + used) block) _ size outer.1 in
    let is : 16 + used ≡ size = cc in
    let fits : 16 + used ≤ block = leb-true (16 + used) block inner.0 in
    record { least = omega arith; most = omega arith }

-- the header is in the first 12 bytes
field-take : (m i : ℕ) (xs : List ℕ) → i + 4 ≤ m → field (take m xs) i ≡ field xs i
field-take m i xs h =
    let a : slice_index (take m xs) i ≡ slice_index xs i = get_or-take m xs i 0 (omega arith) in
    let b : slice_index (take m xs) (suc i) ≡ slice_index xs (suc i) = get_or-take m xs (suc i) 0 (omega arith) in
    let c : slice_index (take m xs) (suc (suc i)) ≡ slice_index xs (suc (suc i)) = get_or-take m xs (suc (suc i)) 0 (omega arith) in
    let d : slice_index (take m xs) (suc (suc (suc i))) ≡ slice_index xs (suc (suc (suc i))) = get_or-take m xs (suc (suc (suc i))) 0 (omega arith) in
    cc

-- the size, from the three fields
abbrev size_by : ℕ → ℕ → ℕ → ℕ → Option ℕ
size_by block magic count used =
    if magic == body_magic then body_size block used
    else if magic == directory_magic then directory_size block count used
    else if magic == chain_magic then directory_size block count used
    else None

pub node_size-take : (block m : ℕ) (xs : List ℕ) → 12 ≤ m → node_size block (take m xs) ≡ node_size block xs
node_size-take block m xs h =
    ap (λ magic. size_by block magic (field (take m xs) 4) (field (take m xs) 8)) (field-take m 0 xs (omega arith))
    ∙ ap (λ count. size_by block (field xs 0) count (field (take m xs) 8)) (field-take m 4 xs (omega arith))
    ∙ ap (λ used. size_by block (field xs 0) (field xs 4) used) (field-take m 8 xs (omega arith))

pub size_within : (block size : ℕ) (bytes : List ℕ) → node_size block bytes ≡ Some size → IsWithin block size
size_within block size bytes h =
    either (field bytes 0 == body_magic) _ _ size h (body_within block (field bytes 8) size)
    (λ rest. either (field bytes 0 == directory_magic) _ _ size rest (directory_within block (field bytes 4) (field bytes 8) size)
    (λ last. directory_within block (field bytes 4) (field bytes 8) size (if_some (field bytes 0 == chain_magic) _ size last).1))

-- a longer list that begins alike has the same size
pub node_size-append : (block : ℕ) (xs ys : List ℕ) → 12 ≤ length xs → node_size block (xs ++ ys) ≡ node_size block xs
node_size-append block xs ys h =
    sym (node_size-take block (length xs) (xs ++ ys) h) ∙ ap (node_size block) (take-append_seam xs ys)
