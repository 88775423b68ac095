-- A node's size is read off its first 16 bytes alone.
use Rattle.std.proofs.Common.{◌≡◌, ℕ, suc, ◌+◌, ◌<◌, ◌==◌, List, take, Option, None, if◌then◌else◌, arith}
use Rattle.std.proofs.lemmas.List.{get_or-take}
use Rattle.node_format.specs.Headers.{field, node_size, body_magic, directory_magic, chain_magic, body_size, directory_size}

-- a field within the first n bytes is one of these bytes alone
pub field-take : (xs : List ℕ) (n place : ℕ) → place + 3 < n → field (take n xs) place ≡ field xs place
field-take xs n place within =
    let e0 = get_or-take n xs place 0 (omega arith) in
    let e1 = get_or-take n xs (suc place) 0 (omega arith) in
    let e2 = get_or-take n xs (suc (suc place)) 0 (omega arith) in
    let e3 = get_or-take n xs (suc (suc (suc place))) 0 (omega arith) in
    omega (arith, e0, e1, e2, e3)

-- the size that a header's fields give
fields_size : (block magic count used : ℕ) → Option ℕ
fields_size block magic count used =
    if magic == body_magic then body_size block used
    else if magic == directory_magic then directory_size block count used
    else if magic == chain_magic then directory_size block count used
    else None

-- the first 16 bytes tell the size
pub node_size-take : (block : ℕ) (xs : List ℕ) → node_size block (take 16 xs) ≡ node_size block xs
unfolding fields_size
node_size-take block xs =
    let magic = field-take xs 16 0 (omega arith) in
    let count = field-take xs 16 4 (omega arith) in
    let used = field-take xs 16 8 (omega arith) in
    λ i. fields_size block (magic i) (count i) (used i)
