use Rattle.std.proofs.Common.{◌≡◌, ℕ, ◌/◌, ◌%◌, ◌<◌, List, length, sym, ap, ◌∙◌, arith}
use Rattle.std.specs.Prelude.{slice_index, slice_set}
use Rattle.std.specs.Int.{w32, to_le_bytes, from_le_bytes}
use Rattle.std.proofs.lemmas.List.FromFn.{length-map-range_with_len}
use Rattle.std.proofs.lemmas.Result.{on_ok_weaker}
use Rattle.block_ring.specs.SparseBytes.{byte_in, bytes_of}
use Rattle.block_ring.proofs.BytesOfWords.{bytes_small, byte_here, byte_other}
use Rattle.block_ring.proofs.SparseLists.{listed_set}
use Rattle.block_ring.proofs.sparse_bytes.SparseBytes.set.Goals as goal

pub set-requires : goal.set-requires
set-requires c =
    let count : length c.args.self.now ≡ c.self.inside.blocks = ap length (sym c.self.view_is) ∙ length-map-range_with_len (byte_in c.self.inside.words) 0 c.self.inside.blocks in
    omega (arith, c.requires, count, c.self.invariant)

pub returns-clause-put : goal.returns-clause-put
returns-clause-put c =
    let blocks = c.self.inside.blocks in
    let words = c.self.inside.words in
    let block = c.args.block in
    let byte = c.args.byte in
    let word = c.from_le_bytes.result in
    let count : length c.args.self.now ≡ blocks = ap length (sym c.self.view_is) ∙ length-map-range_with_len (byte_in words) 0 blocks in
    let inside : block < blocks = omega (arith, c.requires, count) in
    let within : block / 4 < length words = omega (arith, inside, c.self.invariant) in
    let old : List ℕ = to_le_bytes w32 (slice_index words (block / 4)) in
    let bytes : c.to_le_bytes-bytes.result ≡ old = c.to_le_bytes-bytes.ensures ∙ ap (to_le_bytes w32) c.get.ensures in
    let is : word ≡ from_le_bytes w32 (slice_set old (block % 4) byte) = c.from_le_bytes.ensures ∙ ap (λ (l : List ℕ). from_le_bytes w32 (slice_set l (block % 4) byte)) bytes in
    let small = bytes_small (slice_index words (block / 4)) (block % 4) byte (omega arith) in
    on_ok_weaker c.set.result
    (λ put.
    ap (bytes_of blocks) put ∙ listed_set (byte_in words) (byte_in (slice_set words (block / 4) word)) blocks block byte inside (byte_here words block byte word within small is) (byte_other words block byte word within small is)
    ∙ ap (λ (l : List ℕ). slice_set l block byte) c.self.view_is)
    c.set.ensures.put
