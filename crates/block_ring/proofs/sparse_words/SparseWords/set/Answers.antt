use Rattle.std.proofs.Common.{◌≡◌, ℕ, suc, ◌/◌, ◌%◌, ◌<◌, List, [], ◌++◌, length, take, drop, sym, ap, subst, ◌∙◌, arith, add-one}
use Rattle.std.specs.Prelude.{Box, slice_index, slice_index_or, slice_set}
use Rattle.std.specs.Box.{with_value}
use Rattle.std.specs.Global.{Global}
use Rattle.std.proofs.lemmas.List.{get_or-map, length-map, map-set}
use Rattle.std.proofs.lemmas.List.FromFn.{length-map-range_with_len}
use Rattle.std.proofs.lemmas.Result.{err_from_is_err_and}
use Rattle.block_ring.specs.SparseWords.{AreChunked, word_in, words_of, lists_of}
use Rattle.block_ring.proofs.WordChunks.{put_here, put_other, put_chunked, same_words, same_chunked}
use Rattle.block_ring.proofs.SparseLists.{listed_same, listed_set, all_written}
use Rattle.block_ring.proofs.sparse_words.SparseWords.set.Goals as goal

-- places that were all written
places_written : (old new : List ℕ) (count : ℕ) → length new ≡ length old → count ≡ length old → take count (new ++ drop (length new) old) ≡ new
places_written old new count same is = ap (λ (n : ℕ). take n (new ++ drop (length new) old)) is ∙ all_written old new same

-- the words of a chunk that is written
chunk_was : (chunks : List (Box (List ℕ) Global)) (index : ℕ) (own : Box (List ℕ) Global) → index < length chunks → own ≡ slice_index_or chunks index own → own.value ≡ slice_index_or (lists_of chunks) index []
chunk_was chunks index own within is = ap (λ k. k.value) is ∙ sym (get_or-map (λ k. k.value) chunks index own [] within)

chunk_written : (chunks : List (Box (List ℕ) Global)) (index at word : ℕ) (own : Box (List ℕ) Global) (words : List ℕ) → words ≡ slice_index_or (lists_of chunks) index []
    → lists_of (slice_set chunks index (with_value own (slice_set words at word))) ≡ slice_set (lists_of chunks) index (slice_set (slice_index_or (lists_of chunks) index []) at word)
chunk_written chunks index at word own words is = map-set (λ k. k.value) chunks index (with_value own (slice_set words at word)) ∙ ap (λ (l : List ℕ). slice_set (lists_of chunks) index (slice_set l at word)) is

pub make_places-requires : goal.make_places-requires
make_places-requires c some = omega (arith, c.self.invariant.0 some, c.div_ceil-count.ensures)

pub made_chunk-requires-clause-within : goal.made_chunk-requires-clause-within
made_chunk-requires-clause-within c =
    let count : length c.args.self.now ≡ c.self.inside.blocks = ap length (sym c.self.view_is) ∙ length-map-range_with_len (word_in c.self.inside.places.items (lists_of c.self.inside.chunks.items)) 0 c.self.inside.blocks in
    omega (arith, c.requires, count, c.div_ceil-count.ensures, c.in_ok-make_places.ensures.count, ap length c.deref_mut.ensures.value)

pub made_chunk-requires-clause-chunked : goal.made_chunk-requires-clause-chunked
made_chunk-requires-clause-chunked c =
    subst (λ (l : List ℕ). AreChunked l (lists_of c.self.inside.chunks.items)) (sym c.deref_mut.ensures.value)
    (same_chunked c.self.inside.places.items c.make_places.new.places.items (lists_of c.self.inside.chunks.items) c.make_places.ensures.same c.self.invariant.1)

pub returns-in_err-make_places-clause-same : goal.returns-in_err-make_places-clause-same
returns-in_err-make_places-clause-same c =
    let old = c.self.inside.places.items in
    let new = c.make_places.new.places.items in
    let chunks = lists_of c.self.inside.chunks.items in
    let p = err_from_is_err_and c.from_residual.result c.from_residual.ensures.1 in
    rw p.1 (listed_same (word_in old chunks) (word_in new chunks) c.self.inside.blocks (same_words old new chunks c.make_places.ensures.same) ∙ c.self.view_is)

pub returns-in_err-index-clause-same : goal.returns-in_err-index-clause-same
returns-in_err-index-clause-same c =
    let old = c.self.inside.places.items in
    let mid = c.make_places.new.places.items in
    let new = c.made_chunk.new.places in
    let chunks = lists_of c.self.inside.chunks.items in
    let more = lists_of c.made_chunk.new.chunks.items in
    let same : length new ≡ length mid = c.made_chunk.auto.places ∙ ap length c.deref_mut.ensures.value in
    let written = places_written mid new c.make_places.new.places.len same (omega (arith, c.make_places.new.places.ok.0)) in
    let p = err_from_is_err_and c.from_residual-in_err-index.result c.from_residual-in_err-index.ensures.1 in
    rw p.1
    (ap (λ (l : List ℕ). words_of c.self.inside.blocks l more) written
    ∙ listed_same (word_in old chunks) (word_in new more) c.self.inside.blocks
    (λ b. c.made_chunk.ensures.words b ∙ ap (λ (l : List ℕ). word_in l chunks b) c.deref_mut.ensures.value ∙ same_words old mid chunks c.make_places.ensures.same b) ∙ c.self.view_is)

pub invariant_of-self-2 : goal.invariant_of-self-2
invariant_of-self-2 c =
    let mid = c.make_places.new.places.items in
    let new = c.made_chunk.new.places in
    let boxes = c.made_chunk.new.chunks.items in
    let more = lists_of boxes in
    let index = c.in_ok-index.index in
    let are = c.made_chunk.ensures.chunked in
    let same : length new ≡ length mid = c.made_chunk.auto.places ∙ ap length c.deref_mut.ensures.value in
    let written = places_written mid new c.make_places.new.places.len same (omega (arith, c.make_places.new.places.ok.0)) in
    let there : slice_index new (c.args.block / 64) ≡ suc index = c.in_ok-index.ensures.there ∙ add-one index in
    let within : index < length boxes = omega (arith, there, are.within (c.args.block / 64), length-map boxes (λ k. k.value)) in
    let is = c.deref_mut-2.ensures.value ∙ chunk_was boxes index c.index_mut-chunk.result.now within c.index_mut-chunk.ensures.value in
    let lists = chunk_written boxes index (c.args.block % 64) c.args.word c.index_mut-chunk.result.now c.deref_mut-2.result.now is in (
      (λ some. omega (arith, ap length written, same, c.in_ok-make_places.ensures.count, c.div_ceil-count.ensures)),
      subst (λ (l : List ℕ). AreChunked l (lists_of (slice_set boxes index (with_value c.index_mut-chunk.result.now (slice_set c.deref_mut-2.result.now (c.args.block % 64) c.args.word))))) (sym written)
          (subst (λ (ls : List (List ℕ)). AreChunked new ls) (sym lists) (put_chunked new more are c.args.block c.args.word index there)),
    )

pub returns-clause-put : goal.returns-clause-put
returns-clause-put c =
    let blocks = c.self.inside.blocks in
    let block = c.args.block in
    let old = c.self.inside.places.items in
    let mid = c.make_places.new.places.items in
    let new = c.made_chunk.new.places in
    let chunks = lists_of c.self.inside.chunks.items in
    let boxes = c.made_chunk.new.chunks.items in
    let more = lists_of boxes in
    let index = c.in_ok-index.index in
    let are = c.made_chunk.ensures.chunked in
    let same : length new ≡ length mid = c.made_chunk.auto.places ∙ ap length c.deref_mut.ensures.value in
    let written = places_written mid new c.make_places.new.places.len same (omega (arith, c.make_places.new.places.ok.0)) in
    let there : slice_index new (block / 64) ≡ suc index = c.in_ok-index.ensures.there ∙ add-one index in
    let within : index < length boxes = omega (arith, there, are.within (block / 64), length-map boxes (λ k. k.value)) in
    let is = c.deref_mut-2.ensures.value ∙ chunk_was boxes index c.index_mut-chunk.result.now within c.index_mut-chunk.ensures.value in
    let lists = chunk_written boxes index (block % 64) c.args.word c.index_mut-chunk.result.now c.deref_mut-2.result.now is in
    let put : List (List ℕ) = slice_set more index (slice_set (slice_index_or more index []) (block % 64) c.args.word) in
    let count : length c.args.self.now ≡ blocks = ap length (sym c.self.view_is) ∙ length-map-range_with_len (word_in old chunks) 0 blocks in
    let inside : block < blocks = omega (arith, c.requires, count) in
    ap (λ (l : List ℕ). words_of blocks l (lists_of (slice_set boxes index (with_value c.index_mut-chunk.result.now (slice_set c.deref_mut-2.result.now (block % 64) c.args.word))))) written ∙ ap (λ (ls : List (List ℕ)). words_of blocks new ls) lists
    ∙ listed_set (word_in new more) (word_in new put) blocks block c.args.word inside (put_here new more are block c.args.word index there) (put_other new more are block c.args.word index there)
    ∙ ap (λ (l : List ℕ). slice_set l block c.args.word)
    (listed_same (word_in old chunks) (word_in new more) blocks
    (λ b. c.made_chunk.ensures.words b ∙ ap (λ (l : List ℕ). word_in l chunks b) c.deref_mut.ensures.value ∙ same_words old mid chunks c.make_places.ensures.same b) ∙ c.self.view_is)
