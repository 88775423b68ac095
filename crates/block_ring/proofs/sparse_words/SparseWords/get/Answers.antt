use Rattle.std.proofs.Common.{◌≡◌, ℕ, suc, ◌-◌, ◌/◌, ◌%◌, ◌<◌, List, [], length, sym, ap, ◌∙◌, arith}
use Rattle.std.specs.Prelude.{slice_index, slice_index_or}
use Rattle.std.proofs.lemmas.List.{get_or-map, length-map}
use Rattle.block_ring.specs.SparseWords.{word_in, lists_of}
use Rattle.block_ring.proofs.WordChunks.{word_none, word_some}
use Rattle.block_ring.proofs.SparseLists.{listed_get, listed_past}
use Rattle.block_ring.proofs.sparse_words.SparseWords.get.Goals as goal

pub returns-then-block-self : goal.returns-then-block-self
returns-then-block-self c =
    let f : ℕ → ℕ = word_in c.self.inside.places.items (lists_of c.self.inside.chunks.items) in
    sym (listed_past f c.self.inside.blocks c.args.block c.if-block-self.true) ∙ ap (λ (l : List ℕ). slice_index l c.args.block) c.self.view_is

pub returns-then-place-eq0 : goal.returns-then-place-eq0
returns-then-place-eq0 c =
    let places = c.self.inside.places.items in
    let lists = lists_of c.self.inside.chunks.items in
    let at : c.place_of-place.result ≡ slice_index places (c.args.block / 64) = c.place_of-place.ensures ∙ ap (λ (l : List ℕ). slice_index l (c.args.block / 64)) c.deref.ensures.value in
    sym (word_none places lists c.args.block (sym at ∙ c.if-place-eq0.true)) ∙ sym (listed_get (word_in places lists) c.self.inside.blocks c.args.block c.if-block-self.false) ∙ ap (λ (l : List ℕ). slice_index l c.args.block) c.self.view_is

pub index-chunk-requires : goal.index-chunk-requires
index-chunk-requires c =
    let places = c.self.inside.places.items in
    let at : c.place_of-place.result ≡ slice_index places (c.args.block / 64) = c.place_of-place.ensures ∙ ap (λ (l : List ℕ). slice_index l (c.args.block / 64)) c.deref.ensures.value in
    omega (arith, c.self.invariant.1.within (c.args.block / 64), at, c.if-place-eq0.false, length-map c.self.inside.chunks.items (λ k. k.value), c.self.inside.chunks.ok.0)

pub returns : goal.returns
returns c =
    let places = c.self.inside.places.items in
    let chunks = c.self.inside.chunks.items in
    let lists = lists_of chunks in
    let place = c.place_of-place.result in
    let at : place ≡ slice_index places (c.args.block / 64) = c.place_of-place.ensures ∙ ap (λ (l : List ℕ). slice_index l (c.args.block / 64)) c.deref.ensures.value in
    let there : slice_index places (c.args.block / 64) ≡ suc (place - 1) = omega (arith, at, c.if-place-eq0.false) in
    let inside : place - 1 < length chunks = omega (arith, c.self.invariant.1.within (c.args.block / 64), there, length-map chunks (λ k. k.value)) in
    let chunk : c.deref-2.result.now ≡ slice_index_or lists (place - 1) [] = c.deref-2.ensures ∙ ap (λ k. k.value) c.index-chunk.ensures ∙ sym (get_or-map (λ k. k.value) chunks (place - 1) c.index-chunk.result.now [] inside) in
    ap (λ (l : List ℕ). slice_index l (c.args.block % 64)) chunk ∙ sym (word_some places lists c.args.block (place - 1) there) ∙ sym (listed_get (word_in places lists) c.self.inside.blocks c.args.block c.if-block-self.false)
    ∙ ap (λ (l : List ℕ). slice_index l c.args.block) c.self.view_is
