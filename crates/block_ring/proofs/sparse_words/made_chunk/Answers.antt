use Rattle.std.proofs.Common.{◌≡◌, ℕ, suc, ◌+◌, List, [], ◌∷◌, ◌++◌, length, replicate, ap, ◌∙◌, arith}
use Rattle.std.specs.Prelude.{slice_index, slice_set}
use Rattle.std.proofs.lemmas.Grind.{common_steps}
use Rattle.std.proofs.lemmas.List.{length-map}
use Rattle.block_ring.specs.SparseWords.{lists_of, word_in}
use Rattle.block_ring.proofs.WordChunks.{push_words}
use Rattle.block_ring.proofs.sparse_words.made_chunk.Goals as goal

pub returns-clause-words : goal.returns-clause-words
returns-clause-words c b =
    let places = c.args.places.now in
    let old = lists_of c.args.chunks.now.items in
    let new = lists_of c.push.new.self.items in
    let more : new ≡ old ++ replicate 64 0 ∷ [] = grind (arith, common_steps) in
    let count : c.len-index.result + 1 ≡ suc (length old) = omega (arith, c.len-index.ensures, length-map c.args.chunks.now.items (λ k. k.value), c.args.chunks.now.ok.0) in
    let none : slice_index places c.args.at ≡ 0 = grind (arith, common_steps) in
    ap (λ (n : ℕ). word_in (slice_set places c.args.at n) new b) count ∙ ap (λ (l : List (List ℕ)). word_in (slice_set places c.args.at (suc (length old))) l b) more
    ∙ push_words places old c.requires.chunked c.args.at c.requires.within none b
