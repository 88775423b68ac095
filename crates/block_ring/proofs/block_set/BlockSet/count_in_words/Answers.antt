use Rattle.std.proofs.Common.{◌≡◌, ◌+◌, ◌*◌, ◌<◌, ◌^◌, ap, ◌∙◌, sym, arith}
use Rattle.std.proofs.lemmas.Bool.{lt-ltb}
use Rattle.std.specs.FinSet as set
use Rattle.std.specs.List.{range_with_len}
use Rattle.std.specs.Prelude.{count_by, count_ones, ◌&&◌}
use Rattle.block_ring.specs.Bits.{is_set}
use Rattle.block_ring.specs.BlockSet.{BlockSet}
use Rattle.block_ring.proofs.RangeCounts.{count_word, count_fits, count_moved}
use Rattle.block_ring.proofs.SetBits.{contains-members_of}
use Rattle.block_ring.proofs.block_set.BlockSet.count_in_words.Goals as goal

-- the count with the word that is looked at
word_more : (c : goal.After-row_known-1) → c.loop-place.ones + count_ones c.index.result.now ≡ count_by (is_set c.self.inside.words.items) (range_with_len 0 (64 * (c.loop-place.place + 1)))
word_more c =
    let count = ap (λ (s : BlockSet). s.blocks) c.self.view_is in
    let fits : c.index.result.now < 2 ^ 64 = omega arith in
    omega (arith, count_word c.self.inside.words.items c.loop-place.place c.index.result.now (omega (arith, c.self.inside.words.ok.0, c.self.invariant)) c.index.ensures fits)

pub overflow_add-ones : goal.overflow_add-ones
overflow_add-ones c =
    let count = ap (λ (s : BlockSet). s.blocks) c.self.view_is in
    omega (arith, word_more c, count_fits (is_set c.self.inside.words.items) 0 (64 * (c.loop-place.place + 1)))

pub loop-place-preserved : goal.loop-place-preserved
loop-place-preserved c = word_more c

pub returns : goal.returns
returns c =
    let count = ap (λ (s : BlockSet). s.blocks) c.self.view_is in
    let all : c.loop-place.place ≡ c.args.whole = omega arith in
    c.loop-place.invariant
    ∙ ap (λ n. count_by (is_set c.self.inside.words.items) (range_with_len 0 (64 * n))) all
    ∙ count_moved (is_set c.self.inside.words.items) (set.contains c.args.self.now.members) 0 0 (64 * c.args.whole) (λ b low.
    sym (ap (λ t. t && is_set c.self.inside.words.items (0 + b)) (lt-ltb (0 + b) c.self.inside.blocks (omega arith)))
    ∙ sym (contains-members_of c.self.inside.blocks c.self.inside.words.items (0 + b))
    ∙ ap (λ (s : BlockSet). set.contains s.members (0 + b)) c.self.view_is)
