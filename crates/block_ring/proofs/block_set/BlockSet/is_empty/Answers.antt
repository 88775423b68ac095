use Rattle.std.proofs.Common.{◌≡◌, ℕ, ◌+◌, ◌*◌, ◌<◌, ◌/◌, ◌^◌, true, refl, length, ap, ◌∙◌, sym, inl, inr, arith, subst}
use Rattle.std.proofs.lemmas.Bool.{cases_lt}
use Rattle.block_ring.specs.Bits.{is_set}
use Rattle.block_ring.specs.BlockSet.{BlockSet}
use Rattle.block_ring.proofs.SetBits.{zero_word, lowest_is_set, below_lowest, not_empty, members_of-none}
use Rattle.block_ring.proofs.block_set.BlockSet.is_empty.Goals as goal
use Rattle.block_ring.proofs.block_set.BlockSet.is_empty.Goals.{then-word-ne0+else-lowest-from, else-word-ne0}

pub returns-then-lowest-from : goal.returns-then-lowest-from
returns-then-lowest-from c =
    let words = c.self.inside.words.items in
    let word = c.index-word.result.now in
    let fits : word < 2 ^ 64 = omega arith in
    let within : c.loop-place.place < length words = omega (arith, c.self.inside.words.ok.0) in
    let is = lowest_is_set words c.loop-place.place word c.index-word.ensures within (omega arith) fits in
    let at : 64 * c.loop-place.place + c.from-then-word-ne0.result < c.self.inside.blocks = omega arith in
    let is_member = subst (λ (t : ℕ). is_set words (64 * c.loop-place.place + t) ≡ true) (sym c.from-then-word-ne0.ensures) is in
    (λ no. absurd cc, λ none. absurd (not_empty _ words _ at is_member (ap (λ (s : BlockSet). s.members) c.self.view_is ∙ none)))

pub loop-place-preserved : goal.loop-place-preserved
loop-place-preserved c =
    let words = c.self.inside.words.items in
    let word = c.index-word.result.now in
    let fits : word < 2 ^ 64 = omega arith in
    let within : c.loop-place.place < length words = omega (arith, c.self.inside.words.ok.0) in
    λ q below is_block. elim (cases_lt q (64 * c.loop-place.place)) [
      | inl before ↦ c.loop-place.invariant q before is_block
      | inr here ↦
          let at : q / 64 ≡ c.loop-place.place = omega arith in
          elim c.if-word-ne0.branch [
            | then-word-ne0+else-lowest-from w ↦ below_lowest words c.loop-place.place word q c.index-word.ensures within (omega arith) fits at (omega (arith, w.from-then-word-ne0.ensures))
            | else-word-ne0 w ↦ zero_word words c.loop-place.place word q c.index-word.ensures within (omega arith) at
          ]
    ]

pub returns : goal.returns
returns c =
    let none = members_of-none c.self.inside.blocks c.self.inside.words.items (λ q below. c.loop-place.invariant q (omega arith) below) in
    (λ _. sym (ap (λ (s : BlockSet). s.members) c.self.view_is) ∙ none, λ _. refl)
