use Rattle.std.proofs.Common.{◌≡◌, ℕ, ◌<◌, true, sym, ap, ◌∙◌, subst, arith}
use Rattle.std.specs.FinSet as set
use Rattle.block_ring.specs.BlockSet.{BlockSet}
use Rattle.system.proofs.RemovedBits.{all_removed, none_removed, one_removed}
use Rattle.system.proofs.prepared_blocks.PreparedBlocks.forget_used.Goals as goal
use Rattle.system.proofs.prepared_blocks.PreparedBlocks.forget_used.Goals.{then-is_used, else-is_used}

pub loop-block-preserved : goal.loop-block-preserved
loop-block-preserved c =
    let s = c.args.self.now.members in
    let used = c.args.ring.now.used in
    let before = c.loop-block.invariant in
    elim c.if-is_used.branch [
      | then-is_used w ↦
          let left = w.self-is ∙ w.remove.ensures in
          record {
            blocks = ap (λ (p : BlockSet). p.blocks) left ∙ before.blocks;
            members = λ b. ap (λ (p : BlockSet). set.contains p.members b) left
                ∙ one_removed s used c.loop-block.block c.loop-block.self.members (sym c.is_used.ensures ∙ w.if-is_used.true) before.members b;
          }
      | else-is_used w ↦ record {
        blocks = ap (λ (p : BlockSet). p.blocks) w.self-is ∙ before.blocks;
        members = λ b. ap (λ (p : BlockSet). set.contains p.members b) w.self-is
            ∙ none_removed s used c.loop-block.block c.loop-block.self.members (sym c.is_used.ensures ∙ w.if-is_used.false) before.members b;
      }
    ]

pub returns : goal.returns
returns c =
    let before = c.loop-block.invariant in
    let ends : c.args.ring.now.blocks ≡ c.loop-block.block = omega (arith, c.loop-block-test.false, c.loop-block.auto.block-end, c.blocks-block-end.ensures.value) in
    let few = λ (b : ℕ) (is : set.contains c.args.ring.now.used b ≡ true). subst (λ (n : ℕ). b < n) ends (c.blocks-block-end.ensures.used b is).1 in
    (λ i. record {
      blocks = before.blocks i;
      members = all_removed c.args.self.now.members c.args.ring.now.used c.loop-block.block c.loop-block.self.members few before.members i;
    })
