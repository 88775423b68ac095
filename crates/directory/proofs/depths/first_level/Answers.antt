use Rattle.std.proofs.Common.{◌≡◌, ◌+◌, ◌++◌, ℕ, List, [], ◌∷◌, take, ap, subst, sym, ◌∙◌, arith}
use Rattle.std.proofs.lemmas.List.{take_more}
use Rattle.std.specs.FinSet.{FinSet, insert}
use Rattle.std.specs.Ordering.{nat_cmp}
use Rattle.std.specs.Prelude.{slice_index}
use Rattle.block_ring.specs.BlockSet.{BlockSet}
use Rattle.directory.specs.Depths.{HasBlocks}
use Rattle.directory.proofs.Levels.{no_blocks, block_more, block_past}
use Rattle.directory.proofs.depths.first_level.Goals as goal
use Rattle.directory.proofs.depths.first_level.Goals.{then-block-blocks, else-block-blocks}

pub loop-block-init : goal.loop-block-init
loop-block-init c =
    let made = c.in_ok-level.ensures.ok in
    record {
      has = no_blocks c.args.blocks c.in_ok-level.level.members (ap (λ (s : BlockSet). s.members) made);
      size = ap (λ (s : BlockSet). s.blocks) made;
    }

pub loop-block-preserved : goal.loop-block-preserved
loop-block-preserved c =
    let list = c.args.list.now in
    let i = c.loop-block.block-index in
    let x = slice_index list i in
    let more : take (i + 1) list ≡ take i list ++ x ∷ [] = take_more list i 0 (omega (arith, c.loop-block-test.true)) in
    let has : (level : FinSet nat_cmp) → HasBlocks c.args.blocks (take i list ++ x ∷ []) level → HasBlocks c.args.blocks (take (i + 1) list) level =
    λ level h. subst (λ (l : List ℕ). HasBlocks c.args.blocks l level) (sym more) h in
    elim c.if-block-blocks.branch [
      | then-block-blocks w ↦
          let is = w.level-is ∙ w.insert.ensures in
          record {
            has = subst (HasBlocks c.args.blocks (take (i + 1) list)) (sym (ap (λ (s : BlockSet). s.members) is))
                (has (insert c.loop-block.level.members x) (block_more c.args.blocks x (take i list) c.loop-block.level.members c.loop-block.invariant.has w.if-block-blocks.true));
            size = ap (λ (s : BlockSet). s.blocks) is ∙ c.loop-block.invariant.size;
          }
      | else-block-blocks w ↦ record {
        has = subst (HasBlocks c.args.blocks (take (i + 1) list)) (sym (ap (λ (s : BlockSet). s.members) w.level-is))
            (has c.loop-block.level.members (block_past c.args.blocks x (take i list) c.loop-block.level.members c.loop-block.invariant.has w.if-block-blocks.false));
        size = ap (λ (s : BlockSet). s.blocks) w.level-is ∙ c.loop-block.invariant.size;
      }
    ]
