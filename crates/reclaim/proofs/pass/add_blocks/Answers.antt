use Rattle.std.proofs.Common.{ℕ, List, get_or, ap, refl, subst, sym, ◌∙◌, arith}
use Rattle.std.proofs.lemmas.List.{take_more}
use Rattle.std.specs.FinSet as set
use Rattle.std.specs.Ordering.{nat_cmp}
use Rattle.block_ring.specs.BlockSet.{BlockSet}
use Rattle.reclaim.specs.Passes.{AreNoted}
use Rattle.reclaim.proofs.KnownPasses.{noted_none, noted_in, noted_past}
use Rattle.reclaim.proofs.pass.add_blocks.Goals as goal
use Rattle.reclaim.proofs.pass.add_blocks.Goals.{then-block-blocks, else-block-blocks}

pub loop-block-init : goal.loop-block-init
loop-block-init c = record { noted = noted_none c.args.found.now.members c.args.found.now.blocks; size = refl }

pub loop-block-preserved : goal.loop-block-preserved
loop-block-preserved c =
    let list = c.args.list.now in
    let old = c.args.found.now in
    let at = c.loop-block.block-index in
    let block = get_or list at 0 in
    let taken = take_more list at 0 c.loop-block-test.true in
    let so_far = c.loop-block.invariant in
    elim c.if-block-blocks.branch [
      | then-block-blocks w ↦ rw w.found-is (record {
        noted = subst (λ (l : List ℕ). AreNoted old.members l old.blocks w.insert.new.self.members) (sym taken)
            (subst (λ (s : set.FinSet nat_cmp). AreNoted old.members _ old.blocks s) (sym (ap (λ (s : BlockSet). s.members) w.insert.ensures)) (noted_in old.members c.loop-block.found.members _ block old.blocks so_far.noted));
        size = ap (λ (s : BlockSet). s.blocks) w.insert.ensures ∙ so_far.size;
      })
      | else-block-blocks w ↦ rw w.found-is (record {
        noted = subst (λ (l : List ℕ). AreNoted old.members l old.blocks c.loop-block.found.members) (sym taken)
            (noted_past old.members c.loop-block.found.members _ block old.blocks (omega (arith, w.if-block-blocks.false, c.blocks-in-loop-block.ensures, so_far.size)) so_far.noted);
        size = so_far.size;
      })
    ]
