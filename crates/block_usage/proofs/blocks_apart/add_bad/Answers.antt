use Rattle.std.proofs.Common.{◌≡◌, ◌∙◌, true, false, sym, ap}
use Rattle.std.specs.FinSet as set
use Rattle.block_usage.proofs.ReportLemmas.{left_done, left_rest, marked_done, marked_rest}
use Rattle.block_usage.proofs.blocks_apart.add_bad.Goals as goal
use Rattle.block_usage.proofs.blocks_apart.add_bad.Goals.{then-contains, else-contains}

pub loop-block-preserved : goal.loop-block-preserved
loop-block-preserved c =
    let old = c.args.marks.now.members in
    let now = c.loop-block.marks.members in
    let bad = c.args.bad.now in
    let block = c.loop-block.block in
    let so_far = c.loop-block.invariant in
    elim c.if-contains.branch [
      | then-contains w ↦
          let is : set.contains bad block ≡ true = sym c.contains.ensures ∙ w.if-contains.true in
          let marks = w.marks-is ∙ w.insert.ensures in
          record {
            blocks = ap (λ m. m.blocks) marks ∙ so_far.blocks;
            done = λ b low high.
                let same = ap (λ m. set.contains m.members b) marks in
                let both = marked_done old now bad block so_far.done so_far.rest is b low high in
                (λ marked. both.0 (sym same ∙ marked), λ either. same ∙ both.1 either);
            rest = λ b past. ap (λ m. set.contains m.members b) marks ∙ marked_rest old now bad block so_far.done so_far.rest b past;
          }
      | else-contains w ↦
          let is : set.contains bad block ≡ false = sym c.contains.ensures ∙ w.if-contains.false in
          record {
            blocks = ap (λ m. m.blocks) w.marks-is ∙ so_far.blocks;
            done = λ b low high.
                let same = ap (λ m. set.contains m.members b) w.marks-is in
                let both = left_done old now bad block so_far.done so_far.rest is b low high in
                (λ marked. both.0 (sym same ∙ marked), λ either. same ∙ both.1 either);
            rest = λ b past. ap (λ m. set.contains m.members b) w.marks-is ∙ left_rest old now bad block so_far.done so_far.rest b past;
          }
    ]
