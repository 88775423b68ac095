use Rattle.std.proofs.Common.{◌∙◌, sym}
use Rattle.std.proofs.lemmas.Grind.{take_at_read}
use Rattle.shell.proofs.ExplainLemmas.{meant_more, unmeant_more}
use Rattle.shell.proofs.explanations.text_of_meant.Goals.{then-branch+in_ok-print_explanation, else-branch}
use Rattle.shell.proofs.explanations.text_of_meant.Goals as goal

pub loop-told-preserved : goal.loop-told-preserved
loop-told-preserved c = elim c.if-branch.branch [
  | then-branch+in_ok-print_explanation w ↦ rw w.text-is (meant_more c.args.all.now c.loop-told.told-index c.args.word.now _ c.loop-told.text.items _ _ (take_at_read c.args.all.now c.loop-told.told-index _ c.loop-told-test.true).1
      (sym w.if-branch.true ∙ c.in_ok-is_meant.ensures) c.loop-told.invariant w.in_ok-print_explanation.ensures)
  | else-branch w ↦ rw w.text-is (unmeant_more c.args.all.now c.loop-told.told-index c.args.word.now _ c.loop-told.text.items (take_at_read c.args.all.now c.loop-told.told-index _ c.loop-told-test.true).1
      (sym w.if-branch.false ∙ c.in_ok-is_meant.ensures) c.loop-told.invariant)
]
