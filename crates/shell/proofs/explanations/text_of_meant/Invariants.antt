use Rattle.std.proofs.Common.{take}
use Rattle.std.specs.List.{filter}
use Rattle.shell.specs.Explained.{TellsEach, is_meant}
use Rattle.shell.proofs.explanations.text_of_meant.Given as goal

abbrev pub invariant-loop-told : goal.invariant-loop-told
invariant-loop-told l = TellsEach (filter (is_meant l.word) (take l.told-index l.all)) l.text.items
