use Rattle.script.proofs.ViewLemmas.{named_view_many}
use Rattle.script.proofs.arguments.named_view.Goals as goal

pub returns-in_default-clause-err : goal.returns-in_default-clause-err
returns-in_default-clause-err c = λ _. named_view_many c.args.words.now c.in_default.len_at_least
