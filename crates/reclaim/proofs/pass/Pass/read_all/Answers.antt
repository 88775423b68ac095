use Rattle.std.proofs.Common.{arith}
use Rattle.std.proofs.lemmas.Result.{err_from_is_err_and}
use Rattle.nodes.specs.WordLaws.{looks_refused}
use Rattle.reclaim.proofs.Marking.{all_read}
use Rattle.reclaim.proofs.NodeCalls.{at_cost, cost_answered}
use Rattle.reclaim.proofs.pass.Pass.read_all.Goals as goal

pub returns-clause-read : goal.returns-clause-read
returns-clause-read g c = (
  all_read c.step.new.self _ c.step.result c.in_ok-_is_finished._is_finished c.in_ok-_is_finished.was c.step.ensures.ends.done
      (λ is. omega (arith, c.step.ensures.ends.all is)),
  c.in_ok-_is_finished.ensures.read,
)

pub returns-clause-calls : goal.returns-clause-calls
returns-clause-calls g c = cost_answered c.step.ensures.calls.looks (c.in_ok-_is_finished.ensures.reached c.requires.pass).seen

pub returns-in_err-_is_finished-clause-calls : goal.returns-in_err-_is_finished-clause-calls
returns-in_err-_is_finished-clause-calls g c =
    let p = err_from_is_err_and c.from_residual.result c.from_residual.ensures.1 in
    rw (p.1, p.2) (at_cost (looks_refused c.in_err-_is_finished.ensures.calls) (c.in_err-_is_finished.ensures.reached c.requires.pass).seen)
