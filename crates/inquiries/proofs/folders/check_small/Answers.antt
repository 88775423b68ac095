use Rattle.std.proofs.Common.{◌∙◌, sym}
use Rattle.std.proofs.lemmas.Bool.{true≢false}
use Rattle.inquiries.proofs.folders.check_small.Goals as goal

pub returns-then-not-small-clause-err : goal.returns-then-not-small-clause-err
returns-then-not-small-clause-err g c = λ small. true≢false (sym (c.in_ok-small.ensures.ok.1 small) ∙ c.if-not-small.true)

pub returns-clause-small : goal.returns-clause-small
returns-clause-small g c = c.in_ok-small.ensures.ok.0 c.if-not-small.false
