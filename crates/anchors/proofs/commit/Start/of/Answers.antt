use Rattle.std.proofs.Common.{refl, arith}
use Rattle.anchors.proofs.commit.Start.of.Goals as goal

pub returns-then-step-eq0 : goal.returns-then-step-eq0
returns-then-step-eq0 c = record {
  first = λ zero. (refl, refl, refl);
  next = λ some. absurd (let zero = c.if-step-eq0.true in omega arith);
}

pub returns : goal.returns
returns c = record {
  first = λ zero. absurd (c.if-step-eq0.false zero);
  next = λ some. (refl, refl, refl);
}
