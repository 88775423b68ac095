use Rattle.std.proofs.Common.{ℕ, Option, subst}
use Rattle.std.specs.Prelude.{IfSome}
use Rattle.inquiries.specs.Readings.{shown}
use Rattle.copies.specs.Calls.{HasTreeOf}
use Rattle.copies.proofs.bringing.bring.Goals as goal

pub bring_next-requires-clause-last : goal.bring_next-requires-clause-last
bring_next-requires-clause-last g c = (subst (λ (o : Option ℕ). IfSome o (HasTreeOf (shown c.args.from.now) (shown c.args.to.now))) c.in-Some.is c.requires.ready.has).there

pub bring_next-requires-clause-there : goal.bring_next-requires-clause-there
bring_next-requires-clause-there g c = (subst (λ (o : Option ℕ). IfSome o (HasTreeOf (shown c.args.from.now) (shown c.args.to.now))) c.in-Some.is c.requires.ready.has).tree

pub bring_next-requires-clause-ready : goal.bring_next-requires-clause-ready
bring_next-requires-clause-ready g c = c.requires.ready.ready

pub bring_first-requires-clause-ready : goal.bring_first-requires-clause-ready
bring_first-requires-clause-ready g c = c.requires.ready.ready
