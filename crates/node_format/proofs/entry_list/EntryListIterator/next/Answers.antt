use Rattle.std.proofs.Common.{◌≡◌, [], ◌-◌, sym, ◌∙◌, arith}
use Rattle.node_format.specs.Directories.{items_at}
use Rattle.node_format.proofs.Steps.{step, no_step, shorter}
use Rattle.node_format.proofs.Known.{known_one}
use Rattle.node_format.proofs.entry_list.EntryListIterator.next.Goals as goal

pub known_entry-requires : goal.known_entry-requires
known_entry-requires c = known_one c.self.inside.count c.self.inside.bytes.now (omega (arith, c.if-self-eq0.false)) c.self.invariant.counted

pub invariant_of-self : goal.invariant_of-self
invariant_of-self c = (step c.self.inside.count (c.self.inside.count - 1) c.self.inside.bytes.now c.in-Some.entry c.in-Some.rest.now (omega arith) c.in-Some.ensures c.self.invariant).others

pub returns-clause-steps : goal.returns-clause-steps
returns-clause-steps c = sym c.self.view_is ∙ (step c.self.inside.count (c.self.inside.count - 1) c.self.inside.bytes.now c.in-Some.entry c.in-Some.rest.now (omega arith) c.in-Some.ensures c.self.invariant).first

pub returns-clause-goes : goal.returns-clause-goes
returns-clause-goes c =
    let less = shorter c.args.self.now (items_at (c.self.inside.count - 1) c.in-Some.rest.now) c.in-Some.entry (returns-clause-steps c) in
    record { on = λ finite. (tt, tt, less); keeps = tt; rests = λ finite. tt }

pub returns-in_default-clause-steps : goal.returns-in_default-clause-steps
returns-in_default-clause-steps c =
    let none : c.args.self.now ≡ [] = sym c.self.view_is ∙ no_step c.self.inside.count c.self.inside.bytes.now (omega arith) c.in_default.ensures in
    (none, none)
