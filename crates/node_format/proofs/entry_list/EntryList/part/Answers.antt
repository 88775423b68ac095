use Rattle.std.proofs.Common.{subst, ◌∙◌, arith}
use Rattle.node_format.specs.Directories.{AreSpelled}
use Rattle.node_format.proofs.Parts.{part_front}
use Rattle.node_format.proofs.Known.{known_front, known_later}
use Rattle.node_format.proofs.entry_list.EntryList.part.Goals as goal

pub skip_entries-start-requires : goal.skip_entries-start-requires
skip_entries-start-requires c =
    let whole = subst (AreSpelled c.self.inside.count c.self.inside.bytes.now) c.self.view_is c.self.invariant in
    known_front c.args.from c.self.inside.bytes.now c.args.self.now whole.lawful (omega (arith, c.requires.within)) whole.spelled

pub skip_entries-others-requires : goal.skip_entries-others-requires
skip_entries-others-requires c =
    known_later c.self.inside.count c.args.from c.args.count c.self.inside.bytes.now c.skip_entries-start.result.now c.args.self.now
    (subst (AreSpelled c.self.inside.count c.self.inside.bytes.now) c.self.view_is c.self.invariant) c.requires.within c.skip_entries-start.ensures

pub front_of-requires-clause-within : goal.front_of-requires-clause-within
front_of-requires-clause-within c =
    (part_front c.self.inside.count c.args.from c.args.count c.self.inside.bytes.now c.skip_entries-start.result.now c.skip_entries-others.result.now c.args.self.now
    (subst (AreSpelled c.self.inside.count c.self.inside.bytes.now) c.self.view_is c.self.invariant) c.requires.within c.skip_entries-start.ensures c.skip_entries-others.ensures).within

pub front_of-requires-clause-spelled : goal.front_of-requires-clause-spelled
front_of-requires-clause-spelled c =
    (part_front c.self.inside.count c.args.from c.args.count c.self.inside.bytes.now c.skip_entries-start.result.now c.skip_entries-others.result.now c.args.self.now
    (subst (AreSpelled c.self.inside.count c.self.inside.bytes.now) c.self.view_is c.self.invariant) c.requires.within c.skip_entries-start.ensures c.skip_entries-others.ensures).spelled

pub returns : goal.returns
returns c =
    c.front_of.ensures
    ∙ (part_front c.self.inside.count c.args.from c.args.count c.self.inside.bytes.now c.skip_entries-start.result.now c.skip_entries-others.result.now c.args.self.now
    (subst (AreSpelled c.self.inside.count c.self.inside.bytes.now) c.self.view_is c.self.invariant) c.requires.within c.skip_entries-start.ensures c.skip_entries-others.ensures).read
