use Rattle.anchors.proofs.commit.Commit.write.Goals as goal

pub returns-then-start-clause-wrote : goal.returns-then-start-clause-wrote
returns-then-start-clause-wrote g c = rw (c.requires.begin.first c.if-start.true, c.if-start.true) c.write_anchor.ensures.wrote

pub returns-clause-wrote : goal.returns-clause-wrote
returns-clause-wrote g c = rw c.if-start.false c.place_record.ensures.wrote

pub write_anchor-requires-clause-spares : goal.write_anchor-requires-clause-spares
write_anchor-requires-clause-spares g c = c.requires.begin.spares c.if-start.true c.requires.may.good

pub place_record-requires-clause-blank : goal.place_record-requires-clause-blank
place_record-requires-clause-blank g c = (c.requires.begin.blank c.if-start.false).blank c.requires.may.good
