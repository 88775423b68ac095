use Rattle.anchors.proofs.draft.Draft.new.Goals as goal

pub returns-clause-is : goal.returns-clause-is
returns-clause-is c = record {
  lawful = c.requires.lawful;
  fills = c.pages_for-count.ensures.fills;
  fits = c.pages_for-count.ensures.fits;
  sequence = c.ranges.sequence.fits;
  count = c.pages_for-count.type_inv;
}
