use Rattle.anchors.proofs.WholeLaws.{whole_is_newest}
use Rattle.anchors.proofs.WritingLaws.{half_changes_nothing}
use Rattle.anchors.proofs.laws_of_anchors.writing_laws.Goals as goal

pub returns-clause-half : goal.returns-clause-half
returns-clause-half c = half_changes_nothing

pub returns-clause-whole : goal.returns-clause-whole
returns-clause-whole c = whole_is_newest
