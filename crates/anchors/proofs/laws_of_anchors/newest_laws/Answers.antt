use Rattle.anchors.proofs.NewestLaws.{found_is_newest, newest_is_found, only_anchors_matter}
use Rattle.anchors.proofs.laws_of_anchors.newest_laws.Goals as goal

pub returns-clause-newest : goal.returns-clause-newest
returns-clause-newest c = found_is_newest

pub returns-clause-found : goal.returns-clause-found
returns-clause-found c = newest_is_found

pub returns-clause-anchors : goal.returns-clause-anchors
returns-clause-anchors c = only_anchors_matter
