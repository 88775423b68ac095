use Rattle.anchors.proofs.Beginning.{still_may_commit, committed_is_newest}
use Rattle.anchors.proofs.laws_of_anchors.commit_laws.Goals as goal

pub returns-clause-follows : goal.returns-clause-follows
returns-clause-follows c = still_may_commit

pub returns-clause-newest : goal.returns-clause-newest
returns-clause-newest c = committed_is_newest
