use Rattle.remote_flash.proofs.AttemptLemmas.{all_passed, same_once_lost, cut_once_lost}
use Rattle.remote_flash.proofs.laws_of_orders.order_laws.Goals as goal

pub returns-clause-passed : goal.returns-clause-passed
returns-clause-passed c = λ old new attempts live tells. all_passed attempts old new live tells

pub returns-clause-same : goal.returns-clause-same
returns-clause-same c = λ old new attempts lost tells. same_once_lost attempts old new lost tells

pub returns-clause-cut : goal.returns-clause-cut
returns-clause-cut c = λ old new attempts lost tells. cut_once_lost attempts old new lost tells
