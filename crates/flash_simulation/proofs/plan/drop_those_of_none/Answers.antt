use Rattle.std.proofs.Common.{rules}
use Rattle.std.proofs.lemmas.List.Elements.{filter_from_retain}
use Rattle.flash_simulation.proofs.plan.drop_those_of_none.Goals as goal

pub returns-clause-items : goal.returns-clause-items
returns-clause-items c = filter_from_retain _ _ (λ p x b q h. search rules) _ _ _ c.retain.ensures.filtered
