use Rattle.script.proofs.SpellingLemmas.{names_law, number_of_decimal, decimal_of_number}
use Rattle.script.proofs.spellings.laws.Goals as goal

pub returns-clause-numbers : goal.returns-clause-numbers
returns-clause-numbers c = λ word n. (decimal_of_number word n, λ h. number_of_decimal word n h.0 h.1)

pub returns-clause-names : goal.returns-clause-names
returns-clause-names c = names_law
