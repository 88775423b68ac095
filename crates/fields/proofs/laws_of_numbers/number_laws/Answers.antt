use Rattle.fields.proofs.NumberLaws.{number_again, number_takes}
use Rattle.fields.proofs.laws_of_numbers.number_laws.Goals as goal

pub returns-clause-read : goal.returns-clause-read
returns-clause-read c = number_again

pub returns-clause-written : goal.returns-clause-written
returns-clause-written c = λ n x bytes rest fits e. (number_takes n bytes x rest fits e).0.parts

pub returns-clause-fits : goal.returns-clause-fits
returns-clause-fits c = λ n x bytes rest fits e. (number_takes n bytes x rest fits e).1
