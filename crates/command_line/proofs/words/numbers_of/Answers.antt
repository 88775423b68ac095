use Rattle.command_line.proofs.words.numbers_of.Goals as goal

pub returns-clause-some : goal.returns-clause-some
returns-clause-some c = record {
  page = c.in_ok-number.ensures.some;
  pages = c.in_ok-number-2.ensures.some;
  blocks = c.in_ok-number-3.ensures.some;
  history = c.in_ok-number-4.ensures.some;
  count = rw c.count_word.ensures at c.in_ok-number-5.ensures.some;
}

pub returns-in_err-number-clause-none : goal.returns-in_err-number-clause-none
returns-in_err-number-clause-none c = rw c.from_residual.ensures (λ numbers are. c.in_err-number.ensures.none numbers.page are.page)

pub returns-in_err-number-2-clause-none : goal.returns-in_err-number-2-clause-none
returns-in_err-number-2-clause-none c = rw c.from_residual-in_err-number-2.ensures (λ numbers are. c.in_err-number-2.ensures.none numbers.pages are.pages)

pub returns-in_err-number-3-clause-none : goal.returns-in_err-number-3-clause-none
returns-in_err-number-3-clause-none c = rw c.from_residual-in_err-number-3.ensures (λ numbers are. c.in_err-number-3.ensures.none numbers.blocks are.blocks)

pub returns-in_err-number-4-clause-none : goal.returns-in_err-number-4-clause-none
returns-in_err-number-4-clause-none c = rw c.from_residual-in_err-number-4.ensures (λ numbers are. c.in_err-number-4.ensures.none numbers.history are.history)

pub returns-in_err-number-5-clause-none : goal.returns-in_err-number-5-clause-none
returns-in_err-number-5-clause-none c =
    let none = rw c.count_word.ensures at c.in_err-number-5.ensures.none in
    rw c.from_residual-in_err-number-5.ensures (λ numbers are. none numbers.count are.count)
