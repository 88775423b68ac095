use Rattle.std.proofs.lemmas.Slice.Eq.{bytes_eq-Decides}
use Rattle.std.specs.Str.{str_to_ascii_lowercase}
use Rattle.shell.proofs.ExplainLemmas.{same_truth}
use Rattle.shell.proofs.explanations.is_word.Goals as goal

pub returns : goal.returns
returns c =
    let told = str_to_ascii_lowercase c.args.told.now in
    let word = str_to_ascii_lowercase c.args.word.now in
    same_truth c.eq_ignore_ascii_case.result _ (λ same. (bytes_eq-Decides told word).1 (c.eq_ignore_ascii_case.ensures.test.0 same)) (λ same. c.eq_ignore_ascii_case.ensures.test.1 ((bytes_eq-Decides told word).0 same))
