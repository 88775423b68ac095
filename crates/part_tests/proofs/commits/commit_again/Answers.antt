use Rattle.std.proofs.Common.{◌≡◌, ◌≢◌, Bool, false, Option, Some, None, ap, ◌∙◌, rules}
use Rattle.std.specs.FinSet as set
use Rattle.std.specs.Ordering.{nat_cmp}
use Rattle.std.specs.Option.{is_some}
use Rattle.std.specs.Prelude.{not}
use Rattle.std.proofs.lemmas.Bool.{both_ways}
use Rattle.record_format.specs.declared.record.Record.{Record}
use Rattle.part_tests.proofs.commits.commit_again.Goals as goal

some_is : (o : Option Record) (b : Bool) → is_some o ≡ not b → b ≡ false → o ≢ None
some_is None b is off = λ e. let n : not b ≡ not false = ap (λ t. not t) off in absurd cc
some_is (Some r) b is off = λ e. absurd cc

pub commit-requires-clause-suits : goal.commit-requires-clause-suits
commit-requires-clause-suits c = record {
  same = search rules;
  lawful = search rules;
  is_lawful = search rules;
  on_flash = λ b is. absurd (both_ways (set.contains c.new.result b) (ap (λ (s : set.FinSet nat_cmp). set.contains s b) c.new.ensures ∙ set.contains-empty nat_cmp b) is);
}

pub commit-requires-clause-ready : goal.commit-requires-clause-ready
commit-requires-clause-ready c = c.in_ok-newest.ensures.ready (some_is c.in_ok-newest.newest c.is_none.result c.is_none.ensures c.if-is_none.false) c.new.result
