use Rattle.std.proofs.Common.{◌≡◌, ap, ◌∙◌, inl, inr, arith, rules}
use Rattle.std.specs.FinSet as set
use Rattle.std.specs.Ordering.{nat_cmp}
use Rattle.std.proofs.lemmas.Bool.{cases_Bool}
use Rattle.part_tests.proofs.commits.commit_all.Goals as goal

pub clear-requires-clause-good : goal.clear-requires-clause-good
clear-requires-clause-good c = λ b lt. ap (λ (s : set.FinSet nat_cmp). set.contains s b) c.new.ensures ∙ set.contains-empty nat_cmp b

pub clear-requires-clause-room : goal.clear-requires-clause-room
clear-requires-clause-room c = let e : set.len c.new.result ≡ 0 = ap (λ (s : set.FinSet nat_cmp). set.len s) c.new.ensures ∙ set.len-empty nat_cmp in omega arith

pub loop-n-init : goal.loop-n-init
loop-n-init c =
    let only = c.in_ok-clear.ensures.only_anchors in
    record {
      sizes = search rules;
      on_anchors = λ b is. only.bad_anchor b is (ap (λ (s : set.FinSet nat_cmp). set.contains s b) c.new.ensures ∙ set.contains-empty nat_cmp b);
      ready = c.in_ok-clear.ensures.ready;
    }

pub loop-n-preserved : goal.loop-n-preserved
loop-n-preserved c =
    let only = c.in_ok-commit.ensures.only_anchors in
    let so_far = c.loop-n.invariant in
    record {
      sizes = only.geometry ∙ so_far.sizes;
      on_anchors = λ b is. elim (cases_Bool (set.contains c.loop-n.bad b)) [ inl was ↦ so_far.on_anchors b was | inr not ↦ only.bad_anchor b is not ];
      ready = c.in_ok-commit.ensures.ready (λ e. cc);
    }
