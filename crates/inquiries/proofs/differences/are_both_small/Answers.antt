use Rattle.std.proofs.Common.{◌≡◌, ◌∙◌, None, sym, ap, subst}
use Rattle.std.proofs.lemmas.Bool.{true≢false}
use Rattle.std.proofs.lemmas.Result.{IfOk-weaker, IfErr-weaker}
use Rattle.history_machine.specs.History.{view_refusal}
use Rattle.history_machine.specs.Machine.{Machine, view_tree}
use Rattle.tree_counts.specs.Sizes.{size_of}
use Rattle.inquiries.specs.Folders.{IsSmall}
use Rattle.inquiries.proofs.Readings.{unchanged-trans, meets-later}
use Rattle.inquiries.proofs.differences.are_both_small.Goals as goal

pub returns-then-not-small-clause-ok : goal.returns-then-not-small-clause-ok
returns-then-not-small-clause-ok g c = (λ wrong. absurd (true≢false (sym wrong)), λ both. absurd (true≢false (sym (c.in_ok-small.ensures.ok.1 both.0) ∙ c.if-not-small.true)))

pub is_small-requires-2-clause-view : goal.is_small-requires-2-clause-view
is_small-requires-2-clause-view g c = subst (λ (m : Machine). view_refusal m.history c.args.new.now ≡ None) (sym c.is_small.ensures.same.machine) c.requires.new

pub is_small-requires-2-clause-size : goal.is_small-requires-2-clause-size
is_small-requires-2-clause-size g c = c.requires.second ∙ ap (λ (m : Machine). size_of (view_tree m c.args.new.now)) (sym c.is_small.ensures.same.machine)

pub returns-clause-same : goal.returns-clause-same
returns-clause-same g c = unchanged-trans c.args.fs.now c.is_small.new.fs c.is_small-2.new.fs c.is_small.ensures.same c.is_small-2.ensures.same

pub returns-clause-ok : goal.returns-clause-ok
returns-clause-ok g c =
    IfOk-weaker c.is_small-2.result _ _
    (λ small decides. (
      λ yes. (c.in_ok-small.ensures.ok.0 c.if-not-small.false, subst (λ (m : Machine). IsSmall (view_tree m c.args.new.now)) c.is_small.ensures.same.machine (decides.0 yes)),
      λ both. decides.1 (subst (λ (m : Machine). IsSmall (view_tree m c.args.new.now)) (sym c.is_small.ensures.same.machine) both.1),
    )) c.is_small-2.ensures.ok

pub returns-clause-err : goal.returns-clause-err
returns-clause-err g c = IfErr-weaker c.is_small-2.result _ _ (λ fault met. meets-later c.args.fs.now c.is_small.new.fs c.is_small-2.new.fs fault c.is_small.ensures.same met) c.is_small-2.ensures.err
