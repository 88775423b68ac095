use Rattle.std.proofs.Common.{rules, ◌≡◌, ◌∙◌, [], ◌+◌, inl, inr, length, None, sym, ap, subst}
use Rattle.std.proofs.lemmas.Bool.{true≢false}
use Rattle.std.proofs.lemmas.Result.{err_from_is_err_and}
use Rattle.std.specs.Option.{option_or}
use Rattle.history_machine.specs.History.{view_refusal}
use Rattle.history_machine.specs.Machine.{Machine, view_tree}
use Rattle.tree_counts.specs.Sizes.{size_of}
use Rattle.inquiries.specs.Differences.{difference_lines}
use Rattle.inquiries.specs.Folders.{IsSmall}
use Rattle.inquiries.specs.Items.{items_of}
use Rattle.inquiries.specs.Readings.{shown, Meets}
use Rattle.inquiries.specs.declared.tell_fault.TheConstants.{MAX_LINES}
use Rattle.inquiries.proofs.Readings.{unchanged-refl, unchanged-trans, meets-later, fails-later, first_of_two, second_of_two}
use Rattle.inquiries.proofs.Shared.{nothing_differs}
use Rattle.inquiries.proofs.Sizes.{many_tested}
use Rattle.inquiries.proofs.differences.tell_differences.Goals as goal

pub returns-in_err-show_same-clause-err : goal.returns-in_err-show_same-clause-err
returns-in_err-show_same-clause-err g c =
    let p = err_from_is_err_and c.from_residual.result c.from_residual.ensures.1 in
    rw (p.1, p.2) c.in_err-show_same.ensures.err

pub returns-then-branch-clause-same : goal.returns-then-branch-clause-same
returns-then-branch-clause-same g c = unchanged-refl c.args.fs.now

pub returns-then-branch-clause-few : goal.returns-then-branch-clause-few
returns-then-branch-clause-few g c = inl (c.in_ok-show_same.ensures.same c.if-branch.true)

pub returns-then-branch-clause-ok : goal.returns-then-branch-clause-ok
returns-then-branch-clause-ok g c =
    let m = shown c.args.fs.now in
    let none : c.from_vec.result ≡ [] = search rules in
    none ∙ sym (nothing_differs (view_tree m c.args.old.now) (view_tree m c.args.new.now) (c.in_ok-show_same.ensures.same c.if-branch.true))

pub returns-in_err-first-clause-err : goal.returns-in_err-first-clause-err
returns-in_err-first-clause-err g c =
    let p = err_from_is_err_and c.from_residual-in_err-first.result c.from_residual-in_err-first.ensures.1 in
    let m = shown c.args.fs.now in
    rw (p.1, p.2) (first_of_two (view_refusal m.history c.args.old.now) (view_refusal m.history c.args.new.now) c.in_err-first.field-0.0
    (Meets (g.F.Flash.device c.args.fs.now.flash.now) (g.F.Flash.device c.size_of_tree.new.fs.flash.now) c.in_err-first.field-0.0) c.in_err-first.ensures.err)

pub returns-in_err-second-clause-err : goal.returns-in_err-second-clause-err
returns-in_err-second-clause-err g c =
    let p = err_from_is_err_and c.from_residual-in_err-second.result c.from_residual-in_err-second.ensures.1 in
    let m = shown c.args.fs.now in
    rw (p.1, p.2) (second_of_two (view_refusal m.history c.args.old.now) (view_refusal m.history c.args.new.now) c.in_err-second.field-0.0
    (Meets (g.F.Flash.device c.args.fs.now.flash.now) (g.F.Flash.device c.size_of_tree-2.new.fs.flash.now) c.in_err-second.field-0.0) c.in_ok-first.ensures.accepted
    (fails-later (λ (n : Machine). view_refusal n.history c.args.new.now) c.args.fs.now c.size_of_tree.new.fs c.size_of_tree-2.new.fs c.in_err-second.field-0.0 c.size_of_tree.ensures.same c.in_err-second.ensures.err))

pub returns-then-not-are_few-clause-err : goal.returns-then-not-are_few-clause-err
returns-then-not-are_few-clause-err g c =
    let m = shown c.args.fs.now in
    let t = view_tree m c.args.old.now in
    let u = view_tree m c.args.new.now in
    let second = c.in_ok-second.ensures.size ∙ ap (λ (n : Machine). size_of (view_tree n c.args.new.now)) c.size_of_tree.ensures.same.machine in
    (c.in_ok-show_same.ensures.accepted, inl (many_tested c.are_few.result (length (items_of t) + length (items_of u)) MAX_LINES c.if-not-are_few.true (c.are_few.ensures t u c.in_ok-first.ensures.size second)))

-- both were counted
pub are_both_small-requires-clause-old : goal.are_both_small-requires-clause-old
are_both_small-requires-clause-old g c =
    let same = unchanged-trans c.args.fs.now c.size_of_tree.new.fs c.size_of_tree-2.new.fs c.size_of_tree.ensures.same c.size_of_tree-2.ensures.same in
    subst (λ (n : Machine). view_refusal n.history c.args.old.now ≡ None) (sym same.machine) c.in_ok-first.ensures.accepted

pub are_both_small-requires-clause-first : goal.are_both_small-requires-clause-first
are_both_small-requires-clause-first g c =
    let same = unchanged-trans c.args.fs.now c.size_of_tree.new.fs c.size_of_tree-2.new.fs c.size_of_tree.ensures.same c.size_of_tree-2.ensures.same in
    c.in_ok-first.ensures.size ∙ ap (λ (n : Machine). size_of (view_tree n c.args.old.now)) (sym same.machine)

pub are_both_small-requires-clause-new : goal.are_both_small-requires-clause-new
are_both_small-requires-clause-new g c = subst (λ (n : Machine). view_refusal n.history c.args.new.now ≡ None) (sym c.size_of_tree-2.ensures.same.machine) c.in_ok-second.ensures.accepted

pub are_both_small-requires-clause-second : goal.are_both_small-requires-clause-second
are_both_small-requires-clause-second g c = c.in_ok-second.ensures.size ∙ ap (λ (n : Machine). size_of (view_tree n c.args.new.now)) (sym c.size_of_tree-2.ensures.same.machine)

pub returns-in_err-small-clause-same : goal.returns-in_err-small-clause-same
returns-in_err-small-clause-same g c =
    unchanged-trans c.args.fs.now c.size_of_tree-2.new.fs c.are_both_small.new.fs
    (unchanged-trans c.args.fs.now c.size_of_tree.new.fs c.size_of_tree-2.new.fs c.size_of_tree.ensures.same c.size_of_tree-2.ensures.same) c.are_both_small.ensures.same

pub returns-in_err-small-clause-err : goal.returns-in_err-small-clause-err
returns-in_err-small-clause-err g c =
    let p = err_from_is_err_and c.from_residual-in_err-small.result c.from_residual-in_err-small.ensures.1 in
    rw (p.1, p.2) (inr (meets-later c.args.fs.now c.size_of_tree-2.new.fs c.are_both_small.new.fs c.in_err-small.field-0.0
    (unchanged-trans c.args.fs.now c.size_of_tree.new.fs c.size_of_tree-2.new.fs c.size_of_tree.ensures.same c.size_of_tree-2.ensures.same) c.in_err-small.ensures.err))

pub returns-then-not-small-clause-same : goal.returns-then-not-small-clause-same
returns-then-not-small-clause-same g c =
    unchanged-trans c.args.fs.now c.size_of_tree-2.new.fs c.are_both_small.new.fs
    (unchanged-trans c.args.fs.now c.size_of_tree.new.fs c.size_of_tree-2.new.fs c.size_of_tree.ensures.same c.size_of_tree-2.ensures.same) c.are_both_small.ensures.same

pub returns-then-not-small-clause-err : goal.returns-then-not-small-clause-err
returns-then-not-small-clause-err g c =
    let same = unchanged-trans c.args.fs.now c.size_of_tree.new.fs c.size_of_tree-2.new.fs c.size_of_tree.ensures.same c.size_of_tree-2.ensures.same in (
      c.in_ok-show_same.ensures.accepted,
      inr (λ both. true≢false (sym (c.in_ok-small.ensures.ok.1 (subst (λ (n : Machine). IsSmall (view_tree n c.args.old.now) × IsSmall (view_tree n c.args.new.now)) (sym same.machine) both)) ∙ c.if-not-small.true)),
    )

pub returns-in_err-list_differences-clause-same : goal.returns-in_err-list_differences-clause-same
returns-in_err-list_differences-clause-same g c =
    unchanged-trans c.args.fs.now c.size_of_tree-2.new.fs c.list_differences.new.fs
    (unchanged-trans c.args.fs.now c.size_of_tree.new.fs c.size_of_tree-2.new.fs c.size_of_tree.ensures.same c.size_of_tree-2.ensures.same)
    (unchanged-trans c.size_of_tree-2.new.fs c.are_both_small.new.fs c.list_differences.new.fs c.are_both_small.ensures.same c.list_differences.ensures.same)

pub returns-in_err-list_differences-clause-err : goal.returns-in_err-list_differences-clause-err
returns-in_err-list_differences-clause-err g c =
    let p = err_from_is_err_and c.from_residual-in_err-list_differences.result c.from_residual-in_err-list_differences.ensures.1 in
    rw (p.1, p.2) (fails-later (λ (n : Machine). option_or (view_refusal n.history c.args.old.now) (view_refusal n.history c.args.new.now)) c.args.fs.now c.are_both_small.new.fs c.list_differences.new.fs c.in_err-list_differences.field-0.0
    (unchanged-trans c.args.fs.now c.size_of_tree-2.new.fs c.are_both_small.new.fs
    (unchanged-trans c.args.fs.now c.size_of_tree.new.fs c.size_of_tree-2.new.fs c.size_of_tree.ensures.same c.size_of_tree-2.ensures.same) c.are_both_small.ensures.same) c.in_err-list_differences.ensures.err)

pub returns-clause-same : goal.returns-clause-same
returns-clause-same g c =
    unchanged-trans c.args.fs.now c.size_of_tree-2.new.fs c.list_differences.new.fs
    (unchanged-trans c.args.fs.now c.size_of_tree.new.fs c.size_of_tree-2.new.fs c.size_of_tree.ensures.same c.size_of_tree-2.ensures.same)
    (unchanged-trans c.size_of_tree-2.new.fs c.are_both_small.new.fs c.list_differences.new.fs c.are_both_small.ensures.same c.list_differences.ensures.same)

pub returns-clause-few : goal.returns-clause-few
returns-clause-few g c =
    let m = shown c.args.fs.now in
    let t = view_tree m c.args.old.now in
    let u = view_tree m c.args.new.now in
    let second = c.in_ok-second.ensures.size ∙ ap (λ (n : Machine). size_of (view_tree n c.args.new.now)) c.size_of_tree.ensures.same.machine in
    let same = unchanged-trans c.args.fs.now c.size_of_tree.new.fs c.size_of_tree-2.new.fs c.size_of_tree.ensures.same c.size_of_tree-2.ensures.same in
    inr (
      (c.are_few.ensures t u c.in_ok-first.ensures.size second).0 c.if-not-are_few.false,
      subst (λ (n : Machine). IsSmall (view_tree n c.args.old.now) × IsSmall (view_tree n c.args.new.now)) same.machine (c.in_ok-small.ensures.ok.0 c.if-not-small.false),
    )

pub returns-clause-ok : goal.returns-clause-ok
returns-clause-ok g c =
    let same = unchanged-trans c.args.fs.now c.size_of_tree-2.new.fs c.are_both_small.new.fs
    (unchanged-trans c.args.fs.now c.size_of_tree.new.fs c.size_of_tree-2.new.fs c.size_of_tree.ensures.same c.size_of_tree-2.ensures.same) c.are_both_small.ensures.same in
    subst (λ (n : Machine). c.in_ok-list_differences.field-0 ≡ difference_lines (view_tree n c.args.old.now) (view_tree n c.args.new.now)) same.machine c.in_ok-list_differences.ensures.ok
