use Rattle.std.proofs.Common.{◌≡◌, ◌∙◌, ◌++◌, List, inl, sym, ap, subst}
use Rattle.std.proofs.lemmas.Result.{err_from_is_err_and}
use Rattle.std.specs.Prelude.{All}
use Rattle.history_machine.specs.Machine.{Machine, working_tree}
use Rattle.inquiries.specs.Items.{IsItemOf}
use Rattle.inquiries.specs.Readings.{shown}
use Rattle.inquiries.specs.declared.items.Item.{Item}
use Rattle.inquiries.proofs.Readings.{meets-later, unchanged-trans}
use Rattle.copies.specs.Moved.{subtrees_at, there_in}
use Rattle.copies.proofs.Renaming.{rest_stands}
use Rattle.copies.proofs.moving.list_rest.Goals as goal

-- the file system that is read shows what it did
same : goal.returns-in_err-add_subtrees-clause-to
same g c = unchanged-trans c.args.to.now c.add_items.new.to c.add_subtrees.new.to c.add_items.ensures.same c.add_subtrees.ensures.same

pub returns-in_err-add_items-clause-err : goal.returns-in_err-add_items-clause-err
returns-in_err-add_items-clause-err g c =
    let p = err_from_is_err_and c.from_residual.result c.from_residual.ensures.1 in
    rw (p.1, p.2) (inl c.in_err-add_items.ensures.err)

pub returns-in_err-add_subtrees-clause-to : goal.returns-in_err-add_subtrees-clause-to
returns-in_err-add_subtrees-clause-to g c = same g c

pub returns-in_err-add_subtrees-clause-err : goal.returns-in_err-add_subtrees-clause-err
returns-in_err-add_subtrees-clause-err g c =
    let p = err_from_is_err_and c.from_residual-in_err-add_subtrees.result c.from_residual-in_err-add_subtrees.ensures.1 in
    rw (p.1, p.2) (inl (meets-later c.args.to.now c.add_items.new.to c.add_subtrees.new.to c.in_err-add_subtrees.field-0.0 c.add_items.ensures.same c.in_err-add_subtrees.ensures.err))

pub list_changes_at-requires-clause-olds : goal.list_changes_at-requires-clause-olds
list_changes_at-requires-clause-olds g c =
    let t = working_tree (shown c.args.to.now) in
    let later = c.add_subtrees.ensures.same.machine ∙ c.add_items.ensures.same.machine in
    let first : c.add_items.new.items.items ≡ there_in t c.args.olds.now = c.in_ok-add_items.ensures.ok ∙ ap (λ (l : List Item). l ++ there_in t c.args.olds.now) c.new-there.ensures.items in
    let second = subst (λ (m : Machine). c.add_subtrees.new.items.items ≡ c.add_items.new.items.items ++ subtrees_at (working_tree m) c.args.moves.now) c.add_items.ensures.same.machine c.in_ok-add_subtrees.ensures.ok in
    subst (λ (m : Machine). All (IsItemOf (working_tree m)) c.add_subtrees.new.items.items) (sym later)
    (subst (All (IsItemOf t)) (sym (second ∙ ap (λ (l : List Item). l ++ subtrees_at t c.args.moves.now) first)) (rest_stands t c.args.olds.now c.args.moves.now))
