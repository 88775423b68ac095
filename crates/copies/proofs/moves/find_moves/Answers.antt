use Rattle.std.proofs.Common.{◌∙◌, subst}
use Rattle.std.proofs.lemmas.Result.{err_from_is_err_and, IfErr-weaker, IfOk-weaker}
use Rattle.history_machine.specs.Machine.{Machine, view_tree}
use Rattle.inquiries.specs.Readings.{shown}
use Rattle.inquiries.proofs.Readings.{meets-later, unchanged-trans}
use Rattle.copies.specs.Found.{AreTops}
use Rattle.copies.proofs.Finding.{finds_later, tops_later}
use Rattle.copies.proofs.moves.find_moves.Goals as goal

pub returns-in_err-come-clause-same : goal.returns-in_err-come-clause-same
returns-in_err-come-clause-same g c = unchanged-trans c.args.fs.now c.list_tops.new.fs c.list_tops-2.new.fs c.list_tops.ensures.same c.list_tops-2.ensures.same

pub returns-in_err-come-clause-err : goal.returns-in_err-come-clause-err
returns-in_err-come-clause-err g c =
    let p = err_from_is_err_and c.from_residual-in_err-come.result c.from_residual-in_err-come.ensures.1 in
    rw (p.1, p.2) (meets-later c.args.fs.now c.list_tops.new.fs c.list_tops-2.new.fs c.in_err-come.field-0.0 c.list_tops.ensures.same c.in_err-come.ensures.err)

pub pair_tops-requires-clause-gone : goal.pair_tops-requires-clause-gone
pair_tops-requires-clause-gone g c =
    let m = shown c.args.fs.now in
    let old = view_tree m c.args.last.now in
    let new = view_tree m c.args.view.now in
    tops_later m (shown c.list_tops-2.new.fs) c.args.last.now new c.args.olds.now c.in_ok-gone.gone.items c.deref.result.now (c.list_tops-2.ensures.same.machine ∙ c.list_tops.ensures.same.machine) c.deref.ensures.value c.requires.olds
    (c.in_ok-gone.ensures.ok old c.requires.olds)

-- what came, by the trees that there were at first
come_tops : goal.pair_tops-requires-clause-come
come_tops g c =
    let m = shown c.args.fs.now in
    let old = view_tree m c.args.last.now in
    let new = view_tree m c.args.view.now in
    tops_later m (shown c.list_tops-2.new.fs) c.args.view.now old c.args.news.now c.in_ok-come.come.items c.deref-2.result.now (c.list_tops-2.ensures.same.machine ∙ c.list_tops.ensures.same.machine) c.deref-2.ensures.value c.requires.news
    (subst (λ (n : Machine). AreTops new (view_tree n c.args.last.now) c.args.news.now c.in_ok-come.come.items) c.list_tops.ensures.same.machine (c.in_ok-come.ensures.ok new c.requires.news))

pub pair_tops-requires-clause-come : goal.pair_tops-requires-clause-come
pair_tops-requires-clause-come g c = come_tops g c

pub returns-clause-same : goal.returns-clause-same
returns-clause-same g c =
    unchanged-trans c.args.fs.now c.list_tops-2.new.fs c.pair_tops.new.fs (unchanged-trans c.args.fs.now c.list_tops.new.fs c.list_tops-2.new.fs c.list_tops.ensures.same c.list_tops-2.ensures.same) c.pair_tops.ensures.same

pub returns-clause-err : goal.returns-clause-err
returns-clause-err g c =
    IfErr-weaker c.pair_tops.result _ _
    (λ fault met. meets-later c.args.fs.now c.list_tops-2.new.fs c.pair_tops.new.fs fault (unchanged-trans c.args.fs.now c.list_tops.new.fs c.list_tops-2.new.fs c.list_tops.ensures.same c.list_tops-2.ensures.same) met) c.pair_tops.ensures.err

pub returns-clause-ok : goal.returns-clause-ok
returns-clause-ok g c =
    let m = shown c.args.fs.now in
    let old = view_tree m c.args.last.now in
    let new = view_tree m c.args.view.now in
    let gone = c.in_ok-gone.ensures.ok old c.requires.olds in
    let come = subst (λ (n : Machine). AreTops new (view_tree n c.args.last.now) c.args.news.now c.in_ok-come.come.items) c.list_tops.ensures.same.machine (c.in_ok-come.ensures.ok new c.requires.news) in
    IfOk-weaker c.pair_tops.result _ _
    (λ moves pairs. finds_later m (shown c.list_tops-2.new.fs) c.args.last.now c.args.view.now c.args.olds.now c.args.news.now c.in_ok-gone.gone.items c.in_ok-come.come.items c.deref.result.now c.deref-2.result.now moves.items
    (c.list_tops-2.ensures.same.machine ∙ c.list_tops.ensures.same.machine) c.deref.ensures.value c.deref-2.ensures.value c.requires.olds gone come pairs) c.pair_tops.ensures.ok
