use Rattle.std.proofs.Common.{◌≡◌, ◌∙◌, ◌||◌, Bool, None, sym, ap, subst}
use Rattle.std.proofs.lemmas.Result.{IfErr-weaker}
use Rattle.history_machine.specs.History.{view_refusal}
use Rattle.history_machine.specs.Machine.{Machine, view_tree}
use Rattle.inquiries.specs.Differences.{lines_below}
use Rattle.inquiries.specs.PathHistories.{is_filled}
use Rattle.inquiries.specs.Readings.{shown}
use Rattle.inquiries.specs.declared.printing.Side.{Side}
use Rattle.inquiries.proofs.Readings.{unchanged-trans, meets-later}
use Rattle.inquiries.proofs.WithinLemmas.{differs_by_second, filled_append}
use Rattle.inquiries.proofs.differences.differ_below.Goals as goal

pub returns-then-went-clause-ok : goal.returns-then-went-clause-ok
returns-then-went-clause-ok g c =
    let m = shown c.args.fs.now in
    let t = view_tree m c.args.old.now in
    let u = view_tree m c.args.new.now in
    let directory = c.args.directory.now in
    sym (filled_append (lines_below Side.Old t u directory) (lines_below Side.New u t directory)
    ∙ ap (λ (b : Bool). b || is_filled (lines_below Side.New u t directory)) (sym c.in_ok-went.ensures.ok ∙ c.if-went.true))

pub tells_below-requires-2-clause-view : goal.tells_below-requires-2-clause-view
tells_below-requires-2-clause-view g c = subst (λ (n : Machine). view_refusal n.history c.args.new.now ≡ None) (sym c.tells_below.ensures.same.machine) c.requires.new.accepted

pub tells_below-requires-2-clause-other : goal.tells_below-requires-2-clause-other
tells_below-requires-2-clause-other g c = subst (λ (n : Machine). view_refusal n.history c.args.old.now ≡ None) (sym c.tells_below.ensures.same.machine) c.requires.old.accepted

pub returns-clause-same : goal.returns-clause-same
returns-clause-same g c = unchanged-trans c.args.fs.now c.tells_below.new.fs c.tells_below-2.new.fs c.tells_below.ensures.same c.tells_below-2.ensures.same

pub returns-clause-ok : goal.returns-clause-ok
returns-clause-ok g c =
    differs_by_second (shown c.args.fs.now) (shown c.tells_below.new.fs) c.args.old.now c.args.new.now c.args.directory.now c.in_ok-went.went c.tells_below-2.result c.tells_below.ensures.same.machine
    c.in_ok-went.ensures.ok c.if-went.false c.tells_below-2.ensures.ok

pub returns-clause-err : goal.returns-clause-err
returns-clause-err g c = IfErr-weaker c.tells_below-2.result _ _ (λ fault met. meets-later c.args.fs.now c.tells_below.new.fs c.tells_below-2.new.fs fault c.tells_below.ensures.same met) c.tells_below-2.ensures.err
