use Rattle.std.proofs.lemmas.Result.{IfOk-weaker, IfErr-weaker}
use Rattle.inquiries.proofs.Counted.{roots_accepted, roots_same, roots_refused}
use Rattle.inquiries.proofs.reading_calls.show_same.Goals as goal

pub returns-clause-accepted : goal.returns-clause-accepted
returns-clause-accepted g c =
    IfOk-weaker c.show_same_root.result _ _ (λ same shown. roots_accepted (g.F.Flash.device c.args.fs.now.flash.now) c.args.fs.now.system c.args.view.now c.args.other.now same shown) c.show_same_root.ensures.shown

pub returns-clause-same : goal.returns-clause-same
returns-clause-same g c =
    IfOk-weaker c.show_same_root.result _ _ (λ same shown. roots_same (g.F.Flash.device c.args.fs.now.flash.now) c.args.fs.now.system c.args.view.now c.args.other.now same shown) c.show_same_root.ensures.shown

pub returns-clause-err : goal.returns-clause-err
returns-clause-err g c =
    IfErr-weaker c.show_same_root.result _ _ (λ fault why. roots_refused (g.F.Flash.device c.args.fs.now.flash.now) c.args.fs.now.system c.args.view.now c.args.other.now fault c.args.fs.now.mounted why) c.show_same_root.ensures.err
