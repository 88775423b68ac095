use Rattle.std.proofs.lemmas.Result.{IfErr-weaker}
use Rattle.node_store.specs.Stores.{Causes}
use Rattle.block_usage.proofs.ReportLemmas.{listed_cause, stored_cause}
use Rattle.block_usage.proofs.stored_usages.usages_in.Goals as goal

pub returns-clause-err : goal.returns-clause-err
returns-clause-err g c =
    let device = g.F.Flash.device in
    let old = c.args.store.now in
    let new = c.find_usages.new.nodes in
    IfErr-weaker c.find_usages.result _ _
    (λ fault cause. listed_cause (device old.flash.now) (device new.flash.now) (Causes device old new) c.args.root c.args.path.now c.args.apart.now.members fault (stored_cause device old new) cause)
    c.find_usages.ensures.err
