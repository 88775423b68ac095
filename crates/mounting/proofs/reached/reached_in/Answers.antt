use Rattle.mounting.proofs.Asking.{asks_to_verify}
use Rattle.mounting.proofs.reached.reached_in.Goals as goal

pub returns-in_err-pass-clause-asks : goal.returns-in_err-pass-clause-asks
returns-in_err-pass-clause-asks g c = asks_to_verify (g.F.Flash.device c.args.store.now.flash.now) (g.F.Flash.device c.verify.new.nodes.flash.now) c.args.roots.now c.verify.ensures.asks

pub returns-clause-asks : goal.returns-clause-asks
returns-clause-asks g c = asks_to_verify (g.F.Flash.device c.args.store.now.flash.now) (g.F.Flash.device c.verify.new.nodes.flash.now) c.args.roots.now c.verify.ensures.asks
