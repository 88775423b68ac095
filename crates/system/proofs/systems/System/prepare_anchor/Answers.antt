use Rattle.std.proofs.Common.{inl}
use Rattle.system.proofs.AfterCommits.{knows}
use Rattle.system.proofs.NextAnchor.{anchor_system, anchor_undisturbed}
use Rattle.system.proofs.systems.System.prepare_anchor.Goals as goal

pub prepare-requires-clause-ready : goal.prepare-requires-clause-ready
prepare-requires-clause-ready g c = inl (knows (g.F.Flash.device c.args.flash.now) c.args.self.now.state.storage.bad c.args.self.now.anchors (c.requires.system.known c.requires.is_on))

pub returns-clause-system : goal.returns-clause-system
returns-clause-system g c =
    anchor_system (g.F.Flash.device c.args.flash.now) (g.F.Flash.device c.prepare.new.flash) c.args.self.now c.prepare.new.bad c.prepare.new.self c.args.budget c.prepare.result c.requires.system c.requires.is_on c.blocks-blocks.ensures.used c.requires.open
    c.prepare.ensures.prepares c.prepare.ensures.ready

pub returns-clause-undisturbed : goal.returns-clause-undisturbed
returns-clause-undisturbed g c =
    anchor_undisturbed (g.F.Flash.device c.args.flash.now) (g.F.Flash.device c.prepare.new.flash) c.args.self.now c.prepare.new.bad c.prepare.new.self c.args.budget c.prepare.result c.requires.system c.requires.is_on c.blocks-blocks.ensures.used c.requires.open
    c.prepare.ensures.prepares c.prepare.ensures.ready
