use Rattle.std.proofs.Common.{Ok, rules}
use Rattle.mounting.proofs.FirstPlaces.{first_place}
use Rattle.mounting.proofs.Formatting.{record_asked}
use Rattle.mounting.proofs.formats.commit_first.Goals as goal

pub returns-in-Ok-clause-asks : goal.returns-in-Ok-clause-asks
returns-in-Ok-clause-asks g c =
    record_asked (g.F.Flash.device c.args.flash.now) (g.F.Flash.device c.commit.new.flash) c.args.state.now.storage.bad c.commit.new.bad c.args.anchors.now c.in_ok-saved.saved (Ok tt) (search rules) c.in-Ok.ensures.placed

pub returns-in-Ok-clause-placed : goal.returns-in-Ok-clause-placed
returns-in-Ok-clause-placed g c =
    first_place (g.F.Flash.device c.args.flash.now) (g.F.Flash.device c.commit.new.flash) c.args.state.now.storage.bad c.commit.new.bad c.args.anchors.now c.in_ok-saved.saved (Ok tt) (search rules) c.requires.none
    c.commit.ensures.only_anchors c.in-Ok.ensures.placed
