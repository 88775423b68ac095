use Rattle.anchors.proofs.ReadParts.{reads_none}
use Rattle.std.proofs.Common.{◌*◌}
use Rattle.fs_types.specs.declared.limits.TheConstants.{ANCHORS}
use Rattle.anchors.proofs.anchors.Anchors.greatest.Goals as goal

pub returns-in-Some-clause-reads : goal.returns-in-Some-clause-reads
returns-in-Some-clause-reads g c = reads_none (g.F.Flash.device c.args.flash.now) (ANCHORS * c.args.geometry.pages) _

pub returns-in-None-clause-greatest : goal.returns-in-None-clause-greatest
returns-in-None-clause-greatest g c = c.find_greatest.ensures.greatest

pub returns-in-None-clause-reads : goal.returns-in-None-clause-reads
returns-in-None-clause-reads g c = c.find_greatest.ensures.reads
