use Rattle.put_lots.proofs.KeptSources.{kept_more, kept_all}
use Rattle.put_lots.proofs.kept.kept_of.Goals as goal

pub loop-source-preserved : goal.loop-source-preserved
loop-source-preserved c =
    kept_more c.args.sources.now c.loop-source.source-index c.source-item.result c.loop-source.kept.items c.push_kept.new.kept.items c.loop-source-test.true c.source-item.is c.loop-source.invariant c.in_ok-push_kept.ensures

pub returns : goal.returns
returns c = kept_all c.args.sources.now c.loop-source.source-index c.loop-source.kept.items c.loop-source-test.false c.loop-source.invariant
