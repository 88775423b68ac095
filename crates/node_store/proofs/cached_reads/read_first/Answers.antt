use Rattle.std.proofs.Common.{refl, sym, ◌∙◌}
use Rattle.node_store.specs.CachingLaws.{promoted}
use Rattle.node_store.specs.FittingLaws.{still_fits}
use Rattle.node_store.proofs.cached_reads.read_first.Goals as goal

pub returns-then-promote-clause-fetches : goal.returns-then-promote-clause-fetches
returns-then-promote-clause-fetches g c =
    (promoted (g.F.Flash.device c.args.flash.now) c.args.storage.now.cache c.promote.new.self c.args.block c.promote.ensures.bounded
    c.requires.fits.truthful c.promote.ensures.moved (sym c.promote.ensures.value ∙ c.if-promote.true)).fetches

pub returns-then-promote-clause-fits : goal.returns-then-promote-clause-fits
returns-then-promote-clause-fits g c =
    let moved = promoted (g.F.Flash.device c.args.flash.now) c.args.storage.now.cache c.promote.new.self c.args.block c.promote.ensures.bounded
    c.requires.fits.truthful c.promote.ensures.moved (sym c.promote.ensures.value ∙ c.if-promote.true) in
    still_fits _ _ _ _ refl refl moved.room (λ fits. moved.truthful)
