use Rattle.std.proofs.Common.{◌≡◌, Some, refl, sym, ◌∙◌, ap, subst}
use Rattle.node_store.specs.NodeCache.{NodeCache}
use Rattle.node_store.specs.Caching.{IsTruthful}
use Rattle.node_store.specs.CachingLaws.{promoted, read_truthful}
use Rattle.node_store.specs.FittingLaws.{still_fits}
use Rattle.node_store.proofs.node_parts.bring_part.Goals as goal

pub returns-then-promote-clause-copied : goal.returns-then-promote-clause-copied
returns-then-promote-clause-copied g c = λ bytes node fits.
    let moved = promoted (g.F.Flash.device c.args.flash.now) c.args.storage.now.cache c.promote.new.self c.args.block c.promote.ensures.bounded
    c.requires.fits.truthful c.promote.ensures.moved (sym c.promote.ensures.value ∙ c.if-promote.true) in
    let is : Some c.first.result.now ≡ Some bytes = ap Some c.first.ensures ∙ sym moved.fetches.brings ∙ node in
    c.copy_part.ensures bytes is fits

pub returns-then-promote-clause-fits : goal.returns-then-promote-clause-fits
returns-then-promote-clause-fits g c =
    let moved = promoted (g.F.Flash.device c.args.flash.now) c.args.storage.now.cache c.promote.new.self c.args.block c.promote.ensures.bounded
    c.requires.fits.truthful c.promote.ensures.moved (sym c.promote.ensures.value ∙ c.if-promote.true) in
    still_fits _ _ _ _ refl refl moved.room (λ fits. moved.truthful)

pub returns-clause-fits : goal.returns-clause-fits
returns-clause-fits g c =
    let stays = c.promote.ensures.stays c.if-promote.false in
    let reads = c.read_part.ensures.only_reads in
    still_fits _ _ _ _ reads.geometry c.read_part.ensures.page (ap (λ (k : NodeCache). k.room) stays)
    (λ fits. subst (IsTruthful (g.F.Flash.device c.read_part.new.flash)) (sym stays)
    (read_truthful (g.F.Flash.device c.args.flash.now) _ _ c.requires.lawful reads fits.truthful))
