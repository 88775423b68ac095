use Rattle.std.proofs.Common.{refl, sym, ◌∙◌, ap, subst}
use Rattle.node_store.specs.NodeCache.{NodeCache}
use Rattle.node_store.specs.Caching.{IsTruthful}
use Rattle.node_store.specs.CachingLaws.{promoted, read_truthful}
use Rattle.node_store.specs.FittingLaws.{still_fits}
use Rattle.node_store.specs.FrontLaws.{promoted_fronts}
use Rattle.node_store.proofs.fronts.bring_front.Goals as goal

pub returns-then-promote-clause-brings : goal.returns-then-promote-clause-brings
returns-then-promote-clause-brings g c =
    promoted_fronts _ _ _ _ c.promote.ensures.bounded c.promote.ensures.moved (sym c.promote.ensures.value ∙ c.if-promote.true)

pub returns-then-promote-clause-fits : goal.returns-then-promote-clause-fits
returns-then-promote-clause-fits g c =
    let moved = promoted (g.F.Flash.device c.args.flash.now) c.args.storage.now.cache c.promote.new.self c.args.block c.promote.ensures.bounded
    c.requires.fits.truthful c.promote.ensures.moved (sym c.promote.ensures.value ∙ c.if-promote.true) in
    still_fits _ _ _ _ refl refl moved.room (λ fits. moved.truthful)

pub returns-in_err-read_first_page-clause-fits : goal.returns-in_err-read_first_page-clause-fits
returns-in_err-read_first_page-clause-fits g c =
    let stays = c.promote.ensures.stays c.if-promote.false in
    let reads = c.read_first_page.ensures.only_reads in
    still_fits _ _ _ _ reads.geometry c.read_first_page.ensures.page (ap (λ (k : NodeCache). k.room) stays)
    (λ fits. subst (IsTruthful (g.F.Flash.device c.read_first_page.new.flash)) (sym stays)
    (read_truthful (g.F.Flash.device c.args.flash.now) _ _ c.requires.lawful reads fits.truthful))

pub returns-clause-fits : goal.returns-clause-fits
returns-clause-fits g c =
    let stays = c.promote.ensures.stays c.if-promote.false in
    let reads = c.read_first_page.ensures.only_reads in
    still_fits _ _ _ _ reads.geometry c.read_first_page.ensures.page (ap (λ (k : NodeCache). k.room) stays)
    (λ fits. subst (IsTruthful (g.F.Flash.device c.read_first_page.new.flash)) (sym stays)
    (read_truthful (g.F.Flash.device c.args.flash.now) _ _ c.requires.lawful reads fits.truthful))
