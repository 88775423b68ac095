use Rattle.std.proofs.Common.{◌≡◌, Some, refl, sym, ap, subst, arith, ◌+◌, ◌≤◌, ◌∙◌}
use Rattle.std.proofs.lemmas.Result.{err_from_is_err_and}
use Rattle.node_store.specs.NodeCache.{NodeCache, first_bytes}
use Rattle.node_store.specs.NodeCacheLaws.{first_shown}
use Rattle.node_store.specs.Caching.{IsTruthful}
use Rattle.node_store.specs.CachingLaws.{promoted, read_truthful, first_truthful}
use Rattle.node_store.specs.FittingLaws.{still_fits}
use Rattle.node_store.proofs.Examined.{within_block}
use Rattle.node_store.proofs.node_examination.examine_node.Goals as goal

pub returns-then-promote-clause-listed : goal.returns-then-promote-clause-listed
returns-then-promote-clause-listed g c _ =
    (promoted (g.F.Flash.device c.args.flash.now) c.args.storage.now.cache c.promote.new.self c.args.block c.promote.ensures.bounded
    c.requires.fits.truthful c.promote.ensures.moved (sym c.promote.ensures.value ∙ c.if-promote.true)).fetches.brings

pub returns-then-promote-clause-fits : goal.returns-then-promote-clause-fits
returns-then-promote-clause-fits g c =
    let moved = promoted (g.F.Flash.device c.args.flash.now) c.args.storage.now.cache c.promote.new.self c.args.block c.promote.ensures.bounded
    c.requires.fits.truthful c.promote.ensures.moved (sym c.promote.ensures.value ∙ c.if-promote.true) in
    still_fits _ _ _ _ refl refl moved.room (λ fits. moved.truthful)

pub returns-in_err-found-clause-refuses : goal.returns-in_err-found-clause-refuses
returns-in_err-found-clause-refuses g c =
    let p = err_from_is_err_and c.from_residual.result c.from_residual.ensures.1 in
    rw (p.1, p.2) c.in_err-found.ensures.refuses

pub returns-in_err-found-clause-fits : goal.returns-in_err-found-clause-fits
returns-in_err-found-clause-fits g c =
    let stays = c.promote.ensures.stays c.if-promote.false in
    let reads = c.read_unless_body.ensures.only_reads in
    still_fits _ _ _ _ reads.geometry c.read_unless_body.ensures.page (ap (λ (k : NodeCache). k.room) stays)
    (λ fits. subst (IsTruthful (g.F.Flash.device c.read_unless_body.new.flash)) (sym stays)
    (read_truthful (g.F.Flash.device c.args.flash.now) _ _ c.requires.lawful reads fits.truthful))

pub returns-in_err-found-clause-most : goal.returns-in_err-found-clause-most
returns-in_err-found-clause-most g c =
    omega (arith, c.read_unless_body.ensures.operations, within_block (g.F.Flash.device c.args.flash.now) c.args.block c.requires.lawful (g.met.F.Flash.whole_pages c.args.flash.now))

pub returns-in_default-clause-fits : goal.returns-in_default-clause-fits
returns-in_default-clause-fits g c =
    let stays = c.promote.ensures.stays c.if-promote.false in
    let reads = c.read_unless_body.ensures.only_reads in
    still_fits _ _ _ _ reads.geometry c.read_unless_body.ensures.page (ap (λ (k : NodeCache). k.room) stays)
    (λ fits. subst (IsTruthful (g.F.Flash.device c.read_unless_body.new.flash)) (sym stays)
    (read_truthful (g.F.Flash.device c.args.flash.now) _ _ c.requires.lawful reads fits.truthful))

pub returns-in_default-clause-most : goal.returns-in_default-clause-most
returns-in_default-clause-most g c =
    omega (arith, c.read_unless_body.ensures.operations, within_block (g.F.Flash.device c.args.flash.now) c.args.block c.requires.lawful (g.met.F.Flash.whole_pages c.args.flash.now))

pub returns-in_default-clause-header : goal.returns-in_default-clause-header
returns-in_default-clause-header g c _ = (rw c.in_default.is at c.in_ok-found.ensures.header, c.promote.ensures.stays c.if-promote.false)

pub returns-in_err-list-clause-refuses : goal.returns-in_err-list-clause-refuses
returns-in_err-list-clause-refuses g c =
    let p = err_from_is_err_and c.from_residual-in_err-list.result c.from_residual-in_err-list.ensures.1 in
    rw (p.1, p.2) (rw c.in_err-list.ensures.err (λ shown. tt))

pub returns-in_err-list-clause-fits : goal.returns-in_err-list-clause-fits
returns-in_err-list-clause-fits g c =
    let stays = c.in_err-list.ensures.same ∙ c.promote.ensures.stays c.if-promote.false in
    let reads = c.read_unless_body.ensures.only_reads in
    still_fits _ _ _ _ reads.geometry c.read_unless_body.ensures.page (ap (λ (k : NodeCache). k.room) stays)
    (λ fits. subst (IsTruthful (g.F.Flash.device c.read_unless_body.new.flash)) (sym stays)
    (read_truthful (g.F.Flash.device c.args.flash.now) _ _ c.requires.lawful reads fits.truthful))

pub returns-in_err-list-clause-most : goal.returns-in_err-list-clause-most
returns-in_err-list-clause-most g c =
    omega (arith, c.read_unless_body.ensures.operations, within_block (g.F.Flash.device c.args.flash.now) c.args.block c.requires.lawful (g.met.F.Flash.whole_pages c.args.flash.now))

pub returns-clause-listed : goal.returns-clause-listed
returns-clause-listed g c _ =
    let node = rw c.in-Some.is at c.in_ok-found.ensures.node in
    node ∙ ap Some (sym (ap (λ (k : NodeCache). first_bytes k.entries) c.in_ok-list.ensures.listed ∙ first_shown c.promote.new.self c.list.ensures.bounded c.args.block c.in-Some.node.items))

pub returns-clause-fits : goal.returns-clause-fits
returns-clause-fits g c =
    let old = g.F.Flash.device c.args.flash.now in
    let stays = c.promote.ensures.stays c.if-promote.false in
    let listed = c.in_ok-list.ensures.listed in
    let node = rw c.in-Some.is at c.in_ok-found.ensures.node in
    let reads = c.read_unless_body.ensures.only_reads in
    still_fits _ _ _ _ reads.geometry c.read_unless_body.ensures.page (ap (λ (k : NodeCache). k.room) listed ∙ ap (λ (k : NodeCache). k.room) stays)
    (λ fits. read_truthful old (g.F.Flash.device c.read_unless_body.new.flash) _ c.requires.lawful reads
    (subst (IsTruthful old) (sym listed) (first_truthful old c.promote.new.self c.args.block c.in-Some.node.items c.list.ensures.bounded node (subst (IsTruthful old) (sym stays) fits.truthful))))

pub returns-clause-most : goal.returns-clause-most
returns-clause-most g c =
    omega (arith, c.read_unless_body.ensures.operations, within_block (g.F.Flash.device c.args.flash.now) c.args.block c.requires.lawful (g.met.F.Flash.whole_pages c.args.flash.now))
