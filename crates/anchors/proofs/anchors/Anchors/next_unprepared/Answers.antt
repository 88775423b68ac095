use Rattle.std.proofs.Common.{◌≡◌, sym, subst, ◌∙◌, ◌/◌}
use Rattle.anchors.specs.declared.best.Found.{Found}
use Rattle.anchors.specs.Committing.{IsNextAnchor}
use Rattle.anchors.proofs.Preparing.{same_found}
use Rattle.anchors.proofs.anchors.Anchors.next_unprepared.Goals as goal

pub returns-in_err-anchor-clause-prepared : goal.returns-in_err-anchor-clause-prepared
returns-in_err-anchor-clause-prepared c = λ none anchor wanted.
    let same : wanted.found ≡ c.in_ok-newest.newest = same_found wanted.found c.in_ok-newest.newest (sym wanted.here ∙ c.in_ok-newest.was) in
    c.next_good.ensures.none c.in_err-anchor.was anchor (subst (λ (f : Found). IsNextAnchor c.args.bad.now (f.page / c.args.geometry.pages) anchor) same wanted.next)
