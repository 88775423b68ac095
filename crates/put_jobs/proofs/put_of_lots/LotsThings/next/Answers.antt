use Rattle.std.proofs.Common.{◌<◌, ℕ, List, Option, sym, subst}
use Rattle.std.specs.Prelude.{reverse}
use Rattle.std.specs.List.{flat_map}
use Rattle.std.proofs.lemmas.Result.{IfOk-weaker}
use Rattle.fs_types.specs.declared.event.Event.{Event}
use Rattle.put_lots.specs.Things.{thing_events}
use Rattle.put_jobs.specs.Gives.{GivesNext, GivesKnown}
use Rattle.put_jobs.proofs.GivesLemmas.{lots_given}
use Rattle.put_jobs.proofs.put_of_lots.LotsThings.next.Goals as goal

pub returns-clause-ok : goal.returns-clause-ok
returns-clause-ok g c =
    let old = c.args.self.now.left.items in
    let new = c.pop.new.self.items in
    IfOk-weaker c.next_events.result _ _
    (λ next is. subst (λ (x : Option (List Event)). GivesNext (GivesKnown (flat_map thing_events (reverse old))) (GivesKnown (flat_map thing_events (reverse new))) x) (sym is)
    (lots_given old new c.pop.result c.pop.ensures.items (λ some. c.pop.ensures.variant.1 (subst (λ (n : ℕ). 0 < n) (sym c.args.self.now.left.ok.0) some)))) c.next_events.ensures.ok
