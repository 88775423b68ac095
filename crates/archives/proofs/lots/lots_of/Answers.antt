use Rattle.std.proofs.Common.{◌≡◌, subst, sym, ◌∙◌, List}
use Rattle.std.proofs.lemmas.List.{map-id}
use Rattle.std.proofs.lemmas.Iterator.Adapters.{YieldsList-from_vec}
use Rattle.std.proofs.lemmas.Iterator.Consumers.{YieldsList-end}
use Rattle.put_lots.specs.declared.thing.Thing.{Thing}
use Rattle.archives.proofs.LotLemmas.{HasTaken, all-taken}
use Rattle.archives.proofs.lots.lots_of.Goals as goal

pub returns : goal.returns
returns c =
    let gives = c.into_iter-thing-iterator.ensures.into_iter_gives in
    let end = YieldsList-end (YieldsList-from_vec {s = c.into_iter-thing-iterator.result} c.args.things.items gives.0 (gives.1 ∙ c.args.things.ok.0)) c.loop-thing.yielded c.loop-thing.thing-iterator c.loop-thing.yielded_by c.next.result c.next.new.self c.in-None.is c.next.ensures.steps in
    let whole : c.loop-thing.yielded ≡ c.args.things.items = sym (map-id c.loop-thing.yielded) ∙ end.0 in
    all-taken c.args.things.items c.loop-thing.lots.items c.push_some.new.lots.items c.loop-thing.last
    (subst (λ (things : List Thing). HasTaken things c.loop-thing.lots.items c.loop-thing.last) whole c.loop-thing.invariant) c.in_ok-push_some.ensures
