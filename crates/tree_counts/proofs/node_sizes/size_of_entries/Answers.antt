use Rattle.std.proofs.Common.{◌∙◌, ap}
use Rattle.node_format.specs.declared.place.Place.{Place}
use Rattle.tree_counts.specs.Sizes.{sized, place_length}
use Rattle.tree_counts.proofs.Weights.{one_summed}
use Rattle.tree_counts.proofs.node_sizes.size_of_entries.Goals as goal

pub loop-entry-preserved : goal.loop-entry-preserved
loop-entry-preserved c =
    one_summed c.loop-entry.size c.of_place.result c.plus-size.result c.in-Some.entry c.next.new.self c.args.list c.loop-entry.entry-iterator c.in-Some.ensures.steps
    (c.of_place.ensures ∙ ap (λ (p : Place). sized 1 (place_length p)) c.place.ensures) c.plus-size.ensures c.loop-entry.invariant
