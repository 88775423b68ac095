use Rattle.std.proofs.Common.{◌∙◌, false, Option, ap, is_lt}
use Rattle.std.specs.Option.{option_map_or}
use Rattle.fs_types.specs.Names.{Name}
use Rattle.node_format.specs.Items.{is_before}
use Rattle.reclaim.proofs.Follows.{by_first, front_enough}
use Rattle.reclaim.proofs.edge.comes_after.Goals as goal

pub returns-in_default : goal.returns-in_default
returns-in_default c page bytes l room front is =
    ap (λ (o : Option Name). option_map_or (is_before c.args.name.now) o false) (c.in_default.ensures bytes l front.alike (front_enough page c.args.front.now bytes room front) is) ∙ by_first c.args.name.now l

pub returns : goal.returns
returns c page bytes l room front is =
    c.is_lt.ensures ∙ ap is_lt c.cmp.ensures
    ∙ ap (λ (o : Option Name). option_map_or (is_before c.args.name.now) o false) (c.in-Some.ensures bytes l front.alike (front_enough page c.args.front.now bytes room front) is) ∙ by_first c.args.name.now l
