use Rattle.std.proofs.Common.{◌≡◌, ◌++◌, take}
use Rattle.std.specs.List.{flat_map}
use Rattle.block_usage.specs.MapTexts.{legend_line}
use Rattle.block_usage.proofs.map_texts.add_legend.Given as goal

abbrev pub invariant-loop-kind : goal.invariant-loop-kind
invariant-loop-kind l = l.out.items ≡ l.fn.out.items ++ flat_map (legend_line l.kinds) (take l.kind-index l.told)
