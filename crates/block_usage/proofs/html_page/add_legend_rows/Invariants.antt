use Rattle.std.proofs.Common.{◌≡◌, ◌++◌, take}
use Rattle.std.specs.List.{flat_map}
use Rattle.block_usage.specs.HtmlPages.{legend_row}
use Rattle.block_usage.proofs.html_page.add_legend_rows.Given as goal

abbrev pub invariant-loop-kind : goal.invariant-loop-kind
invariant-loop-kind l = l.out.items ≡ l.fn.out.items ++ flat_map (legend_row l.kinds) (take l.kind-index l.told)
