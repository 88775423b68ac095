use Rattle.std.proofs.Common.{◌≡◌, ◌++◌, drop, length}
use Rattle.block_usage.specs.HtmlPages.{cell_text, cells_text}
use Rattle.block_usage.specs.MapTexts.{each_from}
use Rattle.block_usage.proofs.html_page.add_cells.Given as goal

abbrev pub invariant-loop-place : goal.invariant-loop-place
invariant-loop-place l = l.out.items ++ each_from (cell_text (length l.kinds)) l.place (drop l.place l.kinds) ≡ l.fn.out.items ++ cells_text l.kinds
