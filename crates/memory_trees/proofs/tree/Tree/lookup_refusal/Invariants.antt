use Rattle.std.proofs.Common.{◌≡◌, ◌-◌, take, drop}
use Rattle.std.specs.FinMap.{get}
use Rattle.plain_trees.specs.Contents.{lookup_refusal, under}
use Rattle.memory_trees.proofs.tree.Tree.lookup_refusal.Given as goal

abbrev pub invariant-loop-i : goal.invariant-loop-i
invariant-loop-i l = lookup_refusal (under (get l.self) (take (l.i - 1) l.path)) (drop (l.i - 1) l.path) ≡ lookup_refusal (get l.self) l.path
