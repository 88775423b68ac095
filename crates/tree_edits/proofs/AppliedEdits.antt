-- An edit applied, by what its calls asked of nodes.
use Rattle.std.specs.Prelude.{ℕ, ◌-◌, ◌≤◌, Result, IfOk}
use Rattle.std.proofs.Common.{arith}
use Rattle.fs_types.specs.declared.fault.Fault.{Fault}
use Rattle.plain_trees.specs.Trees.{Tree}
use Rattle.node_format.specs.Headers.{body_header}
use Rattle.nodes.specs.Words.{Keeps, WorksWithin}
use Rattle.nodes.specs.declared.nodes.Nodes.{Ghosts}
use Rattle.directory.specs.Trails.{IsChangeFault}
use Rattle.tree_edits.specs.Roots.{IsNewRoot, IsApplied}

pub is_applied : {S : Type 0} {N : Ghosts S} {from r w most : ℕ} {edited : Tree} {s t : S} {result : Result ℕ Fault} → IfOk result (λ to. IsNewRoot (N.limit s - body_header) (N.node s) (N.kept s) (N.node t) (N.kept t) from to edited) → Keeps N s t
    → WorksWithin N IsChangeFault r w s result t → w ≤ most → IsApplied N from edited most s result t
is_applied new_root keeps calls few = record {
  new_root = new_root;
  keeps = keeps;
  works = calls.works;
  writes = omega (arith, calls.writes, few);
  why = calls.why;
  faults = calls.faults;
}
