use Rattle.std.proofs.Common.{◌≡◌, ◌≤◌, ◌+◌, ◌*◌, ℕ, true, List, length, Ok}
use Rattle.std.specs.Prelude.{Contains}
use Rattle.std.specs.FinSet as set
use Rattle.nodes.specs.Faults.{IsLookFault}
use Rattle.nodes.specs.Words.{LooksWithin}
use Rattle.directory.specs.Depths.{HasDirectories, loud_of}
use Rattle.directory.proofs.Levels.{IsLevel}
use Rattle.directory.proofs.depths.any_is_deeper.Given as goal

-- the directories that paths of so many names lead to
abbrev pub invariant-loop-done : goal.invariant-loop-done
invariant-loop-done g l = record {
  level : IsLevel (g.N.Nodes.node l.fn.nodes) l.roots l.most l.done l.level.blocks l.level.members;
  size : l.level.blocks ≡ g.N.Nodes.blocks l.fn.nodes;
  listed : (list : List ℕ) → HasDirectories (g.N.Nodes.node l.fn.nodes) (g.N.Nodes.blocks l.fn.nodes) l.roots list → (b : ℕ) → set.contains l.level.members b ≡ true → Contains list b;
  reads : (list : List ℕ) → HasDirectories (g.N.Nodes.node l.fn.nodes) (g.N.Nodes.blocks l.fn.nodes) l.roots list → g.N.Nodes.reads l.nodes ≤ g.N.Nodes.reads l.fn.nodes + l.done * length (loud_of l.quiet.members list);
  calls : LooksWithin g.N.Nodes IsLookFault (l.done * g.N.Nodes.blocks l.fn.nodes) l.fn.nodes (Ok l.done) l.nodes;
}
