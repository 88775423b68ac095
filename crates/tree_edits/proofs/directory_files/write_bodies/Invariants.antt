use Rattle.std.proofs.Common.{◌-◌, Ok, length, take}
use Rattle.node_format.specs.Headers.{body_header}
use Rattle.nodes.specs.Words.{WorksWithin}
use Rattle.tree_edits.specs.Writing.{IsWritingFault}
use Rattle.plain_trees.specs.Files.{bodies_need}
use Rattle.tree_edits.specs.Edits.{chosen}
use Rattle.tree_edits.specs.Roots.{AreNewFiles}
use Rattle.tree_edits.proofs.directory_files.write_bodies.Given as goal

-- the bodies of the first files are written
abbrev pub invariant-loop-i : goal.invariant-loop-i
invariant-loop-i g l = record {
  written : AreNewFiles (g.N.Nodes.limit l.fn.nodes - body_header) (g.N.Nodes.kept l.fn.nodes) (g.N.Nodes.node l.nodes) (g.N.Nodes.kept l.nodes) (chosen (take l.i l.files) (take l.i l.changes)) l.puts.items;
  calls : WorksWithin g.N.Nodes IsWritingFault (length (chosen (take l.i l.files) (take l.i l.changes))) (bodies_need (g.N.Nodes.limit l.fn.nodes - body_header) (chosen (take l.i l.files) (take l.i l.changes))) l.fn.nodes (Ok l.i) l.nodes;
}
