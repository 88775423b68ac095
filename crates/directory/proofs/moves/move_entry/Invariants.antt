use Rattle.std.proofs.Common.{◌≡◌, ℕ, Ok, true, ◌≤◌, ◌+◌, take, drop}
use Rattle.std.specs.Prelude.{slice_index}
use Rattle.std.specs.List.{sum_by}
use Rattle.nodes.specs.Words.{WorksWithin}
use Rattle.node_format.specs.Items.{is_place}
use Rattle.node_format.specs.declared.place.Place.TheVariants.{Dir}
use Rattle.nodes.specs.Rewritten.{IsMoved}
use Rattle.directory.specs.Counts.{nodes_in, move_nodes}
use Rattle.directory.specs.Trails.{IsChangeFault}
use Rattle.directory.proofs.moves.move_entry.Given as goal

-- the directories from level i on are written
abbrev pub invariant-loop-i : goal.invariant-loop-i
invariant-loop-i g l = record {
  lawful : is_place (Dir l.to) ≡ true;
  moved : IsMoved (g.N.Nodes.node l.fn.nodes) (g.N.Nodes.node l.nodes) (g.N.Nodes.kept l.fn.nodes) (g.N.Nodes.kept l.nodes) (slice_index l.blocks l.i) l.to (drop l.i l.names) (drop l.i l.fn.new) l.fn.place;
  calls : (r : ℕ) × (w : ℕ) × WorksWithin g.N.Nodes IsChangeFault r w l.fn.nodes (Ok l.to) l.nodes
      × (r + sum_by (nodes_in (g.N.Nodes.node l.fn.nodes)) (take l.i l.blocks) ≤ move_nodes (g.N.Nodes.node l.fn.nodes) l.fn.old_trail l.fn.old l.fn.new_trail l.fn.new)
      × (w + sum_by (nodes_in (g.N.Nodes.node l.fn.nodes)) (take l.i l.blocks) ≤ move_nodes (g.N.Nodes.node l.fn.nodes) l.fn.old_trail l.fn.old l.fn.new_trail l.fn.new);
}
