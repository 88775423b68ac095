use Rattle.std.proofs.Common.{◌≡◌, Ok, true, false, ◌≤◌, drop}
use Rattle.std.specs.Prelude.{slice_index}
use Rattle.std.specs.Option.{is_some}
use Rattle.nodes.specs.Words.{WorksWithin}
use Rattle.node_format.specs.Items.{is_place}
use Rattle.node_format.specs.declared.place.Place.TheVariants.{Dir}
use Rattle.nodes.specs.Rewritten.{IsRewritten}
use Rattle.directory.specs.Counts.{path_nodes}
use Rattle.directory.specs.Trails.{IsChangeFault}
use Rattle.directory.proofs.edits.rewrite_from.Given as goal

-- the directories from level i on are written
abbrev pub invariant-loop-i : goal.invariant-loop-i
invariant-loop-i g l = record {
  from : l.level ≤ l.i;
  lawful : is_place (Dir l.to) ≡ true;
  rewritten : IsRewritten (g.N.Nodes.node l.fn.nodes) (g.N.Nodes.node l.nodes) (g.N.Nodes.kept l.fn.nodes) (g.N.Nodes.kept l.nodes) (slice_index l.trail l.i) l.to (drop l.i l.names) l.fn.place;
  calls : WorksWithin g.N.Nodes IsChangeFault (path_nodes (g.N.Nodes.node l.fn.nodes) l.trail l.names false l.i) (path_nodes (g.N.Nodes.node l.fn.nodes) l.trail l.names (is_some l.fn.place) l.i) l.fn.nodes (Ok l.to) l.nodes;
}
