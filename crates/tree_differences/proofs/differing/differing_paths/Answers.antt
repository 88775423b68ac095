use Rattle.std.proofs.Common.{◌∙◌, ◌++◌, ◌-◌, List, Some, ap₂}
use Rattle.fs_types.specs.Names.{Path}
use Rattle.fs_types.specs.declared.limits.TheConstants.{MAX_NAMES}
use Rattle.node_format.specs.Headers.{body_header}
use Rattle.node_format.specs.declared.place.Place.TheVariants.{Dir}
use Rattle.tree_differences.specs.Differing.{differing_below}
use Rattle.tree_differences.proofs.Below.{paths_told, readable_root}
use Rattle.tree_differences.proofs.differing.differing_paths.Goals as goal

pub add_below-requires-clause-place : goal.add_below-requires-clause-place
add_below-requires-clause-place g c = readable_root (g.N.Nodes.limit c.args.nodes.now - body_header) (g.N.Nodes.node c.args.nodes.now) c.args.root c.requires.tree

pub add_below-requires-clause-other : goal.add_below-requires-clause-other
add_below-requires-clause-other g c = readable_root (g.N.Nodes.limit c.args.nodes.now - body_header) (g.N.Nodes.node c.args.nodes.now) c.args.other c.requires.other

pub returns-clause-paths : goal.returns-clause-paths
returns-clause-paths g c =
    let f = g.N.Nodes.node c.args.nodes.now in
    c.in_ok-add_below.ensures.ok
    ∙ ap₂ (λ (a : List Path) (d : Path). a ++ differing_below f MAX_NAMES d (Dir c.args.root) (Some (Dir c.args.other))) c.new-paths.ensures c.root-path.ensures
    ∙ paths_told (g.N.Nodes.limit c.args.nodes.now - body_header) f c.args.root c.args.other c.requires.tree
