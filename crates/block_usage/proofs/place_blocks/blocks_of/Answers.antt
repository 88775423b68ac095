use Rattle.std.proofs.Common.{◌-◌, [], refl, sym, subst}
use Rattle.std.proofs.lemmas.Result.{IfOk-weaker}
use Rattle.fs_types.specs.declared.limits.TheConstants.{MAX_NAMES}
use Rattle.node_format.specs.Headers.{body_header}
use Rattle.node_format.specs.declared.place.Place.{Place}
use Rattle.node_format.specs.declared.place.Place.TheVariants.{File}
use Rattle.nodes.specs.Trees.{HasTree}
use Rattle.block_usage.specs.Usages.{AreBlocksOf}
use Rattle.block_usage.proofs.BodyBlocks.{body_blocks}
use Rattle.block_usage.proofs.place_blocks.blocks_of.Goals as goal

pub directory_blocks-requires-clause-tree : goal.directory_blocks-requires-clause-tree
directory_blocks-requires-clause-tree g c =
    subst (λ (at : Place). HasTree (g.N.Nodes.limit c.args.nodes.now - body_header) (g.N.Nodes.node c.args.nodes.now) at MAX_NAMES) c.in-Dir.is c.requires.tree

pub file_blocks-requires-clause-body : goal.file_blocks-requires-clause-body
file_blocks-requires-clause-body g c =
    let tree = subst (λ (at : Place). HasTree (g.N.Nodes.limit c.args.nodes.now - body_header) (g.N.Nodes.node c.args.nodes.now) at MAX_NAMES) c.in-File.is c.requires.tree in
    (tree [] (File c.in-File.head c.in-File.length) refl).0

pub returns-in-File-clause-blocks : goal.returns-in-File-clause-blocks
returns-in-File-clause-blocks g c =
    let f = g.N.Nodes.node c.args.nodes.now in
    let capacity = g.N.Nodes.limit c.args.nodes.now - body_header in
    let tree = subst (λ (at : Place). HasTree capacity f at MAX_NAMES) c.in-File.is c.requires.tree in
    let body = (tree [] (File c.in-File.head c.in-File.length) refl).0 in
    IfOk-weaker c.file_blocks.result _ _
    (λ blocks are. subst (λ (at : Place). AreBlocksOf f at blocks.items) (sym c.in-File.is) (body_blocks capacity f c.in-File.head c.in-File.length blocks.items body are)) c.file_blocks.ensures.blocks
