use Rattle.tree_edits.proofs.Lookups.{file_room}
use Rattle.tree_edits.proofs.files.put_body.Goals as goal

pub put_entry-requires-clause-room : goal.put_entry-requires-clause-room
put_entry-requires-clause-room g c =
    let there = c.requires.fits in
    file_room (g.N.Nodes.node c.args.nodes.now) c.args.root c.args.path.now there.0 there.1 there.2
