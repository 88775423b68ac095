use Rattle.std.proofs.Common.{◌-◌, [], refl, arith}
use Rattle.node_format.specs.Headers.{body_header}
use Rattle.tree_edits.specs.declared.file_body.Body.{Body}
use Rattle.tree_edits.proofs.AppliedEdits.{is_applied}
use Rattle.tree_edits.proofs.Lookups.{file_below}
use Rattle.tree_edits.proofs.NewBytes.{file_result, keeps_itself, empty_written, empty_from}
use Rattle.tree_edits.proofs.files.put_empty.Goals as goal

pub returns-clause-applied : goal.returns-clause-applied
returns-clause-applied g c =
    let old = c.args.nodes.now in
    let new = c.put_body.new.nodes in
    let there = c.requires.fits in
    let none : Body = record { head = 0; length = 0 } in
    is_applied
    (file_result (g.N.Nodes.limit c.args.nodes.now - body_header) (g.N.Nodes.node old) (g.N.Nodes.node old) (g.N.Nodes.node new) (g.N.Nodes.kept old) (g.N.Nodes.kept old) (g.N.Nodes.kept new) c.args.root c.args.path.now there.0 none [] c.put_body.result
    (keeps_itself (g.N.Nodes.kept old) (g.N.Nodes.node old)) c.put_body.ensures.keeps c.requires.looked.held c.requires.looked.rooted c.requires.looked.lawful there.1 there.2
    (empty_written (g.N.Nodes.limit c.args.nodes.now - body_header) (g.N.Nodes.node old) (g.N.Nodes.kept old) none refl refl) (empty_from (g.N.Nodes.node old) (g.N.Nodes.kept old) c.args.root (g.N.Nodes.node old) none refl) c.put_body.ensures.rewritten c.put_body.ensures.reaches)
    c.put_body.ensures.keeps c.put_body.ensures.calls (omega arith)

pub put_body-requires-clause-sought : goal.put_body-requires-clause-sought
put_body-requires-clause-sought g c =
    let there = c.requires.fits in
    record {
      below = file_below (g.N.Nodes.node c.args.nodes.now) c.args.root c.args.path.now there.0 there.1 there.2;
      held = c.requires.looked.held;
      way = c.requires.looked.way;
    }

pub returns-clause-reads : goal.returns-clause-reads
returns-clause-reads g c = c.put_body.ensures.calls.reads
