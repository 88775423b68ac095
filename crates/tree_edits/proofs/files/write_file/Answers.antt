use Rattle.std.proofs.Common.{◌-◌, true, false, ◌∙◌, inr, arith}
use Rattle.std.proofs.lemmas.Result.{err_from_is_err_and}
use Rattle.node_format.specs.Headers.{body_header}
use Rattle.directory.proofs.Held.{held_later}
use Rattle.directory.proofs.TrailEdits.{look_later, trail_later}
use Rattle.nodes.specs.WordLaws.{works_both}
use Rattle.tree_edits.proofs.ManyFiles.{keeps_on}
use Rattle.tree_edits.proofs.AppliedEdits.{is_applied}
use Rattle.tree_edits.proofs.NewBytes.{file_result, body_fault}
use Rattle.tree_edits.proofs.Lookups.{file_below}
use Rattle.tree_edits.proofs.Needs.{path_nodes-later}
use Rattle.tree_edits.proofs.files.write_file.Goals as goal

pub returns-clause-applied : goal.returns-clause-applied
returns-clause-applied g c =
    let old = c.args.nodes.now in
    let mid = c.write_body.new.nodes in
    let new = c.put_body.new.nodes in
    let capacity = (g.N.Nodes.limit c.args.nodes.now - body_header) in
    let there = c.requires.fits in
    let same = path_nodes-later (g.N.Nodes.node c.args.nodes.now) (g.N.Nodes.node c.write_body.new.nodes) (g.N.Nodes.kept c.args.nodes.now) (g.N.Nodes.kept c.write_body.new.nodes) c.args.path.now c.args.trail.now true
    (record { root = c.args.root; trail_of = c.requires.looked.way; held = c.requires.looked.held }) c.write_body.ensures.keeps in
    is_applied
    (file_result capacity (g.N.Nodes.node old) (g.N.Nodes.node mid) (g.N.Nodes.node new) (g.N.Nodes.kept old) (g.N.Nodes.kept mid) (g.N.Nodes.kept new) c.args.root c.args.path.now there.0 c.in_ok-new.new
    c.args.bytes.now c.put_body.result c.write_body.ensures.keeps c.put_body.ensures.keeps c.requires.looked.held c.requires.looked.rooted c.requires.looked.lawful there.1 there.2 c.in_ok-new.ensures.written
    (λ root block names reached. inr (c.in_ok-new.ensures.fresh root block names reached)) c.put_body.ensures.rewritten c.put_body.ensures.reaches)
    (keeps_on (g.N.Nodes.node old) (g.N.Nodes.node mid) (g.N.Nodes.node new) (g.N.Nodes.kept old) (g.N.Nodes.kept mid) (g.N.Nodes.kept new) c.write_body.ensures.keeps c.put_body.ensures.keeps)
    (works_both g.met.N.Nodes.works_on g.met.N.Nodes.causes_on old mid new c.in_ok-new.ensures.calls c.put_body.ensures.calls) (omega (arith, same))

pub put_body-requires-clause-sought : goal.put_body-requires-clause-sought
put_body-requires-clause-sought g c =
    let old = c.args.nodes.now in
    let mid = c.write_body.new.nodes in
    let there = c.requires.fits in
    record {
      below = file_below (g.N.Nodes.node old) c.args.root c.args.path.now there.0 there.1 there.2;
      held = held_later (g.N.Nodes.node old) (g.N.Nodes.node mid) (g.N.Nodes.kept old) (g.N.Nodes.kept mid) c.write_body.ensures.keeps c.args.root c.requires.looked.held;
      way = trail_later (g.N.Nodes.node old) (g.N.Nodes.node mid) (g.N.Nodes.kept old) (g.N.Nodes.kept mid) c.write_body.ensures.keeps c.args.path.now c.args.root c.args.trail.now c.requires.looked.held c.requires.looked.way;
    }

pub put_body-requires-clause-fits : goal.put_body-requires-clause-fits
put_body-requires-clause-fits g c =
    let old = c.args.nodes.now in
    let mid = c.write_body.new.nodes in
    let there = c.requires.fits in
    (there.0, look_later (g.N.Nodes.node old) (g.N.Nodes.node mid) (g.N.Nodes.kept old) (g.N.Nodes.kept mid) c.write_body.ensures.keeps c.args.path.now c.args.root c.requires.looked.held ∙ there.1, there.2)

pub put_body-requires-clause-sound : goal.put_body-requires-clause-sound
put_body-requires-clause-sound g c = c.write_body.ensures.calls.works.sound

pub returns-in_err-new-clause-applied : goal.returns-in_err-new-clause-applied
returns-in_err-new-clause-applied g c =
    let p = err_from_is_err_and c.from_residual.result c.from_residual.ensures.1 in
    let calls = c.in_err-new.ensures.calls in
    rw (p.1, p.2) (record {
      new_root = tt;
      keeps = c.write_body.ensures.keeps;
      works = calls.works;
      writes = omega (arith, calls.writes);
      why = calls.why;
      faults = body_fault c.in_err-new.field-0.0 calls.faults;
    })

-- the directories of the path have as many nodes after the body was written

pub returns-clause-reads : goal.returns-clause-reads
returns-clause-reads g c =
    let same = path_nodes-later (g.N.Nodes.node c.args.nodes.now) (g.N.Nodes.node c.write_body.new.nodes) (g.N.Nodes.kept c.args.nodes.now) (g.N.Nodes.kept c.write_body.new.nodes) c.args.path.now c.args.trail.now false
    (record { root = c.args.root; trail_of = c.requires.looked.way; held = c.requires.looked.held }) c.write_body.ensures.keeps in
    omega (arith, same, c.write_body.ensures.calls.reads, c.put_body.ensures.calls.reads)
