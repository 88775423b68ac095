use Rattle.std.proofs.Common.{◌-◌, true, false, List, ℕ, subst, ◌∙◌, arith}
use Rattle.plain_trees.specs.Contents.{overwritten}
use Rattle.plain_trees.specs.Trees.{bytes_of_file}
use Rattle.node_format.specs.Headers.{body_header}
use Rattle.nodes.specs.Trees.{root_tree}
use Rattle.directory.specs.declared.lookups.Found.TheVariants as found
use Rattle.directory.proofs.Held.{held_later}
use Rattle.directory.proofs.LookupLaws.{rooted_leads}
use Rattle.directory.proofs.TrailEdits.{look_later, trail_later}
use Rattle.tree_edits.specs.Writing.{IsWritten}
use Rattle.tree_edits.proofs.ManyFiles.{keeps_on}
use Rattle.tree_edits.proofs.NewBytes.{file_result, from_file, file_whole, file_held, file_bytes, body_fault}
use Rattle.std.proofs.lemmas.Result.{err_from_is_err_and, IfErr-weaker}
use Rattle.fs_types.specs.declared.fault.Fault.{Fault}
use Rattle.tree_edits.proofs.Lookups.{file_named}
use Rattle.tree_edits.proofs.Needs.{path_nodes-later}
use Rattle.tree_edits.proofs.files.overwrite.Goals as goal

pub write_range-requires-clause-stored : goal.write_range-requires-clause-stored
write_range-requires-clause-stored g c =
    let capacity = g.N.Nodes.limit c.args.nodes.now - body_header in
    let f = g.N.Nodes.node c.args.nodes.now in
    record {
      whole = file_whole capacity f c.args.root c.args.path.now c.args.body.head c.args.body.length c.requires.looked.rooted c.requires.found;
      held = file_held f (g.N.Nodes.kept c.args.nodes.now) c.args.root c.args.path.now c.args.body.head c.args.body.length (rooted_leads capacity f c.args.root c.requires.looked.rooted) c.requires.looked.held c.requires.found;
    }

pub put_body-requires-clause-sought : goal.put_body-requires-clause-sought
put_body-requires-clause-sought g c =
    let old = c.args.nodes.now in
    let mid = c.write_range.new.nodes in
    record {
      below = file_named (g.N.Nodes.node old) c.args.root c.args.path.now c.args.body.head c.args.body.length c.requires.found;
      held = held_later (g.N.Nodes.node old) (g.N.Nodes.node mid) (g.N.Nodes.kept old) (g.N.Nodes.kept mid) c.write_range.ensures.keeps c.args.root c.requires.looked.held;
      way = trail_later (g.N.Nodes.node old) (g.N.Nodes.node mid) (g.N.Nodes.kept old) (g.N.Nodes.kept mid) c.write_range.ensures.keeps c.args.path.now c.args.root c.args.trail.now c.requires.looked.held c.requires.looked.way;
    }

pub put_body-requires-clause-fits : goal.put_body-requires-clause-fits
put_body-requires-clause-fits g c =
    let old = c.args.nodes.now in
    let mid = c.write_range.new.nodes in
    let there = found.File c.args.body.head c.args.body.length in
    (there, look_later (g.N.Nodes.node old) (g.N.Nodes.node mid) (g.N.Nodes.kept old) (g.N.Nodes.kept mid) c.write_range.ensures.keeps c.args.path.now c.args.root c.requires.looked.held ∙ c.requires.found, tt)

pub returns-clause-applied : goal.returns-clause-applied
returns-clause-applied g c =
    let old = c.args.nodes.now in
    let mid = c.write_range.new.nodes in
    let new = c.put_body.new.nodes in
    let capacity = (g.N.Nodes.limit c.args.nodes.now - body_header) in
    let written = subst (λ (bs : List ℕ). IsWritten capacity (g.N.Nodes.node mid) (g.N.Nodes.kept mid) c.in_ok-new.new (overwritten bs c.args.offset c.args.bytes.now))
    (file_bytes capacity (g.N.Nodes.node old) c.args.root c.args.path.now c.args.body.head c.args.body.length c.requires.looked.rooted c.requires.found) c.in_ok-new.ensures.written in
    let same = path_nodes-later (g.N.Nodes.node c.args.nodes.now) (g.N.Nodes.node c.write_range.new.nodes) (g.N.Nodes.kept c.args.nodes.now) (g.N.Nodes.kept c.write_range.new.nodes) c.args.path.now c.args.trail.now true
    (record { root = c.args.root; trail_of = c.requires.looked.way; held = c.requires.looked.held }) c.write_range.ensures.keeps in
    record {
      new_root =
          file_result capacity (g.N.Nodes.node old) (g.N.Nodes.node mid) (g.N.Nodes.node new) (g.N.Nodes.kept old) (g.N.Nodes.kept mid) (g.N.Nodes.kept new) c.args.root c.args.path.now (found.File c.args.body.head c.args.body.length) c.in_ok-new.new
          (overwritten (bytes_of_file (root_tree capacity (g.N.Nodes.node old) c.args.root) c.args.path.now) c.args.offset c.args.bytes.now) c.put_body.result c.write_range.ensures.keeps c.put_body.ensures.keeps c.requires.looked.held c.requires.looked.rooted c.requires.looked.lawful c.requires.found tt written
          (from_file capacity (g.N.Nodes.node old) (g.N.Nodes.node mid) (g.N.Nodes.kept old) c.args.root c.args.path.now c.args.body c.in_ok-new.new (rooted_leads capacity (g.N.Nodes.node old) c.args.root c.requires.looked.rooted) c.requires.found c.in_ok-new.ensures.reaches) c.put_body.ensures.rewritten c.put_body.ensures.reaches;
      keeps = keeps_on (g.N.Nodes.node old) (g.N.Nodes.node mid) (g.N.Nodes.node new) (g.N.Nodes.kept old) (g.N.Nodes.kept mid) (g.N.Nodes.kept new) c.write_range.ensures.keeps c.put_body.ensures.keeps;
      works = g.met.N.Nodes.works_on old mid new c.write_range.ensures.calls.works c.put_body.ensures.calls.works;
      writes = omega (arith, same, c.write_range.ensures.calls.writes, c.put_body.ensures.calls.writes);
      why =
          IfErr-weaker c.put_body.result _ (λ (fault : Fault). g.N.Nodes.causes old new fault)
          (λ fault why. g.met.N.Nodes.causes_on old mid new fault c.write_range.ensures.calls.works.came why) c.put_body.ensures.calls.why;
      faults = c.put_body.ensures.calls.faults;
    }

pub put_body-requires-clause-sound : goal.put_body-requires-clause-sound
put_body-requires-clause-sound g c = c.write_range.ensures.calls.works.sound

pub returns-in_err-new-clause-applied : goal.returns-in_err-new-clause-applied
returns-in_err-new-clause-applied g c =
    let p = err_from_is_err_and c.from_residual.result c.from_residual.ensures.1 in
    let calls = c.in_err-new.ensures.calls in
    rw (p.1, p.2) (record {
      new_root = tt;
      keeps = c.write_range.ensures.keeps;
      works = calls.works;
      writes = omega (arith, calls.writes);
      why = calls.why;
      faults = body_fault c.in_err-new.field-0.0 calls.faults;
    })

-- the directories of the path have as many nodes after the body was written

pub returns-clause-reads : goal.returns-clause-reads
returns-clause-reads g c = λ digits has.
    let same = path_nodes-later (g.N.Nodes.node c.args.nodes.now) (g.N.Nodes.node c.write_range.new.nodes) (g.N.Nodes.kept c.args.nodes.now) (g.N.Nodes.kept c.write_range.new.nodes) c.args.path.now c.args.trail.now false
    (record { root = c.args.root; trail_of = c.requires.looked.way; held = c.requires.looked.held }) c.write_range.ensures.keeps in
    let body = c.write_range.ensures.calls.reads digits has in
    omega (arith, same, body, c.put_body.ensures.calls.reads)
