use Rattle.std.proofs.Common.{◌<◌, length, ap, sym, ◌∙◌, arith}
use Rattle.std.proofs.lemmas.Bool.{eqb-true, eqb-false}
use Rattle.std.specs.Option.{is_some}
use Rattle.directory.specs.Trails.{has_room}
use Rattle.nodes.specs.WordLaws.{works_wider, works_idle}
use Rattle.tree_edits.proofs.ManyFiles.{linked_root, linked_below, path_nodes-stands}
use Rattle.tree_edits.proofs.NewBytes.{keeps_itself}
use Rattle.tree_edits.proofs.directory_files.link_directory.Goals as goal

pub returns-then-is_root-clause-linked : goal.returns-then-is_root-clause-linked
returns-then-is_root-clause-linked g c =
    let old = c.args.nodes.now in
    linked_root (g.N.Nodes.node old) (g.N.Nodes.node old) (g.N.Nodes.kept old) (g.N.Nodes.kept old) c.args.root c.args.block c.args.directory.now
    (eqb-true (length c.args.directory.now) 0 (sym c.is_root.ensures ∙ c.if-is_root.true))

pub returns-then-is_root-clause-keeps : goal.returns-then-is_root-clause-keeps
returns-then-is_root-clause-keeps g c = keeps_itself (g.N.Nodes.kept c.args.nodes.now) (g.N.Nodes.node c.args.nodes.now)

pub put_entry-requires-clause-sought : goal.put_entry-requires-clause-sought
put_entry-requires-clause-sought g c =
    let other = eqb-false (length c.args.directory.now) 0 (sym c.is_root.ensures ∙ c.if-is_root.false) in
    record { below = omega arith; held = c.requires.held; way = c.requires.way }

pub put_entry-requires-clause-room : goal.put_entry-requires-clause-room
put_entry-requires-clause-room g c = ap has_room c.requires.led.1

pub returns-clause-linked : goal.returns-clause-linked
returns-clause-linked g c =
    let old = c.args.nodes.now in
    let new = c.put_entry.new.nodes in
    let other = eqb-false (length c.args.directory.now) 0 (sym c.is_root.ensures ∙ c.if-is_root.false) in
    let some : 0 < length c.args.directory.now = omega arith in
    linked_below (g.N.Nodes.node old) (g.N.Nodes.node new) (g.N.Nodes.kept old) (g.N.Nodes.kept new) c.args.root c.args.block c.args.directory.now c.put_entry.result some c.put_entry.ensures.rewritten

pub returns-clause-calls : goal.returns-clause-calls
returns-clause-calls g c =
    let few = path_nodes-stands (g.N.Nodes.node c.args.nodes.now) c.args.root c.args.directory.now c.args.trail.now c.requires.way (ap is_some c.requires.led.2) in
    works_wider c.put_entry.ensures.calls (omega arith) (omega (arith, few))

pub returns-then-is_root-clause-calls : goal.returns-then-is_root-clause-calls
returns-then-is_root-clause-calls g c = works_wider (works_idle g.met.N.Nodes.follows_itself c.args.nodes.now c.requires.sound) (omega arith) (omega arith)
