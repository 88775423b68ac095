use Rattle.std.proofs.Common.{◌≡◌, ◌+◌, ◌⊎◌, ◌%◌, ◌<◌, true, List, Some, length, ap, sym, subst, ◌∙◌, arith, refl}
use Rattle.std.proofs.lemmas.Result.{IfOk-weaker, err_from_is_err_and}
use Rattle.fs_types.specs.declared.limits.TheConstants.{NODE_ENTRIES}
use Rattle.plain_trees.specs.Trees.{nodes_for}
use Rattle.node_format.specs.Items.{Item}
use Rattle.node_format.specs.Edits.{IsEdited}
use Rattle.nodes.specs.Trees.{entries_in, items_in}
use Rattle.directory.specs.Counts.{written_nodes}
use Rattle.directory.specs.Trails.{takes, IsChangeFault}
use Rattle.nodes.specs.WordLaws.{works_after, works_looking, works_refused, works_wider}
use Rattle.directory.proofs.NodeCalls.{look_refused}
use Rattle.directory.proofs.TrailEdits.{write_refused}
use Rattle.directory.proofs.ListEdits.{takes_some, still_takes, lawful_few, full_tail, edit_done, nodes_written, written_most}
use Rattle.directory.proofs.edits.edit_directory.Goals as goal

pub read_list-requires-clause-there : goal.read_list-requires-clause-there
read_list-requires-clause-there g c = takes_some (entries_in (g.N.Nodes.node c.args.nodes.now) c.args.block) c.args.name.now c.args.place c.requires.takes

pub edit_list-requires-clause-takes : goal.edit_list-requires-clause-takes
edit_list-requires-clause-takes g c =
    let r = c.in_ok-read.ensures.read in
    subst (λ (items : List Item). takes (Some items) c.args.name.now c.args.place ≡ true) (sym c.list.ensures)
    (still_takes (g.N.Nodes.node c.args.nodes.now) c.args.block r.0 c.in_ok-read.read c.in_ok-read.tail c.args.name.now c.args.place r.1 c.in_ok-read.ensures.enough c.requires.takes)

pub write_list-requires-clause-sound : goal.write_list-requires-clause-sound
write_list-requires-clause-sound g c = c.read_list.ensures.calls.looks.sound

pub write_list-requires-clause-few : goal.write_list-requires-clause-few
write_list-requires-clause-few g c =
    let lawful = c.in_ok-edited.ensures.lawful in
    let most = lawful_few c.in_ok-edited.edited lawful in
    omega (arith, most, ap length c.list-2.ensures)

pub write_list-requires-clause-full : goal.write_list-requires-clause-full
write_list-requires-clause-full g c =
    let r = c.in_ok-read.ensures.read in
    subst (λ (items : List Item). (c.in_ok-read.tail ≡ 0) ⊎ ((0 < length items) × (length items % NODE_ENTRIES ≡ 0))) (sym c.list-2.ensures)
    (full_tail (g.N.Nodes.node c.args.nodes.now) c.args.block r.0 c.in_ok-read.read c.in_ok-edited.edited c.in_ok-read.tail c.args.name.now c.args.place r.1 c.in_ok-read.ensures.enough (subst (λ (items : List Item). IsEdited items c.args.name.now c.args.place c.in_ok-edited.edited) c.list.ensures c.in_ok-edited.ensures))

pub returns-clause-edited : goal.returns-clause-edited
returns-clause-edited g c =
    let old = c.args.nodes.now in
    let mid = c.read_list.new.nodes in
    let new = c.write_list.new.nodes in
    let r = c.in_ok-read.ensures.read in
    let looks = c.read_list.ensures.calls.looks in
    let edited : IsEdited c.in_ok-read.read c.args.name.now c.args.place c.in_ok-edited.edited = subst (λ (items : List Item). IsEdited items c.args.name.now c.args.place c.in_ok-edited.edited) c.list.ensures c.in_ok-edited.ensures in
    edit_done (g.N.Nodes.node old) (g.N.Nodes.node mid) (g.N.Nodes.node new) (g.N.Nodes.kept old) (g.N.Nodes.kept mid) (g.N.Nodes.kept new) c.args.block r.0 c.in_ok-read.read c.in_ok-edited.edited c.list-2.result c.in_ok-read.tail c.args.name.now c.args.place c.write_list.result
    looks.same_nodes looks.same_kept c.list-2.ensures c.requires.held r.1 c.in_ok-read.ensures.enough edited c.write_list.ensures.put

pub returns-in_err-read-clause-calls : goal.returns-in_err-read-clause-calls
returns-in_err-read-clause-calls g c =
    let read = works_looking {IsOther = IsChangeFault} g.met.N.Nodes.looks_works c.args.nodes.now c.read_list.new.nodes (λ fault is. is) look_refused c.in_err-read.ensures.calls in
    let p = err_from_is_err_and c.from_residual.result c.from_residual.ensures.1 in
    rw (p.1, p.2) (works_wider (works_refused read) (omega arith) (omega arith))

pub returns-in_err-edited-clause-calls : goal.returns-in_err-edited-clause-calls
returns-in_err-edited-clause-calls g c =
    let read = works_looking {IsOther = IsChangeFault} g.met.N.Nodes.looks_works c.args.nodes.now c.read_list.new.nodes (λ fault is. is) look_refused c.in_ok-read.ensures.calls in
    let p = err_from_is_err_and c.from_residual-in_err-edited.result c.from_residual-in_err-edited.ensures.1 in
    rw (p.1, p.2) (record { works = read.works; reads = omega (arith, read.reads); writes = omega (arith, read.writes); why = g.met.N.Nodes.memory_may_want c.args.nodes.now c.read_list.new.nodes; faults = refl })

pub returns-clause-calls : goal.returns-clause-calls
returns-clause-calls g c =
    let old = c.args.nodes.now in
    let r = c.in_ok-read.ensures.read in
    let edited : IsEdited c.in_ok-read.read c.args.name.now c.args.place c.in_ok-edited.edited = subst (λ (items : List Item). IsEdited items c.args.name.now c.args.place c.in_ok-edited.edited) c.list.ensures c.in_ok-edited.ensures in
    let nodes : nodes_for (length c.list-2.result) ≡ written_nodes (items_in (g.N.Nodes.node old) c.args.block) c.args.name.now c.args.place =
    ap (λ (items : List Item). nodes_for (length items)) c.list-2.ensures ∙ nodes_written (g.N.Nodes.node old) c.args.block r.0 c.in_ok-read.read c.in_ok-edited.edited c.in_ok-read.tail c.args.name.now c.args.place r.1 c.in_ok-read.ensures.enough edited in
    let most = written_most (items_in (g.N.Nodes.node old) c.args.block) c.args.name.now c.args.place in
    let read = works_looking {IsOther = IsChangeFault} g.met.N.Nodes.looks_works c.args.nodes.now c.read_list.new.nodes (λ fault is. is) look_refused c.in_ok-read.ensures.calls in
    works_after g.met.N.Nodes.works_on g.met.N.Nodes.causes_on old c.read_list.new.nodes c.write_list.new.nodes write_refused read c.write_list.ensures.calls (omega arith) (omega (arith, nodes, most))

pub returns-clause-written : goal.returns-clause-written
returns-clause-written g c =
    let old = c.args.nodes.now in
    let new = c.write_list.new.nodes in
    let r = c.in_ok-read.ensures.read in
    let edited : IsEdited c.in_ok-read.read c.args.name.now c.args.place c.in_ok-edited.edited = subst (λ (items : List Item). IsEdited items c.args.name.now c.args.place c.in_ok-edited.edited) c.list.ensures c.in_ok-edited.ensures in
    let nodes : nodes_for (length c.list-2.result) ≡ written_nodes (items_in (g.N.Nodes.node old) c.args.block) c.args.name.now c.args.place =
    ap (λ (items : List Item). nodes_for (length items)) c.list-2.ensures ∙ nodes_written (g.N.Nodes.node old) c.args.block r.0 c.in_ok-read.read c.in_ok-edited.edited c.in_ok-read.tail c.args.name.now c.args.place r.1 c.in_ok-read.ensures.enough edited in
    let same = c.read_list.ensures.calls.looks.same_writes in
    IfOk-weaker c.write_list.result (λ _. g.N.Nodes.writes new ≡ g.N.Nodes.writes c.read_list.new.nodes + nodes_for (length c.list-2.result))
    (λ _. g.N.Nodes.writes new ≡ g.N.Nodes.writes old + written_nodes (items_in (g.N.Nodes.node old) c.args.block) c.args.name.now c.args.place) (λ to wrote. omega (arith, wrote, same, nodes)) c.write_list.ensures.written
