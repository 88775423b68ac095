use Rattle.std.proofs.Common.{◌≡◌, ◌∙◌, ◌+◌, ◌≤◌, List, length, get_or, sym, ap, subst, arith, refl}
use Rattle.std.proofs.lemmas.Result.{err_from_is_err_and}
use Rattle.plain_trees.specs.Trees.{nodes_for}
use Rattle.plain_trees.proofs.Needs.{nodes_for-le}
use Rattle.node_format.specs.Items.{Item}
use Rattle.nodes.specs.Trees.{items_in}
use Rattle.directory.specs.Puts.{count_missing, HasRoomFor, IsPutEach}
use Rattle.nodes.specs.WordLaws.{works_after, works_looking, works_refused, works_wider}
use Rattle.directory.specs.Trails.{IsChangeFault}
use Rattle.directory.proofs.TrailEdits.{write_refused}
use Rattle.directory.proofs.NodeCalls.{look_refused}
use Rattle.directory.proofs.ReadLists.{all_read}
use Rattle.directory.proofs.ListEdits.{last_read}
use Rattle.directory.proofs.DirectoryPuts.{items_are, each_done}
use Rattle.directory.proofs.directory_puts.put_in_directory.Goals as goal

pub put_each-requires-clause-room : goal.put_each-requires-clause-room
put_each-requires-clause-room g c =
    let f = g.N.Nodes.node c.args.nodes.now in
    let r = c.in_ok-read.ensures.read in
    let last = last_read c.in_ok-read.read c.in_ok-read.tail (get_or c.args.puts.now 0 c.index-puts-0.result).name.now c.in_ok-read.ensures.enough in
    subst (λ (items : List Item). HasRoomFor items c.args.puts.now)
    (items_are f c.args.block c.in_ok-read.read (all_read f c.args.block r.0 c.in_ok-read.read c.in_ok-read.tail r.1 last) ∙ sym c.list.ensures) c.requires.room

pub returns-clause-put : goal.returns-clause-put
returns-clause-put g c =
    let old = c.args.nodes.now in
    let mid = c.read_list.new.nodes in
    let new = c.write_list.new.nodes in
    let r = c.in_ok-read.ensures.read in
    let looks = c.read_list.ensures.calls.looks in
    let last = last_read c.in_ok-read.read c.in_ok-read.tail (get_or c.args.puts.now 0 c.index-puts-0.result).name.now c.in_ok-read.ensures.enough in
    let edited : IsPutEach c.in_ok-read.read c.args.puts.now c.in_ok-edited.edited = subst (λ (items : List Item). IsPutEach items c.args.puts.now c.in_ok-edited.edited) c.list.ensures c.in_ok-edited.ensures in
    each_done (g.N.Nodes.node old) (g.N.Nodes.node mid) (g.N.Nodes.node new) (g.N.Nodes.kept old) (g.N.Nodes.kept mid) (g.N.Nodes.kept new) c.args.block r.0 c.in_ok-read.read c.in_ok-edited.edited c.list-2.result c.in_ok-read.tail c.args.puts.now c.write_list.result
    looks.same_nodes looks.same_kept c.list-2.ensures r.1 last edited c.write_list.ensures.put

pub returns-in_err-read-clause-calls : goal.returns-in_err-read-clause-calls
returns-in_err-read-clause-calls g c =
    let read = works_looking {IsOther = IsChangeFault} g.met.N.Nodes.looks_works c.args.nodes.now c.read_list.new.nodes (λ fault is. is) look_refused c.in_err-read.ensures.calls in
    let p = err_from_is_err_and c.from_residual.result c.from_residual.ensures.1 in
    rw (p.1, p.2) (works_wider (works_refused read) (omega arith) (omega arith))

pub returns-in_err-edited-clause-calls : goal.returns-in_err-edited-clause-calls
returns-in_err-edited-clause-calls g c =
    let read = works_looking {IsOther = IsChangeFault} g.met.N.Nodes.looks_works c.args.nodes.now c.read_list.new.nodes (λ fault is. is) look_refused c.in_ok-read.ensures.calls in
    let p = err_from_is_err_and c.from_residual-in_err-edited.result c.from_residual-in_err-edited.ensures.1 in
    rw (p.1, p.2) (record { works = read.works; reads = omega (arith, read.reads); writes = omega (arith, read.writes); why = g.met.N.Nodes.memory_may_want c.args.nodes.now c.read_list.new.nodes; faults = refl })

pub returns-clause-calls : goal.returns-clause-calls
returns-clause-calls g c =
    let old = c.args.nodes.now in
    let f = g.N.Nodes.node old in
    let r = c.in_ok-read.ensures.read in
    let last = last_read c.in_ok-read.read c.in_ok-read.tail (get_or c.args.puts.now 0 c.index-puts-0.result).name.now c.in_ok-read.ensures.enough in
    let same : items_in f c.args.block ≡ c.in_ok-read.read = items_are f c.args.block c.in_ok-read.read (all_read f c.args.block r.0 c.in_ok-read.read c.in_ok-read.tail r.1 last) in
    let edited : IsPutEach c.in_ok-read.read c.args.puts.now c.in_ok-edited.edited = subst (λ (items : List Item). IsPutEach items c.args.puts.now c.in_ok-edited.edited) c.list.ensures c.in_ok-edited.ensures in
    let most : nodes_for (length c.in_ok-edited.edited) ≤ nodes_for (length c.in_ok-read.read + count_missing c.in_ok-read.read c.args.puts.now) = nodes_for-le (length c.in_ok-edited.edited) (length c.in_ok-read.read + count_missing c.in_ok-read.read c.args.puts.now) edited.counted in
    let listed : nodes_for (length c.list-2.result) ≡ nodes_for (length c.in_ok-edited.edited) = ap (λ (items : List Item). nodes_for (length items)) c.list-2.ensures in
    let parts : nodes_for (length (items_in f c.args.block) + count_missing (items_in f c.args.block) c.args.puts.now) ≡ nodes_for (length c.in_ok-read.read + count_missing c.in_ok-read.read c.args.puts.now) =
    ap (λ (items : List Item). nodes_for (length items + count_missing items c.args.puts.now)) same in
    let read = works_looking {IsOther = IsChangeFault} g.met.N.Nodes.looks_works c.args.nodes.now c.read_list.new.nodes (λ fault is. is) look_refused c.in_ok-read.ensures.calls in
    works_after g.met.N.Nodes.works_on g.met.N.Nodes.causes_on old c.read_list.new.nodes c.write_list.new.nodes write_refused read c.write_list.ensures.calls (omega arith) (omega (arith, most, listed, parts))
