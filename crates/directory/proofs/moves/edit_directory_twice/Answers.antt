use Rattle.std.proofs.Common.{◌≡◌, ℕ, ◌+◌, ◌≤◌, Bool, true, cond, ◌&&◌, Option, Some, None, unwrap_or, Result, Ok, Err, List, [], length, ap, sym, subst, ◌∙◌, arith, refl}
use Rattle.std.specs.Prelude.{IsSome, IfOk}
use Rattle.std.specs.Option.{is_some, is_none}
use Rattle.std.proofs.lemmas.Result.{IfOk-weaker, err_from_is_err_and}
use Rattle.fs_types.specs.declared.fault.Fault.{Fault}
use Rattle.fs_types.specs.Names.{Name}
use Rattle.plain_trees.specs.Trees.{nodes_for}
use Rattle.node_format.specs.Items.{Item, named_place}
use Rattle.node_format.specs.Edits.{edited_count}
use Rattle.node_format.specs.declared.place.Place.{Place}
use Rattle.nodes.specs.Bodies.{Blocks}
use Rattle.nodes.specs.Trees.{entries_in, items_in}
use Rattle.nodes.specs.Rewritten.{IsSecondEdit, IsFreshChain}
use Rattle.nodes.proofs.ChainCounts.{most_of}
use Rattle.directory.specs.Counts.{edit_nodes}
use Rattle.directory.specs.Moves.{IsEditedTwice, edited_twice_count}
use Rattle.directory.specs.Reads.{IsReadTo}
use Rattle.directory.specs.Trails.{takes, IsChangeFault}
use Rattle.directory.specs.Written.{PutsDirectory}
use Rattle.nodes.specs.WordLaws.{works_after, works_looking, works_refused, works_wider}
use Rattle.directory.proofs.TrailEdits.{write_refused}
use Rattle.directory.proofs.NodeCalls.{look_refused}
use Rattle.directory.proofs.ReadLists.{all_read}
use Rattle.directory.proofs.ListEdits.{second_written, last_read}
use Rattle.directory.proofs.moves.edit_directory_twice.Goals as goal

-- the state at first (0), with the entries read (1), and with the new directory written (2)
second_done : (f0 f1 f2 : Blocks) (k0 k1 k2 : ℕ → Bool) (block left : ℕ) (items changed listed : List Item) (tail : ℕ) (name : Name) (gone : Option Place) (other : Name) (here : Option Place) (r : Result ℕ Fault) → f1 ≡ f0 → k1 ≡ k0 → listed ≡ changed → IsReadTo f0 block left items tail → tail ≡ 0
    → IsEditedTwice items name gone other here changed → IfOk r (λ to. PutsDirectory f1 k1 f2 k2 tail to listed) → IfOk r (λ to. IsSecondEdit f0 f2 block to name gone other here × IsFreshChain f0 f2 k0 k2 block to)
second_done f0 f1 f2 k0 k1 k2 block left items changed listed tail name gone other here (Err fault) same_nodes same_kept same read last edited puts = tt
second_done f0 f1 f2 k0 k1 k2 block left items changed listed tail name gone other here (Ok to) same_nodes same_kept same read last edited puts =
    second_written f0 f2 k0 k2 block left items changed tail to name gone other here read last edited
    (subst (λ (f : Blocks). PutsDirectory f k0 f2 k2 tail to changed) same_nodes (subst (λ (k : ℕ → Bool). PutsDirectory f1 k f2 k2 tail to changed) same_kept (subst (PutsDirectory f1 k1 f2 k2 tail to) same puts)))

-- a name that goes makes room for the other
twice_most : (was gone there here : Option Place) (count : ℕ) → IsSome was → nodes_for (edited_count there here (edited_count was gone count)) ≤ nodes_for (count + cond (is_some gone && is_none there) 1 0)
twice_most None gone there here count some = absurd cc
twice_most (Some was) None None None count some = omega arith
twice_most (Some was) None None (Some here) count some = omega arith
twice_most (Some was) None (Some there) None count some = omega arith
twice_most (Some was) None (Some there) (Some here) count some = omega arith
twice_most (Some was) (Some gone) None None count some = omega arith
twice_most (Some was) (Some gone) None (Some here) count some = omega arith
twice_most (Some was) (Some gone) (Some there) None count some = omega arith
twice_most (Some was) (Some gone) (Some there) (Some here) count some = omega arith

pub edit_list_twice-requires-clause-few : goal.edit_list_twice-requires-clause-few
edit_list_twice-requires-clause-few g c =
    let f = g.N.Nodes.node c.args.nodes.now in
    let r = c.in_ok-read.ensures.read in
    let last = last_read c.in_ok-read.read c.in_ok-read.tail c.args.name.now c.in_ok-read.ensures.enough in
    let all : entries_in f c.args.block ≡ Some c.in_ok-read.read = all_read f c.args.block r.0 c.in_ok-read.read c.in_ok-read.tail r.1 last in
    omega (arith, most_of f c.args.block, ap length c.list.ensures, ap (λ (entries : Option (List Item)). length (unwrap_or entries [])) all)

pub edit_list_twice-requires-clause-named : goal.edit_list_twice-requires-clause-named
edit_list_twice-requires-clause-named g c =
    let f = g.N.Nodes.node c.args.nodes.now in
    let r = c.in_ok-read.ensures.read in
    let last = last_read c.in_ok-read.read c.in_ok-read.tail c.args.name.now c.in_ok-read.ensures.enough in
    let all : entries_in f c.args.block ≡ Some c.in_ok-read.read = all_read f c.args.block r.0 c.in_ok-read.read c.in_ok-read.tail r.1 last in
    subst (λ (items : List Item). IsSome (named_place items c.args.name.now)) (sym c.list.ensures)
    (subst (λ (entries : Option (List Item)). IsSome (named_place (unwrap_or entries []) c.args.name.now)) all c.requires.takes.named)

pub edit_list_twice-requires-clause-room : goal.edit_list_twice-requires-clause-room
edit_list_twice-requires-clause-room g c some =
    let f = g.N.Nodes.node c.args.nodes.now in
    let r = c.in_ok-read.ensures.read in
    let last = last_read c.in_ok-read.read c.in_ok-read.tail c.args.name.now c.in_ok-read.ensures.enough in
    let all : entries_in f c.args.block ≡ Some c.in_ok-read.read = all_read f c.args.block r.0 c.in_ok-read.read c.in_ok-read.tail r.1 last in
    subst (λ (items : List Item). takes (Some items) c.args.other.now c.args.here ≡ true) (sym c.list.ensures)
    (subst (λ (entries : Option (List Item)). takes entries c.args.other.now c.args.here ≡ true) all (c.requires.takes.room some))

pub returns-clause-edited : goal.returns-clause-edited
returns-clause-edited g c =
    let old = c.args.nodes.now in
    let mid = c.read_list.new.nodes in
    let new = c.write_list.new.nodes in
    let f0 = g.N.Nodes.node old in
    let f2 = g.N.Nodes.node new in
    let k0 = g.N.Nodes.kept old in
    let k2 = g.N.Nodes.kept new in
    let r = c.in_ok-read.ensures.read in
    let looks = c.read_list.ensures.calls.looks in
    let last = last_read c.in_ok-read.read c.in_ok-read.tail c.args.name.now c.in_ok-read.ensures.enough in
    let edited : IsEditedTwice c.in_ok-read.read c.args.name.now c.args.gone c.args.other.now c.args.here c.in_ok-edited.edited =
    subst (λ (items : List Item). IsEditedTwice items c.args.name.now c.args.gone c.args.other.now c.args.here c.in_ok-edited.edited) c.list.ensures c.in_ok-edited.ensures in
    second_done f0 (g.N.Nodes.node mid) f2 k0 (g.N.Nodes.kept mid) k2 c.args.block r.0 c.in_ok-read.read c.in_ok-edited.edited c.list-2.result c.in_ok-read.tail c.args.name.now c.args.gone c.args.other.now c.args.here c.write_list.result
    looks.same_nodes looks.same_kept c.list-2.ensures r.1 last edited c.write_list.ensures.put

pub returns-in_err-read-clause-calls : goal.returns-in_err-read-clause-calls
returns-in_err-read-clause-calls g c =
    let read = works_looking {IsOther = IsChangeFault} g.met.N.Nodes.looks_works c.args.nodes.now c.read_list.new.nodes (λ fault is. is) look_refused c.in_err-read.ensures.calls in
    let p = err_from_is_err_and c.from_residual.result c.from_residual.ensures.1 in
    rw (p.1, p.2) (works_wider (works_refused read) (omega arith) (omega arith))

pub returns-in_err-edited-clause-calls : goal.returns-in_err-edited-clause-calls
returns-in_err-edited-clause-calls g c =
    let read = works_looking {IsOther = IsChangeFault} g.met.N.Nodes.looks_works c.args.nodes.now c.read_list.new.nodes (λ fault is. is) look_refused c.in_ok-read.ensures.calls in
    let p = err_from_is_err_and c.from_residual-in_err-edited.result c.from_residual-in_err-edited.ensures.1 in
    rw (p.1, p.2) (record { works = read.works; reads = omega (arith, read.reads); writes = omega (arith, read.writes); why = g.met.N.Nodes.memory_may_want c.args.nodes.now c.read_list.new.nodes; faults = refl })

pub returns-clause-calls : goal.returns-clause-calls
returns-clause-calls g c =
    let old = c.args.nodes.now in
    let f = g.N.Nodes.node old in
    let r = c.in_ok-read.ensures.read in
    let last = last_read c.in_ok-read.read c.in_ok-read.tail c.args.name.now c.in_ok-read.ensures.enough in
    let all : entries_in f c.args.block ≡ Some c.in_ok-read.read = all_read f c.args.block r.0 c.in_ok-read.read c.in_ok-read.tail r.1 last in
    let there : IsSome (named_place c.in_ok-read.read c.args.name.now) = subst (λ (entries : Option (List Item)). IsSome (named_place (unwrap_or entries []) c.args.name.now)) all c.requires.takes.named in
    let edited : IsEditedTwice c.in_ok-read.read c.args.name.now c.args.gone c.args.other.now c.args.here c.in_ok-edited.edited =
    subst (λ (items : List Item). IsEditedTwice items c.args.name.now c.args.gone c.args.other.now c.args.here c.in_ok-edited.edited) c.list.ensures c.in_ok-edited.ensures in
    let count : nodes_for (length c.list-2.result) ≡ nodes_for (edited_twice_count c.in_ok-read.read c.args.name.now c.args.gone c.args.other.now c.args.here) = ap (λ (items : List Item). nodes_for (length items)) c.list-2.ensures ∙ ap nodes_for edited.counted in
    let most = twice_most (named_place c.in_ok-read.read c.args.name.now) c.args.gone (named_place c.in_ok-read.read c.args.other.now) c.args.here (length c.in_ok-read.read) there in
    let same : edit_nodes (items_in f c.args.block) c.args.other.now (is_some c.args.gone) ≡ edit_nodes c.in_ok-read.read c.args.other.now (is_some c.args.gone) =
    ap (λ (entries : Option (List Item)). edit_nodes (unwrap_or entries []) c.args.other.now (is_some c.args.gone)) all in
    let read = works_looking {IsOther = IsChangeFault} g.met.N.Nodes.looks_works c.args.nodes.now c.read_list.new.nodes (λ fault is. is) look_refused c.in_ok-read.ensures.calls in
    works_after g.met.N.Nodes.works_on g.met.N.Nodes.causes_on old c.read_list.new.nodes c.write_list.new.nodes write_refused read c.write_list.ensures.calls (omega arith) (omega (arith, count, most, same))

pub returns-clause-written : goal.returns-clause-written
returns-clause-written g c =
    let old = c.args.nodes.now in
    let new = c.write_list.new.nodes in
    let f = g.N.Nodes.node old in
    let r = c.in_ok-read.ensures.read in
    let last = last_read c.in_ok-read.read c.in_ok-read.tail c.args.name.now c.in_ok-read.ensures.enough in
    let all : entries_in f c.args.block ≡ Some c.in_ok-read.read = all_read f c.args.block r.0 c.in_ok-read.read c.in_ok-read.tail r.1 last in
    let edited : IsEditedTwice c.in_ok-read.read c.args.name.now c.args.gone c.args.other.now c.args.here c.in_ok-edited.edited =
    subst (λ (items : List Item). IsEditedTwice items c.args.name.now c.args.gone c.args.other.now c.args.here c.in_ok-edited.edited) c.list.ensures c.in_ok-edited.ensures in
    let count : nodes_for (length c.list-2.result) ≡ nodes_for (edited_twice_count (items_in f c.args.block) c.args.name.now c.args.gone c.args.other.now c.args.here) =
    ap (λ (items : List Item). nodes_for (length items)) c.list-2.ensures ∙ ap nodes_for edited.counted
    ∙ ap (λ (entries : Option (List Item)). nodes_for (edited_twice_count (unwrap_or entries []) c.args.name.now c.args.gone c.args.other.now c.args.here)) (sym all) in
    let same = c.read_list.ensures.calls.looks.same_writes in
    IfOk-weaker c.write_list.result (λ _. g.N.Nodes.writes new ≡ g.N.Nodes.writes c.read_list.new.nodes + nodes_for (length c.list-2.result))
    (λ _. g.N.Nodes.writes new ≡ g.N.Nodes.writes old + nodes_for (edited_twice_count (items_in f c.args.block) c.args.name.now c.args.gone c.args.other.now c.args.here)) (λ to wrote. omega (arith, wrote, same, count)) c.write_list.ensures.written
