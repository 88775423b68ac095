use Rattle.std.proofs.Common.{◌≡◌, ◌-◌, suc, inl, inr, sym, arith}
use Rattle.std.proofs.lemmas.Result.{on_ok_weaker}
use Rattle.known_nodes.specs.Tables.{blocks_in}
use Rattle.salvages.proofs.Listing.{nodes_end, nodes_more}
use Rattle.salvages.proofs.lefts.+add_nodes.Goals as goal

pub returns-then-left-eq0 : goal.returns-then-left-eq0
returns-then-left-eq0 t c =
    nodes_end (blocks_in c.args.known.now.nodes) c.args.path.now c.args.left c.args.node.now c.list.result c.args.lefts.now.items c.add_entries.new.lefts.items (inl c.if-left-eq0.true) c.list.ensures c.in_ok-add_entries.ensures

pub returns-in-Some : goal.returns-in-Some
returns-in-Some t c =
    let more : c.args.left ≡ suc (c.args.left - 1) = let some = c.if-left-eq0.false in omega (arith, some) in
    on_ok_weaker c.add_nodes.result
    (λ rest. nodes_more (blocks_in c.args.known.now.nodes) c.args.path.now c.args.left (c.args.left - 1) c.args.node.now c.in-Some.next c.list.result c.args.lefts.now.items c.add_entries.new.lefts.items c.add_nodes.new.lefts.items
    more (sym c.in-Some.ensures) c.list.ensures c.in_ok-add_entries.ensures rest)
    c.add_nodes.ensures

pub returns-in-None : goal.returns-in-None
returns-in-None t c =
    nodes_end (blocks_in c.args.known.now.nodes) c.args.path.now c.args.left c.args.node.now c.list.result c.args.lefts.now.items c.add_entries.new.lefts.items (inr (sym c.in-None.ensures)) c.list.ensures c.in_ok-add_entries.ensures
