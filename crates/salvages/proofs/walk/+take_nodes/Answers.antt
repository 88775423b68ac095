use Rattle.std.proofs.Common.{◌≡◌, ◌-◌, ℕ, suc, inl, inr, not, sym, ap, arith}
use Rattle.std.specs.Prelude.{◌==◌}
use Rattle.std.proofs.lemmas.Result.{err_from_is_err_and, on_ok_weaker, IfErr-weaker}
use Rattle.known_nodes.specs.Tables.{blocks_in}
use Rattle.salvages.proofs.Adding.{end_adds, end_much, more_adds, more_much, first_much}
use Rattle.salvages.proofs.walk.+take_nodes.Goals as goal

pub returns-in_err-take_entries-clause-err : goal.returns-in_err-take_entries-clause-err
returns-in_err-take_entries-clause-err t c =
    let p = err_from_is_err_and c.from_residual.result c.from_residual.ensures.1 in
    rw (p.1, p.2) (first_much c.args.known.now.capacity (blocks_in c.args.known.now.nodes) c.args.path.now c.args.left c.args.node.now c.list.result c.args.found.now.cost c.in_err-take_entries.field-0.0 c.list.ensures c.in_err-take_entries.ensures.err)

pub returns-then-left-eq0-clause-adds : goal.returns-then-left-eq0-clause-adds
returns-then-left-eq0-clause-adds t c = on_ok_weaker c.cut_off.result
    (end_adds c.args.known.now.capacity (blocks_in c.args.known.now.nodes) c.args.path.now c.args.left c.args.node.now c.list.result c.args.found.now c.take_entries.new.found c.list.ensures c.in_ok-take_entries.ensures.adds
    (not (c.next.result == 0)) c.cut_off.new.found (inl c.if-left-eq0.true) (ap (λ (n : ℕ). not (n == 0)) c.next.ensures))
    c.cut_off.ensures.adds

pub returns-then-left-eq0-clause-err : goal.returns-then-left-eq0-clause-err
returns-then-left-eq0-clause-err t c = IfErr-weaker c.cut_off.result _ _ (λ why much.
    end_much c.args.known.now.capacity (blocks_in c.args.known.now.nodes) c.args.path.now c.args.left c.args.node.now c.list.result c.args.found.now c.take_entries.new.found c.list.ensures c.in_ok-take_entries.ensures.adds
    (not (c.next.result == 0)) why (inl c.if-left-eq0.true) (ap (λ (n : ℕ). not (n == 0)) c.next.ensures) much)
    c.cut_off.ensures.err

pub returns-in-Some-clause-adds : goal.returns-in-Some-clause-adds
returns-in-Some-clause-adds t c =
    let more : c.args.left ≡ suc (c.args.left - 1) = let some = c.if-left-eq0.false in omega (arith, some) in
    on_ok_weaker c.take_nodes.result
    (more_adds c.args.known.now.capacity (blocks_in c.args.known.now.nodes) c.args.path.now c.args.left c.args.node.now c.list.result c.args.found.now c.take_entries.new.found c.list.ensures c.in_ok-take_entries.ensures.adds
    (c.args.left - 1) c.in-Some.next c.take_nodes.new.found more (sym c.in-Some.ensures))
    c.take_nodes.ensures.adds

pub returns-in-Some-clause-err : goal.returns-in-Some-clause-err
returns-in-Some-clause-err t c =
    let more : c.args.left ≡ suc (c.args.left - 1) = let some = c.if-left-eq0.false in omega (arith, some) in
    IfErr-weaker c.take_nodes.result _ _ (λ why much.
    more_much c.args.known.now.capacity (blocks_in c.args.known.now.nodes) c.args.path.now c.args.left c.args.node.now c.list.result c.args.found.now c.take_entries.new.found c.list.ensures c.in_ok-take_entries.ensures.adds
    (c.args.left - 1) c.in-Some.next why more (sym c.in-Some.ensures) much)
    c.take_nodes.ensures.err

pub returns-in-None-clause-adds : goal.returns-in-None-clause-adds
returns-in-None-clause-adds t c = on_ok_weaker c.cut_off-in-None.result
    (end_adds c.args.known.now.capacity (blocks_in c.args.known.now.nodes) c.args.path.now c.args.left c.args.node.now c.list.result c.args.found.now c.take_entries.new.found c.list.ensures c.in_ok-take_entries.ensures.adds
    (not (c.next-in-None.result == 0)) c.cut_off-in-None.new.found (inr (sym c.in-None.ensures)) (ap (λ (n : ℕ). not (n == 0)) c.next-in-None.ensures))
    c.cut_off-in-None.ensures.adds

pub returns-in-None-clause-err : goal.returns-in-None-clause-err
returns-in-None-clause-err t c = IfErr-weaker c.cut_off-in-None.result _ _ (λ why much.
    end_much c.args.known.now.capacity (blocks_in c.args.known.now.nodes) c.args.path.now c.args.left c.args.node.now c.list.result c.args.found.now c.take_entries.new.found c.list.ensures c.in_ok-take_entries.ensures.adds
    (not (c.next-in-None.result == 0)) why (inr (sym c.in-None.ensures)) (ap (λ (n : ℕ). not (n == 0)) c.next-in-None.ensures) much)
    c.cut_off-in-None.ensures.err
