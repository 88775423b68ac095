use Rattle.std.proofs.Common.{◌≤◌, ◌+◌, ◌-◌, ℕ, List, ap, subst, sym, ◌∙◌, arith}
use Rattle.std.proofs.lemmas.Bool.{true≢false}
use Rattle.std.proofs.lemmas.List.{take_all}
use Rattle.std.proofs.lemmas.Result.{err_from_is_err_and}
use Rattle.std.specs.List.{sum_by}
use Rattle.nodes.specs.Bodies.{Blocks}
use Rattle.reclaim.specs.Verified.{AreAllowed, HasCost, once_reads, once_pages}
use Rattle.reclaim.specs.Verifying.{HasLookedAt}
use Rattle.reclaim.proofs.Costs.{looked_one, looked_all, pages_same}
use Rattle.reclaim.proofs.NodeCalls.{looks_itself, advances_itself, advances_on, cost_after, cost_answered, at_cost}
use Rattle.reclaim.proofs.Noting.{verifying_after, looked_before}
use Rattle.reclaim.proofs.Telling.{looked_none, looked_on, reads_on}
use Rattle.reclaim.proofs.verification.look_at_all.Goals as goal

pub loop-block-init : goal.loop-block-init
loop-block-init g c = record {
  verifying = c.requires.verifying;
  looked = looked_none (g.N.Nodes.limit c.args.nodes.now - 80) (g.N.Nodes.node c.args.nodes.now) c.args.plain c.args.pass.now c.requires.begun;
  on = advances_itself c.args.pass.now;
  reads = omega arith;
  asks = omega arith;
  looks = looks_itself g.N.Nodes g.met.N.Nodes.follows_itself c.args.nodes.now c.requires.sound;
}

pub look_at_next-requires-clause-verifying : goal.look_at_next-requires-clause-verifying
look_at_next-requires-clause-verifying g c = verifying_after g.N.Nodes c.args.nodes.now c.loop-block.nodes c.loop-block.pass c.loop-block.table c.loop-block.tops c.loop-block.levels c.loop-block.invariant.looks c.loop-block.invariant.verifying

pub loop-block-preserved : goal.loop-block-preserved
loop-block-preserved g c =
    let s = c.args.nodes.now in
    let f = g.N.Nodes.node s in
    let mid = c.loop-block.nodes in
    let new = c.look_at_next.new.nodes in
    let p = c.loop-block.pass in
    let q = c.look_at_next.new.pass in
    let so_far = c.loop-block.invariant in
    let left = c.in-Some.ensures.left in
    let block = c.in-Some.block in
    let on = c.look_at_next.ensures.on in
    let looked : HasLookedAt (g.N.Nodes.limit s) f c.args.plain block p q c.look_at_next.new.table c.look_at_next.new.tops c.look_at_next.new.levels c.in_ok-good.good =
    looked_before g.N.Nodes s mid c.args.plain block p q c.look_at_next.new.table c.look_at_next.new.tops c.look_at_next.new.levels c.in_ok-good.good so_far.looks c.in_ok-good.ensures.looked in
    let own : g.N.Nodes.reads new ≤ g.N.Nodes.reads mid + once_reads (f block) =
    subst (λ (h : Blocks). g.N.Nodes.reads new ≤ g.N.Nodes.reads mid + once_reads (h block)) so_far.looks.same_nodes c.look_at_next.ensures.calls.reads in
    let pages : g.N.Nodes.asked new ≤ g.N.Nodes.asked mid + once_pages (g.N.Nodes.page s) (g.N.Nodes.limit s) (f block) =
    subst (λ (h : Blocks). g.N.Nodes.asked new ≤ g.N.Nodes.asked mid + once_pages (g.N.Nodes.page s) (g.N.Nodes.limit s) (h block)) so_far.looks.same_nodes
    (pages_same (g.N.Nodes.page s) (g.N.Nodes.limit s) (g.N.Nodes.page mid) (g.N.Nodes.limit mid) (g.N.Nodes.asked mid) (g.N.Nodes.asked new) (g.N.Nodes.node mid block)
    (g.met.N.Nodes.same_page s mid so_far.looks.came) so_far.looks.same_limit c.look_at_next.ensures.asks) in
    record {
      verifying = record { size = on.blocks ∙ so_far.verifying.size; noted = looked.noted; told = looked.told c.if-not-good.false };
      looked = looked_on p q block on left.0 left.1 looked.next (g.N.Nodes.limit s - 80) f c.args.plain so_far.looked (looked.looked c.if-not-good.false);
      on = advances_on c.args.pass.now p q so_far.on on;
      reads = omega (arith, own, so_far.reads, reads_on p q block on left.0 left.1 looked.next (λ b. once_reads (f b)));
      asks = omega (arith, pages, so_far.asks, reads_on p q block on left.0 left.1 looked.next (λ b. once_pages (g.N.Nodes.page s) (g.N.Nodes.limit s) (f b)));
      looks = g.met.N.Nodes.looks_on s mid new so_far.looks c.look_at_next.ensures.calls.looks;
    }

pub returns-in_err-good-clause-calls : goal.returns-in_err-good-clause-calls
returns-in_err-good-clause-calls g c =
    let so_far = c.loop-block.invariant in
    let p = err_from_is_err_and c.from_residual.result c.from_residual.ensures.1 in
    rw (p.1, p.2) (cost_after g.met.N.Nodes.looks_on g.met.N.Nodes.causes_on c.args.nodes.now c.loop-block.nodes c.look_at_next.new.nodes (λ fault is. is) so_far.looks (at_cost {HasReads = λ before after. after ≤ before + once_reads (g.N.Nodes.node c.loop-block.nodes c.in-Some.block)} c.in_err-good.ensures.calls c.in_err-good.ensures.calls.reads)
    (looked_one once_reads (g.N.Nodes.node c.args.nodes.now) (g.N.Nodes.node c.loop-block.nodes) c.loop-block.pass c.args.pass.now.roots c.in-Some.block (g.N.Nodes.reads c.args.nodes.now) (g.N.Nodes.reads c.loop-block.nodes) (g.N.Nodes.reads c.look_at_next.new.nodes)
    so_far.looks.same_nodes so_far.verifying.noted.pass so_far.on.roots c.in-Some.ensures.left.0 c.in-Some.ensures.left.1 so_far.reads c.look_at_next.ensures.calls.reads))

pub returns-in_err-good-clause-asks : goal.returns-in_err-good-clause-asks
returns-in_err-good-clause-asks g c =
    let so_far = c.loop-block.invariant in
    let s = c.args.nodes.now in
    let mid = c.loop-block.nodes in
    looked_one (once_pages (g.N.Nodes.page s) (g.N.Nodes.limit s)) (g.N.Nodes.node s) (g.N.Nodes.node mid) c.loop-block.pass c.args.pass.now.roots c.in-Some.block (g.N.Nodes.asked s) (g.N.Nodes.asked mid) (g.N.Nodes.asked c.look_at_next.new.nodes)
    so_far.looks.same_nodes so_far.verifying.noted.pass so_far.on.roots c.in-Some.ensures.left.0 c.in-Some.ensures.left.1 so_far.asks
    (pages_same (g.N.Nodes.page s) (g.N.Nodes.limit s) (g.N.Nodes.page mid) (g.N.Nodes.limit mid) (g.N.Nodes.asked mid) (g.N.Nodes.asked c.look_at_next.new.nodes) (g.N.Nodes.node mid c.in-Some.block)
    (g.met.N.Nodes.same_page s mid so_far.looks.came) so_far.looks.same_limit c.look_at_next.ensures.asks)

pub returns-then-not-good-clause-on : goal.returns-then-not-good-clause-on
returns-then-not-good-clause-on g c = advances_on c.args.pass.now c.loop-block.pass c.look_at_next.new.pass c.loop-block.invariant.on c.look_at_next.ensures.on

pub returns-then-not-good-clause-looked : goal.returns-then-not-good-clause-looked
returns-then-not-good-clause-looked g c =
    let s = c.args.nodes.now in
    let mid = c.loop-block.nodes in
    let so_far = c.loop-block.invariant in
    let looked : HasLookedAt (g.N.Nodes.limit s) (g.N.Nodes.node s) c.args.plain c.in-Some.block c.loop-block.pass c.look_at_next.new.pass c.look_at_next.new.table c.look_at_next.new.tops c.look_at_next.new.levels c.in_ok-good.good =
    looked_before g.N.Nodes s mid c.args.plain c.in-Some.block c.loop-block.pass c.look_at_next.new.pass c.look_at_next.new.table c.look_at_next.new.tops c.look_at_next.new.levels c.in_ok-good.good so_far.looks c.in_ok-good.ensures.looked in
    record {
      noted = looked.noted;
      read = λ is. absurd (true≢false (sym is));
      told = λ is. absurd (true≢false (sym is));
      looked = λ is. absurd (true≢false (sym is));
      bad = λ is trees. looked.bad c.if-not-good.true (subst (λ (l : List ℕ). AreAllowed (g.N.Nodes.limit s) (g.N.Nodes.node s) l c.args.plain) (sym so_far.on.roots) trees);
    }

pub returns-then-not-good-clause-calls : goal.returns-then-not-good-clause-calls
returns-then-not-good-clause-calls g c =
    let so_far = c.loop-block.invariant in
    cost_answered (g.met.N.Nodes.looks_on c.args.nodes.now c.loop-block.nodes c.look_at_next.new.nodes so_far.looks c.look_at_next.ensures.calls.looks)
    (looked_one once_reads (g.N.Nodes.node c.args.nodes.now) (g.N.Nodes.node c.loop-block.nodes) c.loop-block.pass c.args.pass.now.roots c.in-Some.block (g.N.Nodes.reads c.args.nodes.now) (g.N.Nodes.reads c.loop-block.nodes) (g.N.Nodes.reads c.look_at_next.new.nodes)
    so_far.looks.same_nodes so_far.verifying.noted.pass so_far.on.roots c.in-Some.ensures.left.0 c.in-Some.ensures.left.1 so_far.reads c.look_at_next.ensures.calls.reads)

pub returns-then-not-good-clause-asks : goal.returns-then-not-good-clause-asks
returns-then-not-good-clause-asks g c =
    let so_far = c.loop-block.invariant in
    let s = c.args.nodes.now in
    let mid = c.loop-block.nodes in
    looked_one (once_pages (g.N.Nodes.page s) (g.N.Nodes.limit s)) (g.N.Nodes.node s) (g.N.Nodes.node mid) c.loop-block.pass c.args.pass.now.roots c.in-Some.block (g.N.Nodes.asked s) (g.N.Nodes.asked mid) (g.N.Nodes.asked c.look_at_next.new.nodes)
    so_far.looks.same_nodes so_far.verifying.noted.pass so_far.on.roots c.in-Some.ensures.left.0 c.in-Some.ensures.left.1 so_far.asks
    (pages_same (g.N.Nodes.page s) (g.N.Nodes.limit s) (g.N.Nodes.page mid) (g.N.Nodes.limit mid) (g.N.Nodes.asked mid) (g.N.Nodes.asked c.look_at_next.new.nodes) (g.N.Nodes.node mid c.in-Some.block)
    (g.met.N.Nodes.same_page s mid so_far.looks.came) so_far.looks.same_limit c.look_at_next.ensures.asks)

pub returns-clause-looked : goal.returns-clause-looked
returns-clause-looked g c =
    let s = c.args.nodes.now in
    let p = c.loop-block.pass in
    let so_far = c.loop-block.invariant in
    let end = c.in_default.ensures.finished in
    let all = take_all p.next p.order (omega (arith, end)) in
    record {
      noted = so_far.verifying.noted;
      read = λ _. record {
        finished = end;
        reads = omega (arith, so_far.reads, ap (sum_by (λ b. once_reads (g.N.Nodes.node s b))) all);
        asked = omega (arith, so_far.asks, ap (sum_by (λ b. once_pages (g.N.Nodes.page s) (g.N.Nodes.limit s) (g.N.Nodes.node s b))) all);
      };
      told = λ _. so_far.verifying.told;
      looked = λ _. so_far.looked;
      bad = λ is. absurd (true≢false is);
    }

pub returns-clause-calls : goal.returns-clause-calls
returns-clause-calls g c =
    let so_far = c.loop-block.invariant in
    cost_answered so_far.looks
    (subst (λ (l : List ℕ). HasCost once_reads (g.N.Nodes.node c.args.nodes.now) l (g.N.Nodes.reads c.args.nodes.now) (g.N.Nodes.reads c.loop-block.nodes)) so_far.on.roots
    (looked_all once_reads (g.N.Nodes.node c.args.nodes.now) c.loop-block.pass (g.N.Nodes.reads c.args.nodes.now) (g.N.Nodes.reads c.loop-block.nodes) so_far.verifying.noted.pass so_far.reads))

pub returns-clause-asks : goal.returns-clause-asks
returns-clause-asks g c =
    let so_far = c.loop-block.invariant in
    let s = c.args.nodes.now in
    let cost = once_pages (g.N.Nodes.page s) (g.N.Nodes.limit s) in
    subst (λ (l : List ℕ). HasCost cost (g.N.Nodes.node s) l (g.N.Nodes.asked s) (g.N.Nodes.asked c.loop-block.nodes)) so_far.on.roots
    (looked_all cost (g.N.Nodes.node s) c.loop-block.pass (g.N.Nodes.asked s) (g.N.Nodes.asked c.loop-block.nodes) so_far.verifying.noted.pass so_far.asks)
