use Rattle.std.proofs.Common.{vec_len, refl, ◌≡◌, ◌≤◌, ◌-◌, ◌^◌, ℕ, List, Err, ap, subst, sym, ◌∙◌, arith}
use Rattle.std.specs.Prelude.{slice_index}
use Rattle.std.proofs.lemmas.Bool.{true≢false, eqb-true}
use Rattle.std.proofs.lemmas.Result.{err_from_is_err_and, IfOk-weaker}
use Rattle.fs_types.specs.declared.fault.Fault.{Fault}
use Rattle.fs_types.specs.declared.fault.Fault.TheVariants.{NoMemory, Damaged}
use Rattle.nodes.specs.WordLaws.{looks_after, looks_wider, looks_answered, looks_refused}
use Rattle.reclaim.specs.Heads.{TakesNode}
use Rattle.reclaim.specs.Passes.{IsMarkFault}
use Rattle.reclaim.specs.Tops.{TakesTop, top_by, steps_by}
use Rattle.reclaim.specs.Verifying.{HasNoted, HasTold, HasLookedAt}
use Rattle.reclaim.proofs.Looking.{look_read, said_reads}
use Rattle.reclaim.proofs.Marking.{no_node}
use Rattle.reclaim.proofs.NodeCalls.{looks_memory, looks_marked}
use Rattle.reclaim.proofs.Noting.{noted_next, heads_next, heads_fail, tops_next, tops_fail, sized_on, looked_at}
use Rattle.reclaim.proofs.Telling.{next_reached}
use Rattle.reclaim.proofs.verification.look_at_next.Goals as goal

-- want of memory is no damage
memory_other : ◌≡◌ {A = Fault} NoMemory Damaged → ⊥
memory_other is = cc

pub returns-in_err-facts-clause-damaged : goal.returns-in_err-facts-clause-damaged
returns-in_err-facts-clause-damaged g c damaged =
    let p = err_from_is_err_and c.from_residual.result c.from_residual.ensures.1 in
    let is : p.0 ≡ Damaged = cc in
    (c.args.block, next_reached (g.N.Nodes.node c.args.nodes.now) c.args.pass.now c.args.block c.requires.verifying.noted.pass c.requires.left.0 c.requires.left.1, c.in_err-facts.ensures.damaged (ap (λ (e : Fault). Err e) (sym p.2 ∙ is)))

pub returns-in_err-facts-clause-calls : goal.returns-in_err-facts-clause-calls
returns-in_err-facts-clause-calls g c =
    let p = err_from_is_err_and c.from_residual.result c.from_residual.ensures.1 in
    rw (p.1, p.2) (looks_wider (looks_refused c.in_err-facts.ensures.calls) (omega arith))

pub returns-in_err-mark_next-clause-damaged : goal.returns-in_err-mark_next-clause-damaged
returns-in_err-mark_next-clause-damaged g c damaged =
    let s = c.args.nodes.now in
    let f = g.N.Nodes.node s in
    let pass = c.args.pass.now in
    let block = c.args.block in
    let fault = c.in_err-mark_next.field-0.0 in
    let p = err_from_is_err_and c.from_residual-in_err-mark_next.result c.from_residual-in_err-mark_next.ensures.1 in
    let is : p.0 ≡ Damaged = cc in
    no_node f pass (f block) c.in_ok-facts.facts.names.items pass.blocks fault c.requires.verifying.noted.pass c.requires.left.0 (ap f (sym c.requires.left.1))
    c.in_ok-facts.ensures.facts.names
    (λ b low. g.met.N.Nodes.none_below s b low)
    (λ b high. g.met.N.Nodes.none_beyond s b (subst (λ (n : ℕ). n ≤ b) c.requires.verifying.size high))
    (subst (λ (l : List ℕ). IsMarkFault pass.blocks l fault) c.deref.ensures.value c.in_err-mark_next.ensures.why)
    (sym p.2 ∙ is)

pub returns-in_err-mark_next-clause-calls : goal.returns-in_err-mark_next-clause-calls
returns-in_err-mark_next-clause-calls g c =
    let p = err_from_is_err_and c.from_residual-in_err-mark_next.result c.from_residual-in_err-mark_next.ensures.1 in
    rw (p.1, p.2) (looks_wider (looks_marked g.met.N.Nodes.memory_may_want c.args.nodes.now c.read_facts.new.nodes _ _ _ c.in_err-mark_next.ensures.why c.in_ok-facts.ensures.calls) (omega arith))

pub returns-in_err-take_in-clause-damaged : goal.returns-in_err-take_in-clause-damaged
returns-in_err-take_in-clause-damaged g c damaged =
    let p = err_from_is_err_and c.from_residual-in_err-take_in.result c.from_residual-in_err-take_in.ensures.1 in
    let is : p.0 ≡ Damaged = cc in
    absurd (memory_other (sym c.in_err-take_in.ensures.memory ∙ sym p.2 ∙ is))

pub returns-in_err-take_in-clause-calls : goal.returns-in_err-take_in-clause-calls
returns-in_err-take_in-clause-calls g c =
    let p = err_from_is_err_and c.from_residual-in_err-take_in.result c.from_residual-in_err-take_in.ensures.1 in
    rw (p.1, p.2) (looks_wider (looks_memory g.met.N.Nodes.memory_may_want c.args.nodes.now c.read_facts.new.nodes refl c.in_ok-facts.ensures.calls c.in_err-take_in.ensures.memory) (omega arith))

pub returns-in_err-have_heads-clause-damaged : goal.returns-in_err-have_heads-clause-damaged
returns-in_err-have_heads-clause-damaged g c damaged =
    let p = err_from_is_err_and c.from_residual-in_err-have_heads.result c.from_residual-in_err-have_heads.ensures.1 in
    let is : p.0 ≡ Damaged = cc in
    absurd (memory_other (sym c.in_err-have_heads.ensures.memory ∙ sym p.2 ∙ is))

pub returns-in_err-have_heads-clause-calls : goal.returns-in_err-have_heads-clause-calls
returns-in_err-have_heads-clause-calls g c =
    let p = err_from_is_err_and c.from_residual-in_err-have_heads.result c.from_residual-in_err-have_heads.ensures.1 in
    rw (p.1, p.2) (looks_wider (looks_memory g.met.N.Nodes.memory_may_want c.args.nodes.now c.read_facts.new.nodes refl c.in_ok-facts.ensures.calls c.in_err-have_heads.ensures.memory) (omega arith))

pub returns-in_err-have_tops-clause-damaged : goal.returns-in_err-have_tops-clause-damaged
returns-in_err-have_tops-clause-damaged g c damaged =
    let p = err_from_is_err_and c.from_residual-in_err-have_tops.result c.from_residual-in_err-have_tops.ensures.1 in
    let is : p.0 ≡ Damaged = cc in
    absurd (memory_other (sym c.in_err-have_tops.ensures.memory ∙ sym p.2 ∙ is))

pub returns-in_err-have_tops-clause-calls : goal.returns-in_err-have_tops-clause-calls
returns-in_err-have_tops-clause-calls g c =
    let p = err_from_is_err_and c.from_residual-in_err-have_tops.result c.from_residual-in_err-have_tops.ensures.1 in
    rw (p.1, p.2) (looks_wider (looks_memory g.met.N.Nodes.memory_may_want c.args.nodes.now c.read_facts.new.nodes refl c.in_ok-facts.ensures.calls c.in_err-have_tops.ensures.memory) (omega arith))

pub returns-then-not-have_heads-clause-calls : goal.returns-then-not-have_heads-clause-calls
returns-then-not-have_heads-clause-calls g c = looks_wider (looks_answered c.in_ok-facts.ensures.calls) (omega arith)

pub returns-then-not-have_heads-clause-looked : goal.returns-then-not-have_heads-clause-looked
returns-then-not-have_heads-clause-looked g c =
    let s = c.args.nodes.now in
    let f = g.N.Nodes.node s in
    let limit = g.N.Nodes.limit s in
    let p = c.args.pass.now in
    let q = c.mark_next.new.self in
    let t = c.args.table.now in
    let u = c.take_in-2.new.self in
    let v = c.args.levels.now in
    let w = c.take_in.new.self in
    let block = c.args.block in
    let facts = c.in_ok-facts.facts in
    let there = c.in_ok-facts.ensures.there in
    let are = c.in_ok-facts.ensures.facts in
    let before = c.requires.verifying in
    let next = c.in_ok-mark_next.ensures.next.0 in
    let small : limit ≤ 2 ^ 18 = omega (arith, c.block_bytes-capacity.ensures.value, c.block_bytes-capacity.ensures.most) in
    let taken : TakesNode (limit - 80) block facts.parts t u c.in_ok-have_heads.have_heads =
    subst (λ (n : ℕ). TakesNode (n - 80) block facts.parts t u c.in_ok-have_heads.have_heads) c.block_bytes-capacity.ensures.value c.in_ok-have_heads.ensures.heads in
    record {
      noted = noted_next f p q t u v w block facts before.noted c.requires.left.0 c.requires.left.1 there are c.mark_next.ensures.on next c.deref.result.now c.deref-3.result.now c.deref-2.result.now c.next_in.result c.is_empty.result
          c.deref.ensures.value (c.in_ok-mark_next.ensures.pass f) (λ b past. g.met.N.Nodes.none_beyond s b (subst (λ (n : ℕ). n ≤ b) before.size past)) c.deref-3.ensures.value c.in_ok-have_heads.ensures.noted
          c.deref-2.ensures.value c.next_in.ensures (λ is. omega (arith, eqb-true (vec_len facts.parts.places) 0 (sym c.is_empty.ensures ∙ is), facts.parts.places.ok.0)) c.in_ok-take_in.ensures.goes c.in_ok-take_in.ensures.stands;
      next = next;
      told = λ is. absurd (true≢false (sym is));
      looked = λ is. absurd (true≢false (sym is));
      bad = λ is. heads_fail f p q t u v w block facts before.noted c.requires.left.0 c.requires.left.1 there are c.mark_next.ensures.on next limit (λ b bytes is. g.met.N.Nodes.whole s b bytes c.requires.sound is)
          c.in_ok-have_heads.have_heads c.args.plain small before.told.heads taken c.if-not-have_heads.true;
    }

pub returns-then-not-have_tops-clause-calls : goal.returns-then-not-have_tops-clause-calls
returns-then-not-have_tops-clause-calls g c = looks_wider (looks_answered c.in_ok-facts.ensures.calls) (omega arith)

pub returns-then-not-have_tops-clause-looked : goal.returns-then-not-have_tops-clause-looked
returns-then-not-have_tops-clause-looked g c =
    let s = c.args.nodes.now in
    let f = g.N.Nodes.node s in
    let limit = g.N.Nodes.limit s in
    let p = c.args.pass.now in
    let q = c.mark_next.new.self in
    let t = c.args.table.now in
    let u = c.take_in-2.new.self in
    let v = c.args.levels.now in
    let w = c.take_in.new.self in
    let block = c.args.block in
    let facts = c.in_ok-facts.facts in
    let there = c.in_ok-facts.ensures.there in
    let are = c.in_ok-facts.ensures.facts in
    let before = c.requires.verifying in
    let next = c.in_ok-mark_next.ensures.next.0 in
    record {
      noted = noted_next f p q t u v w block facts before.noted c.requires.left.0 c.requires.left.1 there are c.mark_next.ensures.on next c.deref.result.now c.deref-3.result.now c.deref-2.result.now c.next_in.result c.is_empty.result
          c.deref.ensures.value (c.in_ok-mark_next.ensures.pass f) (λ b past. g.met.N.Nodes.none_beyond s b (subst (λ (n : ℕ). n ≤ b) before.size past)) c.deref-3.ensures.value c.in_ok-have_heads.ensures.noted
          c.deref-2.ensures.value c.next_in.ensures (λ is. omega (arith, eqb-true (vec_len facts.parts.places) 0 (sym c.is_empty.ensures ∙ is), facts.parts.places.ok.0)) c.in_ok-take_in.ensures.goes c.in_ok-take_in.ensures.stands;
      next = next;
      told = λ is. absurd (true≢false (sym is));
      looked = λ is. absurd (true≢false (sym is));
      bad = λ is. tops_fail f p q t u v w block facts before.noted c.requires.left.0 c.requires.left.1 there are c.mark_next.ensures.on next limit (λ b bytes is. g.met.N.Nodes.whole s b bytes c.requires.sound is)
          c.in_ok-have_tops.have_tops c.args.plain c.args.tops.now c.take_in-3.new.self (g.met.N.Nodes.none_below s 0 (omega arith)) before.told.tops
          (subst (λ (l : List ℕ). TakesTop block (top_by (slice_index l) facts.parts.index) (steps_by (slice_index l) facts.parts.index) c.args.tops.now c.take_in-3.new.self c.in_ok-have_tops.have_tops) c.deref-4.ensures.value c.in_ok-have_tops.ensures.tops)
          c.if-not-have_tops.true;
    }

pub returns-clause-calls : goal.returns-clause-calls
returns-clause-calls g c =
    looks_after g.met.N.Nodes.looks_on g.met.N.Nodes.causes_on c.args.nodes.now c.read_facts.new.nodes c.look.new.nodes look_read c.read_facts.ensures.calls c.look.ensures.calls
    (omega (arith, said_reads (g.N.Nodes.node c.args.nodes.now c.args.block) c.in_ok-facts.facts.parts c.in_ok-facts.ensures.facts.says))

pub returns-clause-looked : goal.returns-clause-looked
returns-clause-looked g c =
    let s = c.args.nodes.now in
    let f = g.N.Nodes.node s in
    let limit = g.N.Nodes.limit s in
    let p = c.args.pass.now in
    let q = c.mark_next.new.self in
    let t = c.args.table.now in
    let u = c.take_in-2.new.self in
    let v = c.args.levels.now in
    let w = c.take_in.new.self in
    let block = c.args.block in
    let facts = c.in_ok-facts.facts in
    let there = c.in_ok-facts.ensures.there in
    let are = c.in_ok-facts.ensures.facts in
    let before = c.requires.verifying in
    let next = c.in_ok-mark_next.ensures.next.0 in
    let taken : TakesNode (limit - 80) block facts.parts t u c.in_ok-have_heads.have_heads =
    subst (λ (n : ℕ). TakesNode (n - 80) block facts.parts t u c.in_ok-have_heads.have_heads) c.block_bytes-capacity.ensures.value c.in_ok-have_heads.ensures.heads in
    let noted : HasNoted f q u w =
    noted_next f p q t u v w block facts before.noted c.requires.left.0 c.requires.left.1 there are c.mark_next.ensures.on next c.deref.result.now c.deref-3.result.now c.deref-2.result.now c.next_in.result c.is_empty.result
    c.deref.ensures.value (c.in_ok-mark_next.ensures.pass f) (λ b past. g.met.N.Nodes.none_beyond s b (subst (λ (n : ℕ). n ≤ b) before.size past)) c.deref-3.ensures.value c.in_ok-have_heads.ensures.noted
    c.deref-2.ensures.value c.next_in.ensures (λ is. omega (arith, eqb-true (vec_len facts.parts.places) 0 (sym c.is_empty.ensures ∙ is), facts.parts.places.ok.0)) c.in_ok-take_in.ensures.goes c.in_ok-take_in.ensures.stands in
    let heads = heads_next f p q t u v w block facts before.noted c.requires.left.0 c.requires.left.1 there are c.mark_next.ensures.on next limit (λ b bytes is. g.met.N.Nodes.whole s b bytes c.requires.sound is)
    c.in_ok-have_heads.have_heads before.told.heads taken c.if-not-have_heads.false in
    let k = c.take_in-3.new.self in
    let tops = tops_next f p q t u v w block facts before.noted c.requires.left.0 c.requires.left.1 there are c.mark_next.ensures.on next c.in_ok-have_tops.have_tops c.args.tops.now k before.told.tops
    (subst (λ (l : List ℕ). TakesTop block (top_by (slice_index l) facts.parts.index) (steps_by (slice_index l) facts.parts.index) c.args.tops.now k c.in_ok-have_tops.have_tops) c.deref-4.ensures.value c.in_ok-have_tops.ensures.tops) c.if-not-have_tops.false in
    let told : HasTold (limit - 80) f q u k = record { size = sized_on p q c.args.tops.now k c.mark_next.ensures.on before.told.size c.in_ok-have_tops.ensures.sized; heads = heads; tops = tops } in
    IfOk-weaker c.look.result _ (λ good. HasLookedAt limit f c.args.plain block p q u k w good)
    (λ good exact. looked_at f p q t u v w block facts before.noted c.requires.left.0 c.requires.left.1 there are c.mark_next.ensures.on next limit (c.block_bytes-capacity.result - 80) (g.N.Nodes.node c.read_facts.new.nodes) c.args.plain good k
    c.read_facts.ensures.calls.looks.same_nodes (ap (λ (n : ℕ). n - 80) c.block_bytes-capacity.ensures.value) noted told exact)
    c.look.ensures.exact
