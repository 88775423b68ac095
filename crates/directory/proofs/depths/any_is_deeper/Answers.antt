use Rattle.std.proofs.Common.{◌≡◌, ◌<◌, ◌≤◌, ◌+◌, ◌*◌, ℕ, ap, subst, sym, ◌∙◌, rules, arith, length}
use Rattle.std.specs.FinSet as set
use Rattle.std.proofs.lemmas.Nat.{mul-le}
use Rattle.nodes.specs.Bodies.{Blocks}
use Rattle.nodes.specs.Chains.{link_items}
use Rattle.directory.specs.Depths.{AreNamedBy, AreQuiet, loud_of}
use Rattle.nodes.specs.WordLaws.{looks_after, looks_wider, looks_answered, looks_refused, looks_idle}
use Rattle.directory.proofs.LevelNodes.{later_has}
use Rattle.directory.proofs.Levels.{IsLevel, one_level_more, first_level, next_is_level, no_first_items, last_shallow, last_deeper, empty_shallow}
use Rattle.std.proofs.lemmas.Result.{err_from_is_err_and, IfOk-weaker}
use Rattle.directory.proofs.depths.any_is_deeper.Goals as goal

pub loop-done-init : goal.loop-done-init
loop-done-init g c =
    let f = g.N.Nodes.node c.args.nodes.now in
    let level = c.in_ok-level.level in
    let has = c.in_ok-level.ensures.has in
    let beyond = λ (b : ℕ) (past : c.block_count-blocks.result ≤ b). g.met.N.Nodes.none_beyond c.args.nodes.now b (subst (λ (n : ℕ). n ≤ b) c.block_count-blocks.ensures past) in
    record {
      level = subst (λ (n : ℕ). IsLevel f c.args.roots.now c.args.most 0 n level.members) (sym c.in_ok-level.ensures.size)
          (first_level f c.args.roots.now c.args.most c.block_count-blocks.result level.members beyond has);
      size = c.in_ok-level.ensures.size ∙ c.block_count-blocks.ensures;
      listed = λ list all b here.
          let one : b < c.block_count-blocks.result = has.within b here in
          all.first b (has.listed b here) (subst (λ (n : ℕ). b < n) c.block_count-blocks.ensures one);
      reads = λ list all. omega arith;
      calls = looks_wider (looks_idle g.met.N.Nodes.follows_itself c.args.nodes.now c.requires.sound) (omega arith);
    }

pub loop-done-preserved : goal.loop-done-preserved
loop-done-preserved g c =
    let f = g.N.Nodes.node c.args.nodes.now in
    let level = c.loop-done.level in
    let next = c.in_ok-level-2.level in
    let named : AreNamedBy f level.blocks (set.contains level.members) next.members =
    subst (λ (f : Blocks). AreNamedBy f level.blocks (set.contains level.members) next.members) c.loop-done.invariant.calls.looks.same_nodes c.in_ok-level-2.ensures.named.0 in
    let more : c.loop-done.done < c.args.most = omega (arith, c.loop-done-test.true) in
    let beyond = λ (b : ℕ) (past : level.blocks ≤ b). g.met.N.Nodes.none_beyond c.args.nodes.now b (subst (λ (n : ℕ). n ≤ b) c.loop-done.invariant.size past) in
    let step = next_is_level f c.args.roots.now c.args.most c.loop-done.done level.blocks level.members next.members more beyond c.loop-done.invariant.level named in
    record {
      level = subst (λ (n : ℕ). IsLevel f c.args.roots.now c.args.most (c.loop-done.done + 1) n next.members) (sym c.in_ok-level-2.ensures.named.1) step;
      size = c.in_ok-level-2.ensures.named.1 ∙ c.loop-done.invariant.size;
      listed = λ list all.
          c.in_ok-level-2.ensures.among c.args.roots.now list (later_has f (g.N.Nodes.node c.loop-done.nodes) (g.N.Nodes.blocks c.args.nodes.now) (g.N.Nodes.blocks c.loop-done.nodes) c.args.roots.now list c.loop-done.invariant.calls.looks.same_nodes c.loop-done.invariant.calls.looks.same_blocks all) (c.loop-done.invariant.listed list all);
      reads = λ list all.
          omega (arith, one_level_more c.loop-done.done (length (loud_of c.args.quiet.now.members list)), c.next_level.ensures.reads c.args.roots.now list (later_has f (g.N.Nodes.node c.loop-done.nodes) (g.N.Nodes.blocks c.args.nodes.now) (g.N.Nodes.blocks c.loop-done.nodes) c.args.roots.now list c.loop-done.invariant.calls.looks.same_nodes c.loop-done.invariant.calls.looks.same_blocks all) (c.loop-done.invariant.listed list all), c.loop-done.invariant.reads list all);
      calls = looks_answered (looks_after g.met.N.Nodes.looks_on g.met.N.Nodes.causes_on c.args.nodes.now c.loop-done.nodes c.next_level.new.nodes (λ fault is. is) c.loop-done.invariant.calls c.in_ok-level-2.ensures.calls
          (omega (arith, one_level_more c.loop-done.done (g.N.Nodes.blocks c.args.nodes.now), c.loop-done.invariant.calls.looks.same_blocks)));
    }

pub returns-clause-deeper : goal.returns-clause-deeper
returns-clause-deeper g c =
    let f = g.N.Nodes.node c.args.nodes.now in
    let roots = c.args.roots.now in
    let level = c.loop-done.level in
    let at_end : c.loop-done.done ≡ c.args.most = search rules in
    let last : IsLevel f roots c.args.most c.args.most level.blocks level.members = subst (λ (k : ℕ). IsLevel f roots c.args.most k level.blocks level.members) at_end c.loop-done.invariant.level in
    λ whole. IfOk-weaker c.any_has_entries.result _ _ (λ deep found is.
    let entry = found is in
    last_deeper f roots c.args.most level.blocks entry.0 level.members whole last entry.1 (subst (λ (f : Blocks). 0 < length (link_items (f entry.0))) c.loop-done.invariant.calls.looks.same_nodes entry.2)) c.any_has_entries.ensures.some

pub returns-clause-shallow : goal.returns-clause-shallow
returns-clause-shallow g c =
    let f = g.N.Nodes.node c.args.nodes.now in
    let roots = c.args.roots.now in
    let level = c.loop-done.level in
    let at_end : c.loop-done.done ≡ c.args.most = search rules in
    let last : IsLevel f roots c.args.most c.args.most level.blocks level.members = subst (λ (k : ℕ). IsLevel f roots c.args.most k level.blocks level.members) at_end c.loop-done.invariant.level in
    IfOk-weaker c.any_has_entries.result _ _ (λ deep none is.
    last_shallow f roots c.args.most level.blocks level.members last
    (λ b here. no_first_items f b (subst (λ (f : Blocks). length (link_items (f b)) ≡ 0) c.loop-done.invariant.calls.looks.same_nodes (none is b here)))) c.any_has_entries.ensures.none

pub returns-then-is_empty-clause-shallow : goal.returns-then-is_empty-clause-shallow
returns-then-is_empty-clause-shallow g c =
    λ _ root rooted. empty_shallow (g.N.Nodes.node c.args.nodes.now) c.args.roots.now c.args.most c.loop-done.done c.loop-done.level.blocks c.loop-done.level.members c.loop-done.invariant.level (c.is_empty.ensures.0 cc) root rooted

pub returns-then-is_empty-clause-reads : goal.returns-then-is_empty-clause-reads
returns-then-is_empty-clause-reads g c list all =
    let loud = length (loud_of c.args.quiet.now.members list) in
    let few : c.loop-done.done * loud ≤ c.args.most * loud = mul-le c.loop-done.done loud c.args.most loud (omega arith) (omega arith) in
    omega (arith, few, c.loop-done.invariant.reads list all)

pub returns-in_err-level-2-clause-reads : goal.returns-in_err-level-2-clause-reads
returns-in_err-level-2-clause-reads g c list all =
    let loud = length (loud_of c.args.quiet.now.members list) in
    let more : c.loop-done.done < c.args.most = omega (arith, c.loop-done-test.true) in
    let few : (c.loop-done.done + 1) * loud ≤ c.args.most * loud = mul-le (c.loop-done.done + 1) loud c.args.most loud (omega arith) (omega arith) in
    omega (arith, few, one_level_more c.loop-done.done loud, c.next_level.ensures.reads c.args.roots.now list (later_has (g.N.Nodes.node c.args.nodes.now) (g.N.Nodes.node c.loop-done.nodes) (g.N.Nodes.blocks c.args.nodes.now) (g.N.Nodes.blocks c.loop-done.nodes) c.args.roots.now list c.loop-done.invariant.calls.looks.same_nodes c.loop-done.invariant.calls.looks.same_blocks all) (c.loop-done.invariant.listed list all), c.loop-done.invariant.reads list all)

pub returns-clause-reads : goal.returns-clause-reads
returns-clause-reads g c list all =
    let loud = length (loud_of c.args.quiet.now.members list) in
    let at_end : c.loop-done.done ≡ c.args.most = search rules in
    let size : c.loop-done.done * loud ≡ c.args.most * loud = ap (λ (n : ℕ). n * loud) at_end in
    omega (arith, size, c.any_has_entries.ensures.reads list (c.loop-done.invariant.listed list all), c.loop-done.invariant.reads list all)

pub next_level-requires-clause-quiet : goal.next_level-requires-clause-quiet
next_level-requires-clause-quiet g c = subst (λ (h : Blocks). AreQuiet h c.args.quiet.now.members c.args.nexts.now) (sym c.loop-done.invariant.calls.looks.same_nodes) c.requires.quiet

pub next_level-requires-clause-sound : goal.next_level-requires-clause-sound
next_level-requires-clause-sound g c = c.loop-done.invariant.calls.looks.sound

pub any_has_entries-requires-clause-sound : goal.any_has_entries-requires-clause-sound
any_has_entries-requires-clause-sound g c = c.loop-done.invariant.calls.looks.sound

pub next_level-requires-clause-size : goal.next_level-requires-clause-size
next_level-requires-clause-size g c = c.loop-done.invariant.size ∙ sym c.loop-done.invariant.calls.looks.same_blocks

pub returns-then-is_empty-clause-calls : goal.returns-then-is_empty-clause-calls
returns-then-is_empty-clause-calls g c =
    let blocks = g.N.Nodes.blocks c.args.nodes.now in
    let few : c.loop-done.done * blocks ≤ (c.args.most + 1) * blocks = mul-le c.loop-done.done blocks (c.args.most + 1) blocks (omega arith) (omega arith) in
    looks_wider (looks_answered c.loop-done.invariant.calls) (omega (arith, few))

pub returns-in_err-level-2-clause-calls : goal.returns-in_err-level-2-clause-calls
returns-in_err-level-2-clause-calls g c =
    let blocks = g.N.Nodes.blocks c.args.nodes.now in
    let more : c.loop-done.done < c.args.most = omega (arith, c.loop-done-test.true) in
    let few : (c.loop-done.done + 1) * blocks ≤ (c.args.most + 1) * blocks = mul-le (c.loop-done.done + 1) blocks (c.args.most + 1) blocks (omega arith) (omega arith) in
    let p = err_from_is_err_and c.from_residual-in_err-level-2.result c.from_residual-in_err-level-2.ensures.1 in
    rw (p.1, p.2) (looks_refused (looks_after g.met.N.Nodes.looks_on g.met.N.Nodes.causes_on c.args.nodes.now c.loop-done.nodes c.next_level.new.nodes (λ fault is. is) c.loop-done.invariant.calls c.in_err-level-2.ensures.calls
    (omega (arith, few, one_level_more c.loop-done.done blocks, c.loop-done.invariant.calls.looks.same_blocks))))

pub returns-clause-calls : goal.returns-clause-calls
returns-clause-calls g c =
    let blocks = g.N.Nodes.blocks c.args.nodes.now in
    let at_end : c.loop-done.done ≡ c.args.most = search rules in
    let size : c.loop-done.done * blocks ≡ c.args.most * blocks = ap (λ (n : ℕ). n * blocks) at_end in
    looks_after g.met.N.Nodes.looks_on g.met.N.Nodes.causes_on c.args.nodes.now c.loop-done.nodes c.any_has_entries.new.nodes (λ fault is. is) c.loop-done.invariant.calls c.any_has_entries.ensures.calls
    (omega (arith, size, one_level_more c.args.most blocks, c.loop-done.invariant.size))
