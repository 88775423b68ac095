use Rattle.std.proofs.Common.{◌≡◌, ◌+◌, ℕ, ap, subst, sym, ◌∙◌, arith, ◌-◌, Ok}
use Rattle.std.specs.FinSet as set
use Rattle.block_ring.specs.BlockSet.{BlockSet}
use Rattle.std.proofs.lemmas.Result.{err_from_is_err_and}
use Rattle.nodes.specs.Faults.{IsLookFault}
use Rattle.nodes.specs.Words.{LooksWithin}
use Rattle.nodes.specs.Bodies.{Blocks}
use Rattle.directory.specs.Depths.{count_below, is_loud, AreQuiet, AreNamedBy}
use Rattle.nodes.specs.WordLaws.{looks_after, looks_wider, looks_answered, looks_refused, looks_idle}
use Rattle.directory.proofs.Counting.{loud_few, loud_le, count_most}
use Rattle.directory.proofs.LevelNodes.{IsLevelRead, level_begins, level_skips, level_step, level_more, all_named, later_has}
use Rattle.directory.proofs.depths.next_level.Goals as goal
use Rattle.directory.proofs.depths.next_level.Goals.{then-contains+in_ok-add_chain, else-contains}

pub loop-block-init : goal.loop-block-init
loop-block-init g c =
    let no_seen = ap (λ (s : BlockSet). s.members) c.in_ok-seen.ensures.ok in
    record {
      level = level_begins (g.N.Nodes.node c.args.nodes.now) (g.N.Nodes.blocks c.args.nodes.now) c.args.level.now.members c.in_ok-seen.seen.members c.in_ok-next.next.members no_seen (ap (λ (s : BlockSet). s.members) c.in_ok-next.ensures.ok);
      seen_size = ap (λ (s : BlockSet). s.blocks) c.in_ok-seen.ensures.ok ∙ c.blocks-3.ensures;
      next_size = ap (λ (s : BlockSet). s.blocks) c.in_ok-next.ensures.ok ∙ c.blocks-2.ensures;
      calls = looks_wider (looks_idle g.met.N.Nodes.follows_itself c.args.nodes.now c.requires.sound) (omega arith);
    }

pub loop-block-preserved : goal.loop-block-preserved
loop-block-preserved g c =
    let f = g.N.Nodes.node c.args.nodes.now in
    let blocks = g.N.Nodes.blocks c.args.nodes.now in
    let level = c.args.level.now.members in
    let most = c.args.level.now.blocks in
    let i = c.loop-block.block in
    let before = c.loop-block.invariant in
    elim c.if-contains.branch [
      | then-contains+in_ok-add_chain w ↦
          let read = w.in_ok-add_chain.ensures.read in
          let step = level_step f (g.N.Nodes.node c.loop-block.nodes) blocks (g.N.Nodes.blocks c.loop-block.nodes) i level c.loop-block.seen.members c.loop-block.next.members w.add_chain.new.seen.members w.add_chain.new.found.members before.calls.looks.same_nodes before.calls.looks.same_blocks before.level
          (sym c.contains.ensures ∙ w.if-contains.true) read.below read.here read.named w.add_chain.ensures.stays w.add_chain.ensures.among in
          let fewer = loud_le c.args.quiet.now.members c.loop-block.seen.members w.add_chain.new.seen.members w.add_chain.ensures.stays most in
          let counts : (count_below (is_loud c.args.quiet.now.members w.add_chain.new.seen.members) c.loop-block.seen.blocks - count_below (is_loud c.args.quiet.now.members c.loop-block.seen.members) c.loop-block.seen.blocks) ≡ (count_below (is_loud c.args.quiet.now.members w.add_chain.new.seen.members) most - count_below (is_loud c.args.quiet.now.members c.loop-block.seen.members) most) =
          ap (λ (n : ℕ). count_below (is_loud c.args.quiet.now.members w.add_chain.new.seen.members) n - count_below (is_loud c.args.quiet.now.members c.loop-block.seen.members) n) before.seen_size in
          let calls : LooksWithin g.N.Nodes IsLookFault (count_below (is_loud c.args.quiet.now.members w.add_chain.new.seen.members) most) c.args.nodes.now (Ok (i + 1)) w.add_chain.new.nodes = looks_answered (looks_after g.met.N.Nodes.looks_on g.met.N.Nodes.causes_on c.args.nodes.now c.loop-block.nodes w.add_chain.new.nodes (λ fault is. is) before.calls w.in_ok-add_chain.ensures.calls (omega (arith, fewer, counts))) in
          record {
            level = subst (λ (s : BlockSet). IsLevelRead f blocks (i + 1) level s.members c.if-contains.next.members) (sym w.seen-is)
                (subst (λ (n : BlockSet). IsLevelRead f blocks (i + 1) level w.add_chain.new.seen.members n.members) (sym w.next-is) step);
            seen_size = ap (λ (s : BlockSet). s.blocks) w.seen-is ∙ w.add_chain.ensures.size.0 ∙ before.seen_size;
            next_size = ap (λ (s : BlockSet). s.blocks) w.next-is ∙ w.add_chain.ensures.size.1 ∙ before.next_size;
            calls = subst (λ n. LooksWithin g.N.Nodes IsLookFault (count_below (is_loud c.args.quiet.now.members c.if-contains.seen.members) most) c.args.nodes.now (Ok (i + 1)) n) (sym w.nodes-is)
                (subst (λ (s : BlockSet). LooksWithin g.N.Nodes IsLookFault (count_below (is_loud c.args.quiet.now.members s.members) most) c.args.nodes.now (Ok (i + 1)) w.add_chain.new.nodes) (sym w.seen-is) calls);
          }
      | else-contains w ↦ record {
        level = subst (λ (s : BlockSet). IsLevelRead f blocks (i + 1) level s.members c.if-contains.next.members) (sym w.seen-is)
            (subst (λ (n : BlockSet). IsLevelRead f blocks (i + 1) level c.loop-block.seen.members n.members) (sym w.next-is)
            (level_skips f blocks i level c.loop-block.seen.members c.loop-block.next.members before.level (sym c.contains.ensures ∙ w.if-contains.false)));
        seen_size = ap (λ (s : BlockSet). s.blocks) w.seen-is ∙ before.seen_size;
        next_size = ap (λ (s : BlockSet). s.blocks) w.next-is ∙ before.next_size;
        calls = subst (λ n. LooksWithin g.N.Nodes IsLookFault (count_below (is_loud c.args.quiet.now.members c.if-contains.seen.members) most) c.args.nodes.now (Ok (i + 1)) n) (sym w.nodes-is)
            (subst (λ (s : BlockSet). LooksWithin g.N.Nodes IsLookFault (count_below (is_loud c.args.quiet.now.members s.members) most) c.args.nodes.now (Ok (i + 1)) c.loop-block.nodes) (sym w.seen-is) (looks_answered before.calls));
      }
    ]

pub returns-clause-named : goal.returns-clause-named
returns-clause-named g c =
    let f = g.N.Nodes.node c.args.nodes.now in
    let all = c.loop-block-test.false in (
      subst (λ (n : ℕ). AreNamedBy f n (set.contains c.args.level.now.members) c.loop-block.next.members) (sym c.requires.size)
          (all_named f (g.N.Nodes.blocks c.args.nodes.now) c.loop-block.block c.args.level.now.members c.loop-block.seen.members c.loop-block.next.members c.loop-block.invariant.level (λ b here. omega (arith, c.requires.within b here, all))),
      c.loop-block.invariant.next_size,
    )

pub returns-clause-among : goal.returns-clause-among
returns-clause-among g c roots list has among = c.loop-block.invariant.level.next_in roots list has among

pub add_chain-requires-clause-sound : goal.add_chain-requires-clause-sound
add_chain-requires-clause-sound g c = c.loop-block.invariant.calls.looks.sound

pub add_chain-requires-clause-quiet : goal.add_chain-requires-clause-quiet
add_chain-requires-clause-quiet g c = subst (λ (h : Blocks). AreQuiet h c.args.quiet.now.members c.args.nexts.now) (sym c.loop-block.invariant.calls.looks.same_nodes) c.requires.quiet

pub add_chain-requires-clause-size : goal.add_chain-requires-clause-size
add_chain-requires-clause-size g c =
    let same = sym c.loop-block.invariant.calls.looks.same_blocks in
    (c.loop-block.invariant.seen_size ∙ c.requires.size ∙ same, c.loop-block.invariant.next_size ∙ c.requires.size ∙ same)

pub returns-clause-reads : goal.returns-clause-reads
returns-clause-reads g c roots list has among =
    omega (arith, c.loop-block.invariant.calls.reads, loud_few c.args.quiet.now.members c.loop-block.seen.members list c.args.level.now.blocks (c.loop-block.invariant.level.seen_in roots list has among))

pub returns-in_err-add_chain-clause-reads : goal.returns-in_err-add_chain-clause-reads
returns-in_err-add_chain-clause-reads g c roots list has among =
    let f = g.N.Nodes.node c.args.nodes.now in
    let blocks = g.N.Nodes.blocks c.args.nodes.now in
    let before = c.loop-block.invariant in
    let has_now = later_has f (g.N.Nodes.node c.loop-block.nodes) blocks (g.N.Nodes.blocks c.loop-block.nodes) roots list before.calls.looks.same_nodes before.calls.looks.same_blocks has in
    let in_level = sym c.contains.ensures ∙ c.if-contains.true in
    let more = (c.add_chain.ensures.among roots list has_now (among c.loop-block.block in_level)).0 in
    let few = loud_few c.args.quiet.now.members c.add_chain.new.seen.members list c.args.level.now.blocks (level_more list c.loop-block.seen.members c.add_chain.new.seen.members (before.level.seen_in roots list has among) more) in
    let most = c.args.level.now.blocks in
    let fewer = loud_le c.args.quiet.now.members c.loop-block.seen.members c.add_chain.new.seen.members c.add_chain.ensures.stays most in
    let counts : (count_below (is_loud c.args.quiet.now.members c.add_chain.new.seen.members) c.loop-block.seen.blocks - count_below (is_loud c.args.quiet.now.members c.loop-block.seen.members) c.loop-block.seen.blocks) ≡ (count_below (is_loud c.args.quiet.now.members c.add_chain.new.seen.members) most - count_below (is_loud c.args.quiet.now.members c.loop-block.seen.members) most) =
    ap (λ (n : ℕ). count_below (is_loud c.args.quiet.now.members c.add_chain.new.seen.members) n - count_below (is_loud c.args.quiet.now.members c.loop-block.seen.members) n) before.seen_size in
    omega (arith, before.calls.reads, c.add_chain.ensures.calls.reads, counts, fewer, few)

pub returns-clause-calls : goal.returns-clause-calls
returns-clause-calls g c = looks_wider (looks_answered c.loop-block.invariant.calls) (omega (arith, count_most (is_loud c.args.quiet.now.members c.loop-block.seen.members) c.args.level.now.blocks, c.requires.size))

pub returns-in_err-add_chain-clause-calls : goal.returns-in_err-add_chain-clause-calls
returns-in_err-add_chain-clause-calls g c =
    let before = c.loop-block.invariant in
    let most = c.args.level.now.blocks in
    let fewer = loud_le c.args.quiet.now.members c.loop-block.seen.members c.add_chain.new.seen.members c.add_chain.ensures.stays most in
    let counts : (count_below (is_loud c.args.quiet.now.members c.add_chain.new.seen.members) c.loop-block.seen.blocks - count_below (is_loud c.args.quiet.now.members c.loop-block.seen.members) c.loop-block.seen.blocks) ≡ (count_below (is_loud c.args.quiet.now.members c.add_chain.new.seen.members) most - count_below (is_loud c.args.quiet.now.members c.loop-block.seen.members) most) =
    ap (λ (n : ℕ). count_below (is_loud c.args.quiet.now.members c.add_chain.new.seen.members) n - count_below (is_loud c.args.quiet.now.members c.loop-block.seen.members) n) before.seen_size in
    let p = err_from_is_err_and c.from_residual-in_err-add_chain.result c.from_residual-in_err-add_chain.ensures.1 in
    rw (p.1, p.2) (looks_refused (looks_after g.met.N.Nodes.looks_on g.met.N.Nodes.causes_on c.args.nodes.now c.loop-block.nodes c.add_chain.new.nodes (λ fault is. is) before.calls c.in_err-add_chain.ensures.calls (omega (arith, fewer, counts, count_most (is_loud c.args.quiet.now.members c.add_chain.new.seen.members) most, c.requires.size))))
