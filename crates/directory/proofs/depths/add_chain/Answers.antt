use Rattle.std.proofs.Common.{ap, refl, subst, sym, ◌∙◌, arith}
use Rattle.block_ring.specs.BlockSet.{BlockSet}
use Rattle.nodes.specs.Bodies.{Blocks}
use Rattle.directory.specs.Depths.{AreQuiet}
use Rattle.nodes.specs.WordLaws.{looks_after, looks_wider, looks_answered, looks_refused, looks_idle}
use Rattle.std.proofs.lemmas.Result.{err_from_is_err_and}
use Rattle.directory.proofs.Counting.{loud_le}
use Rattle.directory.proofs.LevelNodes.{left_here, ends_here, way_begins, way_step, way_read, way_here, stays_put, among_put, loud_step, measure_falls}
use Rattle.directory.proofs.depths.add_chain.Goals as goal

pub chain-init : goal.chain-init
chain-init g c = record {
  way = way_begins (g.N.Nodes.node c.args.nodes.now) (g.N.Nodes.blocks c.args.nodes.now) c.args.block c.args.seen.now.members c.args.found.now.members;
  seen_size = refl;
  found_size = refl;
  calls = looks_wider (looks_idle g.met.N.Nodes.follows_itself c.args.nodes.now c.requires.sound) (omega arith);
  reads = refl;
}

pub chain-preserved : goal.chain-preserved
chain-preserved g c =
    let f = g.N.Nodes.node c.args.nodes.now in
    let blocks = g.N.Nodes.blocks c.args.nodes.now in
    let seen_size = c.chain.invariant.seen_size ∙ c.requires.size.0 in
    let found_size = c.chain.invariant.found_size ∙ c.requires.size.1 in
    let left = left_here blocks c.chain.at c.chain.seen c.is_left.result seen_size c.is_left.ensures c.chain-test.true in
    let more = loud_step c.args.quiet.now.members blocks c.chain.at c.args.seen.now.blocks c.chain.seen c.insert.new.self c.requires.size.0 left c.insert.ensures in
    let most = loud_le c.args.quiet.now.members c.args.seen.now.members c.chain.seen.members c.chain.invariant.way.stays c.args.seen.now.blocks in
    record {
      way = way_step f (g.N.Nodes.node c.chain.nodes) blocks c.args.block c.chain.at c.in_ok-at.at c.args.seen.now c.args.found.now c.chain.seen c.insert.new.self c.chain.found c.add_unknown.new.found c.chain.invariant.calls.looks.same_nodes found_size c.chain.invariant.way left c.insert.ensures c.in_ok-at.ensures.next c.in_ok-at.ensures.added;
      seen_size = ap (λ (s : BlockSet). s.blocks) c.insert.ensures ∙ c.chain.invariant.seen_size;
      found_size = c.add_unknown.ensures.size ∙ c.chain.invariant.found_size;
      calls = looks_after g.met.N.Nodes.looks_on g.met.N.Nodes.causes_on c.args.nodes.now c.chain.nodes c.add_unknown.new.nodes (λ fault is. is) c.chain.invariant.calls c.in_ok-at.ensures.calls (omega (arith, more, most));
      reads = omega (arith, more, c.chain.invariant.reads, c.in_ok-at.ensures.reads);
    }

pub chain-smaller : goal.chain-smaller
chain-smaller g c =
    let left = left_here (g.N.Nodes.blocks c.args.nodes.now) c.chain.at c.chain.seen c.is_left.result (c.chain.invariant.seen_size ∙ c.requires.size.0) c.is_left.ensures c.chain-test.true in
    measure_falls (g.N.Nodes.blocks c.args.nodes.now) c.chain.at c.chain.seen c.insert.new.self (c.chain.invariant.seen_size ∙ c.requires.size.0) left c.insert.ensures

pub add_unknown-requires-clause-sound : goal.add_unknown-requires-clause-sound
add_unknown-requires-clause-sound g c = c.chain.invariant.calls.looks.sound

pub add_unknown-requires-clause-quiet : goal.add_unknown-requires-clause-quiet
add_unknown-requires-clause-quiet g c = subst (λ (h : Blocks). AreQuiet h c.args.quiet.now.members c.args.nexts.now) (sym c.chain.invariant.calls.looks.same_nodes) c.requires.quiet

pub insert-requires : goal.insert-requires
insert-requires g c =
    let left = left_here (g.N.Nodes.blocks c.args.nodes.now) c.chain.at c.chain.seen c.is_left.result (c.chain.invariant.seen_size ∙ c.requires.size.0) c.is_left.ensures c.chain-test.true in
    omega (arith, left.below, c.chain.invariant.seen_size, c.requires.size.0)

pub returns-clause-read : goal.returns-clause-read
returns-clause-read g c =
    let f = g.N.Nodes.node c.args.nodes.now in
    let blocks = g.N.Nodes.blocks c.args.nodes.now in
    let ends = ends_here f blocks c.chain.at c.chain.seen c.is_left.result (g.met.N.Nodes.none_below c.args.nodes.now 0 (omega arith)) (g.met.N.Nodes.none_beyond c.args.nodes.now) (c.chain.invariant.seen_size ∙ c.requires.size.0) c.is_left.ensures c.chain-test.false in
    record {
      below = way_read f blocks c.args.block c.chain.at c.args.seen.now.members c.args.found.now.members c.chain.seen.members c.chain.found.members c.chain.invariant.way ends;
      here = way_here f blocks c.args.block c.chain.at c.args.seen.now.members c.args.found.now.members c.chain.seen.members c.chain.found.members c.chain.invariant.way ends;
      named = c.chain.invariant.way.named;
    }

pub returns-clause-stays : goal.returns-clause-stays
returns-clause-stays g c = c.chain.invariant.way.stays

pub returns-clause-among : goal.returns-clause-among
returns-clause-among g c roots list has within = (c.chain.invariant.way.seen_in roots list has within, c.chain.invariant.way.found_in roots list has within)

pub returns-in_err-at-clause-stays : goal.returns-in_err-at-clause-stays
returns-in_err-at-clause-stays g c =
    stays_put (g.N.Nodes.node c.args.nodes.now) (g.N.Nodes.blocks c.args.nodes.now) c.args.block c.chain.at c.args.seen.now c.args.found.now c.chain.seen c.insert.new.self c.chain.found c.chain.invariant.way c.insert.ensures

pub returns-in_err-at-clause-among : goal.returns-in_err-at-clause-among
returns-in_err-at-clause-among g c =
    let blocks = g.N.Nodes.blocks c.args.nodes.now in
    let left = left_here blocks c.chain.at c.chain.seen c.is_left.result (c.chain.invariant.seen_size ∙ c.requires.size.0) c.is_left.ensures c.chain-test.true in
    among_put (g.N.Nodes.node c.args.nodes.now) blocks c.args.block c.chain.at c.args.seen.now c.args.found.now c.chain.seen c.insert.new.self c.chain.found c.add_unknown.new.found c.chain.invariant.way left c.insert.ensures c.in_err-at.ensures.same

pub returns-clause-calls : goal.returns-clause-calls
returns-clause-calls g c = looks_answered c.chain.invariant.calls

pub returns-in_err-at-clause-calls : goal.returns-in_err-at-clause-calls
returns-in_err-at-clause-calls g c =
    let blocks = g.N.Nodes.blocks c.args.nodes.now in
    let left = left_here blocks c.chain.at c.chain.seen c.is_left.result (c.chain.invariant.seen_size ∙ c.requires.size.0) c.is_left.ensures c.chain-test.true in
    let more = loud_step c.args.quiet.now.members blocks c.chain.at c.args.seen.now.blocks c.chain.seen c.insert.new.self c.requires.size.0 left c.insert.ensures in
    let most = loud_le c.args.quiet.now.members c.args.seen.now.members c.chain.seen.members c.chain.invariant.way.stays c.args.seen.now.blocks in
    let p = err_from_is_err_and c.from_residual.result c.from_residual.ensures.1 in
    rw (p.1, p.2) (looks_refused (looks_after g.met.N.Nodes.looks_on g.met.N.Nodes.causes_on c.args.nodes.now c.chain.nodes c.add_unknown.new.nodes (λ fault is. is) c.chain.invariant.calls c.in_err-at.ensures.calls (omega (arith, more, most))))

pub returns-clause-reads : goal.returns-clause-reads
returns-clause-reads g c = c.chain.invariant.reads

pub returns-in_err-at-clause-reads : goal.returns-in_err-at-clause-reads
returns-in_err-at-clause-reads g c =
    let blocks = g.N.Nodes.blocks c.args.nodes.now in
    let left = left_here blocks c.chain.at c.chain.seen c.is_left.result (c.chain.invariant.seen_size ∙ c.requires.size.0) c.is_left.ensures c.chain-test.true in
    let more = loud_step c.args.quiet.now.members blocks c.chain.at c.args.seen.now.blocks c.chain.seen c.insert.new.self c.requires.size.0 left c.insert.ensures in
    omega (arith, more, c.chain.invariant.reads, c.in_err-at.ensures.reads)
