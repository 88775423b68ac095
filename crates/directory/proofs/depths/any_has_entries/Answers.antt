use Rattle.std.proofs.Common.{◌≡◌, ◌∙◌, sym, true, arith, ◌+◌, ◌≤◌, rules}
use Rattle.std.specs.FinSet as set
use Rattle.std.proofs.lemmas.Result.{err_from_is_err_and}
use Rattle.nodes.specs.WordLaws.{looks_after, looks_wider, looks_answered, looks_refused}
use Rattle.directory.proofs.Counting.{one_here, count_few, count_most}
use Rattle.directory.proofs.depths.any_has_entries.Goals as goal

pub returns-in_err-has_some-clause-reads : goal.returns-in_err-has_some-clause-reads
returns-in_err-has_some-clause-reads g c list among =
    let p = set.contains c.args.level.now.members in
    let i = c.loop-block.block in
    let here : p i ≡ true = sym c.contains.ensures ∙ c.if-contains.true in
    omega (arith, one_here p i here, count_few p list (i + 1) among, c.loop-block.invariant.calls.reads, c.has_entries.ensures.calls.reads)

pub returns-then-has_some-clause-reads : goal.returns-then-has_some-clause-reads
returns-then-has_some-clause-reads g c list among =
    let p = set.contains c.args.level.now.members in
    let i = c.loop-block.block in
    let here : p i ≡ true = sym c.contains.ensures ∙ c.if-contains.true in
    omega (arith, one_here p i here, count_few p list (i + 1) among, c.loop-block.invariant.calls.reads, c.has_entries.ensures.calls.reads)

pub returns-clause-reads : goal.returns-clause-reads
returns-clause-reads g c list among =
    omega (arith, count_few (set.contains c.args.level.now.members) list c.loop-block.block among, c.loop-block.invariant.calls.reads)

pub has_entries-requires : goal.has_entries-requires
has_entries-requires g c = c.loop-block.invariant.calls.looks.sound

pub returns-in_err-has_some-clause-calls : goal.returns-in_err-has_some-clause-calls
returns-in_err-has_some-clause-calls g c =
    let p = set.contains c.args.level.now.members in
    let i = c.loop-block.block in
    let here : p i ≡ true = sym c.contains.ensures ∙ c.if-contains.true in
    let less = c.loop-block-test.true in
    let r = err_from_is_err_and c.from_residual.result c.from_residual.ensures.1 in
    rw (r.1, r.2) (looks_refused (looks_after g.met.N.Nodes.looks_on g.met.N.Nodes.causes_on c.args.nodes.now c.loop-block.nodes c.has_entries.new.nodes (λ fault is. is) c.loop-block.invariant.calls c.in_err-has_some.ensures.calls (omega (arith, one_here p i here, count_most p (i + 1), less))))

pub returns-then-has_some-clause-calls : goal.returns-then-has_some-clause-calls
returns-then-has_some-clause-calls g c =
    let p = set.contains c.args.level.now.members in
    let i = c.loop-block.block in
    let here : p i ≡ true = sym c.contains.ensures ∙ c.if-contains.true in
    let less = c.loop-block-test.true in
    looks_answered (looks_after g.met.N.Nodes.looks_on g.met.N.Nodes.causes_on c.args.nodes.now c.loop-block.nodes c.has_entries.new.nodes (λ fault is. is) c.loop-block.invariant.calls c.in_ok-has_some.ensures.calls (omega (arith, one_here p i here, count_most p (i + 1), less)))

pub returns-clause-calls : goal.returns-clause-calls
returns-clause-calls g c =
    let within : c.loop-block.block ≤ c.args.level.now.blocks = search rules in
    looks_wider (looks_answered c.loop-block.invariant.calls) (omega (arith, count_most (set.contains c.args.level.now.members) c.loop-block.block, within))
