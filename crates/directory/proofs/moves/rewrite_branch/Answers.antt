use Rattle.std.proofs.Common.{arith}
use Rattle.directory.proofs.Branches.{branch_of}
use Rattle.std.proofs.lemmas.Result.{err_from_is_err_and}
use Rattle.nodes.specs.WordLaws.{works_wider, works_answered, works_idle, works_refused}
use Rattle.directory.proofs.moves.rewrite_branch.Goals as goal

pub returns-clause-branch : goal.returns-clause-branch
returns-clause-branch g c =
    let fork = c.requires.fork in
    let other = c.if-fork-names.false in
    branch_of (g.N.Nodes.node c.args.nodes.now) (g.N.Nodes.node c.rewrite_from.new.nodes) (g.N.Nodes.kept c.args.nodes.now) (g.N.Nodes.kept c.rewrite_from.new.nodes) c.requires.way.root c.args.names.now c.args.trail.now c.args.fork c.in_ok-next.next c.args.place
    c.requires.way.trail_of (omega arith) c.in_ok-next.ensures.rewritten

pub rewrite_from-requires-clause-level : goal.rewrite_from-requires-clause-level
rewrite_from-requires-clause-level g c =
    let fork = c.requires.fork in
    let other = c.if-fork-names.false in
    omega arith

pub rewrite_from-requires-clause-way : goal.rewrite_from-requires-clause-way
rewrite_from-requires-clause-way g c = c.requires.way

pub rewrite_from-requires-clause-taken : goal.rewrite_from-requires-clause-taken
rewrite_from-requires-clause-taken g c =
    let fork = c.requires.fork in
    let other = c.if-fork-names.false in
    c.requires.taken (omega arith)

pub returns-in_err-next-clause-calls : goal.returns-in_err-next-clause-calls
returns-in_err-next-clause-calls g c =
    let p = err_from_is_err_and c.from_residual.result c.from_residual.ensures.1 in
    rw (p.1, p.2) (works_refused c.in_err-next.ensures.calls)

pub returns-clause-calls : goal.returns-clause-calls
returns-clause-calls g c = works_answered c.in_ok-next.ensures.calls

pub returns-then-fork-names-clause-calls : goal.returns-then-fork-names-clause-calls
returns-then-fork-names-clause-calls g c = works_wider (works_idle g.met.N.Nodes.follows_itself c.args.nodes.now c.requires.sound) (omega arith) (omega arith)
