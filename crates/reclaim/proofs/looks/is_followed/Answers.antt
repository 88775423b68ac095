use Rattle.std.proofs.Common.{ℕ, ap, ◌∙◌, arith}
use Rattle.std.specs.Option.{option_map}
use Rattle.std.proofs.lemmas.Result.{IfOk-weaker}
use Rattle.fs_types.specs.Names.{Name}
use Rattle.nodes.specs.WordLaws.{looks_wider, looks_idle}
use Rattle.reclaim.specs.Looks.{edge_reads}
use Rattle.reclaim.specs.declared.edge.Edge.{Edge}
use Rattle.reclaim.proofs.Looking.{followed_none, followed_some}
use Rattle.reclaim.proofs.looks.is_followed.Goals as goal

abbrev said : Edge → Name × ℕ
said e = (e.last.items, e.next)

pub returns-in-Some-clause-exact : goal.returns-in-Some-clause-exact
returns-in-Some-clause-exact g c =
    let e = c.in-Some.edge in
    IfOk-weaker c.may_go_on.result _ _
    (λ good exact node says holds. followed_some (g.N.Nodes.node c.args.nodes.now) node e.last.items e.next good (says ∙ ap (option_map said) c.in-Some.is) exact.0 exact.1 holds)
    c.may_go_on.ensures.exact

pub returns-in-None-clause-exact : goal.returns-in-None-clause-exact
returns-in-None-clause-exact g c node says holds = followed_none (g.N.Nodes.node c.args.nodes.now) node (says ∙ ap (option_map said) c.in-None.is)

pub returns-in-Some-clause-calls : goal.returns-in-Some-clause-calls
returns-in-Some-clause-calls g c = looks_wider c.may_go_on.ensures.calls (omega (arith, ap edge_reads c.in-Some.is))

pub returns-in-None-clause-calls : goal.returns-in-None-clause-calls
returns-in-None-clause-calls g c = looks_wider (looks_idle g.met.N.Nodes.follows_itself c.args.nodes.now c.requires) (omega arith)
