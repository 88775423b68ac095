use Rattle.std.proofs.Common.{◌≡◌, ℕ, List, Some, None, refl, ap, subst, sym, ◌∙◌, arith}
use Rattle.fields.proofs.Found.{found}
use Rattle.fs_types.specs.Names.{Name}
use Rattle.nodes.specs.Parts.{IsFront}
use Rattle.std.proofs.lemmas.Result.{err_from_is_err_and}
use Rattle.nodes.specs.WordLaws.{looks_wider, looks_answered, looks_idle}
use Rattle.reclaim.specs.Looks.{may_follow}
use Rattle.reclaim.proofs.Follows.{link_bytes}
use Rattle.reclaim.proofs.Looking.{one_read}
use Rattle.reclaim.proofs.edge.may_go_on.Goals as goal

pub returns-then-edge-eq0-clause-exact : goal.returns-then-edge-eq0-clause-exact
returns-then-edge-eq0-clause-exact g c = (λ some. absurd (some c.if-edge-eq0.true), λ none. refl)

pub returns-then-not-brought-clause-exact : goal.returns-then-not-brought-clause-exact
returns-then-not-brought-clause-exact g c = (
  λ some l is.
      let own = link_bytes (g.N.Nodes.node c.args.nodes.now c.args.edge.now.next) l is in
      let no : None ≡ found own.0 = sym (c.in_ok-brought.ensures.none c.if-not-brought.true) ∙ own.1 in
      absurd cc,
  λ none. absurd (c.if-edge-eq0.false none),
)

pub returns-clause-exact : goal.returns-clause-exact
returns-clause-exact g c = (
  λ some l is.
      let s = c.args.nodes.now in
      let own = link_bytes (g.N.Nodes.node s c.args.edge.now.next) l is in
      let front : IsFront (g.N.Nodes.page s) c.fronted.result.now own.0 =
      subst (λ (xs : List ℕ). IsFront (g.N.Nodes.page s) xs own.0) (sym c.fronted.ensures) (c.in_ok-brought.ensures.begins c.if-not-brought.false own.0 own.1) in
      c.comes_after.ensures (g.N.Nodes.page s) own.0 l (g.met.N.Nodes.least_page s c.requires) front own.2 ∙ ap (λ (name : Name). may_follow name (Some l)) c.as_slice.ensures.value,
  λ none. absurd (c.if-edge-eq0.false none),
)

pub returns-then-edge-eq0-clause-calls : goal.returns-then-edge-eq0-clause-calls
returns-then-edge-eq0-clause-calls g c = looks_wider (looks_idle g.met.N.Nodes.follows_itself c.args.nodes.now c.requires) (omega arith)

pub returns-in_err-brought-clause-calls : goal.returns-in_err-brought-clause-calls
returns-in_err-brought-clause-calls g c =
    let p = err_from_is_err_and c.from_residual.result c.from_residual.ensures.1 in
    rw (p.1, p.2) (looks_wider c.in_err-brought.ensures.calls (omega (arith, one_read c.args.edge.now.next c.if-edge-eq0.false)))

pub returns-then-not-brought-clause-calls : goal.returns-then-not-brought-clause-calls
returns-then-not-brought-clause-calls g c = looks_wider (looks_answered c.in_ok-brought.ensures.calls) (omega (arith, one_read c.args.edge.now.next c.if-edge-eq0.false))

pub returns-clause-calls : goal.returns-clause-calls
returns-clause-calls g c = looks_wider (looks_answered c.in_ok-brought.ensures.calls) (omega (arith, one_read c.args.edge.now.next c.if-edge-eq0.false))
