use Rattle.std.proofs.Common.{◌≡◌, ℕ, ◌+◌, ◌*◌, Option, Some, None, List, refl, sym, ap, subst, ◌∙◌, arith}
use Rattle.std.specs.Prelude.{unwrap_or, IfSome}
use Rattle.node_format.specs.Headers.{field}
use Rattle.node_format.specs.BodyNodes.{IsBodyNode, HasSlot}
use Rattle.tree_edits.proofs.Chains.{body_at, slot_zero}
use Rattle.tree_edits.proofs.range_reads.copy_data.Goals as goal

-- the first node has no slot
no_slot : (found : Option ℕ) (index place : ℕ) → IfSome found (λ block. (block ≡ place) × HasSlot index 0) → index ≡ 0 → unwrap_or found 0 ≡ 0
no_slot None index place is first = refl
no_slot (Some block) index place is first = absurd (omega (arith, is.1.1, first))

pub unreachable-requires : goal.unreachable-requires
unreachable-requires g c =
    let old = c.args.nodes.now in
    let shown = c.in_ok-read.ensures.shown in
    let at = body_at (g.N.Nodes.limit old) c.requires.node.0 (g.N.Nodes.node old c.args.block) (g.N.Nodes.shown c.read.new.self) shown (g.met.N.Nodes.whole old c.args.block _ c.requires.sound shown) c.requires.node.1 in
    let read = c.in_default.ensures.only (subst IsBodyNode (sym c.lent.ensures) at.is_node) in
    absurd cc

pub returns-clause-before : goal.returns-clause-before
returns-clause-before g c = λ index indexed some.
    let old = c.args.nodes.now in
    let shown = c.in_ok-read.ensures.shown in
    let at = body_at (g.N.Nodes.limit old) index (g.N.Nodes.node old c.args.block) (g.N.Nodes.shown c.read.new.self) shown (g.met.N.Nodes.whole old c.args.block _ c.requires.sound shown) indexed in
    let same : c.in-Some.node ≡ g.N.Nodes.shown c.read.new.self = c.in-Some.ensures.found.0 ∙ c.lent.ensures in
    let only = subst (λ (bytes : List ℕ). HasSlot (field bytes 4) 0 → c.pointer.result ≡ Some (field bytes (16 + 4 * 0))) same c.pointer.ensures.only in
    c.unwrap_or.ensures ∙ ap (λ (o : Option ℕ). unwrap_or o 0) (slot_zero (g.N.Nodes.node old c.args.block) index (g.N.Nodes.shown c.read.new.self) c.pointer.result at some only)

pub returns-clause-first : goal.returns-clause-first
returns-clause-first g c = λ indexed.
    let old = c.args.nodes.now in
    let shown = c.in_ok-read.ensures.shown in
    let at = body_at (g.N.Nodes.limit old) 0 (g.N.Nodes.node old c.args.block) (g.N.Nodes.shown c.read.new.self) shown (g.met.N.Nodes.whole old c.args.block _ c.requires.sound shown) indexed in
    let same : c.in-Some.node ≡ g.N.Nodes.shown c.read.new.self = c.in-Some.ensures.found.0 ∙ c.lent.ensures in
    let found = subst (λ (bytes : List ℕ). IfSome c.pointer.result (λ block. (block ≡ field bytes (16 + 4 * 0)) × HasSlot (field bytes 4) 0)) same c.pointer.ensures.found in
    c.unwrap_or.ensures ∙ no_slot c.pointer.result (field (g.N.Nodes.shown c.read.new.self) 4) (field (g.N.Nodes.shown c.read.new.self) (16 + 4 * 0)) found at.index_is
