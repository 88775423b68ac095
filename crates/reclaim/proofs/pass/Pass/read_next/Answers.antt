use Rattle.std.proofs.Common.{◌≡◌, ◌≤◌, ℕ, Bool, List, ap, subst, sym, refl, ◌∙◌, arith}
use Rattle.std.specs.Prelude.{slice_index, Contains}
use Rattle.std.specs.FinSet as set
use Rattle.std.specs.Ordering.{nat_cmp}
use Rattle.std.proofs.lemmas.Result.{err_from_is_err_and}
use Rattle.std.proofs.lemmas.List.Elements.{Contains-get_or}
use Rattle.fs_types.specs.declared.fault.Fault.TheVariants.{Damaged}
use Rattle.reclaim.specs.Kinds.{IsKnownMarking, read_pages, mark_pages}
use Rattle.reclaim.specs.Passes.{Pass, Begins, IsMarked, IsMarkFault, AreNoted}
use Rattle.reclaim.proofs.KnownPasses.{front_body, knows_next, known_on, pages_as_marked, asked_more}
use Rattle.reclaim.proofs.Marking.{read_and_marked, at_next, no_node, is_stepped, IsStepped, stepped}
use Rattle.reclaim.proofs.NodeCalls.{looks_marked}
use Rattle.reclaim.proofs.pass.Pass.read_next.Goals as goal

pub read_named-requires-clause-body : goal.read_named-requires-clause-body
read_named-requires-clause-body g c is =
    front_body (g.N.Nodes.limit c.args.nodes.now) (g.N.Nodes.node c.args.nodes.now) c.args.self.now c.index-block.result.now c.requires.known (sym c.has_front-is_body.ensures ∙ is)

pub returns-in_err-mark_all-clause-damaged : goal.returns-in_err-mark_all-clause-damaged
returns-in_err-mark_all-clause-damaged g c marking damaged =
    let f = g.N.Nodes.node c.args.nodes.now in
    let pass = c.args.self.now in
    let fault = c.in_err-mark_all.field-0.0 in
    let p = err_from_is_err_and c.from_residual-in_err-mark_all.result c.from_residual-in_err-mark_all.ensures.1 in
    let is : p.0 ≡ Damaged = cc in
    let block = at_next _ pass _ c.self.view_is c.index-block.ensures c.requires.left in
    no_node f pass (f c.index-block.result.now) c.in_ok-named.named.blocks.items pass.blocks fault marking c.requires.left
    (ap f (sym block))
    c.in_ok-named.ensures.named.blocks
    (λ b low. g.met.N.Nodes.none_below c.args.nodes.now b low)
    (λ b high. g.met.N.Nodes.none_beyond c.args.nodes.now b (subst (λ (n : ℕ). n ≤ b) c.requires.blocks high))
    (subst (λ (l : List ℕ). IsMarkFault pass.blocks l fault) c.deref.ensures.value c.in_err-mark_all.ensures.why)
    (sym p.2 ∙ is)

pub returns-in_err-mark_all-clause-calls : goal.returns-in_err-mark_all-clause-calls
returns-in_err-mark_all-clause-calls g c =
    let p = err_from_is_err_and c.from_residual-in_err-mark_all.result c.from_residual-in_err-mark_all.ensures.1 in
    rw (p.1, p.2) (looks_marked g.met.N.Nodes.memory_may_want c.args.nodes.now c.read_named.new.nodes _ _ _ c.in_err-mark_all.ensures.why c.in_ok-named.ensures.calls)

pub returns-clause-read : goal.returns-clause-read
returns-clause-read g c =
    let s = c.args.nodes.now in
    let f = g.N.Nodes.node s in
    let limit = g.N.Nodes.limit s in
    let page = g.N.Nodes.page s in
    let new = c.read_named.new.nodes in
    let looks = c.read_named.ensures.calls.looks in
    let block = c.index-block.result.now in
    let named = c.in_ok-named.ensures.named in
    let blocks = c.in_ok-named.named.blocks.items in
    let bodies = c.in_ok-named.named.bodies.items in
    let n = c.note.new.self in
    let m = c.mark_all.new.self in
    let pass = c.args.self.now in
    let held : Pass = record { blocks = c.self-2.inside.marks.blocks; roots = c.self-2.inside.roots.items; order = c.self-2.inside.order.items; next = c.self-2.inside.next; bodies = c.self-2.inside.bodies.members } in
    let is : IsStepped pass m n held = is_stepped pass m n held c.mark_all.ensures.same c.note.ensures.same c.self-2.view_is in
    let at = at_next _ pass _ c.self.view_is c.index-block.ensures c.requires.left in
    let marked = subst (λ (l : List ℕ). IsMarked pass.order l m.order) c.deref.ensures.value c.in_ok-mark_all.ensures.marked in
    let noted : AreNoted pass.bodies bodies pass.blocks (stepped held).bodies =
    subst (λ (s : set.FinSet nat_cmp). AreNoted pass.bodies bodies pass.blocks s) (sym is.bodies)
    (subst (λ (s : set.FinSet nat_cmp). AreNoted s bodies pass.blocks n.bodies) (ap (λ (q : Pass). q.bodies) c.mark_all.ensures.same)
    (subst (λ (k : ℕ). AreNoted m.bodies bodies k n.bodies) (ap (λ (q : Pass). q.blocks) c.mark_all.ensures.same) c.note.ensures.noted)) in
    let has : Contains pass.order block = subst (Contains pass.order) (sym at) (Contains-get_or pass.order pass.next 0 c.requires.left) in
    let pages : read_pages c.has_front-is_body.result page (f block) ≡ mark_pages page (f (slice_index pass.order pass.next)) =
    ap (λ (t : Bool). read_pages t page (f block)) c.has_front-is_body.ensures ∙ pages_as_marked limit page f pass block c.requires.known has ∙ ap (λ (b : ℕ). mark_pages page (f b)) at in (
      is.next,
      record {
        pass = λ marking. read_and_marked f (g.N.Nodes.node new) pass m n held block blocks marking c.requires.left looks.same_nodes at named.blocks marked is c.in_ok-named.ensures.there;
        known = knows_next limit (g.N.Nodes.limit new) f (g.N.Nodes.node new) pass (stepped held) looks.same_limit looks.same_nodes
            (λ (known : IsKnownMarking limit f pass).
            known_on limit f pass (stepped held) block blocks bodies known c.requires.left at named.blocks named.bodies (subst (λ (l : List ℕ). IsMarked pass.order blocks l) (sym is.order) marked) noted
            (λ b high. g.met.N.Nodes.none_beyond s b (subst (λ (k : ℕ). k ≤ b) c.requires.blocks high)) is.roots
            (read_and_marked f f pass m n held block blocks known.pass c.requires.left refl at named.blocks marked is c.in_ok-named.ensures.there))
            c.requires.known;
        reads = omega (arith, c.read_named.ensures.reads, is.next);
        asked = asked_more page f pass pass (stepped held) (g.N.Nodes.asked s) (g.N.Nodes.asked s) (g.N.Nodes.asked new) (subst (Begins pass.order) (sym is.order) c.mark_all.ensures.begins) c.requires.left is.next
            (omega (arith, pages, c.in_ok-named.ensures.asks)) (omega arith);
      },
    )
