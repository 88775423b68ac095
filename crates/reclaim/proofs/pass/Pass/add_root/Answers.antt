use Rattle.std.proofs.Common.{ℕ, Result, Ok, Err, List, [], ◌∷◌, ◌++◌, ap, subst, ◌∙◌}
use Rattle.std.specs.Prelude.{OnOk}
use Rattle.reclaim.specs.Passes.{Pass, IsMarked}
use Rattle.reclaim.proofs.MoreRoots.{root_added, known_added}
use Rattle.reclaim.proofs.pass.Pass.add_root.Goals as goal

on_ok : {T E A B : Type 0} (r : Result T E) → (A → B) → OnOk r A → OnOk r B
on_ok (Ok x) h a = h a
on_ok (Err e) h a = a

pub returns-clause-pass : goal.returns-clause-pass
returns-clause-pass c f pass =
    let p = c.args.self.now in
    let q = c.mark_all.new.self in
    let is = c.self.view_is in
    let same = c.mark_all.ensures.same in
    on_ok c.mark_all.result
    (λ marked.
    root_added f p q c.args.root (subst (λ (l : List ℕ). IsMarked l (c.args.root ∷ []) q.order) (ap (λ (x : Pass). x.order) is) marked)
    (ap (λ (x : Pass). x.roots) same ∙ c.in_ok-push.ensures.items ∙ ap (λ (x : Pass). x.roots ++ c.args.root ∷ []) is) (ap (λ (x : Pass). x.next) same ∙ ap (λ (x : Pass). x.next) is) pass)
    c.mark_all.ensures.marked

pub returns-clause-known : goal.returns-clause-known
returns-clause-known c limit f tree known =
    let p = c.args.self.now in
    let q = c.mark_all.new.self in
    let is = c.self.view_is in
    let same = c.mark_all.ensures.same in
    on_ok c.mark_all.result
    (λ marked.
    known_added f p q c.args.root (subst (λ (l : List ℕ). IsMarked l (c.args.root ∷ []) q.order) (ap (λ (x : Pass). x.order) is) marked)
    (ap (λ (x : Pass). x.roots) same ∙ c.in_ok-push.ensures.items ∙ ap (λ (x : Pass). x.roots ++ c.args.root ∷ []) is) (ap (λ (x : Pass). x.next) same ∙ ap (λ (x : Pass). x.next) is) limit tree
    (ap (λ (x : Pass). x.bodies) same ∙ ap (λ (x : Pass). x.bodies) is) known)
    c.mark_all.ensures.marked
