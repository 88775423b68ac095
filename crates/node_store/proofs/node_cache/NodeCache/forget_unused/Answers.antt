use Rattle.std.proofs.Common.{◌≡◌, ◌<◌, ℕ, List, length, not, refl, sym, ap, subst, ◌∙◌}
use Rattle.std.specs.FinSet as set
use Rattle.node_store.specs.NodeCache.{NodeCache, with_blocks}
use Rattle.node_store.proofs.PlainCaches.{unused_out, all_with, found_passes, not_so, shorter}
use Rattle.node_store.proofs.node_cache.NodeCache.forget_unused.Goals as goal

pub returns-in_default : goal.returns-in_default
returns-in_default c =
    let these = set.contains c.args.ring.now.used in
    let entries : c.unused.self.entries ≡ with_blocks these c.args.self.now.entries =
    sym (all_with these c.unused.self.entries (sym c.first_unused.ensures ∙ c.in_default.is)) ∙ c.unused.invariant.rest in
    ap (λ (l : List (ℕ × List ℕ)). record { entries = l; room = c.unused.self.room }) entries
    ∙ ap (λ (n : ℕ). record { entries = with_blocks these c.args.self.now.entries; room = n }) c.unused.invariant.room

pub unused-init : goal.unused-init
unused-init c = record { rest = refl; room = refl }

pub unused-preserved : goal.unused-preserved
unused-preserved c =
    let these = set.contains c.args.ring.now.used in
    let passes = found_passes (λ b. not (these b)) _ c.in-Some.block (sym c.first_unused.ensures ∙ c.in-Some.is) in
    record {
      rest =
          ap (λ (k : NodeCache). with_blocks these k.entries) c.forget.ensures.taken
          ∙ unused_out these c.in-Some.block c.unused.self.entries (not_so (these c.in-Some.block) passes) ∙ c.unused.invariant.rest;
      room = ap (λ (k : NodeCache). k.room) c.forget.ensures.taken ∙ c.unused.invariant.room;
    }

pub unused-smaller : goal.unused-smaller
unused-smaller c =
    let less = shorter (λ b. not (set.contains c.args.ring.now.used b)) c.in-Some.block c.unused.self.entries (sym c.first_unused.ensures ∙ c.in-Some.is) in
    subst (λ (k : NodeCache). length k.entries < length c.unused.self.entries) (sym c.forget.ensures.taken) less
