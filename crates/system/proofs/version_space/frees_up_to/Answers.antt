use Rattle.std.proofs.Common.{◌≡◌, ℕ, List, ◌+◌, ◌-◌, length, reverse, sym, ap, subst, ◌∙◌, arith}
use Rattle.std.proofs.lemmas.List.{length-reverse}
use Rattle.node_store.specs.NodePages.{node_of}
use Rattle.tree_counts.specs.Counts.{CountsFreed}
use Rattle.tree_counts.specs.FirstRoots.{AreFirstRoots}
use Rattle.mounting.specs.Records.{working_roots}
use Rattle.system.specs.VersionSpace.{Frees}
use Rattle.system.proofs.VersionSpaces.{freed_counts}
use Rattle.system.proofs.version_space.frees_up_to.Goals as goal

pub returns : goal.returns
returns c d mounted are =
    let s = c.args.state.now in
    let all = working_roots s in
    let k = c.args.place + 1 in
    let left : c.args.ends.now.roots - k ≡ length all - k = ap (λ (n : ℕ). n - k) c.requires.fit.roots in
    let blocks : c.blocks-blocks.result ≡ d.geometry.blocks = c.blocks-blocks.ensures.value ∙ mounted.ring_blocks in
    subst (λ (n : ℕ). Frees d s k n) (sym c.from.ensures)
    (freed_counts d s k c.count_freed.result (omega (arith, c.requires.place))
    (subst (λ (j : ℕ). CountsFreed (node_of d) d.geometry.blocks s.storage.bad (reverse all) j c.count_freed.result) left
    (subst (λ (b : ℕ). CountsFreed (node_of d) b s.storage.bad (reverse all) (c.args.ends.now.roots - k) c.count_freed.result) blocks
    (c.count_freed.ensures (node_of d) (reverse all) (subst (λ (l : List ℕ). AreFirstRoots (node_of d) (reverse all) l) (sym c.deref.ensures.value) are.lasts) (omega (arith, length-reverse all, c.requires.fit.roots))))))
