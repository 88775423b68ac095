use Rattle.std.proofs.Common.{◌≡◌, ℕ, List, reverse, sym, subst, ◌∙◌}
use Rattle.node_store.specs.NodePages.{node_of}
use Rattle.tree_counts.specs.Counts.{CountsAlone}
use Rattle.tree_counts.specs.FirstRoots.{AreFirstRoots}
use Rattle.mounting.specs.Records.{working_roots}
use Rattle.system.specs.VersionSpace.{KeepsAlone}
use Rattle.system.proofs.version_space.alone_at.Goals as goal

pub returns : goal.returns
returns c d mounted are =
    let s = c.args.state.now in
    let all = working_roots s in
    let blocks : c.blocks-blocks.result ≡ d.geometry.blocks = c.blocks-blocks.ensures.value ∙ mounted.ring_blocks in
    subst (λ (n : ℕ). KeepsAlone d s c.args.place n) (sym c.from.ensures)
    (subst (λ (b : ℕ). CountsAlone (node_of d) b s.storage.bad all c.args.place c.count_alone.result) blocks
    (c.count_alone.ensures (node_of d) all (sym c.requires.fit.roots)
    (subst (λ (l : List ℕ). AreFirstRoots (node_of d) all l) (sym c.deref.ensures.value) are.firsts)
    (subst (λ (l : List ℕ). AreFirstRoots (node_of d) (reverse all) l) (sym c.deref-2.ensures.value) are.lasts)))
