use Rattle.std.proofs.Common.{◌≡◌, ℕ, ◌-◌, length, take, reverse, sym, ap, subst, ◌∙◌, arith}
use Rattle.std.proofs.lemmas.List.{length-reverse}
use Rattle.node_store.specs.NodePages.{node_of}
use Rattle.tree_counts.specs.Counts.{CountsFree}
use Rattle.mounting.specs.Records.{working_roots}
use Rattle.system.specs.HistorySpace.{FreeAfter}
use Rattle.system.proofs.FreeSpace.{free_after, cursor_within}
use Rattle.system.proofs.history_space.free_after.Goals as goal

pub returns : goal.returns
returns c d mounted within are =
    let s = c.args.state.now in
    let all = working_roots s in
    let few = cursor_within d s mounted in
    let kept : c.args.roots - c.args.count ≡ length all - c.args.count = ap (λ (n : ℕ). n - c.args.count) c.requires.roots in
    let blocks : c.blocks-blocks.result ≡ d.geometry.blocks = c.blocks-blocks.ensures.value ∙ mounted.ring_blocks in
    subst (λ (n : ℕ). FreeAfter d s c.args.count n) (sym c.from.ensures)
    (free_after d s c.args.count c.count_free.result (omega arith)
    (subst (λ (k : ℕ). CountsFree (node_of d) d.geometry.blocks s.storage.bad (take k (reverse all)) c.count_free.result) kept
    (subst (λ (b : ℕ). CountsFree (node_of d) b s.storage.bad (take (c.args.roots - c.args.count) (reverse all)) c.count_free.result) blocks
    (c.count_free.ensures (node_of d) (reverse all) are (omega (arith, length-reverse all, c.requires.roots))))))
