use Rattle.std.proofs.Common.{refl}
use Rattle.std.proofs.lemmas.Result.{err_from_is_err_and}
use Rattle.node_store.specs.CachingLaws.{read_truthful, fetched, unfetched, fetched_truthful, fetched_room, fetched_bytes}
use Rattle.node_store.specs.FittingLaws.{still_fits}
use Rattle.std.proofs.Common.{ℕ, ◌+◌, ◌≤◌}
use Rattle.nodes.specs.PageCounts.{pages_for}
use Rattle.node_store.proofs.cached_reads.fetch_node.Goals as goal

pub returns-in_err-node-clause-fetches : goal.returns-in_err-node-clause-fetches
returns-in_err-node-clause-fetches g c =
    let p = err_from_is_err_and c.from_residual.result c.from_residual.ensures.1 in
    rw (p.1, p.2) (unfetched _ _ _ _ _ c.requires.unlisted c.in_err-node.ensures.refuses)

pub returns-in_err-node-clause-fits : goal.returns-in_err-node-clause-fits
returns-in_err-node-clause-fits g c =
    still_fits _ _ _ _ c.read_node.ensures.only_reads.geometry c.read_node.ensures.page refl
    (λ fits. read_truthful _ _ _ c.requires.lawful c.read_node.ensures.only_reads fits.truthful)

pub returns-clause-fetches : goal.returns-clause-fetches
returns-clause-fetches g c =
    fetched _ _ _ _ c.list.ensures.bounded _ _ _ c.requires.unlisted c.in_ok-node.ensures.brings c.list.ensures.listed c.list.ensures.same c.list.ensures.err

pub returns-clause-fits : goal.returns-clause-fits
returns-clause-fits g c =
    let reads = c.read_node.ensures.only_reads in
    still_fits _ _ _ _ reads.geometry c.read_node.ensures.page
    (fetched_room _ _ _ _ c.list.ensures.bounded _ c.list.ensures.listed c.list.ensures.same)
    (λ fits. read_truthful _ _ _ c.requires.lawful reads
    (fetched_truthful _ _ _ _ c.list.ensures.bounded _ _ c.in_ok-node.ensures.brings c.list.ensures.listed c.list.ensures.same fits.truthful))

pub returns-clause-operations : goal.returns-clause-operations
returns-clause-operations g c =
    let old = g.F.Flash.device c.args.flash.now in
    let new = g.F.Flash.device c.read_node.new.flash in
    fetched_bytes _ _ _ _ c.list.ensures.bounded (λ (n : ℕ). new.operations ≤ old.operations + pages_for old.geometry.page n) _ c.list.ensures.listed
    c.in_ok-node.ensures.operations
