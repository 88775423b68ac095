use Rattle.std.proofs.Common.{◌∙◌, ℕ, ◌+◌, ◌-◌, refl, sym, ap, subst, arith}
use Rattle.std.proofs.lemmas.List.Sums.{sum_by_push}
use Rattle.std.proofs.lemmas.Result.{err_from_is_err_and}
use Rattle.std.specs.Prelude.{sum_by}
use Rattle.fs_types.specs.Names.{Path}
use Rattle.fs_types.specs.declared.limits.TheConstants.{MAX_NAMES}
use Rattle.node_format.specs.Headers.{body_header}
use Rattle.node_format.specs.declared.place.Place.{Place}
use Rattle.nodes.specs.Bodies.{Blocks}
use Rattle.nodes.specs.Trees.{HasTree}
use Rattle.block_usage.specs.Usages.{IsUsageOf, blocks_of}
use Rattle.block_usage.specs.declared.usage_list.EntryUsage.{EntryUsage}
use Rattle.block_usage.proofs.UsageLists.{usages_more}
use Rattle.block_usage.proofs.Places.{tree_later}
use Rattle.block_usage.proofs.usage_list.usages_of.Goals as goal

pub usage_of-requires-clause-tree : goal.usage_of-requires-clause-tree
usage_of-requires-clause-tree g c =
    let first = c.args.nodes.now in
    let looks = c.loop-path.invariant.looks in
    let item = c.loop-path-item.result in
    tree_later (g.N.Nodes.limit first) (g.N.Nodes.limit c.loop-path.nodes) (g.N.Nodes.node first) (g.N.Nodes.node c.loop-path.nodes) item.1 looks.same_limit looks.same_nodes
    (subst (λ (x : Path × Place). HasTree (g.N.Nodes.limit first - body_header) (g.N.Nodes.node first) x.1 MAX_NAMES) (sym c.loop-path-item.is) (c.requires.trees c.loop-path.path-index item c.loop-path-test.true))

pub returns-in_err-push_usage-clause-err : goal.returns-in_err-push_usage-clause-err
returns-in_err-push_usage-clause-err g c =
    let p = err_from_is_err_and c.from_residual-in_err-push_usage.result c.from_residual-in_err-push_usage.ensures.1 in
    rw (p.1, p.2) (refl, g.met.N.Nodes.memory_may_want c.args.nodes.now c.usage_of.new.nodes)

pub returns-then-usage-seen-clause-err : goal.returns-then-usage-seen-clause-err
returns-then-usage-seen-clause-err g c =
    let f = g.N.Nodes.node c.args.nodes.now in
    let now = c.loop-path.invariant in
    let item = c.loop-path-item.result in
    let entry : EntryUsage = record { path = item.0; usage = c.in_ok-usage.usage } in
    let counted = subst (λ (h : Blocks). IsUsageOf h c.args.apart.now.members item.1 c.in_ok-usage.usage) now.looks.same_nodes c.in_ok-usage.ensures.usage in
    let sum = ap (sum_by blocks_of) c.in_ok-push_usage.ensures ∙ sum_by_push blocks_of c.loop-path.found.items entry in
    record {
      first = c.loop-path.path-index + 1;
      found = c.push_usage.new.found.items;
      are = usages_more f c.args.apart.now.members c.args.places.now c.loop-path.path-index c.loop-path.found.items c.push_usage.new.found.items item entry c.loop-path-test.true c.loop-path-item.is c.in_ok-push_usage.ensures now.usages refl counted;
      many = omega (arith, c.if-usage-seen.true, sum, now.sum, now.few);
    }

pub loop-path-preserved : goal.loop-path-preserved
loop-path-preserved g c =
    let f = g.N.Nodes.node c.args.nodes.now in
    let now = c.loop-path.invariant in
    let item = c.loop-path-item.result in
    let entry : EntryUsage = record { path = item.0; usage = c.in_ok-usage.usage } in
    let counted = subst (λ (h : Blocks). IsUsageOf h c.args.apart.now.members item.1 c.in_ok-usage.usage) now.looks.same_nodes c.in_ok-usage.ensures.usage in
    let sum = ap (sum_by blocks_of) c.in_ok-push_usage.ensures ∙ sum_by_push blocks_of c.loop-path.found.items entry in
    record {
      usages = usages_more f c.args.apart.now.members c.args.places.now c.loop-path.path-index c.loop-path.found.items c.push_usage.new.found.items item entry c.loop-path-test.true c.loop-path-item.is c.in_ok-push_usage.ensures now.usages refl counted;
      sum = sum ∙ ap (λ (n : ℕ). n + c.in_ok-usage.usage.blocks) now.sum;
      few = omega (arith, c.if-usage-seen.false, now.few);
      looks = g.met.N.Nodes.looks_on c.args.nodes.now c.loop-path.nodes c.usage_of.new.nodes now.looks c.usage_of.ensures.looks;
    }
