use Rattle.std.proofs.Common.{◌≡◌, ◌∙◌, ◌-◌, ◌≤◌, ◌+◌, ℕ, [], ◌∷◌, length, refl, sym, ap, subst, arith}
use Rattle.std.proofs.lemmas.Result.{IfOk-weaker}
use Rattle.node_format.specs.Headers.{body_header}
use Rattle.nodes.specs.Bodies.{Blocks}
use Rattle.nodes.specs.Reached.{IsFirst}
use Rattle.tree_counts.specs.Counted.{AreSizes}
use Rattle.tree_counts.proofs.Gone.{none_gone}
use Rattle.tree_counts.proofs.Trees.{root_size, root_low}
use Rattle.tree_counts.proofs.roots.size_of_root.Goals as goal

pub size_from-requires-clause-low : goal.size_from-requires-clause-low
size_from-requires-clause-low g c = root_low (g.N.Nodes.limit c.args.nodes.now - body_header) (g.N.Nodes.node c.args.nodes.now) c.args.root c.requires.tree

pub size_from-requires-clause-sizes : goal.size_from-requires-clause-sizes
size_from-requires-clause-sizes g c =
    subst (λ (blocks : ℕ). AreSizes (g.N.Nodes.node c.args.nodes.now) blocks c.in_ok-sizes.sizes) c.block_count.ensures (c.in_ok-sizes.ensures.sizes (g.N.Nodes.node c.args.nodes.now))

pub returns-clause-size : goal.returns-clause-size
returns-clause-size g c =
    IfOk-weaker c.size_from.result _ _ (λ size is. is ∙ root_size (g.N.Nodes.limit c.args.nodes.now - body_header) (g.N.Nodes.node c.args.nodes.now) c.args.root c.requires.tree) c.size_from.ensures.size

pub returns-clause-reads : goal.returns-clause-reads
returns-clause-reads g c =
    let f = g.N.Nodes.node c.args.nodes.now in
    let none : length c.in_ok-sizes.sizes.read.items ≡ 0 = ap length c.in_ok-sizes.ensures.unread in
    record {
      blocks = c.size_from.new.sizes.read.items;
      are = c.size_from.ensures.once (c.args.root ∷ []) (IsFirst (0, omega arith, refl)) (none_gone f (c.args.root ∷ []) c.in_ok-sizes.sizes c.args.root c.in_ok-sizes.ensures.unread);
      most = omega (arith, c.size_from.ensures.reads, none);
    }
