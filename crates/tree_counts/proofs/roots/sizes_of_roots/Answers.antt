use Rattle.std.proofs.Common.{◌≡◌, ◌∙◌, ◌+◌, ◌-◌, ◌≤◌, ◌<◌, ℕ, List, [], ◌∷◌, ◌++◌, length, map, take, get_or, refl, sym, ap, subst, arith}
use Rattle.std.proofs.lemmas.List.{map-append, take_more}
use Rattle.std.proofs.lemmas.List.Elements.{Contains-get_or}
use Rattle.std.proofs.lemmas.Result.{err_from_is_err_and}
use Rattle.node_format.specs.Headers.{body_header}
use Rattle.nodes.specs.Bodies.{Blocks}
use Rattle.nodes.specs.Reached.{Reached, IsFirst}
use Rattle.nodes.specs.Trees.{root_tree}
use Rattle.reclaim.specs.Passes.{AreReached}
use Rattle.tree_counts.specs.Counted.{AreSizes, IsGoneTo, IsLow, most_steps, size_from}
use Rattle.tree_counts.specs.Sizes.{size_of}
use Rattle.tree_counts.specs.declared.tree_size.TreeSize.{TreeSize}
use Rattle.tree_counts.proofs.Gone.{found_on, next_gone, none_found, none_reached}
use Rattle.tree_counts.proofs.Trees.{root_size, root_low}
use Rattle.tree_counts.proofs.roots.sizes_of_roots.Goals as goal

pub loop-root-init : goal.loop-root-init
loop-root-init g c =
    let nodes = c.args.nodes.now in
    let f = g.N.Nodes.node nodes in
    record {
      sizes = c.new-sizes.ensures.items;
      table = subst (λ (blocks : ℕ). AreSizes f blocks c.in_ok-table.table) c.block_count.ensures (c.in_ok-table.ensures.sizes f);
      found = none_found c.in_ok-table.table c.in_ok-table.ensures.unread;
      reached = none_reached f c.args.roots.now c.in_ok-table.table c.in_ok-table.ensures.unread;
      reads = omega arith;
      looks = record {
        same_nodes = refl;
        same_kept = refl;
        same_writes = refl;
        came = g.met.N.Nodes.follows_itself nodes;
        sound = c.requires.sound;
        same_limit = refl;
        same_blocks = refl;
      };
    }

pub size_from-requires-clause-low : goal.size_from-requires-clause-low
size_from-requires-clause-low g c =
    let f = g.N.Nodes.node c.args.nodes.now in
    let roots = c.args.roots.now in
    let root = get_or roots c.loop-root.root-index 0 in
    subst (λ (h : Blocks). IsLow h most_steps root) (sym c.loop-root.invariant.looks.same_nodes)
    (root_low (g.N.Nodes.limit c.args.nodes.now - body_header) f root (c.requires.trees root (Contains-get_or roots c.loop-root.root-index 0 c.loop-root-test.true)))

pub returns-in_err-size-clause-reads : goal.returns-in_err-size-clause-reads
returns-in_err-size-clause-reads g c =
    let f = g.N.Nodes.node c.args.nodes.now in
    let roots = c.args.roots.now in
    let root = get_or roots c.loop-root.root-index 0 in
    let now = c.loop-root.invariant in
    let has = Contains-get_or roots c.loop-root.root-index 0 c.loop-root-test.true in
    record {
      blocks = c.size_from.new.sizes.read.items;
      are = subst (λ (h : Blocks). AreReached h roots c.size_from.new.sizes.read.items) now.looks.same_nodes
          (c.size_from.ensures.once roots (IsFirst has) (subst (λ (h : Blocks). IsGoneTo h roots c.loop-root.table root) (sym now.looks.same_nodes) (next_gone f roots c.loop-root.table root now.reached now.found)));
      most = omega (arith, c.size_from.ensures.reads, now.reads);
    }

pub returns-in_err-size-clause-why : goal.returns-in_err-size-clause-why
returns-in_err-size-clause-why g c =
    let p = err_from_is_err_and c.from_residual-in_err-size.result c.from_residual-in_err-size.ensures.1 in
    rw (p.1, p.2) (g.met.N.Nodes.causes_on c.args.nodes.now c.loop-root.nodes c.size_from.new.nodes c.in_err-size.field-0.0 c.loop-root.invariant.looks.came c.in_err-size.ensures.why)

pub returns-in_err-push-clause-reads : goal.returns-in_err-push-clause-reads
returns-in_err-push-clause-reads g c =
    let f = g.N.Nodes.node c.args.nodes.now in
    let roots = c.args.roots.now in
    let root = get_or roots c.loop-root.root-index 0 in
    let now = c.loop-root.invariant in
    let has = Contains-get_or roots c.loop-root.root-index 0 c.loop-root-test.true in
    record {
      blocks = c.size_from.new.sizes.read.items;
      are = subst (λ (h : Blocks). AreReached h roots c.size_from.new.sizes.read.items) now.looks.same_nodes
          (c.size_from.ensures.once roots (IsFirst has) (subst (λ (h : Blocks). IsGoneTo h roots c.loop-root.table root) (sym now.looks.same_nodes) (next_gone f roots c.loop-root.table root now.reached now.found)));
      most = omega (arith, c.size_from.ensures.reads, now.reads);
    }

pub loop-root-preserved : goal.loop-root-preserved
loop-root-preserved g c =
    let limit = g.N.Nodes.limit c.args.nodes.now in
    let f = g.N.Nodes.node c.args.nodes.now in
    let roots = c.args.roots.now in
    let i = c.loop-root.root-index in
    let root = get_or roots i 0 in
    let now = c.loop-root.invariant in
    let has = Contains-get_or roots i 0 c.loop-root-test.true in
    let tree = c.requires.trees root has in
    let sized : ℕ → TreeSize = λ r. size_of (root_tree (limit - body_header) f r) in
    let is : c.in_ok-size.size ≡ sized root = c.in_ok-size.ensures.size ∙ ap (λ (h : Blocks). size_from h root) now.looks.same_nodes ∙ root_size (limit - body_header) f root tree in
    record {
      sizes = c.in_ok-push.ensures.items ∙ ap (λ (l : List TreeSize). l ++ c.in_ok-size.size ∷ []) now.sizes ∙ ap (λ (s : TreeSize). map sized (take i roots) ++ s ∷ []) is
          ∙ sym (map-append sized (take i roots) (root ∷ [])) ∙ ap (map sized) (sym (take_more roots i 0 c.loop-root-test.true));
      table = subst (λ (h : Blocks). AreSizes h (g.N.Nodes.blocks c.args.nodes.now) c.size_from.new.sizes) now.looks.same_nodes
          (subst (λ (n : ℕ). AreSizes (g.N.Nodes.node c.loop-root.nodes) n c.size_from.new.sizes) now.looks.same_blocks c.in_ok-size.ensures.sizes);
      found = found_on c.loop-root.table c.size_from.new.sizes now.found c.in_ok-size.ensures.stays c.in_ok-size.ensures.done;
      reached = subst (λ (h : Blocks). AreReached h roots c.size_from.new.sizes.read.items) now.looks.same_nodes
          (c.size_from.ensures.once roots (IsFirst has) (subst (λ (h : Blocks). IsGoneTo h roots c.loop-root.table root) (sym now.looks.same_nodes) (next_gone f roots c.loop-root.table root now.reached now.found)));
      reads = omega (arith, now.reads, c.size_from.ensures.reads);
      looks = g.met.N.Nodes.looks_on c.args.nodes.now c.loop-root.nodes c.size_from.new.nodes now.looks c.size_from.ensures.looks;
    }
