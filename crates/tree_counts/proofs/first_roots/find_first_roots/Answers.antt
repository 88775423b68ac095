use Rattle.std.proofs.Common.{◌≡◌, ℕ, ◌+◌, ◌-◌, List, [], ◌∷◌, ◌++◌, get_or, length, take, refl, ap, subst, sym, ◌∙◌, arith}
use Rattle.std.proofs.lemmas.List.{take_more, take_all, take-append-drop}
use Rattle.std.proofs.lemmas.List.Elements.{Contains-get_or}
use Rattle.std.proofs.lemmas.Result.{err_from_is_err_and}
use Rattle.std.specs.Prelude.{Contains}
use Rattle.nodes.specs.Bodies.{Blocks}
use Rattle.tree_counts.specs.FirstRoots.{AreFirstRoots}
use Rattle.reclaim.specs.Passes.{IsPass}
use Rattle.tree_counts.specs.RootWalks.{IsWalked, ReadsOn}
use Rattle.tree_counts.proofs.Walks.{walk_begins, same_root, first_among_all, reads_all, reads_so_far, given_back}
use Rattle.tree_counts.proofs.first_roots.find_first_roots.Goals as goal

pub loop-place-init : goal.loop-place-init
loop-place-init g c =
    let nodes = c.args.nodes.now in
    record {
      walked = walk_begins (g.N.Nodes.limit nodes) c.block_count-blocks.result (g.N.Nodes.node nodes) c.in_ok-pass.pass c.in_ok-firsts.firsts.items [] (c.in_ok-pass.ensures.pass (g.N.Nodes.node nodes))
          c.in_ok-pass.ensures.begun c.in_ok-pass.ensures.none c.in_ok-pass.ensures.first refl (c.in_ok-firsts.ensures.items_if_clones_equal (λ y same. same));
      roots = c.in_ok-pass.ensures.begun.1;
      blocks = c.in_ok-pass.ensures.begun.0 ∙ c.block_count-blocks.ensures;
      reads = omega (arith, c.in_ok-pass.ensures.begun.2);
      looks = record {
        same_nodes = refl;
        same_kept = refl;
        same_writes = refl;
        came = g.met.N.Nodes.follows_itself nodes;
        sound = c.requires.sound;
        same_limit = refl;
        same_blocks = refl;
      };
    }

pub reach-requires-clause-tree : goal.reach-requires-clause-tree
reach-requires-clause-tree g c =
    let first = c.args.nodes.now in
    let mid = c.loop-place.nodes in
    let looks = c.loop-place.invariant.looks in
    same_root (g.N.Nodes.limit first) (g.N.Nodes.limit mid) (get_or c.args.roots.now c.loop-place.place 0) (g.N.Nodes.node first) (g.N.Nodes.node mid) looks.same_limit looks.same_nodes
    (c.requires.trees (get_or c.args.roots.now c.loop-place.place 0) (Contains-get_or c.args.roots.now c.loop-place.place 0 c.loop-place-test.true))

pub returns-in_err-reach-clause-reads : goal.returns-in_err-reach-clause-reads
returns-in_err-reach-clause-reads g c =
    let first = c.args.nodes.now in
    let mid = c.loop-place.nodes in
    let roots = c.args.roots.now in
    let so_far = c.loop-place.invariant in
    let some = c.loop-place.pass.roots ++ get_or c.args.roots.now c.loop-place.place 0 ∷ [] in
    reads_all (g.N.Nodes.node first) roots some c.loop-place.pass.next (g.N.Nodes.reads first) (g.N.Nodes.reads mid) (g.N.Nodes.reads c.reach.new.nodes)
    (first_among_all roots c.loop-place.pass.roots c.loop-place.place c.loop-place-test.true so_far.roots) (omega (arith, so_far.reads))
    (subst (λ (f : Blocks). ReadsOn f some c.loop-place.pass.next (g.N.Nodes.reads mid) (g.N.Nodes.reads c.reach.new.nodes)) so_far.looks.same_nodes c.reach.ensures.reads)

pub returns-in_err-reach-clause-looks : goal.returns-in_err-reach-clause-looks
returns-in_err-reach-clause-looks g c = g.met.N.Nodes.looks_on c.args.nodes.now c.loop-place.nodes c.reach.new.nodes c.loop-place.invariant.looks c.reach.ensures.looks

pub returns-in_err-reach-clause-why : goal.returns-in_err-reach-clause-why
returns-in_err-reach-clause-why g c =
    let p = err_from_is_err_and c.from_residual-in_err-reach.result c.from_residual-in_err-reach.ensures.1 in
    rw (p.1, p.2) (g.met.N.Nodes.causes_on c.args.nodes.now c.loop-place.nodes c.reach.new.nodes c.in_err-reach.field-0.0 c.loop-place.invariant.looks.came c.in_err-reach.ensures.why)

pub loop-place-preserved : goal.loop-place-preserved
loop-place-preserved g c =
    let so_far = c.loop-place.invariant in
    let more = c.in_ok-reach.ensures.roots in
    record {
      walked = subst (λ (l : List ℕ). IsWalked (g.N.Nodes.limit c.reach.new.nodes) (g.N.Nodes.node c.reach.new.nodes) c.reach.new.pass l)
          (sym (given_back c.loop-place.firsts.len c.reach.new.firsts _ (omega (arith, c.reach.auto.firsts, ap length c.deref_mut.ensures.value, c.loop-place.firsts.ok.0)))) c.in_ok-reach.ensures.walked;
      roots = more.0 ∙ ap (λ (l : List ℕ). l ++ get_or c.args.roots.now c.loop-place.place 0 ∷ []) so_far.roots ∙ sym (take_more c.args.roots.now c.loop-place.place 0 c.loop-place-test.true);
      blocks = more.1 ∙ so_far.blocks;
      reads = omega (arith, c.in_ok-reach.ensures.read, so_far.reads);
      looks = g.met.N.Nodes.looks_on c.args.nodes.now c.loop-place.nodes c.reach.new.nodes so_far.looks c.reach.ensures.looks;
    }

pub returns-clause-reads : goal.returns-clause-reads
returns-clause-reads g c =
    let so_far = c.loop-place.invariant in
    let f = g.N.Nodes.node c.args.nodes.now in
    reads_so_far f c.loop-place.pass c.args.roots.now (g.N.Nodes.reads c.args.nodes.now) (g.N.Nodes.reads c.loop-place.nodes)
    (λ r has. subst (λ (l : List ℕ). Contains l r) (so_far.roots ∙ take_all c.loop-place.place c.args.roots.now (omega arith)) has)
    (subst (λ (h : Blocks). IsPass h c.loop-place.pass) so_far.looks.same_nodes so_far.walked.pass) (omega (arith, so_far.reads))
