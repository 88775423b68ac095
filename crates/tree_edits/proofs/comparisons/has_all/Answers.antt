use Rattle.std.proofs.Common.{◌≡◌, ℕ, ◌+◌, ◌-◌, ◌*◌, ◌/◌, ◌≤◌, min, List, length, take, refl, sym, ap, subst, ◌∙◌, arith}
use Rattle.std.proofs.lemmas.Result.{err_from_is_err_and}
use Rattle.node_format.specs.Headers.{body_header}
use Rattle.nodes.specs.PageCounts.{pages_for}
use Rattle.nodes.specs.Words.{Looks}
use Rattle.nodes.specs.Bodies.{Blocks, index_of, data_of, back, body}
use Rattle.nodes.proofs.Bodies.{chain_node}
use Rattle.plain_trees.specs.Contents.{same_bytes}
use Rattle.tree_edits.specs.Reading.{HasDigits}
use Rattle.tree_edits.proofs.NodeCalls.{along_after, along_refused, along_within}
use Rattle.tree_edits.proofs.Compared.{so_far, others, all_same, node_more, pages_more, ends_all, whole}
use Rattle.tree_edits.proofs.ComparedNodes.{IsCompared, compared_with, part_at}
use Rattle.tree_edits.proofs.Kept.{listed_chain}
use Rattle.tree_edits.proofs.Fronts.{body_length}
use Rattle.tree_edits.proofs.comparisons.has_all.Goals as goal
use Rattle.tree_edits.proofs.comparisons.has_all.Goals.{After-find, After-min-count, After-has_data}
use Rattle.tree_edits.proofs.comparisons.has_all.Given.{Over}

-- nothing was written so far
looks_so_far : (g : Over) (c : After-find g) → Looks g.N.Nodes c.args.nodes.now c.find.new.nodes
looks_so_far g c = g.met.N.Nodes.looks_on c.args.nodes.now c.loop-index.nodes c.find.new.nodes c.loop-index.invariant.looks c.find.ensures.calls.looks

module _ (g : Over) (c : After-min-count g) where
  found : c.in_ok-block.block ≡ back (g.N.Nodes.node c.args.nodes.now) c.args.body.head ((c.args.body.length - 1) / c.args.capacity - c.loop-index.index)
  found = c.in_ok-block.ensures.found ∙ ap (λ (h : Blocks). back h c.args.body.head ((c.args.body.length - 1) / c.args.capacity - c.loop-index.index)) c.loop-index.invariant.looks.same_nodes

  compared : IsCompared c.args.capacity (g.N.Nodes.node c.args.nodes.now) (g.N.Nodes.node c.find.new.nodes) c.args.body.head c.args.body.length c.loop-index.index c.min-count.result c.in_ok-block.block c.args.bytes.now
  compared =
      compared_with c.args.capacity (g.N.Nodes.node c.args.nodes.now) (g.N.Nodes.node c.find.new.nodes) c.args.body.head c.args.body.length c.loop-index.index c.min-count.result c.in_ok-block.block c.args.bytes.now c.requires.holds.least c.requires.some c.requires.holds.whole
      (omega (arith, c.loop-index-test.true, c.loop-index.auto.index-end)) c.min-count.ensures c.requires.counted (c.find.ensures.calls.looks.same_nodes ∙ c.loop-index.invariant.looks.same_nodes) found

-- the reads of the way to the node, and of its pages
few_more : (g : Over) (c : After-has_data g) → length (part_at (c.loop-index.index * c.args.capacity) c.min-count.result c.args.bytes.now) ≡ c.min-count.result → (digits : ℕ) → HasDigits ((c.args.body.length - 1) / c.args.capacity) digits
    → (g.N.Nodes.reads c.has_data.new.nodes ≤ g.N.Nodes.reads c.args.nodes.now + (c.loop-index.index + 1) * (pages_for (g.N.Nodes.page c.args.nodes.now) (g.N.Nodes.limit c.args.nodes.now) + 2 * digits))
    × (g.N.Nodes.reads c.has_data.new.nodes ≤ g.N.Nodes.reads c.args.nodes.now + ((c.args.body.length - 1) / c.args.capacity + 1) * (pages_for (g.N.Nodes.page c.args.nodes.now) (g.N.Nodes.limit c.args.nodes.now) + 2 * digits))
few_more g c count digits has =
    let old = c.args.nodes.now in
    let mid = c.find.new.nodes in
    let came = g.met.N.Nodes.follows_on old c.loop-index.nodes mid c.loop-index.invariant.looks.came c.find.ensures.calls.looks.came in
    pages_more c.loop-index.index ((c.args.body.length - 1) / c.args.capacity) (2 * digits) (g.N.Nodes.page old) (g.N.Nodes.page mid) (body_header + length (part_at (c.loop-index.index * c.args.capacity) c.min-count.result c.args.bytes.now)) (g.N.Nodes.limit old)
    (g.N.Nodes.reads old) (g.N.Nodes.reads c.loop-index.nodes) (g.N.Nodes.reads mid) (g.N.Nodes.reads c.has_data.new.nodes) (omega (arith, g.met.N.Nodes.least_page old c.requires.sound)) (g.met.N.Nodes.same_page old mid came)
    (omega (arith, count, c.min-count.ensures, c.requires.holds.capacity_is, c.requires.holds.least)) (omega (arith, c.loop-index-test.true, c.loop-index.auto.index-end)) (c.loop-index.invariant.reads digits has) (c.find.ensures.calls.reads digits has) c.has_data.ensures.calls.reads

-- all bytes of a body that is as long
whole_is : (g : Over) (c : After-find g) → take (length c.args.bytes.now) (body c.args.capacity (g.N.Nodes.node c.args.nodes.now) c.args.body.head c.args.body.length) ≡ body c.args.capacity (g.N.Nodes.node c.args.nodes.now) c.args.body.head c.args.body.length
whole_is g c = whole (body c.args.capacity (g.N.Nodes.node c.args.nodes.now) c.args.body.head c.args.body.length) c.args.bytes.now (body_length c.args.capacity (g.N.Nodes.node c.args.nodes.now) c.args.body.head c.args.body.length c.requires.holds.whole ∙ sym c.requires.counted)

pub has_data-requires-clause-node : goal.has_data-requires-clause-node
has_data-requires-clause-node g c =
    let t = goal.at.has_data-requires-clause-node g c in
    let f = g.N.Nodes.node c.args.nodes.now in
    let last : ℕ = (c.args.body.length - 1) / c.args.capacity in
    let at : ℕ = last - c.loop-index.index in
    let chain = listed_chain c.args.capacity f c.args.body.head c.args.body.length at c.requires.some c.requires.holds.whole (omega arith) in
    let same = ap (λ (h : Blocks). index_of (h c.in_ok-block.block)) (looks_so_far g t.After-find).same_nodes in
    (last - at, same ∙ ap (λ (b : ℕ). index_of (f b)) (found g t.After-min-count) ∙ chain_node c.args.capacity (last - at) (back f c.args.body.head at) f chain)

pub has_data-requires-clause-within : goal.has_data-requires-clause-within
has_data-requires-clause-within g c = let part = compared g (goal.at.has_data-requires-clause-within g c).After-min-count in omega (arith, part.count, part.long)

pub returns-then-not-same-clause-same : goal.returns-then-not-same-clause-same
returns-then-not-same-clause-same g c =
    let t = goal.at.returns-then-not-same-clause-same g c in
    let part = compared g t.After-min-count in
    let start : ℕ = c.loop-index.index * c.args.capacity in
    let file : List ℕ = body c.args.capacity (g.N.Nodes.node c.args.nodes.now) c.args.body.head c.args.body.length in
    let held : List ℕ = take (length (part_at start c.min-count.result c.args.bytes.now)) (data_of (g.N.Nodes.node c.find.new.nodes c.in_ok-block.block)) in
    let other = others (length c.args.bytes.now) start (start + c.min-count.result) file c.args.bytes.now held refl (omega arith) (omega (arith, part.within, c.min-count.ensures, c.requires.counted)) part.shown (sym c.in_ok-same.ensures.same ∙ c.if-not-same.true) in
    sym (ap (λ (l : List ℕ). same_bytes l c.args.bytes.now) (sym (whole_is g t.After-find)) ∙ other)

pub loop-index-preserved : goal.loop-index-preserved
loop-index-preserved g c =
    let t = goal.at.loop-index-preserved g c in
    let now = c.loop-index.invariant in
    let part = compared g t.After-min-count in
    let cap : ℕ = c.args.capacity in
    let start : ℕ = c.loop-index.index * cap in
    let size : ℕ = c.args.body.length in
    let n : ℕ = c.min-count.result in
    let file : List ℕ = body cap (g.N.Nodes.node c.args.nodes.now) c.args.body.head size in
    let held : List ℕ = take (length (part_at start n c.args.bytes.now)) (data_of (g.N.Nodes.node c.find.new.nodes c.in_ok-block.block)) in
    let rows : (c.loop-index.index + 1) * cap ≡ start + cap = grind arith in
    let here : min start size ≡ start = omega (arith, part.within) in
    let next : start + n ≡ min ((c.loop-index.index + 1) * cap) size = omega (arith, rows, part.within, c.min-count.ensures) in
    record {
      same = subst (λ (k : ℕ). take k file ≡ take k c.args.bytes.now) next
          (so_far start (start + n) file c.args.bytes.now held (omega arith) (subst (λ (k : ℕ). take k file ≡ take k c.args.bytes.now) here now.same) part.shown (sym c.in_ok-same.ensures.same ∙ c.if-not-same.false));
      reads = λ digits has. (few_more g t.After-has_data part.count digits has).0;
      asks = omega (arith, now.asks, c.find.ensures.asks, c.has_data.ensures.asks);
      looks = g.met.N.Nodes.looks_on c.args.nodes.now c.find.new.nodes c.has_data.new.nodes (looks_so_far g t.After-find) c.has_data.ensures.calls.looks;
    }

pub returns-clause-same : goal.returns-clause-same
returns-clause-same g c =
    let size : ℕ = c.args.body.length in
    let file : List ℕ = body c.args.capacity (g.N.Nodes.node c.args.nodes.now) c.args.body.head size in
    let ends = ends_all c.args.capacity c.loop-index.index size c.requires.holds.least (omega (arith, c.loop-index-test.false, c.loop-index.auto.index-end)) in
    let all : min (c.loop-index.index * c.args.capacity) size ≡ length c.args.bytes.now = omega (arith, ends, c.requires.counted) in
    sym (ap (λ (l : List ℕ). same_bytes l c.args.bytes.now) (sym (whole file c.args.bytes.now (body_length c.args.capacity (g.N.Nodes.node c.args.nodes.now) c.args.body.head size c.requires.holds.whole ∙ sym c.requires.counted)))
    ∙ all_same (length c.args.bytes.now) file c.args.bytes.now refl (subst (λ (k : ℕ). take k file ≡ take k c.args.bytes.now) all c.loop-index.invariant.same))

pub returns-in_err-block-clause-calls : goal.returns-in_err-block-clause-calls
returns-in_err-block-clause-calls g c =
    let old = c.args.nodes.now in
    let last : ℕ = (c.args.body.length - 1) / c.args.capacity in
    let now = c.loop-index.invariant in
    let r = g.N.Nodes.reads c.find.new.nodes in
    let few = λ (digits : ℕ) (has : HasDigits last digits). (node_more c.loop-index.index last (2 * digits) 0 (pages_for (g.N.Nodes.page old) (g.N.Nodes.limit old)) (g.N.Nodes.reads old) (g.N.Nodes.reads c.loop-index.nodes) r r
    (omega (arith, c.loop-index-test.true, c.loop-index.auto.index-end)) (now.reads digits has) (c.find.ensures.calls.reads digits has) (omega arith) (omega arith)).1 in
    let p = err_from_is_err_and c.from_residual.result c.from_residual.ensures.1 in
    rw (p.1, p.2) (along_after g.met.N.Nodes.looks_on g.met.N.Nodes.causes_on old c.loop-index.nodes c.find.new.nodes now.looks (along_refused c.in_err-block.ensures.calls) few)

pub returns-in_err-same-clause-calls : goal.returns-in_err-same-clause-calls
returns-in_err-same-clause-calls g c =
    let t = goal.at.returns-in_err-same-clause-calls g c in
    let p = err_from_is_err_and c.from_residual-in_err-same.result c.from_residual-in_err-same.ensures.1 in
    rw (p.1, p.2) (along_after g.met.N.Nodes.looks_on g.met.N.Nodes.causes_on c.args.nodes.now c.find.new.nodes c.has_data.new.nodes (looks_so_far g t.After-find) (along_within 0 c.in_err-same.ensures.calls)
    (λ digits has. (few_more g t.After-has_data (compared g t.After-min-count).count digits has).1))

pub returns-then-not-same-clause-calls : goal.returns-then-not-same-clause-calls
returns-then-not-same-clause-calls g c =
    let t = goal.at.returns-then-not-same-clause-calls g c in
    record {
      looks = g.met.N.Nodes.looks_on c.args.nodes.now c.find.new.nodes c.has_data.new.nodes (looks_so_far g t.After-find) c.has_data.ensures.calls.looks;
      reads = λ digits has. (few_more g t.After-has_data (compared g t.After-min-count).count digits has).1;
      why = tt;
      faults = tt;
    }

pub returns-clause-calls : goal.returns-clause-calls
returns-clause-calls g c =
    let old = c.args.nodes.now in
    let last : ℕ = (c.args.body.length - 1) / c.args.capacity in
    let now = c.loop-index.invariant in
    let at : c.loop-index.index ≡ last + 1 = omega (arith, c.loop-index-test.false, c.loop-index.auto.index-end) in
    record {
      looks = now.looks;
      reads = λ digits has. subst (λ (k : ℕ). g.N.Nodes.reads c.loop-index.nodes ≤ g.N.Nodes.reads old + k * (pages_for (g.N.Nodes.page old) (g.N.Nodes.limit old) + 2 * digits)) at (now.reads digits has);
      why = tt;
      faults = tt;
    }
