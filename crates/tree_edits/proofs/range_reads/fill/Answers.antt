use Rattle.std.proofs.Common.{◌≡◌, ◌≤◌, ◌<◌, ℕ, ◌+◌, ◌-◌, ◌*◌, ◌/◌, ◌%◌, true, false, length, take, drop, refl, sym, ap, subst, ◌∙◌, arith}
use Rattle.std.proofs.lemmas.Bool.{true≢false, lt-ltb, le-ltb}
use Rattle.std.proofs.lemmas.Result.{err_from_is_err_and}
use Rattle.node_format.specs.Headers.{body_header}
use Rattle.nodes.specs.PageCounts.{pages_of_range, pages_for}
use Rattle.nodes.specs.WordLaws.{looks_refused}
use Rattle.tree_edits.proofs.NodeCalls.{within_after}
use Rattle.tree_edits.proofs.PartReads.{within_one}
use Rattle.tree_edits.proofs.range_reads.fill.Goals.{then-whole, else-whole}
use borrow.Rule.Slice.PartMut.{put_mid}
use Rattle.nodes.specs.Bodies.{Blocks, index_of, pointer_of, data_of}
use Rattle.nodes.proofs.Bodies.{chain_node}
use Rattle.tree_edits.specs.Reading.{nodes_between}
use Rattle.tree_edits.proofs.Parts.{piece_length, part_length, filled_length, step_of, step_left, one_fewer, pages_fewer}
use Rattle.tree_edits.proofs.range_reads.fill.Goals as goal

pub copy_piece-requires-clause-node : goal.copy_piece-requires-clause-node
copy_piece-requires-clause-node g c =
    let now = c.loop-end.invariant in
    let here = ap (λ (f : Blocks). index_of (f c.loop-end.block)) now.looks.same_nodes in
    ((c.loop-end.end - 1) / c.args.capacity, here ∙ chain_node c.args.capacity ((c.loop-end.end - 1) / c.args.capacity) c.loop-end.block (g.N.Nodes.node c.args.nodes.now) (now.left.chain c.loop-end-test.true))

pub copy_piece-requires-clause-within : goal.copy_piece-requires-clause-within
copy_piece-requires-clause-within g c =
    let now = c.loop-end.invariant in
    let lt = c.loop-end-test.true in
    let index = (c.loop-end.end - 1) / c.args.capacity in
    let last = now.left.last lt in
    let is = c.max-from.ensures in
    let whole = piece_length c.args.capacity (g.N.Nodes.node c.args.nodes.now) c.args.start c.loop-end.end index c.loop-end.block c.loop-end.out _ lt now.left in
    let same = ap (λ (f : Blocks). length (data_of (f c.loop-end.block))) now.looks.same_nodes in
    let le : c.args.start ≤ c.max-from.result = omega (arith, is) in
    let le' : c.max-from.result ≤ c.loop-end.end = omega (arith, is, last.starts) in
    let part = part_length c.args.start c.loop-end.end c.max-from.result c.loop-end.out le le' now.left.size in
    omega (arith, whole, same, part, is, le')

-- the pages of a block are as many as at first
pub returns-in_err-block-clause-asks : goal.returns-in_err-block-clause-asks
returns-in_err-block-clause-asks g c =
    let old = c.args.nodes.now in
    let now = c.loop-end.invariant in
    let same_pages = ap (λ (n : ℕ). pages_for n (g.N.Nodes.limit c.loop-end.nodes)) (g.met.N.Nodes.same_page old c.loop-end.nodes now.looks.came) ∙ ap (pages_for (g.N.Nodes.page old)) now.looks.same_limit in
    let fewer = one_fewer c.args.capacity c.args.start c.loop-end.end c.max-from.result c.requires.capacity c.loop-end-test.true c.max-from.ensures in
    let step = pages_fewer (pages_for (g.N.Nodes.page old) (g.N.Nodes.limit old)) (nodes_between c.args.capacity c.args.start c.max-from.result) (nodes_between c.args.capacity c.args.start c.loop-end.end) (g.N.Nodes.asked c.loop-end.nodes) (g.N.Nodes.asked c.copy_piece.new.nodes)
    (g.N.Nodes.asked old + nodes_between c.args.capacity c.args.start c.args.end * pages_for (g.N.Nodes.page old) (g.N.Nodes.limit old)) fewer (subst (λ (n : ℕ). g.N.Nodes.asked c.copy_piece.new.nodes ≤ g.N.Nodes.asked c.loop-end.nodes + n) same_pages c.copy_piece.ensures.asks) now.asks in
    omega (arith, step)

pub loop-end-preserved : goal.loop-end-preserved
loop-end-preserved g c =
    let old = c.args.nodes.now in
    let f = g.N.Nodes.node old in
    let now = c.loop-end.invariant in
    let done = c.in_ok-block.ensures in
    let lt = c.loop-end-test.true in
    let end = c.loop-end.end in
    let from = c.max-from.result in
    let index = (end - 1) / c.args.capacity in
    let out = c.loop-end.out in
    let ys = c.copy_piece.new.out in
    let new = put_mid (from - c.args.start) (end - c.args.start - (from - c.args.start)) out ys in
    let last = now.left.last lt in
    let is = c.max-from.ensures in
    let le : c.args.start ≤ from = omega (arith, is) in
    let le' : from ≤ end = omega (arith, is, last.starts) in
    let part = part_length c.args.start end from out le le' now.left.size in
    let long : length ys ≡ end - c.args.start - (from - c.args.start) = omega (arith, c.copy_piece.auto.out, part) in
    let same = filled_length (from - c.args.start) (end - c.args.start - (from - c.args.start)) out ys (omega (arith, now.left.size)) long in
    let copied = done.copied ∙ ap (λ (f : Blocks). take (length (take (end - c.args.start - (from - c.args.start)) (drop (from - c.args.start) out))) (drop (from - index * c.args.capacity) (data_of (f c.loop-end.block)))) now.looks.same_nodes in
    let is_whole : c.args.start < from → c.if-whole.wanted ≡ true = λ more.
    elim c.if-whole.branch [ then-whole w ↦ w.wanted-is ∙ w.if-whole.true | else-whole w ↦ w.wanted-is ∙ lt-ltb c.args.start (index * c.args.capacity) (omega arith) ] in
    let before : c.args.start < from → 0 < index → c.in_ok-block.block ≡ pointer_of (f c.loop-end.block) 0 = λ more some.
    done.before (is_whole more) index (ap (λ (f : Blocks). index_of (f c.loop-end.block)) now.looks.same_nodes ∙ chain_node c.args.capacity index c.loop-end.block f (now.left.chain lt)) some
    ∙ ap (λ (f : Blocks). pointer_of (f c.loop-end.block) 0) now.looks.same_nodes in
    let step = step_of c.args.capacity f c.args.start end index c.loop-end.block from c.in_ok-block.block out ys new lt last now.left.size is copied refl before in
    let fewer = one_fewer c.args.capacity c.args.start end from c.requires.capacity lt is in
    let same_pages = ap (λ (n : ℕ). pages_for n (g.N.Nodes.limit c.loop-end.nodes)) (g.met.N.Nodes.same_page old c.loop-end.nodes now.looks.came) ∙ ap (pages_for (g.N.Nodes.page old)) now.looks.same_limit in
    record {
      left = step_left c.args.capacity f c.args.start end index c.loop-end.block from c.in_ok-block.block out new _ ((from - 1) / c.args.capacity) c.requires.capacity lt now.left step same refl;
      below = omega (arith, le', now.below);
      size = same ∙ now.size;
      reads = omega (arith, fewer, now.reads, done.calls.reads);
      asks = pages_fewer (pages_for (g.N.Nodes.page old) (g.N.Nodes.limit old)) (nodes_between c.args.capacity c.args.start from) (nodes_between c.args.capacity c.args.start end) (g.N.Nodes.asked c.loop-end.nodes) (g.N.Nodes.asked c.copy_piece.new.nodes)
          (g.N.Nodes.asked old + nodes_between c.args.capacity c.args.start c.args.end * pages_for (g.N.Nodes.page old) (g.N.Nodes.limit old)) fewer (subst (λ (n : ℕ). g.N.Nodes.asked c.copy_piece.new.nodes ≤ g.N.Nodes.asked c.loop-end.nodes + n) same_pages done.asks) now.asks;
      still = λ more one.
          let at = now.still lt one in
          let here = within_one c.args.capacity c.args.start end from c.requires.capacity (one ∙ ap (λ (n : ℕ). (n - 1) / c.args.capacity) (sym at.1)) is in
          absurd (omega (arith, here.from_is, more));
      part = λ finished few one apart.
          let at = now.still lt one in
          let here = within_one c.args.capacity c.args.start end from c.requires.capacity (one ∙ ap (λ (n : ℕ). (n - 1) / c.args.capacity) (sym at.1)) is in
          let not_whole : c.if-whole.wanted ≡ false =
          elim c.if-whole.branch [
            | then-whole w ↦ absurd (true≢false (sym w.if-whole.true ∙ few))
            | else-whole w ↦ w.wanted-is ∙ le-ltb c.args.start (index * c.args.capacity) here.first
          ] in
          let size : length (take (end - c.args.start - (from - c.args.start)) (drop (from - c.args.start) out)) ≡ c.args.end - c.args.start = omega (arith, part, here.from_is, at.1) in
          let page = g.met.N.Nodes.same_page old c.loop-end.nodes now.looks.came in
          let step = done.asks_part not_whole (λ same. apart (sym at.3 ∙ same ∙ at.0)) in
          let pages : pages_of_range (g.N.Nodes.page c.loop-end.nodes) (body_header + (from - index * c.args.capacity)) (length (take (end - c.args.start - (from - c.args.start)) (drop (from - c.args.start) out)))
          ≡ pages_of_range (g.N.Nodes.page old) (body_header + c.args.start % c.args.capacity) (c.args.end - c.args.start) =
          λ j. pages_of_range (page j) (body_header + here.place_is j) (size j) in
          omega (arith, step, at.2, pages);
      looks = g.met.N.Nodes.looks_on old c.loop-end.nodes c.copy_piece.new.nodes now.looks done.calls.looks;
    }

pub copy_piece-requires-clause-sound : goal.copy_piece-requires-clause-sound
copy_piece-requires-clause-sound g c = c.loop-end.invariant.looks.sound

pub returns-in_err-block-clause-calls : goal.returns-in_err-block-clause-calls
returns-in_err-block-clause-calls g c =
    let now = c.loop-end.invariant in
    let calls = c.in_err-block.ensures.calls in
    let fewer = one_fewer c.args.capacity c.args.start c.loop-end.end c.max-from.result c.requires.capacity c.loop-end-test.true c.max-from.ensures in
    let p = err_from_is_err_and c.from_residual.result c.from_residual.ensures.1 in
    rw (p.1, p.2) (within_after g.met.N.Nodes.looks_on g.met.N.Nodes.causes_on c.args.nodes.now c.loop-end.nodes c.copy_piece.new.nodes now.looks (looks_refused calls) (omega (arith, fewer, now.reads, calls.reads)))

pub returns-clause-calls : goal.returns-clause-calls
returns-clause-calls g c = record { looks = c.loop-end.invariant.looks; reads = omega (arith, c.loop-end.invariant.reads); why = tt; faults = tt }
