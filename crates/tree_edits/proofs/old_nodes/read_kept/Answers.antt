use Rattle.std.proofs.Common.{◌≡◌, ℕ, ◌-◌, ◌*◌, ◌/◌, ◌<◌, ◌++◌, inl, inr, List, length, take, drop, slice_index, ap, ◌∙◌, arith}
use Rattle.std.proofs.lemmas.Result.{err_from_is_err_and}
use Rattle.std.specs.Prelude.{min}
use Rattle.std.proofs.lemmas.List.{length-take-le}
use Rattle.nodes.specs.Bodies.{Blocks, index_of, data_of, back, body}
use Rattle.nodes.proofs.Bodies.{chain_node}
use Rattle.tree_edits.proofs.NodeCalls.{along_after, along_refused, along_wider, along_within}
use Rattle.tree_edits.proofs.Fronts.{body_length}
use Rattle.tree_edits.proofs.Kept.{part_of, listed_chain, none_kept, part_kept}
use Rattle.tree_edits.proofs.old_nodes.read_kept.Goals as goal

pub returns-then-kept-eq0-clause-kept : goal.returns-then-kept-eq0-clause-kept
returns-then-kept-eq0-clause-kept g c =
    let file : List ℕ = body c.args.change.capacity (g.N.Nodes.node c.args.nodes.now) c.args.change.body.head c.args.change.body.length in
    let start : ℕ = c.args.index * c.args.change.capacity in
    let size : length file ≡ c.args.change.body.length = body_length c.args.change.capacity (g.N.Nodes.node c.args.nodes.now) c.args.change.body.head c.args.change.body.length c.requires.old.holds.whole in
    let is : c.min-kept.result ≡ min (length file - start) (length c.args.out.now) = omega (arith, c.min-kept.ensures, c.saturating_sub.ensures) in
    none_kept file c.args.out.now start c.args.change.offset c.args.end c.min-kept.result c.requires.zeros is (inl (omega arith))

pub returns-then-start-kept-clause-kept : goal.returns-then-start-kept-clause-kept
returns-then-start-kept-clause-kept g c =
    let file : List ℕ = body c.args.change.capacity (g.N.Nodes.node c.args.nodes.now) c.args.change.body.head c.args.change.body.length in
    let start : ℕ = c.args.index * c.args.change.capacity in
    let size : length file ≡ c.args.change.body.length = body_length c.args.change.capacity (g.N.Nodes.node c.args.nodes.now) c.args.change.body.head c.args.change.body.length c.requires.old.holds.whole in
    let is : c.min-kept.result ≡ min (length file - start) (length c.args.out.now) = omega (arith, c.min-kept.ensures, c.saturating_sub.ensures) in
    none_kept file c.args.out.now start c.args.change.offset c.args.end c.min-kept.result c.requires.zeros is (inr (omega arith, omega arith))

pub copy_part-requires-clause-node : goal.copy_part-requires-clause-node
copy_part-requires-clause-node g c =
    let f = g.N.Nodes.node c.args.nodes.now in
    let head_index : ℕ = (c.args.change.body.length - 1) / c.args.change.capacity in
    let some : 0 < c.args.change.body.length = omega (arith, c.min-kept.ensures, c.saturating_sub.ensures) in
    let chain = listed_chain c.args.change.capacity f c.args.change.body.head c.args.change.body.length (head_index - c.args.index) some c.requires.old.holds.whole (omega arith) in
    let same = ap (λ (h : Blocks). index_of (h c.in_ok-block.block)) c.in_ok-block.ensures.calls.looks.same_nodes in (
      head_index - (head_index - c.args.index),
      same ∙ ap (λ (b : ℕ). index_of (f b)) c.in_ok-block.ensures.found ∙ chain_node c.args.change.capacity (head_index - (head_index - c.args.index)) (back f c.args.change.body.head (head_index - c.args.index)) f chain,
    )

pub copy_part-requires-clause-within : goal.copy_part-requires-clause-within
copy_part-requires-clause-within g c =
    let f = g.N.Nodes.node c.args.nodes.now in
    let kept = c.min-kept.result in
    let part = part_of c.args.change.capacity f c.args.change.body.head c.args.change.body.length c.args.index kept c.in_ok-block.block c.requires.old.holds.least c.requires.old.holds.whole (omega arith)
    (omega (arith, c.min-kept.ensures, c.requires.size)) (omega (arith, c.min-kept.ensures, c.saturating_sub.ensures)) c.in_ok-block.ensures.found in
    let same = ap (λ (h : Blocks). length (data_of (h c.in_ok-block.block))) c.in_ok-block.ensures.calls.looks.same_nodes in
    omega (arith, part.long, same, length-take-le kept c.args.out.now (omega (arith, c.min-kept.ensures)))

pub returns-clause-kept : goal.returns-clause-kept
returns-clause-kept g c =
    let f = g.N.Nodes.node c.args.nodes.now in
    let kept = c.min-kept.result in
    let file : List ℕ = body c.args.change.capacity f c.args.change.body.head c.args.change.body.length in
    let start : ℕ = c.args.index * c.args.change.capacity in
    let size : length file ≡ c.args.change.body.length = body_length c.args.change.capacity f c.args.change.body.head c.args.change.body.length c.requires.old.holds.whole in
    let is : kept ≡ min (length file - start) (length c.args.out.now) = omega (arith, c.min-kept.ensures, c.saturating_sub.ensures) in
    let part = part_of c.args.change.capacity f c.args.change.body.head c.args.change.body.length c.args.index kept c.in_ok-block.block c.requires.old.holds.least c.requires.old.holds.whole (omega arith)
    (omega (arith, c.min-kept.ensures, c.requires.size)) (omega (arith, c.min-kept.ensures, c.saturating_sub.ensures)) c.in_ok-block.ensures.found in
    let copied : c.copy_part.new.out ≡ take kept (data_of (f c.in_ok-block.block)) =
    c.in_ok-copy_part.ensures.copied ∙ ap (λ (n : ℕ). take n (data_of (g.N.Nodes.node c.find_listed.new.nodes c.in_ok-block.block))) (length-take-le kept c.args.out.now (omega (arith, c.min-kept.ensures)))
    ∙ ap (λ (h : Blocks). take kept (data_of (h c.in_ok-block.block))) c.in_ok-block.ensures.calls.looks.same_nodes in
    let all = part_kept file c.args.out.now (data_of (f c.in_ok-block.block)) start c.args.change.offset c.args.end kept c.requires.zeros is part.long part.bytes in
    λ i lt which. ap (λ (xs : List ℕ). slice_index (xs ++ drop kept c.args.out.now) i) copied ∙ all i lt which

pub returns-in_err-block-clause-calls : goal.returns-in_err-block-clause-calls
returns-in_err-block-clause-calls g c =
    let p = err_from_is_err_and c.from_residual.result c.from_residual.ensures.1 in
    rw (p.1, p.2) (along_wider (along_refused c.in_err-block.ensures.calls) (λ digits has. omega (arith, c.find_listed.ensures.calls.reads digits has)))

pub returns-in_err-copy_part-clause-calls : goal.returns-in_err-copy_part-clause-calls
returns-in_err-copy_part-clause-calls g c =
    let p = err_from_is_err_and c.from_residual-in_err-copy_part.result c.from_residual-in_err-copy_part.ensures.1 in
    rw (p.1, p.2) (along_after g.met.N.Nodes.looks_on g.met.N.Nodes.causes_on c.args.nodes.now c.find_listed.new.nodes c.copy_part.new.nodes c.find_listed.ensures.calls.looks (along_within 0 c.in_err-copy_part.ensures.calls)
    (λ digits has. omega (arith, c.find_listed.ensures.calls.reads digits has, c.copy_part.ensures.calls.reads)))

pub returns-clause-calls : goal.returns-clause-calls
returns-clause-calls g c = record {
  looks = g.met.N.Nodes.looks_on c.args.nodes.now c.copy_part.new.nodes c.supersede.new.self
      (g.met.N.Nodes.looks_on c.args.nodes.now c.find_listed.new.nodes c.copy_part.new.nodes c.find_listed.ensures.calls.looks c.copy_part.ensures.calls.looks) c.supersede.ensures.looks;
  reads = λ digits has. omega (arith, c.find_listed.ensures.calls.reads digits has, c.copy_part.ensures.calls.reads, c.supersede.ensures.reads);
  why = tt;
  faults = tt;
}
