use Rattle.std.proofs.Common.{◌+◌, Some, ap, sym, ◌∙◌, List, ℕ, slice_index_or, arith}
use Rattle.node_format.proofs.Known.{step_over, all_left}
use Rattle.node_format.proofs.entry.after_known.Goals as goal

pub bounds-bytes-1 : goal.bounds-bytes-1
bounds-bytes-1 c = (step_over c.args.bytes.now (λ i. omega (arith, c.type_inv.bytes i)) c.requires).two

pub slice_bounds-result-count : goal.slice_bounds-result-count
slice_bounds-result-count c = (step_over c.args.bytes.now (λ i. omega (arith, c.type_inv.bytes i)) c.requires).within

pub slice_bounds-result-start : goal.slice_bounds-result-start
slice_bounds-result-start c = (step_over c.args.bytes.now (λ i. omega (arith, c.type_inv.bytes i)) c.requires).within

pub returns : goal.returns
returns c =
    (step_over c.args.bytes.now (λ i. omega (arith, c.type_inv.bytes i)) c.requires).after
    ∙ ap (λ (r : List ℕ). Some r) (sym (all_left (10 + slice_index_or c.args.bytes.now 1 0) c.args.bytes.now))
