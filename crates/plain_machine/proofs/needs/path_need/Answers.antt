use Rattle.std.proofs.Common.{◌≡◌, ℕ, ◌+◌, ◌-◌, ◌^◌, length, min, take, sym, ap, ◌∙◌, arith}
use Rattle.std.specs.List.{sum_by, range_with_len}
use Rattle.fs_types.specs.Names.{Path}
use Rattle.plain_trees.specs.Trees.{directory_need}
use Rattle.plain_machine.proofs.Sums.{sum_more, capped_more}
use Rattle.plain_machine.proofs.needs.path_need.Goals as goal

pub loop-i-preserved : goal.loop-i-preserved
loop-i-preserved c =
    let need = λ (k : ℕ). directory_need c.args.before.now c.args.after.now (take k c.names-names.result.now) in
    capped_more c.loop-i.need (sum_by need (range_with_len 0 c.loop-i.i)) c.saturating_add-need.result c.directory_need.result (sum_by need (range_with_len 0 (c.loop-i.i + 1))) (2 ^ 64 - 1)
    c.loop-i.invariant c.saturating_add-need.ensures (sum_more need c.loop-i.i ∙ ap (λ (d : ℕ). sum_by need (range_with_len 0 c.loop-i.i) + d) (sym c.directory_need.ensures))

pub returns : goal.returns
returns c =
    let same = c.names-names.ensures.names in
    let past = c.loop-i-test.false in
    let within = c.loop-i.auto.i-end in
    let long : c.loop-i.i ≡ length c.args.path.now = omega (arith, ap (λ (p : Path). length p) same) in
    c.loop-i.invariant ∙ (λ i. min (sum_by (λ k. directory_need c.args.before.now c.args.after.now (take k (same i))) (range_with_len 0 (long i))) (2 ^ 64 - 1))
