use Rattle.std.proofs.Common.{◌≡◌, ℕ, ◌+◌, ◌-◌, take, drop, ap, ◌∙◌, arith}
use Rattle.node_store.proofs.PartBytes.{copied_page}
use Rattle.node_store.proofs.node_parts.copy_page.Goals as goal

pub returns : goal.returns
returns c = λ all page fits so_far.
    let skip = c.saturating_sub-skip.result in
    let count : skip + c.min-count.result - skip ≡ c.min-count.result = omega arith in
    copied_page c.args.begin c.args.offset c.saturating_sub-done.result skip c.min-count.result _ c.args.page.now c.args.out.now
    c.copy_from_slice.new.self all c.saturating_sub-done.ensures c.saturating_sub-skip.ensures c.min-count.ensures (omega arith)
    (c.copy_from_slice.ensures.after ∙ ap (λ (n : ℕ). take n (drop skip c.args.page.now)) count) c.requires.before c.requires.behind page fits so_far
