use Rattle.std.proofs.Common.{◌≡◌, ℕ, ◌+◌, ◌-◌, List, ◌++◌, slice_index, take, drop, ap, ◌∙◌, arith}
use Rattle.std.proofs.lemmas.List.{drop-drop}
use Rattle.tree_edits.proofs.Kept.{put_over}
use Rattle.tree_edits.proofs.changed_nodes.overlay.Goals as goal

pub returns-then-from-to : goal.returns-then-from-to
returns-then-from-to c i within =
    let out = c.args.out.now in
    let part = c.copy_from_slice.new.self in
    let a : ℕ = c.max-from.result - c.args.start in
    let k : ℕ = c.min-to.result - c.args.start - a in
    let sum : a + k ≡ c.min-to.result - c.args.start = omega (arith, c.max-from.ensures, c.if-from-to.true) in
    let count : c.min-to.result - c.args.offset - (c.max-from.result - c.args.offset) ≡ c.min-to.result - c.max-from.result = omega (arith, c.max-from.ensures, c.if-from-to.true) in
    let bytes : part ≡ take (c.min-to.result - c.max-from.result) (drop (c.max-from.result - c.args.offset) c.args.bytes.now) =
    c.copy_from_slice.ensures.after ∙ ap (λ (n : ℕ). take n (drop (c.max-from.result - c.args.offset) c.args.bytes.now)) count in
    ap (λ (rest : List ℕ). slice_index (take a out ++ (part ++ rest)) i) (drop-drop k a out ∙ ap (λ (n : ℕ). drop n out) sum)
    ∙ put_over out c.args.bytes.now part c.args.start c.args.offset c.max-from.result c.min-to.result i c.max-from.ensures c.min-to.ensures c.if-from-to.true bytes within
