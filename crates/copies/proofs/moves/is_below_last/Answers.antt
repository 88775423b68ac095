use Rattle.std.proofs.Common.{◌≡◌, ◌∙◌, ◌-◌, ◌<◌, suc, length, sym, ap₂, arith}
use Rattle.plain_trees.specs.Contents.{begins}
use Rattle.copies.proofs.Finding.{last_below}
use Rattle.copies.proofs.moves.is_below_last.Goals as goal

pub returns-in-Some : goal.returns-in-Some
returns-in-Some c =
    let items = c.args.items.now in
    let some : 0 < length items = c.in-Some.ensures.item.3.0 in
    let last : suc (length items - 1) ≡ length items = omega (arith, some) in
    c.is_beginning.ensures ∙ ap₂ begins c.names.ensures.names c.names-in-Some.ensures.names ∙ sym (last_below items (length items - 1) c.in-Some.item.now c.args.path.now last c.in-Some.ensures.item.1)
