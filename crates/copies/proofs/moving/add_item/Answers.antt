use Rattle.std.proofs.Common.{◌∙◌, ◌++◌, List, sym, ap, append-nil}
use Rattle.history_machine.specs.Machine.{working_tree}
use Rattle.inquiries.specs.Readings.{shown}
use Rattle.inquiries.specs.declared.items.Item.{Item}
use Rattle.copies.proofs.Renaming.{nothing_there}
use Rattle.copies.proofs.moving.add_item.Goals as goal

pub returns-in-None-clause-ok : goal.returns-in-None-clause-ok
returns-in-None-clause-ok g c =
    let t = working_tree (shown c.args.to.now) in
    sym (append-nil c.args.items.now.items) ∙ ap (λ (l : List Item). c.args.items.now.items ++ l) (sym (nothing_there t c.args.path.now (sym c.in-None.is ∙ c.in_ok-stat.ensures.ok)))
