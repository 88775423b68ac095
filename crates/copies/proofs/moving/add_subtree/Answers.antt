use Rattle.std.proofs.Common.{◌≡◌, ◌∙◌, ◌++◌, List, Some, ap, subst, append_assoc}
use Rattle.fs_types.specs.declared.call.Stat.{Stat}
use Rattle.fs_types.specs.declared.limits.TheConstants.{MAX_NAMES}
use Rattle.history_machine.specs.Machine.{Machine, working_tree}
use Rattle.inquiries.specs.Counterparts.{stat_there}
use Rattle.inquiries.specs.Items.{items_below}
use Rattle.inquiries.specs.Readings.{shown}
use Rattle.inquiries.specs.declared.items.Item.{Item}
use Rattle.copies.specs.Moved.{there_at}
use Rattle.copies.proofs.Renaming.{directory_subtree}
use Rattle.copies.proofs.moving.add_subtree.Goals as goal

pub returns-in_ok-append-in-Some-Dir-clause-ok : goal.returns-in_ok-append-in-Some-Dir-clause-ok
returns-in_ok-append-in-Some-Dir-clause-ok g c =
    let t = working_tree (shown c.args.to.now) in
    let p = c.args.path.now in
    let items = c.args.items.now.items in
    let below = c.in_ok-below-in-Some-Dir.below.items in
    let some = c.in-Some-Dir.is in
    let kind = c.in-Some-Dir.field-0-is in
    let told = c.in_ok-add_item.ensures.stat in
    let dir : Some (Stat.Dir c.in-Some-Dir.field-0-0) ≡ stat_there t p = cc in
    let listed : below ≡ items_below t MAX_NAMES p = subst (λ (m : Machine). below ≡ items_below (working_tree m) MAX_NAMES p) c.add_item.ensures.same.machine c.in_ok-below-in-Some-Dir.ensures.ok in
    c.in_ok-append-in-Some-Dir.ensures.items ∙ ap (λ (l : List Item). l ++ below) c.in_ok-add_item.ensures.ok ∙ append_assoc items (there_at t p) below
    ∙ ap (λ (l : List Item). items ++ l) (ap (λ (l : List Item). there_at t p ++ l) listed ∙ directory_subtree t p c.in-Some-Dir.field-0-0 dir)
