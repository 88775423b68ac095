use Rattle.std.proofs.Common.{sym, subst}
use Rattle.fs_types.specs.Names.{Path}
use Rattle.history_machine.specs.Machine.{Machine}
use Rattle.inquiries.specs.Items.{IsDirectoryOf}
use Rattle.inquiries.specs.Readings.{shown}
use Rattle.inquiries.proofs.Entries.{root_there}
use Rattle.inquiries.proofs.items.items_of.Goals as goal

pub add_items-requires : goal.add_items-requires
add_items-requires g c = λ some.
    let m = shown c.args.fs.now in
    let here = root_there m c.args.view.now c.args.fs.now.mounted.mounted.machine c.in_ok-check_view.ensures.accepted in
    subst (λ (x : Machine). IsDirectoryOf x c.args.view.now c.root-root.result) (sym c.in_ok-check_view.ensures.same.machine) (subst (λ (path : Path). IsDirectoryOf m c.args.view.now path) (sym c.root-root.ensures) here)
