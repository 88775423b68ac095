use Rattle.std.proofs.Common.{sym, subst}
use Rattle.fs_types.specs.Names.{Path}
use Rattle.inquiries.specs.Items.{IsDirectoryOf}
use Rattle.inquiries.specs.Readings.{shown}
use Rattle.inquiries.proofs.Entries.{root_there}
use Rattle.archive_jobs.proofs.archiving.items_of_tree.Goals as goal

pub list_folder-requires : goal.list_folder-requires
list_folder-requires g c =
    let m = shown c.args.fs.now in
    subst (λ (path : Path). IsDirectoryOf m c.args.view.now path) (sym c.root-root.ensures) (root_there m c.args.view.now c.args.fs.now.mounted.mounted.machine c.requires)
