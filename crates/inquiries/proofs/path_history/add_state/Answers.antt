use Rattle.inquiries.specs.Readings.{shown}
use Rattle.inquiries.proofs.PathLemmas.{seen_at}
use Rattle.inquiries.proofs.path_history.add_state.Goals as goal

pub print_there-requires : goal.print_there-requires
print_there-requires g c =
    seen_at (shown c.args.fs.now) (shown c.is_told.new.fs) c.args.views.now c.args.place c.index-views-place.result c.args.fs.now.mounted.mounted.machine c.requires.views c.is_told.ensures.same.machine c.requires.place c.index-views-place.is
