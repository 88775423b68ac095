use Rattle.std.proofs.Common.{sym}
use Rattle.salvages.proofs.rest_roots.know_nodes.Goals as goal

pub known_on-requires-clause-fits : goal.known_on-requires-clause-fits
known_on-requires-clause-fits g c = c.in_ok-storage.ensures.fits (g.F.Flash.device c.args.flash.now) (sym c.geometry.ensures)
