use Rattle.std.proofs.Common.{ap, subst, sym, ◌∙◌}
use Rattle.block_ring.specs.Ring.{Ring}
use Rattle.node_store.specs.Fitting.{StillFits}
use Rattle.node_store.specs.FittingLaws.{still_on}
use Rattle.node_store.specs.NodePages.{node_of}
use Rattle.node_store.specs.declared.storage.Storage.{Storage}
use Rattle.mounting.proofs.Installed.{with_marks}
use Rattle.mounting.proofs.Loading.{installed}
use Rattle.mounting.proofs.reached.use_reached.Goals as goal

pub returns-clause-used : goal.returns-clause-used
returns-clause-used g c =
    installed c.in_ok-marks.marks.members c.reached_on.new.storage.ring.note c.install.new.self.ring.used (node_of (g.F.Flash.device c.args.flash.now)) c.args.roots.now
    (ap (λ (r : Ring). r.note) c.reached_on.ensures.looked.untouched.ring ∙ c.requires.unnoted) (ap (λ (s : Storage). s.ring.used) c.install.ensures) c.in_ok-marks.ensures.reached

pub returns-clause-fits : goal.returns-clause-fits
returns-clause-fits g c =
    let e = g.F.Flash.device c.reached_on.new.flash in
    let looked = c.reached_on.new.storage in
    still_on (g.F.Flash.device c.args.flash.now) c.args.storage.now e looked e c.install.new.self c.reached_on.ensures.looked.fits
    (subst (λ (s : Storage). StillFits e looked e s) (sym c.install.ensures) (with_marks e looked c.in_ok-marks.marks))
