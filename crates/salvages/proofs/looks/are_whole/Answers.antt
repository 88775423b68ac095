use Rattle.std.proofs.Common.{sym, ap, ◌∙◌}
use Rattle.block_ring.specs.Ring.{Ring}
use Rattle.flash_model.specs.declared.geometry.Geometry.{Geometry}
use Rattle.mounting.proofs.Asking.{verifies_none}
use Rattle.salvages.proofs.looks.are_whole.Goals as goal

pub are_whole_on-requires-clause-ring_blocks : goal.are_whole_on-requires-clause-ring_blocks
are_whole_on-requires-clause-ring_blocks g c = ap (λ (r : Ring). r.blocks) c.in_ok-storage.ensures.ring ∙ ap (λ (x : Geometry). x.blocks) c.geometry.ensures

pub are_whole_on-requires-clause-fits : goal.are_whole_on-requires-clause-fits
are_whole_on-requires-clause-fits g c = c.in_ok-storage.ensures.fits (g.F.Flash.device c.args.flash.now) (sym c.geometry.ensures)

pub returns-in_err-cache-clause-asks : goal.returns-in_err-cache-clause-asks
returns-in_err-cache-clause-asks g c = verifies_none (g.F.Flash.device c.args.flash.now) c.args.roots.now

pub returns-in_err-storage-clause-asks : goal.returns-in_err-storage-clause-asks
returns-in_err-storage-clause-asks g c = verifies_none (g.F.Flash.device c.args.flash.now) c.args.roots.now
