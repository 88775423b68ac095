use Rattle.std.proofs.Common.{refl, ap}
use Rattle.std.specs.FinSet as set
use Rattle.flash_model.specs.declared.geometry.Geometry.{Geometry}
use Rattle.flash_model.specs.Geometry.{block_bytes}
use Rattle.block_ring.specs.Ring.{Ring}
use Rattle.node_store.specs.ReadingLaws.{OnlyReads_nodes}
use Rattle.node_store.specs.StoreLaws.{Sound_on}
use Rattle.node_store.proofs.Examined.{follows_read}
use Rattle.node_store.proofs.PartFaults.{part_damaged, part_faults, part_causes}
use Rattle.node_store.proofs.peeks.StorePeeks.peek_at.Goals as goal

pub returns-clause-looks : goal.returns-clause-looks
returns-clause-looks g c =
    let looked = c.peek_part.ensures in
    let came = follows_read g.F.Flash.device c.args.self.now _ refl refl looked.fits (record { device = looked.only_reads; bad = looked.bad; ring = looked.ring }) c.more-self.ensures refl looked.most in
    record {
      same_nodes = OnlyReads_nodes _ _ c.requires.sound.lawful looked.only_reads;
      same_kept = ap (λ (r : Ring). set.contains r.used) looked.ring;
      same_writes = refl;
      came = came;
      sound = Sound_on g.F.Flash.device _ _ came c.requires.sound;
      same_limit = ap block_bytes looked.only_reads.geometry;
      same_blocks = ap (λ (h : Geometry). h.blocks) looked.only_reads.geometry;
    }

pub returns-clause-damaged : goal.returns-clause-damaged
returns-clause-damaged g c = part_damaged (g.F.Flash.device c.args.self.now.flash.now) (g.F.Flash.device c.peek_part.new.flash) _ _ _ _ c.peek_part.ensures.refuses

pub returns-clause-why : goal.returns-clause-why
returns-clause-why g c = part_causes _ _ _ _ _ _ _ c.peek_part.ensures.refuses

pub returns-clause-faults : goal.returns-clause-faults
returns-clause-faults g c = part_faults (g.F.Flash.device c.args.self.now.flash.now) (g.F.Flash.device c.peek_part.new.flash) _ _ _ _ c.peek_part.ensures.refuses
