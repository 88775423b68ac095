use Rattle.std.proofs.Common.{rules}
use Rattle.node_store.specs.ReadingLaws.{OnlyReads_nodes}
use Rattle.node_store.proofs.PartFaults.{part_damaged, part_faults, part_causes}
use Rattle.node_store.proofs.store.StoreNodes.read_at.Goals as goal

pub returns-clause-looks : goal.returns-clause-looks
returns-clause-looks g c = record {
  same_nodes = OnlyReads_nodes _ _ c.requires.sound.lawful c.bring_part.ensures.only_reads;
  same_kept = search rules;
  same_writes = search rules;
  came = search rules;
  sound = search rules;
  same_limit = search rules;
  same_blocks = search rules;
}

pub returns-clause-damaged : goal.returns-clause-damaged
returns-clause-damaged g c = part_damaged (g.F.Flash.device c.args.self.now.flash.now) (g.F.Flash.device c.bring_part.new.flash) _ _ _ _ c.bring_part.ensures.refuses

pub returns-clause-why : goal.returns-clause-why
returns-clause-why g c = part_causes _ _ _ _ _ _ _ c.bring_part.ensures.refuses

pub returns-clause-faults : goal.returns-clause-faults
returns-clause-faults g c = part_faults (g.F.Flash.device c.args.self.now.flash.now) (g.F.Flash.device c.bring_part.new.flash) _ _ _ _ c.bring_part.ensures.refuses
