use Rattle.std.proofs.Common.{take}
use Rattle.flash_model.specs.Reading.{OnlyReads}
use Rattle.salvages.specs.Costs.{AsksToLook}
use Rattle.salvages.specs.Wholes.{AreLost}
use Rattle.salvages.proofs.looks.look_at_each.Given as goal

abbrev pub invariant-loop-root : goal.invariant-loop-root
invariant-loop-root g l = record {
  lost : AreLost l.plain (g.F.Flash.device l.initial.flash) (take l.root-index l.roots) l.lost.items;
  only_reads : OnlyReads (g.F.Flash.device l.initial.flash) (g.F.Flash.device l.flash);
  asks : AsksToLook (g.F.Flash.device l.initial.flash) (take l.root-index l.roots) (g.F.Flash.device l.initial.flash).operations (g.F.Flash.device l.flash).operations;
}
