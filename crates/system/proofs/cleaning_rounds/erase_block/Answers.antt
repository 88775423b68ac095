use Rattle.std.proofs.Common.{Ok, Err, inl, inr, sym, subst}
use Rattle.std.specs.FinSet as set
use Rattle.std.specs.Ordering.{nat_cmp}
use Rattle.std.specs.Prelude.{OnOk, Result}
use Rattle.fs_types.specs.declared.fault.Fault.{Fault}
use Rattle.system.specs.CleaningRounds.{ErasesBlock}
use Rattle.system.proofs.ErasedBlocks.{erased_blank, failed_block, now_listed}
use Rattle.system.proofs.cleaning_rounds.erase_block.Goals as goal

pub returns-in-Ok-clause-clean : goal.returns-in-Ok-clause-clean
returns-in-Ok-clause-clean g c = inr (erased_blank (g.F.Flash.device c.args.flash.now) (g.F.Flash.device c.erase.new.self) c.args.block c.in-Ok.ensures)

pub returns-in-Err-Failed-clause-erases : goal.returns-in-Err-Failed-clause-erases
returns-in-Err-Failed-clause-erases g c =
    subst (λ (bads : set.FinSet nat_cmp). ErasesBlock (g.F.Flash.device c.args.flash.now) c.args.bad.now c.args.block (g.F.Flash.device c.erase.new.self) bads) (sym c.list_block.ensures.listed)
    (failed_block (g.F.Flash.device c.args.flash.now) (g.F.Flash.device c.erase.new.self) c.args.bad.now c.args.block c.requires.good (rw c.in-Err-Failed.field-0-is at c.in-Err-Failed.ensures))

on_ok : {P : Type 0} (r : Result (Unit {0}) Fault) → P → OnOk r P
on_ok (Ok u) is = is
on_ok (Err fault) is = tt

pub returns-in-Err-Failed-clause-clean : goal.returns-in-Err-Failed-clause-clean
returns-in-Err-Failed-clause-clean g c = on_ok c.list_block.result (inl (now_listed c.args.bad.now c.list_block.new.bad c.args.block c.list_block.ensures.listed))
