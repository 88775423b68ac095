use Rattle.std.proofs.Common.{Ok, true, inl, sym, subst}
use Rattle.flash_model.specs.declared.geometry.Geometry.{Geometry}
use Rattle.anchors.specs.Preparing.{IsWithin}
use Rattle.anchors.proofs.Preparing.{newest_within}
use Rattle.system.proofs.AfterCommits.{knows}
use Rattle.system.proofs.Cleaned.{with_cleaned}
use Rattle.system.proofs.Prepared.{prepared_blocks, prepared_system, prepared_undisturbed, tells_then}
use Rattle.system.proofs.systems.System.prepare_next_blocks.Goals as goal

pub returns-in_err-is_done-clause-system : goal.returns-in_err-is_done-clause-system
returns-in_err-is_done-clause-system g c =
    prepared_system (g.F.Flash.device c.args.flash.now) (g.F.Flash.device c.prepare_blocks.new.flash) c.args.self.now c.prepare_blocks.new.storage c.prepare_blocks.new.prepared c.args.budget c.prepare_blocks.result c.requires.system c.requires.is_on c.prepare_blocks.ensures

pub returns-in_err-is_done-clause-undisturbed : goal.returns-in_err-is_done-clause-undisturbed
returns-in_err-is_done-clause-undisturbed g c =
    prepared_undisturbed (g.F.Flash.device c.args.flash.now) (g.F.Flash.device c.prepare_blocks.new.flash) c.args.self.now c.prepare_blocks.new.storage c.prepare_blocks.new.prepared c.args.budget c.prepare_blocks.result c.requires.system c.requires.is_on c.prepare_blocks.ensures

pub returns-then-is_done-clause-system : goal.returns-then-is_done-clause-system
returns-then-is_done-clause-system g c =
    prepared_system (g.F.Flash.device c.args.flash.now) (g.F.Flash.device c.prepare_blocks.new.flash) c.args.self.now c.prepare_blocks.new.storage c.prepare_blocks.new.prepared c.args.budget c.prepare_blocks.result c.requires.system c.requires.is_on c.prepare_blocks.ensures

pub returns-then-is_done-clause-undisturbed : goal.returns-then-is_done-clause-undisturbed
returns-then-is_done-clause-undisturbed g c =
    prepared_undisturbed (g.F.Flash.device c.args.flash.now) (g.F.Flash.device c.prepare_blocks.new.flash) c.args.self.now c.prepare_blocks.new.storage c.prepare_blocks.new.prepared c.args.budget c.prepare_blocks.result c.requires.system c.requires.is_on c.prepare_blocks.ensures

pub returns-else-is_done-clause-system : goal.returns-else-is_done-clause-system
returns-else-is_done-clause-system g c =
    prepared_system (g.F.Flash.device c.args.flash.now) (g.F.Flash.device c.prepare_blocks.new.flash) c.args.self.now c.prepare_blocks.new.storage c.prepare_blocks.new.prepared c.args.budget c.prepare_blocks.result c.requires.system c.requires.is_on c.prepare_blocks.ensures

pub returns-else-is_done-clause-undisturbed : goal.returns-else-is_done-clause-undisturbed
returns-else-is_done-clause-undisturbed g c =
    prepared_undisturbed (g.F.Flash.device c.args.flash.now) (g.F.Flash.device c.prepare_blocks.new.flash) c.args.self.now c.prepare_blocks.new.storage c.prepare_blocks.new.prepared c.args.budget c.prepare_blocks.result c.requires.system c.requires.is_on c.prepare_blocks.ensures

pub next_unprepared-anchor-requires-clause-within : goal.next_unprepared-anchor-requires-clause-within
next_unprepared-anchor-requires-clause-within g c =
    let e = g.F.Flash.device c.prepare_blocks.new.flash in
    let after = prepared_system (g.F.Flash.device c.args.flash.now) (g.F.Flash.device c.prepare_blocks.new.flash) c.args.self.now c.prepare_blocks.new.storage c.prepare_blocks.new.prepared c.args.budget c.prepare_blocks.result c.requires.system c.requires.is_on c.prepare_blocks.ensures in
    subst (λ (h : Geometry). IsWithin h c.args.self.now.anchors) (sym c.geometry.ensures)
    (newest_within e c.prepare_blocks.new.storage.bad c.args.self.now.anchors after.mounted.lawful (inl (knows e c.prepare_blocks.new.storage.bad c.args.self.now.anchors (after.known c.requires.is_on))))

pub returns-then-is_done-clause-prepares : goal.returns-then-is_done-clause-prepares
returns-then-is_done-clause-prepares g c =
    let d = g.F.Flash.device c.args.flash.now in
    let e = g.F.Flash.device c.prepare_blocks.new.flash in
    let m = c.args.self.now in
    let t = c.prepare_blocks.new.storage in
    let prepared = c.prepare_blocks.new.prepared in
    prepared_blocks d e m t prepared c.args.budget (Ok true) c.requires.system c.requires.is_on (rw c.if-is_done.true at c.in_ok-is_done.ensures) (Ok c.is_none.result)
    (tells_then c.geometry.result c.next_unprepared-anchor.result c.is_none.result e (with_cleaned m t m.cleaned_to prepared) c.geometry.ensures c.is_none.ensures c.next_unprepared-anchor.ensures.wanted c.next_unprepared-anchor.ensures.prepared)
