use Rattle.std.proofs.Common.{ℕ, ◌+◌, List, subst, arith}
use Rattle.std.proofs.lemmas.List.{take_all}
use Rattle.flash_model.specs.Reading.{OnlyReads_itself, OnlyReads_on}
use Rattle.salvages.proofs.Costs.{look_all, look_next}
use Rattle.salvages.proofs.LostRoots.{none_lost, one_looked}
use Rattle.salvages.specs.Wholes.{AreLost}
use Rattle.salvages.proofs.looks.look_at_each.Goals as goal

pub loop-root-init : goal.loop-root-init
loop-root-init g c = record {
  lost = none_lost c.args.plain (g.F.Flash.device c.args.flash.now) c.args.roots.now c.new-lost.result.items c.new-lost.ensures.items;
  only_reads = OnlyReads_itself (g.F.Flash.device c.args.flash.now);
  asks = omega arith;
}

pub loop-root-preserved : goal.loop-root-preserved
loop-root-preserved g c =
    let d = g.F.Flash.device c.args.flash.now in
    let e = g.F.Flash.device c.loop-root.flash in
    record {
      lost = one_looked c.args.plain d c.args.roots.now c.loop-root.lost.items c.loop-root.root-index c.loop-root-test.true c.loop-root.invariant.lost e c.in_ok-whole.whole c.note_root.new.lost.items
          c.requires c.loop-root.invariant.only_reads c.in_ok-whole.ensures.whole c.in_ok-note_root.ensures;
      only_reads = OnlyReads_on d e (g.F.Flash.device c.is_whole.new.flash) c.loop-root.invariant.only_reads c.is_whole.ensures.only_reads;
      asks = look_next d e (g.F.Flash.device c.is_whole.new.flash) c.args.roots.now c.loop-root.root-index c.requires c.loop-root.invariant.only_reads c.loop-root-test.true c.loop-root.invariant.asks c.is_whole.ensures.asks;
    }

pub returns-clause-lost : goal.returns-clause-lost
returns-clause-lost g c =
    subst (λ (roots : List ℕ). AreLost c.args.plain (g.F.Flash.device c.args.flash.now) roots c.loop-root.lost.items)
    (take_all c.loop-root.root-index c.args.roots.now c.loop-root-test.false) c.loop-root.invariant.lost

pub returns-clause-asks : goal.returns-clause-asks
returns-clause-asks g c =
    look_all (g.F.Flash.device c.args.flash.now) c.loop-root.root-index c.args.roots.now _ _ c.loop-root.invariant.asks

pub returns-in_err-whole-clause-asks : goal.returns-in_err-whole-clause-asks
returns-in_err-whole-clause-asks g c =
    let d = g.F.Flash.device c.args.flash.now in
    let e = g.F.Flash.device c.loop-root.flash in
    look_all d (c.loop-root.root-index + 1) c.args.roots.now _ _
    (look_next d e (g.F.Flash.device c.is_whole.new.flash) c.args.roots.now c.loop-root.root-index c.requires c.loop-root.invariant.only_reads c.loop-root-test.true c.loop-root.invariant.asks c.is_whole.ensures.asks)

pub returns-in_err-note_root-clause-asks : goal.returns-in_err-note_root-clause-asks
returns-in_err-note_root-clause-asks g c =
    let d = g.F.Flash.device c.args.flash.now in
    let e = g.F.Flash.device c.loop-root.flash in
    look_all d (c.loop-root.root-index + 1) c.args.roots.now _ _
    (look_next d e (g.F.Flash.device c.is_whole.new.flash) c.args.roots.now c.loop-root.root-index c.requires c.loop-root.invariant.only_reads c.loop-root-test.true c.loop-root.invariant.asks c.is_whole.ensures.asks)
