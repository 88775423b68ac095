use Rattle.std.proofs.Common.{◌≡◌, ℕ, ◌+◌, ◌*◌, ◌<◌, ◌≤◌, Err, length, refl, ap, sym, subst, arith}
use Rattle.std.proofs.lemmas.Result.{err_from_is_err_and}
use Rattle.flash_model.specs.declared.flash.DevFault.TheVariants.{Failed}
use Rattle.block_ring.specs.Ring.{Ring, IsTaken, free_count}
use Rattle.nodes.specs.PageCounts.{pages_for}
use Rattle.node_store.specs.Writing.{WritesBlock}
use Rattle.node_store.specs.Storage.{storage, Evolved, PassesBad, Pays}
use Rattle.node_store.specs.StorageLaws.{took_good, took_bad, took_added, took_passed, pays_good, pays_bad, less_free}
use Rattle.node_store.proofs.added_nodes.try_block.Goals as goal
use Rattle.node_store.proofs.added_nodes.try_block.Goals.{After-list_block}
use Rattle.node_store.proofs.added_nodes.try_block.Given.{Over}

-- one block was taken, and so many operations spent on it
spends_once : (old new takes later each : ℕ) → later ≡ takes + 1 → new ≤ old + each → new + takes * each ≤ old + later * each
spends_once old new takes later each one few = subst (λ (n : ℕ). new + takes * each ≤ old + n * each) (sym one) (omega arith)

-- the block of the failed write, and the list with it
module _ (g : Over) (c : After-list_block g) where
  taken : IsTaken c.args.ring.now c.args.bad.now c.args.block c.take_at.new.self
  taken = c.take_at.ensures c.args.bad.now c.requires.next

  writes : WritesBlock (g.F.Flash.device c.args.flash.now) c.args.block c.args.bytes.now (g.F.Flash.device c.write_block.new.flash) (Err Failed)
  writes = rw c.in-Err-Failed.field-0-is at c.in-Err-Failed.ensures.writes

  evolved : Evolved (storage (g.F.Flash.device c.args.flash.now) c.args.bad.now c.args.ring.now)
      (storage (g.F.Flash.device c.write_block.new.flash) c.list_block.new.bad c.take_at.new.self)
  evolved =
      let old = storage (g.F.Flash.device c.args.flash.now) c.args.bad.now c.args.ring.now in
      subst (λ bads. Evolved old (storage (g.F.Flash.device c.write_block.new.flash) bads c.take_at.new.self)) (sym c.list_block.ensures.listed)
      (took_bad old c.args.block c.take_at.new.self c.args.bytes.now (g.F.Flash.device c.write_block.new.flash) taken writes)

  pays : Pays (storage (g.F.Flash.device c.args.flash.now) c.args.bad.now c.args.ring.now)
      (storage (g.F.Flash.device c.write_block.new.flash) c.list_block.new.bad c.take_at.new.self) 0
  pays =
      let old = storage (g.F.Flash.device c.args.flash.now) c.args.bad.now c.args.ring.now in
      subst (λ bads. Pays old (storage (g.F.Flash.device c.write_block.new.flash) bads c.take_at.new.self) 0) (sym c.list_block.ensures.listed)
      (pays_bad old c.args.block c.take_at.new.self (g.F.Flash.device c.write_block.new.flash) taken)

  passes : PassesBad (storage (g.F.Flash.device c.args.flash.now) c.args.bad.now c.args.ring.now)
      (storage (g.F.Flash.device c.write_block.new.flash) c.list_block.new.bad c.take_at.new.self)
  passes =
      let old = storage (g.F.Flash.device c.args.flash.now) c.args.bad.now c.args.ring.now in
      subst (λ bads. PassesBad old (storage (g.F.Flash.device c.write_block.new.flash) bads c.take_at.new.self)) (sym c.list_block.ensures.listed)
      (took_passed old c.args.block c.take_at.new.self (g.F.Flash.device c.write_block.new.flash) taken)

  less : free_count c.take_at.new.self c.list_block.new.bad < free_count c.args.ring.now c.args.bad.now
  less =
      let old = storage (g.F.Flash.device c.args.flash.now) c.args.bad.now c.args.ring.now in
      subst (λ bads. free_count c.take_at.new.self bads < free_count c.args.ring.now c.args.bad.now) (sym c.list_block.ensures.listed)
      (less_free old c.args.block c.take_at.new.self taken)

pub returns-in-Ok-clause-attempt : goal.returns-in-Ok-clause-attempt
returns-in-Ok-clause-attempt g c = let taken = c.take_at.ensures c.args.bad.now c.requires.next in record {
  tries =
      took_added (storage (g.F.Flash.device c.args.flash.now) c.args.bad.now c.args.ring.now) c.args.block c.take_at.new.self
      c.args.bytes.now (g.F.Flash.device c.write_block.new.flash) c.in-Ok.field-0 c.requires.lawful c.requires.ring_blocks c.requires.node c.requires.room
      taken c.in-Ok.ensures.writes;
  evolved =
      took_good (storage (g.F.Flash.device c.args.flash.now) c.args.bad.now c.args.ring.now) c.args.block c.take_at.new.self
      c.args.bytes.now (g.F.Flash.device c.write_block.new.flash) _ c.requires.node taken c.in-Ok.ensures.writes refl;
  pays = pays_good (storage (g.F.Flash.device c.args.flash.now) c.args.bad.now c.args.ring.now) c.args.block c.take_at.new.self (g.F.Flash.device c.write_block.new.flash) taken;
  next = record { next = taken.next; last = ap (λ (r : Ring). r.last) taken.ring };
  operations =
      spends_once (g.F.Flash.device c.args.flash.now).operations (g.F.Flash.device c.write_block.new.flash).operations c.args.ring.now.takes c.take_at.new.self.takes (1 + pages_for (g.F.Flash.device c.args.flash.now).geometry.page (length c.args.bytes.now)) (ap (λ (r : Ring). r.takes) taken.ring) c.write_block.ensures.operations;
}

pub returns-in-Err-PowerCut-clause-attempt : goal.returns-in-Err-PowerCut-clause-attempt
returns-in-Err-PowerCut-clause-attempt g c = let taken = c.take_at.ensures c.args.bad.now c.requires.next in record {
  tries =
      let writes = rw c.in-Err-PowerCut.field-0-is at c.in-Err-PowerCut.ensures.writes in (writes.ends, c.requires.room);
  evolved =
      took_good (storage (g.F.Flash.device c.args.flash.now) c.args.bad.now c.args.ring.now) c.args.block c.take_at.new.self
      c.args.bytes.now (g.F.Flash.device c.write_block.new.flash) _ c.requires.node taken (rw c.in-Err-PowerCut.field-0-is at c.in-Err-PowerCut.ensures.writes) refl;
  pays = pays_good (storage (g.F.Flash.device c.args.flash.now) c.args.bad.now c.args.ring.now) c.args.block c.take_at.new.self (g.F.Flash.device c.write_block.new.flash) taken;
  next = tt;
  operations =
      spends_once (g.F.Flash.device c.args.flash.now).operations (g.F.Flash.device c.write_block.new.flash).operations c.args.ring.now.takes c.take_at.new.self.takes (1 + pages_for (g.F.Flash.device c.args.flash.now).geometry.page (length c.args.bytes.now)) (ap (λ (r : Ring). r.takes) taken.ring) c.write_block.ensures.operations;
}

pub returns-in_err-list_block-in-Err-Failed-clause-attempt : goal.returns-in_err-list_block-in-Err-Failed-clause-attempt
returns-in_err-list_block-in-Err-Failed-clause-attempt g c = record {
  tries =
      let p = err_from_is_err_and c.from_residual.result c.from_residual.ensures.1 in
      rw (p.1, p.2, c.in_err-list_block-in-Err-Failed.ensures.limit.0) c.in_err-list_block-in-Err-Failed.ensures.limit.1;
  evolved =
      evolved g (goal.at.returns-in_err-list_block-in-Err-Failed-clause-attempt g c).After-list_block;
  pays =
      let answer = c.from_residual in
      let p = err_from_is_err_and answer.result answer.ensures.1 in
      rw (p.1, p.2, c.in_err-list_block-in-Err-Failed.ensures.limit.0)
      (pays g (goal.at.returns-in_err-list_block-in-Err-Failed-clause-attempt g c).After-list_block);
  next = rw (err_from_is_err_and c.from_residual.result c.from_residual.ensures.1).1 tt;
  operations =
      spends_once (g.F.Flash.device c.args.flash.now).operations (g.F.Flash.device c.write_block.new.flash).operations c.args.ring.now.takes c.take_at.new.self.takes (1 + pages_for (g.F.Flash.device c.args.flash.now).geometry.page (length c.args.bytes.now)) (ap (λ (r : Ring). r.takes) (c.take_at.ensures c.args.bad.now c.requires.next).ring) c.write_block.ensures.operations;
}

pub returns-in_ok-list_block-in-Err-Failed-clause-attempt : goal.returns-in_ok-list_block-in-Err-Failed-clause-attempt
returns-in_ok-list_block-in-Err-Failed-clause-attempt g c = record {
  tries =
      (less g (goal.at.returns-in_ok-list_block-in-Err-Failed-clause-attempt g c).After-list_block, c.in_ok-list_block-in-Err-Failed.ensures.limit);
  evolved =
      evolved g (goal.at.returns-in_ok-list_block-in-Err-Failed-clause-attempt g c).After-list_block;
  pays =
      pays g (goal.at.returns-in_ok-list_block-in-Err-Failed-clause-attempt g c).After-list_block;
  next =
      passes g (goal.at.returns-in_ok-list_block-in-Err-Failed-clause-attempt g c).After-list_block;
  operations =
      spends_once (g.F.Flash.device c.args.flash.now).operations (g.F.Flash.device c.write_block.new.flash).operations c.args.ring.now.takes c.take_at.new.self.takes (1 + pages_for (g.F.Flash.device c.args.flash.now).geometry.page (length c.args.bytes.now)) (ap (λ (r : Ring). r.takes) (c.take_at.ensures c.args.bad.now c.requires.next).ring) c.write_block.ensures.operations;
}

pub returns-in-Ok-clause-page : goal.returns-in-Ok-clause-page
returns-in-Ok-clause-page g c = c.write_block.ensures.page

pub returns-in-Ok-clause-taken : goal.returns-in-Ok-clause-taken
returns-in-Ok-clause-taken g c = ap (λ (r : Ring). r.used) (c.take_at.ensures c.args.bad.now c.requires.next).ring

pub returns-in-Ok-clause-fresh : goal.returns-in-Ok-clause-fresh
returns-in-Ok-clause-fresh g c = (c.take_at.ensures c.args.bad.now c.requires.next).fresh

pub returns-in-Ok-clause-others : goal.returns-in-Ok-clause-others
returns-in-Ok-clause-others g c = c.write_block.ensures.writes.others

pub returns-in-Err-PowerCut-clause-page : goal.returns-in-Err-PowerCut-clause-page
returns-in-Err-PowerCut-clause-page g c = c.write_block.ensures.page

pub returns-in-Err-PowerCut-clause-taken : goal.returns-in-Err-PowerCut-clause-taken
returns-in-Err-PowerCut-clause-taken g c = ap (λ (r : Ring). r.used) (c.take_at.ensures c.args.bad.now c.requires.next).ring

pub returns-in-Err-PowerCut-clause-fresh : goal.returns-in-Err-PowerCut-clause-fresh
returns-in-Err-PowerCut-clause-fresh g c = (c.take_at.ensures c.args.bad.now c.requires.next).fresh

pub returns-in-Err-PowerCut-clause-others : goal.returns-in-Err-PowerCut-clause-others
returns-in-Err-PowerCut-clause-others g c = c.write_block.ensures.writes.others

pub returns-in_err-list_block-in-Err-Failed-clause-page : goal.returns-in_err-list_block-in-Err-Failed-clause-page
returns-in_err-list_block-in-Err-Failed-clause-page g c = c.write_block.ensures.page

pub returns-in_err-list_block-in-Err-Failed-clause-taken : goal.returns-in_err-list_block-in-Err-Failed-clause-taken
returns-in_err-list_block-in-Err-Failed-clause-taken g c = ap (λ (r : Ring). r.used) (c.take_at.ensures c.args.bad.now c.requires.next).ring

pub returns-in_err-list_block-in-Err-Failed-clause-fresh : goal.returns-in_err-list_block-in-Err-Failed-clause-fresh
returns-in_err-list_block-in-Err-Failed-clause-fresh g c = (c.take_at.ensures c.args.bad.now c.requires.next).fresh

pub returns-in_err-list_block-in-Err-Failed-clause-others : goal.returns-in_err-list_block-in-Err-Failed-clause-others
returns-in_err-list_block-in-Err-Failed-clause-others g c = c.write_block.ensures.writes.others

pub returns-in_ok-list_block-in-Err-Failed-clause-page : goal.returns-in_ok-list_block-in-Err-Failed-clause-page
returns-in_ok-list_block-in-Err-Failed-clause-page g c = c.write_block.ensures.page

pub returns-in_ok-list_block-in-Err-Failed-clause-taken : goal.returns-in_ok-list_block-in-Err-Failed-clause-taken
returns-in_ok-list_block-in-Err-Failed-clause-taken g c = ap (λ (r : Ring). r.used) (c.take_at.ensures c.args.bad.now c.requires.next).ring

pub returns-in_ok-list_block-in-Err-Failed-clause-fresh : goal.returns-in_ok-list_block-in-Err-Failed-clause-fresh
returns-in_ok-list_block-in-Err-Failed-clause-fresh g c = (c.take_at.ensures c.args.bad.now c.requires.next).fresh

pub returns-in_ok-list_block-in-Err-Failed-clause-others : goal.returns-in_ok-list_block-in-Err-Failed-clause-others
returns-in_ok-list_block-in-Err-Failed-clause-others g c = c.write_block.ensures.writes.others

pub write_block-requires-clause-lawful : goal.write_block-requires-clause-lawful
write_block-requires-clause-lawful g c = c.requires.lawful

pub write_block-requires-clause-whole : goal.write_block-requires-clause-whole
write_block-requires-clause-whole g c = c.requires.whole

pub take_at-requires : goal.take_at-requires
take_at-requires g c = (c.args.bad.now, c.requires.next)

pub list_block-requires-clause-good : goal.list_block-requires-clause-good
list_block-requires-clause-good g c = (c.take_at.ensures c.args.bad.now c.requires.next).good

pub list_block-requires-clause-room : goal.list_block-requires-clause-room
list_block-requires-clause-room g c = c.requires.room
