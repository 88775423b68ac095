use Rattle.std.proofs.Common.{ℕ, sym, ap, subst}
use Rattle.std.proofs.lemmas.Bool.{true≢false}
use Rattle.node_format.specs.declared.place.Place.TheVariants.{Dir}
use Rattle.reclaim.specs.Tables.{IsSized}
use Rattle.reclaim.specs.declared.table.Table.{Table}
use Rattle.reclaim.proofs.Heads.{links_itself, links_on, links_sized, fit_so_far, told_so_far, told_all, told_none}
use Rattle.reclaim.proofs.table.Table.note_places.Goals as goal

pub loop-place-init : goal.loop-place-init
loop-place-init c = record {
  same = links_itself c.args.self.now;
  told = λ most seen told keeps. told_none c.args.capacity most seen told c.args.places.now c.args.self.now keeps;
}

pub note_place-requires-clause-sized : goal.note_place-requires-clause-sized
note_place-requires-clause-sized c =
    let keeps = c.loop-place.invariant.same in
    subst (λ (n : ℕ). IsSized n c.loop-place.self) (sym (ap (λ (x : Table). x.links.blocks) keeps.same)) (links_sized c.args.self.now.links.blocks c.args.self.now c.loop-place.self keeps c.requires.sized)

pub loop-place-preserved : goal.loop-place-preserved
loop-place-preserved c = record {
  same = links_on c.args.self.now c.loop-place.self c.note_place.new.self c.loop-place.invariant.same c.in_ok-is_noted.ensures.same;
  told = λ most seen told keeps.
      told_so_far c.args.capacity most seen told c.args.places.now c.note_place.new.self c.loop-place.place-index (Dir 0) c.loop-place-test.true
      (c.in_ok-is_noted.ensures.heads.kept most seen _ (c.loop-place.invariant.told most seen told keeps) c.if-not-is_noted.false);
}

pub returns-then-not-is_noted-clause-same : goal.returns-then-not-is_noted-clause-same
returns-then-not-is_noted-clause-same c = links_on c.args.self.now c.loop-place.self c.note_place.new.self c.loop-place.invariant.same c.in_ok-is_noted.ensures.same

pub returns-then-not-is_noted-clause-heads : goal.returns-then-not-is_noted-clause-heads
returns-then-not-is_noted-clause-heads c = record {
  kept = λ most seen told keeps is. absurd (true≢false (sym is));
  bad = λ most seen told keeps _ fit.
      c.in_ok-is_noted.ensures.heads.bad most seen _ (c.loop-place.invariant.told most seen told keeps) c.if-not-is_noted.true
      (fit_so_far c.args.capacity most told c.args.places.now c.loop-place.place-index (Dir 0) c.loop-place-test.true fit);
}

pub returns-clause-heads : goal.returns-clause-heads
returns-clause-heads c = record {
  kept = λ most seen told keeps _. told_all c.args.capacity most seen told c.args.places.now c.loop-place.self c.loop-place.place-index c.loop-place-test.false (c.loop-place.invariant.told most seen told keeps);
  bad = λ most seen told keeps is. absurd (true≢false is);
}
