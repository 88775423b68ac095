use Rattle.std.proofs.Common.{[], ◌∷◌, refl, subst}
use Rattle.fs_types.specs.declared.call.Call.{Call}
use Rattle.history_machine.specs.History.{gone_to}
use Rattle.inquiries.specs.Readings.{shown}
use Rattle.inquiries.proofs.PairLines.{got_none, got_some}
use Rattle.copies.specs.Calls.{Does}
use Rattle.copies.proofs.Doing.{last_done, last_move_stops, on_ok, still_rests}
use Rattle.copies.proofs.Keeping.{no_serial, same_serial}
use Rattle.copies.proofs.ending.go_to_place.Goals as goal

pub returns-in-Some-clause-ok : goal.returns-in-Some-clause-ok
returns-in-Some-clause-ok g c =
    let got = got_some c.args.serials.now c.args.place c.get.result c.in-Some.serial c.get.ensures.lookup c.in-Some.is in
    on_ok c.goto.result _ _ (λ done serial stands. subst (λ s. Does (shown c.args.to.now) (Call.Goto s ∷ []) (shown c.goto.new.self)) (same_serial c.args.serials.now c.args.place c.in-Some.serial.now serial got.0 got.1 stands) done)
    (last_done _ _ c.goto.result _ c.goto.ensures.step)

pub returns-in-Some-clause-err : goal.returns-in-Some-clause-err
returns-in-Some-clause-err g c = last_move_stops _ _ c.goto.result _ tt c.goto.ensures.step

pub returns-in-None-clause-ok : goal.returns-in-None-clause-ok
returns-in-None-clause-ok g c = λ serial stands. absurd (no_serial c.args.serials.now c.args.place serial (got_none c.args.serials.now c.args.place c.get.result c.get.ensures.lookup c.in-None.is) stands)

pub returns-in-Some-clause-rests : goal.returns-in-Some-clause-rests
returns-in-Some-clause-rests g c = λ rests.
    on_ok c.goto.result _ _ (λ done. still_rests (shown c.args.to.now) (shown c.goto.new.self) (Call.Goto c.in-Some.serial.now) (λ k. gone_to k c.in-Some.serial.now) (λ k. refl) rests done) (last_done _ _ c.goto.result _ c.goto.ensures.step)
