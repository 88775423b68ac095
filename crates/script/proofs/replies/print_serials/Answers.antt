use Rattle.script.proofs.SerialLemmas.{serials_more, serials_all}
use Rattle.script.proofs.replies.print_serials.Goals as goal

pub loop-place-preserved : goal.loop-place-preserved
loop-place-preserved c =
    serials_more c.args.cursor c.args.serials.now c.loop-place.place c.args.out.now.items c.loop-place.out.items c.print_serial.new.out.items
    c.loop-place-test.true c.loop-place.invariant c.in_ok-print_serial.ensures

pub returns : goal.returns
returns c = serials_all c.args.cursor c.args.serials.now c.loop-place.place c.args.out.now.items c.loop-place.out.items c.loop-place-test.false c.loop-place.invariant
