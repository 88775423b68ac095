use Rattle.std.proofs.Common.{rules}
use Rattle.inquiries.specs.Readings.{shown}
use Rattle.copies.proofs.Extending.{alone_on, alone_stops, fresh_again}
use Rattle.copies.proofs.Causing.{mounted_fresh}
use Rattle.copies.proofs.alone.make_alone.Goals as goal

pub make_only-made-requires-clause-fresh : goal.make_only-made-requires-clause-fresh
make_only-made-requires-clause-fresh g c =
    let limit = c.requires.formatted.0 in
    fresh_again (shown c.in-Ok.to) limit
    (mounted_fresh limit (g.G.Flash.device c.args.flash.now) (g.G.Flash.device c.in-Ok.to.flash.now) c.in-Ok.to.system c.requires.formatted.1 c.in-Ok.ensures.only_reads c.in-Ok.ensures.mounted c.in-Ok.to.mounted)

pub returns-in-Ok-made-clause-ok : goal.returns-in-Ok-made-clause-ok
returns-in-Ok-made-clause-ok g c = λ limit t formatted brings.
    let begins = mounted_fresh limit (g.G.Flash.device c.args.flash.now) (g.G.Flash.device c.in-Ok.to.flash.now) c.in-Ok.to.system formatted c.in-Ok.ensures.only_reads c.in-Ok.ensures.mounted c.in-Ok.to.mounted in
    alone_on limit t (shown c.in-Ok.to) (shown c.make_only-made.new.to).history (g.G.Flash.device c.make_only-made.new.to.flash.now) (g.G.Flash.device _)
    (search (rules, c.into_flash-left.ensures.flash, c.make_only-made.ensures.same_flash, c.in-Ok.ensures.same_flash)) begins (c.in-Ok-made.ensures.ok t brings) c.in-Ok-made.ensures.synced

pub returns-in-Err-made-clause-err : goal.returns-in-Err-made-clause-err
returns-in-Err-made-clause-err g c =
    let limit = c.requires.formatted.0 in
    let begins = mounted_fresh limit (g.G.Flash.device c.args.flash.now) (g.G.Flash.device c.in-Ok.to.flash.now) c.in-Ok.to.system c.requires.formatted.1 c.in-Ok.ensures.only_reads c.in-Ok.ensures.mounted c.in-Ok.to.mounted in
    alone_stops limit c.args.calls.now (shown c.in-Ok.to) (g.G.Flash.device c.args.flash.now) (g.G.Flash.device c.make_only-made.new.to.flash.now) (g.G.Flash.device _) c.in-Err-made.fault
    (search (rules, c.into_flash-left.ensures.flash, c.make_only-made.ensures.same_flash, c.in-Ok.ensures.same_flash)) c.requires.formatted.1 begins c.in-Err-made.ensures.err
