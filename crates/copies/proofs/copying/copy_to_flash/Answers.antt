use Rattle.std.proofs.Common.{rules}
use Rattle.inquiries.specs.Readings.{shown}
use Rattle.copies.proofs.Causing.{copied_to, mounted_fresh, not_copied_to}
use Rattle.copies.proofs.copying.copy_to_flash.Goals as goal

pub copy-copied-requires : goal.copy-copied-requires
copy-copied-requires g c = record { fresh = mounted_fresh c.args.limit (g.G.Flash.device c.args.second.now) (g.G.Flash.device c.in-Ok.to.flash.now) c.in-Ok.to.system c.requires.formatted c.in-Ok.ensures.only_reads c.in-Ok.ensures.mounted c.in-Ok.to.mounted }

pub returns-in-Ok-copied-clause-ok : goal.returns-in-Ok-copied-clause-ok
returns-in-Ok-copied-clause-ok g c =
    copied_to c.args.limit (shown c.args.from.now) (shown c.copy-copied.new.to).history (g.G.Flash.device c.copy-copied.new.to.flash.now) (g.G.Flash.device _)
    (search (rules, c.into_flash-left.ensures.flash, c.copy-copied.ensures.same_flash, c.in-Ok.ensures.same_flash)) c.in-Ok-copied.ensures.ok c.in-Ok-copied.ensures.limit c.in-Ok-copied.ensures.synced

pub returns-in-Err-copied-clause-err : goal.returns-in-Err-copied-clause-err
returns-in-Err-copied-clause-err g c =
    not_copied_to (shown c.args.from.now) (g.F.Flash.device c.args.from.now.flash.now) (g.F.Flash.device c.copy-copied.new.from.flash.now) (g.G.Flash.device c.args.second.now)
    (g.G.Flash.device c.copy-copied.new.to.flash.now) (g.G.Flash.device _) c.in-Err-copied.why (search rules) c.in-Err-copied.ensures.err
