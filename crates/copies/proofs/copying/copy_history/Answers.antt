use Rattle.std.proofs.Common.{rules}
use Rattle.std.proofs.lemmas.Result.{IfErr-weaker}
use Rattle.copies.proofs.Causing.{copies_not, on_uncopied, same_pages}
use Rattle.copies.proofs.copying.copy_history.Goals as goal

pub returns-in-Ok-clause-ok : goal.returns-in-Ok-clause-ok
returns-in-Ok-clause-ok g c =
    on_uncopied c.copy_to_flash-copied.result _ _ (λ copied. record { device = g.F.Flash.device c.in-Ok.from.flash.now; system = c.in-Ok.from.system; mounted = c.in-Ok.ensures.mounted; copied = copied }) c.copy_to_flash-copied.ensures.ok

pub returns-in-Ok-clause-pages : goal.returns-in-Ok-clause-pages
returns-in-Ok-clause-pages g c =
    same_pages (g.F.Flash.device c.args.first.now) (g.F.Flash.device c.in-Ok.from.flash.now) (g.F.Flash.device c.copy_to_flash-copied.new.from.flash.now) (g.F.Flash.device _) c.in-Ok.ensures.only_reads c.copy_to_flash-copied.ensures.same.pages (search rules)

pub returns-in-Ok-clause-err : goal.returns-in-Ok-clause-err
returns-in-Ok-clause-err g c =
    IfErr-weaker c.copy_to_flash-copied.result _ _ (λ why cause. copies_not (g.F.Flash.device c.args.first.now) (g.F.Flash.device c.in-Ok.from.flash.now) (g.F.Flash.device c.copy_to_flash-copied.new.from.flash.now) _ (g.G.Flash.device c.args.second.now)
    (g.G.Flash.device c.copy_to_flash-copied.new.second) c.in-Ok.from.system why (search rules) c.in-Ok.ensures.mounted c.in-Ok.ensures.only_reads cause) c.copy_to_flash-copied.ensures.err
