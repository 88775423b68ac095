use Rattle.std.proofs.Common.{rules, subst}
use Rattle.std.proofs.lemmas.Result.{IfErr-weaker}
use Rattle.plain_trees.specs.Trees.{Tree}
use Rattle.inquiries.specs.Readings.{shown}
use Rattle.copies.specs.Added.{HasOneMore}
use Rattle.copies.proofs.Extending.{adds_not, mounted_saved, tree_saved}
use Rattle.copies.proofs.Causing.{on_uncopied}
use Rattle.copies.proofs.adding.add_version.Goals as goal

pub returns-in-Ok-clause-ok : goal.returns-in-Ok-clause-ok
returns-in-Ok-clause-ok g c = λ new old stands there.
    let found = mounted_saved (g.F.Flash.device c.args.first.now) (g.F.Flash.device c.in-Ok.from.flash.now) c.in-Ok.from.system c.in-Ok.ensures.only_reads c.in-Ok.ensures.mounted c.in-Ok.from.mounted in
    on_uncopied c.add_to_flash-added.result _ _
    (λ more. subst (λ (t : Tree). HasOneMore old t (g.G.Flash.device c.add_to_flash-added.new.second)) (tree_saved found.0 new (shown c.in-Ok.from) (g.F.Flash.device c.args.first.now) found.1 found.2 stands) more)
    (c.add_to_flash-added.ensures.ok old there)

pub returns-in-Ok-clause-err : goal.returns-in-Ok-clause-err
returns-in-Ok-clause-err g c =
    let found = mounted_saved (g.F.Flash.device c.args.first.now) (g.F.Flash.device c.in-Ok.from.flash.now) c.in-Ok.from.system c.in-Ok.ensures.only_reads c.in-Ok.ensures.mounted c.in-Ok.from.mounted in
    IfErr-weaker c.add_to_flash-added.result _ _ (λ why cause. adds_not found.0 (g.F.Flash.device c.args.first.now) (g.F.Flash.device c.in-Ok.from.flash.now) (g.F.Flash.device c.add_to_flash-added.new.from.flash.now) _
    (g.G.Flash.device c.args.second.now) (g.G.Flash.device c.add_to_flash-added.new.second) (shown c.in-Ok.from) why (search rules) found.1 found.2 c.in-Ok.ensures.only_reads cause) c.add_to_flash-added.ensures.err
