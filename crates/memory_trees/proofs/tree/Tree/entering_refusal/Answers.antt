use Rattle.std.proofs.Common.{◌<◌, length, sym, ap, ◌∙◌, arith}
use Rattle.std.proofs.lemmas.Bool.{eqb-false}
use Rattle.std.specs.Option.{option_or}
use Rattle.std.specs.FinMap.{get}
use Rattle.plain_trees.specs.Contents.{way_refusal}
use Rattle.memory_trees.proofs.Ways.{way_into, way_stopped}
use Rattle.memory_trees.proofs.tree.Tree.entering_refusal.Goals as goal

pub returns-in-Some : goal.returns-in-Some
returns-in-Some c = λ name. way_stopped (get c.args.self.now) c.args.directory.now name c.in-Some.fault (sym c.lookup_refusal.ensures ∙ c.in-Some.is)

pub returns : goal.returns
returns c = λ name.
    let some = eqb-false (length c.args.directory.now) 0 (sym c.is_empty.ensures ∙ c.if-is_empty.false) in
    let long : 0 < length c.args.directory.now = omega (arith, some) in
    c.way_refusal.ensures ∙ ap way_refusal c.get.ensures
    ∙ sym (way_into (get c.args.self.now) c.args.directory.now name long ∙ ap (λ o. option_or o (way_refusal (get c.args.self.now c.args.directory.now))) (sym c.lookup_refusal.ensures ∙ c.in_default.is))
