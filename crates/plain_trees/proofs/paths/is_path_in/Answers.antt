use Rattle.std.proofs.Common.{◌&&◌, sym, ap, ◌∙◌}
use Rattle.fs_types.specs.Names.{same_name}
use Rattle.plain_trees.proofs.PathsIn.{same-in}
use Rattle.plain_trees.proofs.paths.is_path_in.Goals as goal

pub returns-then-eq : goal.returns-then-eq
returns-then-eq c =
    let last = same_name c.in-Some.last.now c.args.name.now in
    c.eq-then-eq.ensures ∙ sym (same-in c.args.directory.now c.in-Some.parent.now c.args.path.now c.args.name.now c.in-Some.last.now c.in-Some.ensures.cases.0 ∙ ap (λ b. b && last) (sym c.eq.ensures ∙ c.if-eq.true))

pub returns-else-eq : goal.returns-else-eq
returns-else-eq c =
    let last = same_name c.in-Some.last.now c.args.name.now in
    c.if-eq.false ∙ sym (same-in c.args.directory.now c.in-Some.parent.now c.args.path.now c.args.name.now c.in-Some.last.now c.in-Some.ensures.cases.0 ∙ ap (λ b. b && last) (sym c.eq.ensures ∙ c.if-eq.false))
