use Rattle.std.proofs.Common.{[], ◌∷◌, ◌++◌, sym, ap, ◌∙◌}
use Rattle.std.specs.FinMap.{get}
use Rattle.fs_types.specs.Names.{Path}
use Rattle.plain_trees.specs.Contents.{lookup_refusal}
use Rattle.plain_machine.proofs.NextFiles.{stopped, in-turn}
use Rattle.plain_machine.proofs.written_files.write_files_refusal.Goals as goal

pub returns-in-Some-entering_refusal : goal.returns-in-Some-entering_refusal
returns-in-Some-entering_refusal c =
    stopped c.args.tree.now c.args.files.now c.args.directory.now c.args.list.now c.in-Some-entering_refusal.fault
    (sym c.is_empty.ensures ∙ c.if-is_empty.false) (sym c.files_refusal.ensures ∙ c.in_default.is)
    (λ name. sym c.in-Some-entering_refusal.is ∙ c.entering_refusal.ensures name ∙ ap (λ (d : Path). lookup_refusal (get c.args.tree.now) (d ++ name ∷ [])) c.names.ensures.names)

pub returns : goal.returns
returns c =
    c.next_refusals.ensures
    ∙ in-turn c.args.tree.now c.args.files.now c.args.directory.now c.args.list.now (sym c.files_refusal.ensures ∙ c.in_default.is)
    (λ name. sym (c.entering_refusal.ensures name ∙ ap (λ (d : Path). lookup_refusal (get c.args.tree.now) (d ++ name ∷ [])) c.names.ensures.names) ∙ c.in_default-entering_refusal.is)
