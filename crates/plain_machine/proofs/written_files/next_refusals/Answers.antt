use Rattle.std.proofs.Common.{◌≡◌, ℕ, ◌+◌, cond, [], ◌∷◌, ◌++◌, sym, ap, ◌∙◌, arith}
use Rattle.std.specs.Option.{option_copied}
use Rattle.std.specs.FinMap.{get}
use Rattle.fs_types.specs.Names.{Path}
use Rattle.plain_machine.proofs.NextFiles.{one-more, counted}
use Rattle.plain_machine.proofs.written_files.next_refusals.Goals as goal
use Rattle.plain_machine.proofs.written_files.next_refusals.Goals.{then-is_none, else-is_none}

pub loop-file-preserved : goal.loop-file-preserved
loop-file-preserved c =
    let after : c.if-is_none.count ≡ c.loop-file.count + cond c.is_none.result 1 0 = elim c.if-is_none.branch [
      | then-is_none w ↦ w.count-is ∙ ap (λ b. c.loop-file.count + cond b 1 0) (sym w.if-is_none.true)
      | else-is_none w ↦ let none : cond {A = ℕ} c.is_none.result 1 0 ≡ 0 = ap (λ b. cond {A = ℕ} b 1 0) w.if-is_none.false in omega (arith, none, w.count-is)
    ] in
    one-more c.args.tree.now c.args.files.now c.args.directory.now c.args.list.now c.loop-file.file-index c.loop-file.count c.if-is_none.count c.file-item.result (option_copied c.get_in-known.result) _
    c.loop-file-test.true c.file-item.is
    (c.get_in-known.ensures ∙ ap (λ (d : Path). get c.args.tree.now (d ++ c.file-item.result.name ∷ [])) c.names-in-loop-file.ensures.names)
    (sym c.next_refusal.ensures ∙ c.in_default.is)
    (after ∙ ap (λ (n : ℕ). c.loop-file.count + n) (sym (counted (λ x. x.now) c.get_in-known.result c.is_none.result c.is_none.ensures)))
    c.loop-file.invariant
