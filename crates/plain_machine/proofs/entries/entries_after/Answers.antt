use Rattle.std.proofs.Common.{◌++◌, ◌∷◌, [], ◌+◌, ap, sym, drop, ◌∙◌, arith}
use Rattle.std.specs.Option.{option_copied}
use Rattle.fs_types.specs.Names.{is_after}
use Rattle.plain_machine.proofs.EntryLists.{left_of, first_left, entry_taken, entry_passed, none_wanted}
use Rattle.plain_machine.proofs.entries.entries_after.Goals.{then-left-gt0+then-is_after+in_ok-entry_of+in_ok-push, else-left-gt0, else-left-gt0-via-then-left-gt0+else-is_after, else-left-gt0-via-else-left-gt0}
use Rattle.plain_machine.proofs.entries.entries_after.Goals as goal

pub loop-name-preserved : goal.loop-name-preserved
loop-name-preserved c =
    let items = c.as_slice-name-items.result.now in
    let rest = drop (c.loop-name.name-index + 1) items in
    let from = option_copied c.args.from in
    let first = first_left items c.loop-name.name-index c.loop-name-item.result c.loop-name-test.true c.loop-name-item.is in
    let so_far = ap (λ names. c.loop-name.entries ++ left_of c.args.tree.now c.args.path.now from c.loop-name.left names) (sym first) ∙ c.loop-name.invariant in
    elim c.if-left-gt0.branch [
      | then-left-gt0+then-is_after+in_ok-entry_of+in_ok-push w ↦
          ap (λ entries. entries ++ left_of c.args.tree.now c.args.path.now from c.if-left-gt0.left rest)
          (w.entries-is ∙ w.in_ok-push.ensures.ok ∙ ap (λ e. c.loop-name.entries ++ e ∷ []) (w.in_ok-entry_of.ensures c.loop-name-item.result.1))
          ∙ entry_taken c.args.tree.now c.args.path.now from c.loop-name.left c.if-left-gt0.left c.loop-name-item.result rest c.loop-name.entries
          (ap (is_after from) (sym w.as_bytes.ensures.bytes) ∙ sym w.is_after.ensures ∙ w.if-is_after.true) (omega (arith, w.left-is, w.if-left-gt0.true))
          ∙ so_far
      | else-left-gt0 w ↦
          ap (λ entries. entries ++ left_of c.args.tree.now c.args.path.now from c.if-left-gt0.left rest) w.entries-is
          ∙ ap (λ k. c.loop-name.entries ++ left_of c.args.tree.now c.args.path.now from k rest) w.left-is
          ∙ ap (λ left. c.loop-name.entries ++ left)
          (elim w.else-left-gt0.branch [
            | else-left-gt0-via-then-left-gt0+else-is_after v ↦
                entry_passed c.args.tree.now c.args.path.now from c.loop-name.left c.loop-name-item.result rest
                (ap (is_after from) (sym v.as_bytes.ensures.bytes) ∙ sym v.is_after.ensures ∙ v.if-is_after.false)
            | else-left-gt0-via-else-left-gt0 v ↦
                none_wanted c.args.tree.now c.args.path.now from c.loop-name.left rest (c.loop-name-item.result ∷ rest) (omega (arith, v.if-left-gt0.false))
          ])
          ∙ so_far
    ]
