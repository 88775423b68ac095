-- Calls that bring one tree to another, one after the other, and a rename.
use Rattle.std.proofs.Common.{◌≡◌, ◌∙◌, Bool, true, false, None, List, [], ◌∷◌, ◌++◌, refl, ap, subst}
use Rattle.fs_types.specs.Names.{same_path}
use Rattle.fs_types.specs.declared.call.Call.{Call}
use Rattle.fs_types.proofs.Orders.{same_path-is}
use Rattle.plain_trees.specs.Trees.{Tree, move}
use Rattle.history_machine.specs.History.{Past}
use Rattle.history_machine.specs.Machine.{Machine, machine_of, refusal, next, after}
use Rattle.tree_differences.specs.UpdateLaws.{Brings, EachAccepted, JoinLaw, OneRenameLaw, due_after, grouped}
use Rattle.tree_differences.proofs.Leading.{accepted-parts, after-append}

due_both : (xs ys : List Call) (due : Bool) → due_after ys (due_after xs due) ≡ due_after (xs ++ ys) due
due_both [] ys due = refl
due_both (x ∷ xs) [] due = refl
due_both (x ∷ xs) (y ∷ ys) due = refl

both : (old between new : Tree) (first second : List Call) → Brings old between first → Brings between new second → Brings old new (first ++ second)
both old between new first second brings brings' = record {
  leads = λ h due is each.
      let n : Machine = grouped h old due in
      let parts = accepted-parts n first second each in
      let middle : after n first ≡ grouped h between (due_after first due) = brings.leads h due is parts.0 in
      let accepted : EachAccepted (grouped h between (due_after first due)) second = subst (λ (k : Machine). EachAccepted k second) middle parts.1 in
      after-append n first second ∙ ap (λ (k : Machine). after k second) middle ∙ brings'.leads h (due_after first due) is accepted ∙ ap (grouped h new) (due_both first second due);
}

pub join_law : JoinLaw
join_law = record { none = λ t. record { leads = λ h due is each. refl }; both = both }

pub one_rename_law : OneRenameLaw
one_rename_law t old new differs = record { leads = λ h due is each. moves h due each.0 (same_path old new) refl }
  where
    moves : (h : Past Tree) (due : Bool) → refusal (grouped h t due) (Call.Rename old new) ≡ None → (b : Bool) → same_path old new ≡ b → next (grouped h t due) (Call.Rename old new) ≡ grouped h (move t old new) true
    moves h due ok true same = absurd (differs (same_path-is old new same))
    moves h due ok false other = ap (machine_of (grouped h t due) (Call.Rename old new)) ok ∙ made
      where
        made : machine_of (grouped h t due) (Call.Rename old new) None ≡ grouped h (move t old new) true
        made = rw other refl
