-- A version that is made of a tree.
use Rattle.std.proofs.Common.{◌≡◌, ◌∙◌, Bool, true, false, cond, Option, Some, None, List, [], ◌∷◌, ◌++◌, refl, sym, ap, subst}
use Rattle.std.specs.FinMap.{get}
use Rattle.fs_types.specs.Names.{Path, same_path}
use Rattle.fs_types.specs.declared.call.Call.{Call}
use Rattle.fs_types.proofs.Orders.{same_path-is}
use Rattle.plain_trees.specs.Contents.{Entry}
use Rattle.plain_trees.specs.Trees.{Tree, put, remove}
use Rattle.plain_trees.proofs.Edits.{same_tree, get-put, get-removed}
use Rattle.history_machine.specs.History.{Past, changed}
use Rattle.history_machine.specs.Machine.{Machine, IsMachine, machine_of, mounted, present_tree, refusal, next, after, working_tree}
use Rattle.history_machine.proofs.Accepted.{mkdir-accepted}
use Rattle.tree_differences.specs.UpdateLaws.{Brings, EachAccepted, grouped}
use Rattle.tree_differences.proofs.Leading.{accepted-parts, after-append}
use Rattle.history_copies.specs.Laws.{BringLaw}

module _ (h : Past Tree) (is : IsMachine (mounted h)) where
  abbrev old : Tree
  old = present_tree (mounted h)

  -- a directory is made and removed
  touched : (path : Path) → EachAccepted (mounted h) (Call.Begin ∷ Call.Mkdir path ∷ Call.Rmdir path ∷ Call.End ∷ Call.Sync ∷ [])
      → after (mounted h) (Call.Begin ∷ Call.Mkdir path ∷ Call.Rmdir path ∷ Call.End ∷ Call.Sync ∷ []) ≡ mounted (changed h old)
  touched path each =
      let n : Machine = grouped h old false in
      let u : Tree = put old path Entry.Dir in
      let made : next n (Call.Mkdir path) ≡ grouped h u true = ap (machine_of n (Call.Mkdir path)) each.1.0 in
      let ok : refusal (grouped h u true) (Call.Rmdir path) ≡ None = subst (λ (k : Machine). refusal k (Call.Rmdir path) ≡ None) made each.1.1.0 in
      let gone : next (grouped h u true) (Call.Rmdir path) ≡ grouped h (remove u path) true = ap (machine_of (grouped h u true) (Call.Rmdir path)) ok in
      let free : get old path ≡ None = (mkdir-accepted n path each.1.0).2 in
      let same : remove (put old path Entry.Dir) path ≡ old = same_tree (remove (put old path Entry.Dir) path) old (λ q. get-removed (put old path Entry.Dir) path q ∙ ap (λ (o : Option Entry). cond (same_path q path) None o) (get-put old path Entry.Dir q) ∙ at q free (same_path q path) refl) in
      ap (λ (k : Machine). after k (Call.Rmdir path ∷ Call.End ∷ Call.Sync ∷ [])) made ∙ ap (λ (k : Machine). after k (Call.End ∷ Call.Sync ∷ [])) gone ∙ ap (λ (t : Tree). mounted (changed h t)) same
    where
      at : (q : Path) → get old path ≡ None → (b : Bool) → same_path q path ≡ b → cond b None (cond b (Some Entry.Dir) (get old q)) ≡ get old q
      at q free true is_it = sym (ap (get old) (same_path-is q path is_it) ∙ free)
      at q free false other = refl

  -- where there is no change, the trees are one
  no_change : (new : Tree) → Brings old new [] → old ≡ new
  no_change new brings = ap working_tree (brings.leads h false is.lawful tt)

  made : (new : Tree) (call : Call) (calls : List Call) → Brings old new (call ∷ calls) → EachAccepted (grouped h old false) ((call ∷ calls) ++ Call.End ∷ Call.Sync ∷ [])
      → after (grouped h old false) ((call ∷ calls) ++ Call.End ∷ Call.Sync ∷ []) ≡ mounted (changed h new)
  made new call calls brings each =
      let parts = accepted-parts (grouped h old false) (call ∷ calls) (Call.End ∷ Call.Sync ∷ []) each in
      after-append (grouped h old false) (call ∷ calls) (Call.End ∷ Call.Sync ∷ []) ∙ ap (λ (k : Machine). after k (Call.End ∷ Call.Sync ∷ [])) (brings.leads h false is.lawful parts.0)

pub bring_law : BringLaw
bring_law h new [] path is brings each = touched h is path each ∙ ap (λ (t : Tree). mounted (changed h t)) (no_change h is new brings)
bring_law h new (call ∷ calls) path is brings each = made h is new call calls brings each.1
