-- A version that is made of a tree of another file system.
use Rattle.std.proofs.Common.{◌≡◌, ◌∙◌, ℕ, Option, None, Some, List, [], ◌∷◌, ◌++◌, refl, sym, ap, subst}
use Rattle.std.specs.Prelude.{All, unwrap_or}
use Rattle.fs_types.specs.Names.{Path}
use Rattle.fs_types.specs.declared.call.Call.{Call}
use Rattle.fs_types.specs.declared.call.View.{View}
use Rattle.plain_trees.specs.Trees.{Tree, bare}
use Rattle.history_machine.specs.History.{changed, view_refusal}
use Rattle.history_machine.specs.Machine.{Machine, IsMachine, mounted, present_tree, view_tree, working_tree}
use Rattle.history_machine.proofs.Steps.{tree-changed}
use Rattle.history_machine.proofs.Versions.{checkpoints-changed}
use Rattle.tree_differences.specs.UpdateLaws.{Brings}
use Rattle.history_copies.specs.Laws.{bringing, changes_or}
use Rattle.history_copies.proofs.Brought.{bring_law}
use Rattle.inquiries.specs.Folders.{IsSmall}
use Rattle.copies.specs.Calls.{Does, IsReady, IsReadyAfter}
use Rattle.copies.proofs.Doing.{does_both}

-- changes in one group
pub grouped : (m n k l e : Machine) (changes : List Call) (path : Path) → Does m (Call.Begin ∷ []) n → Does n (changes_or changes path) k → Does k (Call.End ∷ []) l → Does l (Call.Sync ∷ []) e
    → Does m (bringing changes path) e
grouped m n k l e changes path begun made ended synced =
    does_both m n e (Call.Begin ∷ []) (changes_or changes path ++ Call.End ∷ Call.Sync ∷ []) begun
    (does_both n k e (changes_or changes path) (Call.End ∷ Call.Sync ∷ []) made (does_both k l e (Call.End ∷ []) (Call.Sync ∷ []) ended synced))

-- the version that they make
pub brought : (m was n : Machine) (new : Tree) (changes : List Call) (path : Path) → IsMachine m → m ≡ mounted m.history → was ≡ m → Brings (working_tree m) new changes
    → Does was (bringing changes path) n → n ≡ mounted (changed m.history new)
brought m was n new changes path is rests same brings done =
    let at : Machine = mounted m.history in
    let is' : IsMachine at = subst IsMachine rests is in
    let leads : Brings (present_tree at) new changes = subst (λ (t : Tree). Brings t new changes) (ap working_tree rests) brings in
    let d : Does at (bringing changes path) n = subst (λ (x : Machine). Does x (bringing changes path) n) (same ∙ rests) done in
    d.leads ∙ bring_law m.history new changes path is' leads d.accepted

-- a machine that shows a new version
pub ready_changed : (m n : Machine) (new : Tree) → IsMachine m → IsReady m → IsSmall new → n ≡ mounted (changed m.history new) → IsReady n
ready_changed m n new is ready small made = subst IsReady (sym made) (record {
  rests = refl;
  small = subst IsSmall (sym (ap (λ (o : Option Tree). unwrap_or o bare) (tree-changed m.history new is.lawful))) small;
  kept = subst (All (λ e. IsSmall e.1)) (sym (checkpoints-changed m.history new)) ready.kept;
})

-- its tree has no more than may be
pub small_of : (m n : Machine) (new : Tree) → IsMachine m → n ≡ mounted (changed m.history new) → IsReady n → IsSmall new
small_of m n new is made ready = subst IsSmall (ap present_tree made ∙ ap (λ (o : Option Tree). unwrap_or o bare) (tree-changed m.history new is.lawful)) ready.small

-- and is that of the version
pub tree_changed : (m n : Machine) (new : Tree) → IsMachine m → n ≡ mounted (changed m.history new) → working_tree n ≡ new
tree_changed m n new is made = ap working_tree made ∙ ap (λ (o : Option Tree). unwrap_or o bare) (tree-changed m.history new is.lawful)

-- it is ready with the tree of a version of another machine
pub ready_after : (from m n : Machine) (serial : ℕ) → IsMachine m → view_refusal from.history (View.Serial serial) ≡ None → IsReady n → n ≡ mounted (changed m.history (view_tree from (View.Serial serial))) → IsReadyAfter from (Some serial) n
ready_after from m n serial is there ready made =
    record { ready = ready; has = record { there = there; tree = sym (tree_changed m n (view_tree from (View.Serial serial)) is made) } }
