-- What calls in a change group lead to.
use Rattle.std.proofs.Common.{◌≡◌, ◌∙◌, ℕ, Bool, true, false, cond, Option, Some, None, List, [], ◌∷◌, ◌++◌, refl, sym, ap}
use Rattle.std.proofs.lemmas.Bool.{true≢false}
use Rattle.std.specs.Option.{option_map_or, option_and_then}
use Rattle.std.specs.FinMap.{get}
use Rattle.fs_types.specs.Names.{Path, same_path}
use Rattle.fs_types.specs.declared.call.Call.{Call}
use Rattle.fs_types.specs.declared.call.Group.{Group}
use Rattle.fs_types.specs.declared.open_flags.OpenFlags.{OpenFlags}
use Rattle.fs_types.proofs.Orders.{same_path-is}
use Rattle.plain_trees.specs.Contents.{Entry, Contents}
use Rattle.plain_trees.specs.Trees.{Tree, put, remove}
use Rattle.plain_trees.proofs.Edits.{get-put, get-removed}
use Rattle.history_machine.specs.Descriptors.{Descriptors, none_open, opened_at_least}
use Rattle.history_machine.specs.History.{Past, IsLawful, changed, group_with}
use Rattle.history_machine.specs.Laws.{anew}
use Rattle.history_machine.specs.Machine.{Machine, machine_with, working_tree, write_file_changes, refusal, machine_of, next, after}
use Rattle.plain_trees.specs.Files.{file_put}
use Rattle.history_machine.proofs.WholeFiles.{write_file_law}
use Rattle.tree_differences.specs.UpdateLaws.{EachAccepted}
use Rattle.tree_differences.proofs.Assigned.{set_at}

-- a group that has a tree
abbrev pub group_of : Tree → Bool → Group Tree
group_of t due = record { root = t; is_due = due }

abbrev pub within : Past Tree → Tree → Bool → Descriptors → Machine
within h t due ds = machine_with h (Some (group_of t due)) ds

-- a file that was opened so, where none was open
abbrev pub opened_with : OpenFlags → Path → Descriptors
opened_with flags path = opened_at_least none_open (record { path = path; flags = flags })

abbrev pub opened_anew : Path → Descriptors
opened_anew path = opened_with anew path

-- calls lead from a group's tree to another one, which has this at each path; where no version is due by them, to the same one
pub record Leads (h : Past Tree) (t : Tree) (due : Bool) (ds : Descriptors) (n : Machine) (c : Contents) : Type 0 where
  pub tree : Tree
  pub is_due : Bool
  pub is : n ≡ within h tree is_due ds
  pub at : get tree ≡ c
  pub undue : is_due ≡ false → (due ≡ false) × (tree ≡ t)

pub leads-refl : (h : Past Tree) (t : Tree) (due : Bool) (ds : Descriptors) → Leads h t due ds (within h t due ds) (get t)
leads-refl h t due ds = record { tree = t; is_due = due; is = refl; at = refl; undue = λ e. (e, refl) }

-- one after the other
pub leads-trans : (h : Past Tree) (t : Tree) (due : Bool) (ds es : Descriptors) (m : Machine) (calls : List Call) (c : Contents) (f : Contents → Contents) (first : Leads h t due ds m c)
    → Leads h first.tree first.is_due es (after (within h first.tree first.is_due ds) calls) (f (get first.tree)) → Leads h t due es (after m calls) (f c)
leads-trans h t due ds es m calls c f first second = record {
  tree = second.tree;
  is_due = second.is_due;
  is = ap (λ k. after k calls) first.is ∙ second.is;
  at = second.at ∙ ap f first.at;
  undue = λ e. let later = second.undue e in let sooner = first.undue later.0 in (sooner.0, later.1 ∙ sooner.1);
}

-- ---- calls in order

pub after-append : (m : Machine) (xs ys : List Call) → after m (xs ++ ys) ≡ after (after m xs) ys
after-append m [] ys = refl
after-append m (x ∷ xs) ys = after-append (next m x) xs ys

pub accepted-parts : (m : Machine) (xs ys : List Call) → EachAccepted m (xs ++ ys) → EachAccepted m xs × EachAccepted (after m xs) ys
accepted-parts m [] ys each = (tt, each)
accepted-parts m (x ∷ xs) ys each = let rest = accepted-parts (next m x) xs ys each.1 in ((each.0, rest.0), rest.1)

-- ---- single calls

pub never : {A : Type 0} → true ≡ false → A
never e = absurd (true≢false e)

pub mkdir_leads : (h : Past Tree) (t : Tree) (due : Bool) (p : Path) → refusal (within h t due none_open) (Call.Mkdir p) ≡ None
    → Leads h t due none_open (next (within h t due none_open) (Call.Mkdir p)) (set_at p (Some Entry.Dir) (get t))
mkdir_leads h t due p ok = record {
  tree = put t p Entry.Dir;
  is_due = true;
  is = ap (machine_of (within h t due none_open) (Call.Mkdir p)) ok;
  at = λ i q. get-put t p Entry.Dir q i;
  undue = λ e. never e;
}

pub unlink_leads : (h : Past Tree) (t : Tree) (due : Bool) (p : Path) → refusal (within h t due none_open) (Call.Unlink p) ≡ None
    → Leads h t due none_open (next (within h t due none_open) (Call.Unlink p)) (set_at p None (get t))
unlink_leads h t due p ok = record {
  tree = remove t p;
  is_due = true;
  is = ap (machine_of (within h t due none_open) (Call.Unlink p)) ok;
  at = λ i q. get-removed t p q i;
  undue = λ e. never e;
}

pub rmdir_leads : (h : Past Tree) (t : Tree) (due : Bool) (p : Path) → refusal (within h t due none_open) (Call.Rmdir p) ≡ None
    → Leads h t due none_open (next (within h t due none_open) (Call.Rmdir p)) (set_at p None (get t))
rmdir_leads h t due p ok = record {
  tree = remove t p;
  is_due = true;
  is = ap (machine_of (within h t due none_open) (Call.Rmdir p)) ok;
  at = λ i q. get-removed t p q i;
  undue = λ e. never e;
}

-- what stands at a path already changes nothing
pub set_there : (c : Contents) (p : Path) (x : Option Entry) → c p ≡ x → c ≡ set_at p x c
set_there c p x there i q = go (same_path q p) refl i
  where
    go : (b : Bool) → same_path q p ≡ b → c q ≡ cond b x (c q)
    go true same = ap c (same_path-is q p same) ∙ there
    go false other = refl

-- the machine after a call that makes a tree of a group's, or none
pub maybe_made : (h : Past Tree) (t u : Tree) (due b : Bool) (ds : Descriptors)
    → machine_with (option_map_or (changed h) (option_and_then (λ (v : Tree). let r : Option Tree = None in r) (cond b (Some u) None)) h) (option_map_or (group_with (Some (group_of t due))) (cond b (Some u) None) (Some (group_of t due))) ds
    ≡ within h (cond b u t) (cond b true due) ds
maybe_made h t u due true ds = refl
maybe_made h t u due false ds = refl

pub undue_made : (t u : Tree) (due b : Bool) → cond b true due ≡ false → (due ≡ false) × (cond b u t ≡ t)
undue_made t u due true e = never e
undue_made t u due false e = (e, refl)

pub write_leads : (h : Past Tree) (t : Tree) (due : Bool) (p : Path) (bytes : List ℕ) → IsLawful h → refusal (within h t due none_open) (Call.WriteFile p bytes) ≡ None
    → Leads h t due none_open (next (within h t due none_open) (Call.WriteFile p bytes)) (set_at p (Some (Entry.File bytes)) (get t))
write_leads h t due p bytes lawful ok = record {
  tree = cond b u t;
  is_due = cond b true due;
  is = made;
  at = at b refl;
  undue = undue_made t u due b;
}
  where
    n : Machine
    n = within h t due none_open

    u : Tree
    u = file_put t p bytes

    b : Bool
    b = write_file_changes t p bytes

    made : next n (Call.WriteFile p bytes) ≡ within h (cond b u t) (cond b true due) none_open
    made = ap (machine_of n (Call.WriteFile p bytes)) ok ∙ maybe_made h t u due b none_open

    stands : get (cond b u t) p ≡ Some (Entry.File bytes)
    stands = ap (λ k. get (working_tree k) p) (sym made) ∙ write_file_law.stands n p bytes lawful ok

    at : (b' : Bool) → b ≡ b' → get (cond b u t) ≡ set_at p (Some (Entry.File bytes)) (get t)
    at true e = ap (λ (x : Bool). get (cond x u t)) e ∙ (λ i q. get-put t p (Entry.File bytes) q i)
    at false e =
        let there : get t p ≡ Some (Entry.File bytes) = ap (λ (x : Bool). get (cond x u t) p) (sym e) ∙ stands in
        ap (λ (x : Bool). get (cond x u t)) e ∙ set_there (get t) p (Some (Entry.File bytes)) there
