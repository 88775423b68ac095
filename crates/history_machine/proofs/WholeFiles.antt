-- What write_file stands for.
use Rattle.std.proofs.Common.{◌≡◌, ℕ, ◌+◌, ◌<◌, ◌≤◌, Bool, true, false, cond, ◌&&◌, ◌||◌, not, Option, Some, None, List, [], ◌∷◌, ◌++◌, length, append-nil, sym, ap, refl, ◌∙◌, subst, arith, inl, inr, ◌⊎◌}
use Rattle.std.proofs.lemmas.Bool.{true≢false, le-ltb, ltb-false, eqb-true}
use Rattle.std.specs.Prelude.{◌==◌, unwrap_or, nat_lt}
use Rattle.std.specs.Option.{is_some, is_none, option_or, option_map_or, option_and_then}
use Rattle.std.specs.FinMap.{get}
use Rattle.fs_types.specs.Names.{Path, same_path}
use Rattle.plain_trees.specs.Contents.{Entry, parent_of, lookup_refusal, same_bytes, overwritten}
use Rattle.plain_trees.specs.Trees.{Tree, bare, put, is_full, bytes_of, bytes_of_file}
use Rattle.history_machine.specs.Descriptors.{Descriptors, none_open, least_free, opened, any_open, is_open, truncates}
use Rattle.fs_types.specs.declared.call.Call.{Call}
use Rattle.fs_types.specs.declared.call.Group.{Group}
use Rattle.fs_types.specs.declared.fault.Fault.{Fault}
use Rattle.fs_types.specs.declared.fault.Fault.TheVariants.{Busy, DirectoryFull, TooBig, TooManyOpen}
use Rattle.history_machine.specs.History.{Past, IsLawful, present_root, changed, working_root, history_with, group_with}
use Rattle.plain_trees.specs.Files.{file_put}
use Rattle.history_machine.specs.Machine.{Machine, IsMachine, working_tree, full_table_refusal, open_refusal, write_place_refusal, size_refusal, open_changes, write_file_changes, refusal, tree_after, history_after, group_after, machine_of, next, after, makes_version, version_after, machine_with}
use lib.Seq.{drop-nil}
use Rattle.history_machine.specs.Laws.{anew, write_file_calls, WriteFileLaw}
use Rattle.plain_trees.proofs.Edits.{put_law, get-put, same_tree}
use Rattle.history_machine.proofs.Accepted.{FileWritten, same-there, write_file-accepted}
use Rattle.history_machine.proofs.Groups.{worked-after, version-outside, same-free}
use Rattle.history_machine.proofs.Steps.{tree-changed, made}

-- Refusals.

none-missing : {A : Type 0} (o : Option A) → is_some o ≡ true → is_none o ≡ false
none-missing None e = absurd (true≢false (sym e))
none-missing (Some x) e = refl

in-order : (a b c : Option Fault) → option_or a (option_or b c) ≡ option_or (option_or a b) c
in-order None b c = refl
in-order (Some fault) b c = refl

table-free : (m : Machine) → is_some (least_free m.descriptors) ≡ true → full_table_refusal m ≡ None
table-free m free = ap (λ b. cond b (Some TooManyOpen) None) (none-missing (least_free m.descriptors) free)

at-place : (m : Machine) (path : Path) (o : Option Entry) → is_open m.descriptors path ≡ false → full_table_refusal m ≡ None → write_place_refusal (working_tree m) m.descriptors path o ≡ open_refusal m path anew o
at-place m path None shut free = ap (λ rest. cond (is_full (working_tree m) (parent_of path)) (Some DirectoryFull) rest) (sym free)
at-place m path (Some Entry.Dir) shut free = refl
at-place m path (Some (Entry.File bytes)) shut free = ap (λ b. cond b (Some Busy) None) shut ∙ sym free

write-refused : (m : Machine) (path : Path) (bytes : List ℕ) → is_open m.descriptors path ≡ false → is_some (least_free m.descriptors) ≡ true
    → refusal m (Call.WriteFile path bytes) ≡ option_or (refusal m (Call.Open path anew)) (size_refusal bytes)
write-refused m path bytes shut free =
    ap (λ o. option_or (lookup_refusal (get (working_tree m)) path) (option_or o (size_refusal bytes))) (at-place m path (get (working_tree m) path) shut (table-free m free))
    ∙ in-order (lookup_refusal (get (working_tree m)) path) (open_refusal m path anew (get (working_tree m) path)) (size_refusal bytes)

-- What stands there.

pub worked-tree : (h : Past Tree) (g : Option (Group Tree)) (t : Tree) → IsLawful h → unwrap_or (working_root (history_with h g t) (group_with g t)) bare ≡ t
worked-tree h None t l = ap (λ o. unwrap_or o bare) (tree-changed h t l)
worked-tree h (Some g) t l = refl

write-stands : (m : Machine) (path : Path) (bytes : List ℕ) → IsLawful m.history → refusal m (Call.WriteFile path bytes) ≡ None → get (working_tree (next m (Call.WriteFile path bytes))) path ≡ Some (Entry.File bytes)
write-stands m path bytes l ok = ap (λ r. get (working_tree (machine_of m (Call.WriteFile path bytes) r)) path) ok ∙ go (write_file_changes (working_tree m) path bytes) refl
  where
    call : Call
    call = Call.WriteFile path bytes

    go : (b : Bool) → write_file_changes (working_tree m) path bytes ≡ b → get (unwrap_or (working_root (history_after m call) (group_after m call)) bare) path ≡ Some (Entry.File bytes)
    go true e =
        let t = file_put (working_tree m) path bytes in
        let parts = worked-after m call t (ap (λ b. cond b (Some t) None) e) in
        (λ i. get (unwrap_or (working_root (parts.0 i) (parts.1 i)) bare) path) ∙ ap (λ s. get s path) (worked-tree m.history m.group t l) ∙ put_law.here (working_tree m) path (Entry.File bytes)
    go false e =
        let none : tree_after m call ≡ None = ap (λ b. cond b (Some (file_put (working_tree m) path bytes)) None) e in
        (λ i. get (unwrap_or (working_root (option_map_or (changed m.history) (option_and_then (λ t. cond (is_some m.group) None (Some t)) (none i)) m.history) (option_map_or (group_with m.group) (none i) m.group)) bare) path)
        ∙ same-there (working_tree m) path bytes (write_file-accepted m path bytes ok) e

-- The calls that it stands for.

written-whole : (bytes : List ℕ) → overwritten [] 0 bytes ≡ bytes
written-whole bytes = ap (λ (rest : List ℕ). bytes ++ rest) (drop-nil (0 + length bytes)) ∙ append-nil bytes

-- two puts at a path are the last one
put-twice : (t : Tree) (path : Path) (x y : Entry) → put (put t path x) path y ≡ put t path y
put-twice t path x y = same_tree (put (put t path x) path y) (put t path y) (λ q. get-put (put t path x) path y q ∙ ap (cond (same_path q path) (Some y)) (get-put t path x q) ∙ inner (same_path q path) (get t q) ∙ sym (get-put t path y q))
  where
    inner : (b : Bool) (o : Option Entry) → cond b (Some y) (cond b (Some x) o) ≡ cond b (Some y) o
    inner true o = refl
    inner false o = refl

-- one file open, under descriptor 0
abbrev opened-anew : Path → Descriptors
opened-anew path = opened none_open 0 (record { path = path; flags = anew })

abbrev group-of : Tree → Bool → Group Tree
group-of t due = record { root = t; is_due = due }

abbrev in-group : Past Tree → Tree → Bool → Descriptors → Machine
in-group h t due ds = machine_with h (Some (group-of t due)) ds

-- what is left of the calls, from pwrite on
wrote : (h : Past Tree) (t : Tree) (due : Bool) (path : Path) (bytes : List ℕ) → (length bytes == 0) ≡ false → length bytes ≤ 16777216 → bytes_of_file t path ≡ []
    → next (in-group h t due (opened-anew path)) (Call.Pwrite 0 0 bytes) ≡ in-group h (file_put t path bytes) true (opened-anew path)
wrote h t due path bytes some short none =
    ap (machine_of m (Call.Pwrite 0 0 bytes)) ok
    ∙ (λ i. machine_with (option_map_or (changed h) (option_and_then (λ (u : Tree). let r : Option Tree = None in r) (made i)) h) (option_map_or (group_with (Some (group-of t due))) (made i) (Some (group-of t due))) (opened-anew path))
  where
    m : Machine
    m = in-group h t due (opened-anew path)

    ok : refusal m (Call.Pwrite 0 0 bytes) ≡ None
    ok = ap (λ b. cond b None (cond (nat_lt 16777216 (0 + length bytes)) (Some TooBig) None)) some ∙ ap (λ b. cond b (Some TooBig) None) (le-ltb 16777216 (0 + length bytes) (omega arith))

    made : tree_after m (Call.Pwrite 0 0 bytes) ≡ Some (file_put t path bytes)
    made = ap (λ b. cond b None (Some (file_put t path (overwritten (bytes_of_file t path) 0 bytes)))) some ∙ ap (λ old. Some (file_put t path (overwritten old 0 bytes))) none ∙ ap (λ new. Some (file_put t path new)) (written-whole bytes)

-- by whether there are bytes: without them pwrite changes nothing, and a version is due where it was
from-pwrite : (h : Past Tree) (t : Tree) (due : Bool) (path : Path) (bytes : List ℕ) → length bytes ≤ 16777216 → bytes_of_file t path ≡ [] → (length bytes == 0) ≡ false
    → after (in-group h t due (opened-anew path)) (Call.Pwrite 0 0 bytes ∷ Call.Close 0 ∷ Call.End ∷ []) ≡ machine_with (changed h (file_put t path bytes)) None none_open
from-pwrite h t due path bytes short none some = ap (λ n. after n (Call.Close 0 ∷ Call.End ∷ [])) (wrote h t due path bytes some short none)

opens-anew : (h : Past Tree) (path : Path) (bytes : List ℕ) → FileWritten (unwrap_or (present_root h) bare) path bytes → refusal (in-group h (unwrap_or (present_root h) bare) false none_open) (Call.Open path anew) ≡ None
opens-anew h path bytes f = ap (λ o. option_or o (open_refusal n path anew (get t path))) f.looked ∙ go f.what
  where
    t : Tree
    t = unwrap_or (present_root h) bare

    n : Machine
    n = in-group h t false none_open

    go : (get t path ≡ None) × (is_full t (parent_of path) ≡ false) ⊎ ((old : List ℕ) × (get t path ≡ Some (Entry.File old))) → open_refusal n path anew (get t path) ≡ None
    go (inl new) = ap (open_refusal n path anew) new.0 ∙ ap (λ b. cond b (Some DirectoryFull) None) new.1
    go (inr file) = ap (open_refusal n path anew) file.1

opened-to : (h : Past Tree) (path : Path) (b : Bool) → let t = unwrap_or (present_root h) bare in refusal (in-group h t false none_open) (Call.Open path anew) ≡ None → open_changes t path anew ≡ b
    → next (in-group h t false none_open) (Call.Open path anew) ≡ in-group h (cond b (file_put t path []) t) b (opened-anew path)
opened-to h path true ok changes =
    let t = unwrap_or (present_root h) bare in
    ap (machine_of (in-group h t false none_open) (Call.Open path anew)) ok
    ∙ (λ i. machine_with (option_map_or (changed h) (option_and_then (λ (u : Tree). let r : Option Tree = None in r) (cond (changes i) (Some (file_put t path [])) None)) h) (option_map_or (group_with (Some (group-of t false))) (cond (changes i) (Some (file_put t path [])) None) (Some (group-of t false))) (opened-anew path))
opened-to h path false ok changes =
    let t = unwrap_or (present_root h) bare in
    ap (machine_of (in-group h t false none_open) (Call.Open path anew)) ok
    ∙ (λ i. machine_with (option_map_or (changed h) (option_and_then (λ (u : Tree). let r : Option Tree = None in r) (cond (changes i) (Some (file_put t path [])) None)) h) (option_map_or (group_with (Some (group-of t false))) (cond (changes i) (Some (file_put t path [])) None) (Some (group-of t false))) (opened-anew path))

-- an open that changes nothing found an empty file
empty-there : (o : Option Entry) → is_none o || (truncates anew && nat_lt 0 (length (bytes_of o))) ≡ false → bytes_of o ≡ []
empty-there None e = absurd (true≢false e)
empty-there (Some Entry.Dir) e = refl
empty-there (Some (Entry.File [])) e = refl
empty-there (Some (Entry.File (b ∷ bytes))) e = absurd (let l : length (b ∷ bytes) ≤ 0 = ltb-false 0 (length (b ∷ bytes)) e in omega arith)

no-bytes : (bytes : List ℕ) → (length bytes == 0) ≡ true → bytes ≡ []
no-bytes [] e = refl
no-bytes (b ∷ bytes) e = absurd (let l : length (b ∷ bytes) ≡ 0 = eqb-true (length (b ∷ bytes)) 0 e in omega arith)

-- no bytes written over a file without bytes change nothing
unchanged : (o : Option Entry) → is_none o || (truncates anew && nat_lt 0 (length (bytes_of o))) ≡ false → is_none o || not (same_bytes (bytes_of o) []) ≡ true → ⊥
unchanged None e h = true≢false e
unchanged (Some Entry.Dir) e h = true≢false (sym h)
unchanged (Some (Entry.File [])) e h = true≢false (sym h)
unchanged (Some (Entry.File (b ∷ bytes))) e h = let l : length (b ∷ bytes) ≤ 0 = ltb-false 0 (length (b ∷ bytes)) e in let s : 0 < length (b ∷ bytes) = omega arith in absurd (omega arith)

all-calls : (h : Past Tree) (path : Path) (bytes : List ℕ) → refusal (machine_with h None none_open) (Call.WriteFile path bytes) ≡ None → write_file_changes (unwrap_or (present_root h) bare) path bytes ≡ true
    → after (machine_with h None none_open) (write_file_calls path bytes) ≡ machine_with (changed h (file_put (unwrap_or (present_root h) bare) path bytes)) None none_open
all-calls h path bytes ok changes = go (open_changes t path anew) refl (length bytes == 0) refl
  where
    t : Tree
    t = unwrap_or (present_root h) bare

    f : FileWritten (unwrap_or (present_root h) bare) path bytes
    f = write_file-accepted (machine_with h None none_open) path bytes ok

    rest : List Call
    rest = Call.Pwrite 0 0 bytes ∷ Call.Close 0 ∷ Call.End ∷ []

    goal : Type 0
    goal = after (machine_with h None none_open) (write_file_calls path bytes) ≡ machine_with (changed h (file_put t path bytes)) None none_open

    go : (b : Bool) → open_changes t path anew ≡ b → (none : Bool) → (length bytes == 0) ≡ none → goal
    go true e false some =
        ap (λ n. after n rest) (opened-to h path true (opens-anew h path bytes f) e)
        ∙ from-pwrite h (file_put t path []) true path bytes f.short (ap bytes_of (put_law.here t path (Entry.File []))) some
        ∙ ap (λ s. machine_with (changed h s) None none_open) (put-twice t path (Entry.File []) (Entry.File bytes))
    go true e true none =
        ap (λ n. after n rest) (opened-to h path true (opens-anew h path bytes f) e)
        ∙ subst (λ bs. after (in-group h (file_put t path []) true (opened-anew path)) (Call.Pwrite 0 0 bs ∷ Call.Close 0 ∷ Call.End ∷ []) ≡ machine_with (changed h (file_put t path bs)) None none_open) (sym (no-bytes bytes none)) refl
    go false e false some =
        ap (λ n. after n rest) (opened-to h path false (opens-anew h path bytes f) e)
        ∙ from-pwrite h t false path bytes f.short (empty-there (get t path) e) some
    go false e true none = absurd (unchanged (get t path) e (ap (write_file_changes t path) (sym (no-bytes bytes none)) ∙ changes))

abbrev pub is-end : Call → Bool
is-end Call.End = true
is-end _ = false

write-same : (m : Machine) (path : Path) (bytes : List ℕ) → IsMachine m → any_open m.descriptors ≡ false → makes_version m (Call.WriteFile path bytes) ≡ true → after m (write_file_calls path bytes) ≡ next m (Call.WriteFile path bytes)
write-same m path bytes is shut makes =
    let parts = made m (Call.WriteFile path bytes) makes in
    let outside = version-outside m (Call.WriteFile path bytes) (λ e. true≢false (sym (ap is-end e))) (ap is_some parts.1.1) in
    let files : m.descriptors ≡ none_open = same-free m.descriptors none_open shut refl is.places in
    let whole : m ≡ machine_with m.history None none_open = λ i. machine_with m.history (outside i) (files i) in
    subst (λ n. after n (write_file_calls path bytes) ≡ next n (Call.WriteFile path bytes)) (sym whole)
    (at-none m.history path bytes (subst (λ n. refusal n (Call.WriteFile path bytes) ≡ None) whole parts.0) (subst (λ n. is_some (version_after n (Call.WriteFile path bytes)) ≡ true) whole (ap is_some parts.1.1)))
  where
    at-none : (h : Past Tree) (path : Path) (bytes : List ℕ) → refusal (machine_with h None none_open) (Call.WriteFile path bytes) ≡ None → is_some (version_after (machine_with h None none_open) (Call.WriteFile path bytes)) ≡ true
        → after (machine_with h None none_open) (write_file_calls path bytes) ≡ next (machine_with h None none_open) (Call.WriteFile path bytes)
    at-none h path bytes ok makes = go (write_file_changes t path bytes) refl makes
      where
        t : Tree
        t = unwrap_or (present_root h) bare

        n : Machine
        n = machine_with h None none_open

        go : (b : Bool) → write_file_changes t path bytes ≡ b → is_some (version_after n (Call.WriteFile path bytes)) ≡ true → after n (write_file_calls path bytes) ≡ next n (Call.WriteFile path bytes)
        go true e makes =
            all-calls h path bytes ok e
            ∙ sym (ap (machine_of n (Call.WriteFile path bytes)) ok ∙ (λ i. machine_with (option_map_or (changed h) (option_and_then Some (cond (e i) (Some (file_put t path bytes)) None)) h) (option_map_or (group_with None) (cond (e i) (Some (file_put t path bytes)) None) None) none_open))
        go false e makes = absurd (true≢false (sym makes ∙ ap (λ b. is_some (option_and_then Some (cond b (Some (file_put t path bytes)) None))) e))

pub write_file_law : WriteFileLaw
write_file_law = record { refused = write-refused; stands = write-stands; same = write-same }
