-- What write_files stands for.
use Rattle.std.proofs.Common.{◌≡◌, ℕ, ◌+◌, ◌≤◌, Bool, true, false, cond, ◌&&◌, Option, Some, None, List, [], ◌∷◌, ◌++◌, length, sym, ap, refl, ◌∙◌, subst, arith}
use Rattle.std.proofs.lemmas.Bool.{true≢false, ne_eqb}
use Rattle.std.proofs.lemmas.List.Sums.{sum_by-cons}
use Rattle.std.specs.Prelude.{◌==◌, unwrap_or, Contains}
use Rattle.std.specs.Option.{is_some, is_none, option_or, option_map_or, option_and_then}
use Rattle.std.specs.FinMap.{get}
use Rattle.fs_types.specs.Names.{Name, Path}
use Rattle.fs_types.specs.NamedFiles.{path_in, ascend_from, files_refusal}
use Rattle.fs_types.specs.declared.named_file.NamedFile.{NamedFile}
use Rattle.fs_types.specs.declared.call.Call.{Call}
use Rattle.fs_types.specs.declared.call.Group.{Group}
use Rattle.fs_types.specs.declared.fault.Fault.{Fault}
use Rattle.fs_types.proofs.NamedFiles.{ascend-other, ascend-rest}
use Rattle.plain_trees.specs.Contents.{Entry, body_need}
use Rattle.plain_trees.specs.Files.{file_put, files_put, bodies_need}
use Rattle.plain_trees.specs.Trees.{Tree, bare, path_need, directory_need}
use Rattle.plain_trees.proofs.FilesPut.{put-own, elsewhere, files_put-others, files_put-stands, list_way, list_way-steps, list_way-path}
use Rattle.history_machine.specs.Descriptors.{Descriptors, none_open, any_open}
use Rattle.history_machine.specs.History.{Past, IsLawful, present_root, changed, working_root, group_with}
use Rattle.history_machine.specs.Machine.{Machine, IsMachine, working_tree, write_file_refusal, each_refusal, write_file_changes, changed_files, refusal, tree_after, history_after, group_after, machine_of, machine_with, next, after, makes_version, version_after, need}
use Rattle.history_machine.specs.Laws.{first_refusal, needs, each_file, write_files_calls, IsOther, WriteFilesLaw}
use Rattle.history_machine.proofs.Accepted.{neither, same-there, write_file-accepted, FilesWritten, AreWritten, write_files-accepted, changed-later, put-changed, put-nothing}
use Rattle.history_machine.proofs.Groups.{worked-after, version-outside, same-free}
use Rattle.history_machine.proofs.Steps.{step-lawful, made}
use Rattle.history_machine.proofs.WholeFiles.{worked-tree, is-end}

abbrev write : Path → NamedFile → Call
write directory file = Call.WriteFile (path_in directory file) file.bytes

-- One file after the other.

-- what a call that changes no tree leaves of the tree
unchanged-tree : (m : Machine) (o : Option Tree) → o ≡ None
    → unwrap_or (working_root (option_map_or (changed m.history) (option_and_then (λ t. cond (is_some m.group) None (Some t)) o) m.history) (option_map_or (group_with m.group) o m.group)) bare ≡ working_tree m
unchanged-tree m o none = λ i. unwrap_or (working_root (option_map_or (changed m.history) (option_and_then (λ t. cond (is_some m.group) None (Some t)) (none i)) m.history) (option_map_or (group_with m.group) (none i) m.group)) bare

written-tree : (m : Machine) (path : Path) (bytes : List ℕ) → IsLawful m.history → refusal m (Call.WriteFile path bytes) ≡ None → working_tree (next m (Call.WriteFile path bytes)) ≡ file_put (working_tree m) path bytes
written-tree m path bytes l ok = ap (λ r. working_tree (machine_of m (Call.WriteFile path bytes) r)) ok ∙ go (write_file_changes (working_tree m) path bytes) refl
  where
    call : Call
    call = Call.WriteFile path bytes

    t : Tree
    t = file_put (working_tree m) path bytes

    go : (b : Bool) → write_file_changes (working_tree m) path bytes ≡ b → unwrap_or (working_root (history_after m call) (group_after m call)) bare ≡ t
    go true e =
        let parts = worked-after m call t (ap (λ b. cond b (Some t) None) e) in
        (λ i. unwrap_or (working_root (parts.0 i) (parts.1 i)) bare) ∙ worked-tree m.history m.group t l
    go false e =
        unchanged-tree m (tree_after m call) (ap (λ b. cond b (Some t) None) e)
        ∙ sym (put-own (working_tree m) path (Entry.File bytes) (same-there (working_tree m) path bytes (write_file-accepted m path bytes ok) e))

written-descriptors : (m : Machine) (path : Path) (bytes : List ℕ) → (next m (Call.WriteFile path bytes)).descriptors ≡ m.descriptors
written-descriptors m path bytes = go (refusal m (Call.WriteFile path bytes))
  where
    go : (r : Option Fault) → (machine_of m (Call.WriteFile path bytes) r).descriptors ≡ m.descriptors
    go None = refl
    go (Some fault) = refl

each-first : (m : Machine) (directory : Path) (files : List NamedFile) → IsLawful m.history → each_refusal (working_tree m) m.descriptors directory files ≡ first_refusal m (each_file directory files)
each-first m directory [] l = refl
each-first m directory (file ∷ files) l = go (refusal m call) refl (each-first (next m call) directory files (step-lawful m call l))
  where
    call : Call
    call = write directory file

    rest : Option Fault
    rest = each_refusal (file_put (working_tree m) (path_in directory file) file.bytes) m.descriptors directory files

    later : Option Fault
    later = first_refusal (next m call) (each_file directory files)

    go : (r : Option Fault) → refusal m call ≡ r → each_refusal (working_tree (next m call)) (next m call).descriptors directory files ≡ later → option_or (refusal m call) rest ≡ option_or (refusal m call) later
    go (Some fault) e same = ap (λ r. option_or r rest) e ∙ sym (ap (λ r. option_or r later) e)
    go None e same =
        ap (option_or (refusal m call))
        ((λ i. each_refusal (sym (written-tree m (path_in directory file) file.bytes l e) i) (sym (written-descriptors m (path_in directory file) file.bytes) i) directory files) ∙ same)

refused-first : (m : Machine) (directory : Path) (files : List NamedFile) → IsLawful m.history → refusal m (Call.WriteFiles directory files) ≡ option_or (files_refusal directory files) (first_refusal m (each_file directory files))
refused-first m directory files l = ap (option_or (files_refusal directory files)) (each-first m directory files l)

-- The tree.

files-tree : (m : Machine) (directory : Path) (files : List NamedFile) → IsLawful m.history → refusal m (Call.WriteFiles directory files) ≡ None → working_tree (next m (Call.WriteFiles directory files)) ≡ files_put (working_tree m) directory files
files-tree m directory files l ok = ap (λ r. working_tree (machine_of m call r)) ok ∙ go (length (changed_files (working_tree m) directory files) == 0) refl
  where
    call : Call
    call = Call.WriteFiles directory files

    f : FilesWritten (working_tree m) directory files
    f = write_files-accepted m directory files ok

    t : Tree
    t = files_put (working_tree m) directory (changed_files (working_tree m) directory files)

    go : (b : Bool) → length (changed_files (working_tree m) directory files) == 0 ≡ b → unwrap_or (working_root (history_after m call) (group_after m call)) bare ≡ files_put (working_tree m) directory files
    go true e = unchanged-tree m (tree_after m call) (ap (λ b. cond b None (Some t)) e) ∙ sym (put-nothing (working_tree m) directory files f.ascend f.each e)
    go false e =
        let parts = worked-after m call t (ap (λ b. cond b None (Some t)) e) in
        (λ i. unwrap_or (working_root (parts.0 i) (parts.1 i)) bare) ∙ worked-tree m.history m.group t l ∙ put-changed (working_tree m) directory None files f.ascend f.each

all-stand : (m : Machine) (directory : Path) (files : List NamedFile) (file : NamedFile) → IsLawful m.history → refusal m (Call.WriteFiles directory files) ≡ None → Contains files file
    → get (working_tree (next m (Call.WriteFiles directory files))) (path_in directory file) ≡ Some (Entry.File file.bytes)
all-stand m directory files file l ok among =
    ap (λ t. get t (path_in directory file)) (files-tree m directory files l ok)
    ∙ files_put-stands (working_tree m) directory None files file (write_files-accepted m directory files ok).ascend among

others-stay : (m : Machine) (directory : Path) (files : List NamedFile) (path : Path) → IsLawful m.history → IsOther directory files path → get (working_tree (next m (Call.WriteFiles directory files))) path ≡ get (working_tree m) path
others-stay m directory files path l other = go (refusal m call) refl
  where
    call : Call
    call = Call.WriteFiles directory files

    go : (r : Option Fault) → refusal m call ≡ r → get (working_tree (next m call)) path ≡ get (working_tree m) path
    go (Some fault) e = ap (λ r. get (working_tree (machine_of m call r)) path) e
    go None e = ap (λ t. get t path) (files-tree m directory files l e) ∙ files_put-others (working_tree m) directory files path (elsewhere directory files path other)

-- Groups.

-- the group that write_files leaves of one
abbrev group-put : Group Tree → Path → List NamedFile → Group Tree
group-put g directory changed = cond (length changed == 0) g (record { root = files_put g.root directory changed; is_due = true })

abbrev in-group : Past Tree → Group Tree → Descriptors → Machine
in-group h g ds = machine_with h (Some g) ds

some-files : (file : NamedFile) (files : List NamedFile) → length (file ∷ files) == 0 ≡ false
some-files file files = ne_eqb (length (file ∷ files)) 0 (λ e. absurd (omega arith))

no-files : (files : List NamedFile) → length files == 0 ≡ true → files ≡ []
no-files [] e = refl
no-files (file ∷ files) e = absurd (true≢false (sym e ∙ some-files file files))

-- a group that is changed by the first file, and then by the others
abbrev due : Tree → Group Tree
due t = record { root = t; is_due = true }

changed-twice : (u : Tree) (directory : Path) (cs : List NamedFile) → group-put (due u) directory cs ≡ due (files_put u directory cs)
changed-twice u directory cs = go (length cs == 0) refl
  where
    go : (b : Bool) → length cs == 0 ≡ b → cond b (due u) (due (files_put u directory cs)) ≡ due (files_put u directory cs)
    go true e = ap (λ (fs : List NamedFile). due (files_put u directory fs)) (sym (no-files cs e))
    go false e = refl

file-in : (h : Past Tree) (g : Group Tree) (ds : Descriptors) (path : Path) (bytes : List ℕ) (b : Bool) → write_file_refusal g.root ds path bytes ≡ None → write_file_changes g.root path bytes ≡ b
    → next (in-group h g ds) (Call.WriteFile path bytes) ≡ in-group h (cond b (due (file_put g.root path bytes)) g) ds
file-in h g ds path bytes true ok e =
    ap (machine_of (in-group h g ds) (Call.WriteFile path bytes)) ok
    ∙ (λ i. machine_with (option_map_or (changed h) (option_and_then (λ (t : Tree). let r : Option Tree = None in r) (cond (e i) (Some (file_put g.root path bytes)) None)) h) (option_map_or (group_with (Some g)) (cond (e i) (Some (file_put g.root path bytes)) None) (Some g)) ds)
file-in h g ds path bytes false ok e =
    ap (machine_of (in-group h g ds) (Call.WriteFile path bytes)) ok
    ∙ (λ i. machine_with (option_map_or (changed h) (option_and_then (λ (t : Tree). let r : Option Tree = None in r) (cond (e i) (Some (file_put g.root path bytes)) None)) h) (option_map_or (group_with (Some g)) (cond (e i) (Some (file_put g.root path bytes)) None) (Some g)) ds)

each-in : (h : Past Tree) (ds : Descriptors) (directory : Path) (last : Option Name) (files : List NamedFile) (g : Group Tree) → ascend_from last files ≡ true → AreWritten g.root directory files → each_refusal g.root ds directory files ≡ None
    → after (in-group h g ds) (each_file directory files) ≡ in-group h (group-put g directory (changed_files g.root directory files)) ds
each-in h ds directory last [] g ascend each ok = refl
each-in h ds directory last (file ∷ files) g ascend each ok = go (write_file_changes g.root path file.bytes) refl (λ g' each' ok'. each-in h ds directory (Some file.name) files g' rest each' ok')
  where
    path : Path
    path = path_in directory file

    t : Tree
    t = g.root

    u : Tree
    u = file_put t path file.bytes

    rest : ascend_from (Some file.name) files ≡ true
    rest = ascend-rest last file files ascend

    parts : (write_file_refusal t ds path file.bytes ≡ None) × (each_refusal u ds directory files ≡ None)
    parts = neither (write_file_refusal t ds path file.bytes) _ ok

    cs : List NamedFile
    cs = changed_files t directory files

    later : changed_files u directory files ≡ cs
    later = changed-later t directory file files (ascend-other file.name files rest)

    go : (b : Bool) → write_file_changes t path file.bytes ≡ b
        → ((g' : Group Tree) → AreWritten g'.root directory files → each_refusal g'.root ds directory files ≡ None → after (in-group h g' ds) (each_file directory files) ≡ in-group h (group-put g' directory (changed_files g'.root directory files)) ds)
        → after (next (in-group h g ds) (write directory file)) (each_file directory files) ≡ in-group h (group-put g directory (cond b (file ∷ cs) cs)) ds
    go true e ih =
        ap (λ n. after n (each_file directory files)) (file-in h g ds path file.bytes true parts.0 e)
        ∙ ih (due u) each.1 parts.1
        ∙ ap (λ (k : Group Tree). in-group h k ds)
        (changed-twice u directory (changed_files u directory files)
        ∙ ap (λ (fs : List NamedFile). due (files_put u directory fs)) later
        ∙ sym (ap (λ b. cond b g (due (files_put u directory cs))) (some-files file cs)))
    go false e ih =
        let own : u ≡ t = put-own t path (Entry.File file.bytes) (same-there t path file.bytes each.0 e) in
        ap (λ n. after n (each_file directory files)) (file-in h g ds path file.bytes false parts.0 e)
        ∙ ih g (subst (λ s. AreWritten s directory files) own each.1) (subst (λ s. each_refusal s ds directory files ≡ None) own parts.1)

-- by whether files change
by-change : (h : Past Tree) (g : Group Tree) (ds : Descriptors) (t : Tree) (b : Bool)
    → machine_with (option_map_or (changed h) (option_and_then (λ (t : Tree). let r : Option Tree = None in r) (cond b None (Some t))) h) (option_map_or (group_with (Some g)) (cond b None (Some t)) (Some g)) ds ≡ in-group h (cond b g (due t)) ds
by-change h g ds t true = refl
by-change h g ds t false = refl

files-in : (h : Past Tree) (g : Group Tree) (ds : Descriptors) (directory : Path) (files : List NamedFile) → refusal (in-group h g ds) (Call.WriteFiles directory files) ≡ None
    → after (in-group h g ds) (each_file directory files) ≡ next (in-group h g ds) (Call.WriteFiles directory files)
files-in h g ds directory files ok =
    let m = in-group h g ds in
    let f = write_files-accepted m directory files ok in
    let parts = neither (files_refusal directory files) (each_refusal g.root ds directory files) ok in
    let cs = changed_files g.root directory files in
    each-in h ds directory None files g f.ascend f.each parts.1
    ∙ sym (ap (machine_of m (Call.WriteFiles directory files)) ok ∙ by-change h g ds (files_put g.root directory cs) (length cs == 0))

group-of : (o : Option (Group Tree)) → is_some o ≡ true → (g : Group Tree) × (o ≡ Some g)
group-of None e = absurd (true≢false (sym e))
group-of (Some g) e = (g, refl)

all-in : (m : Machine) (directory : Path) (files : List NamedFile) → is_some m.group ≡ true → refusal m (Call.WriteFiles directory files) ≡ None → after m (each_file directory files) ≡ next m (Call.WriteFiles directory files)
all-in m directory files some ok =
    let g = group-of m.group some in
    let whole : m ≡ in-group m.history g.0 m.descriptors = λ i. machine_with m.history (g.1 i) m.descriptors in
    subst (λ n. after n (each_file directory files) ≡ next n (Call.WriteFiles directory files)) (sym whole)
    (files-in m.history g.0 m.descriptors directory files (subst (λ n. refusal n (Call.WriteFiles directory files) ≡ None) whole ok))

-- Outside a group.

after-append : (m : Machine) (calls more : List Call) → after m (calls ++ more) ≡ after (after m calls) more
after-append m [] more = refl
after-append m (call ∷ calls) more = after-append (next m call) calls more

all-same : (m : Machine) (directory : Path) (files : List NamedFile) → IsMachine m → any_open m.descriptors ≡ false → makes_version m (Call.WriteFiles directory files) ≡ true → after m (write_files_calls directory files) ≡ next m (Call.WriteFiles directory files)
all-same m directory files is shut makes =
    let parts = made m call makes in
    let outside = version-outside m call (λ e. true≢false (sym (ap is-end e))) (ap is_some parts.1.1) in
    let free : m.descriptors ≡ none_open = same-free m.descriptors none_open shut refl is.places in
    let whole : m ≡ machine_with m.history None none_open = λ i. machine_with m.history (outside i) (free i) in
    subst (λ n. after n (write_files_calls directory files) ≡ next n call) (sym whole)
    (at-none m.history (subst (λ n. refusal n call ≡ None) whole parts.0) (subst (λ n. is_some (version_after n call) ≡ true) whole (ap is_some parts.1.1)))
  where
    call : Call
    call = Call.WriteFiles directory files

    at-none : (h : Past Tree) → refusal (machine_with h None none_open) call ≡ None → is_some (version_after (machine_with h None none_open) call) ≡ true → after (machine_with h None none_open) (write_files_calls directory files) ≡ next (machine_with h None none_open) call
    at-none h ok makes = go (length cs == 0) refl makes
      where
        n : Machine
        n = machine_with h None none_open

        t : Tree
        t = unwrap_or (present_root h) bare

        cs : List NamedFile
        cs = changed_files t directory files

        g : Group Tree
        g = record { root = t; is_due = false }

        put : Group Tree
        put = record { root = files_put t directory cs; is_due = true }

        f : FilesWritten t directory files
        f = write_files-accepted n directory files ok

        end : Machine → Machine
        end k = after k (Call.End ∷ [])

        go : (b : Bool) → length cs == 0 ≡ b → is_some (version_after n call) ≡ true → after n (write_files_calls directory files) ≡ next n call
        go true e makes = absurd (true≢false (sym makes ∙ ap (λ b. is_some (option_and_then Some (cond b None (Some (files_put t directory cs))))) e))
        go false e makes =
            after-append (in-group h g none_open) (each_file directory files) (Call.End ∷ [])
            ∙ ap end (each-in h none_open directory None files g f.ascend f.each (neither (files_refusal directory files) (each_refusal t none_open directory files) ok).1)
            ∙ ap (λ b. end (in-group h (cond b g put) none_open)) e
            ∙ sym (ap (machine_of n call) ok ∙ (λ i. machine_with (option_map_or (changed h) (option_and_then Some (cond (e i) None (Some (files_put t directory cs)))) h) (option_map_or (group_with None) (cond (e i) None (Some (files_put t directory cs))) None) none_open))

-- Nodes.

-- what files need that change
abbrev spent : ℕ → Tree → Path → List NamedFile → ℕ
spent capacity t directory changed = cond (length changed == 0) 0 (bodies_need capacity changed + list_way t (files_put t directory changed) directory)

spent-nothing : (capacity : ℕ) (t : Tree) (directory : Path) (changed : List NamedFile) → length changed == 0 ≡ true → spent capacity t directory changed ≡ 0
spent-nothing capacity t directory changed e = ap (λ b. cond b 0 (bodies_need capacity changed + list_way t (files_put t directory changed) directory)) e

spent-some : (capacity : ℕ) (t : Tree) (directory : Path) (changed : List NamedFile) → length changed == 0 ≡ false → spent capacity t directory changed ≡ bodies_need capacity changed + list_way t (files_put t directory changed) directory
spent-some capacity t directory changed e = ap (λ b. cond b 0 (bodies_need capacity changed + list_way t (files_put t directory changed) directory)) e

-- one file more in front
spent-more : (capacity : ℕ) (t : Tree) (directory : Path) (file : NamedFile) (cs : List NamedFile) (rest : ℕ)
    → spent capacity (file_put t (path_in directory file) file.bytes) directory cs ≤ rest
    → spent capacity t directory (file ∷ cs) ≤ body_need capacity (length file.bytes) + path_need t (file_put t (path_in directory file) file.bytes) (path_in directory file) + rest
spent-more capacity t directory file cs rest h = go (length cs == 0) refl
  where
    u : Tree
    u = file_put t (path_in directory file) file.bytes

    s : Tree
    s = files_put u directory cs

    body : ℕ
    body = body_need capacity (length file.bytes)

    whole : spent capacity t directory (file ∷ cs) ≡ bodies_need capacity (file ∷ cs) + list_way t s directory
    whole = spent-some capacity t directory (file ∷ cs) (some-files file cs)

    bodies : bodies_need capacity (file ∷ cs) ≡ body + bodies_need capacity cs
    bodies = sum_by-cons (λ (f : NamedFile). body_need capacity (length f.bytes)) file cs

    way : list_way t u directory ≤ path_need t u (path_in directory file)
    way = list_way-path t u directory file.name

    go : (b : Bool) → length cs == 0 ≡ b → spent capacity t directory (file ∷ cs) ≤ body + path_need t u (path_in directory file) + rest
    go true e =
        let none : cs ≡ [] = no-files cs e in
        let few : bodies_need capacity cs ≡ 0 = ap (bodies_need capacity) none in
        let same : list_way t s directory ≡ list_way t u directory = ap (λ fs. list_way t (files_put u directory fs) directory) none in
        omega (arith, whole, bodies, way, few, same)
    go false e =
        let later : bodies_need capacity cs + list_way u s directory ≤ rest = subst (λ k. k ≤ rest) (spent-some capacity u directory cs e) h in
        omega (arith, whole, bodies, way, later, list_way-steps t u s directory)

-- what a whole file needs
file-need : (capacity : ℕ) (m : Machine) (path : Path) (bytes : List ℕ) → refusal m (Call.WriteFile path bytes) ≡ None → write_file_changes (working_tree m) path bytes ≡ true
    → need capacity m (Call.WriteFile path bytes) ≡ body_need capacity (length bytes) + path_need (working_tree m) (file_put (working_tree m) path bytes) path
file-need capacity m path bytes ok e =
    let t = working_tree m in
    let made : tree_after m (Call.WriteFile path bytes) ≡ Some (file_put t path bytes) = ap (λ b. cond b (Some (file_put t path bytes)) None) e in
    λ i. cond (is_none (ok i) && is_some (made i)) (body_need capacity (length bytes) + path_need t (unwrap_or (made i) t) path) 0

spent-needs : (capacity : ℕ) (m : Machine) (directory : Path) (last : Option Name) (files : List NamedFile) → IsLawful m.history → ascend_from last files ≡ true → AreWritten (working_tree m) directory files → each_refusal (working_tree m) m.descriptors directory files ≡ None
    → spent capacity (working_tree m) directory (changed_files (working_tree m) directory files) ≤ needs capacity m (each_file directory files)
spent-needs capacity m directory last [] l ascend each ok = omega arith
spent-needs capacity m directory last (file ∷ files) l ascend each ok =
    go (write_file_changes t path file.bytes) refl
    (spent-needs capacity n directory (Some file.name) files (step-lawful m call l) rest (subst (λ s. AreWritten s directory files) (sym tree) each.1)
    ((λ i. each_refusal (tree i) (written-descriptors m path file.bytes i) directory files) ∙ parts.1))
  where
    path : Path
    path = path_in directory file

    call : Call
    call = write directory file

    n : Machine
    n = next m call

    t : Tree
    t = working_tree m

    u : Tree
    u = file_put t path file.bytes

    cs : List NamedFile
    cs = changed_files t directory files

    rest : ascend_from (Some file.name) files ≡ true
    rest = ascend-rest last file files ascend

    parts : (write_file_refusal t m.descriptors path file.bytes ≡ None) × (each_refusal u m.descriptors directory files ≡ None)
    parts = neither (write_file_refusal t m.descriptors path file.bytes) _ ok

    tree : working_tree n ≡ u
    tree = written-tree m path file.bytes l parts.0

    later : changed_files u directory files ≡ cs
    later = changed-later t directory file files (ascend-other file.name files rest)

    others : ℕ
    others = needs capacity n (each_file directory files)

    go : (b : Bool) → write_file_changes t path file.bytes ≡ b → spent capacity (working_tree n) directory (changed_files (working_tree n) directory files) ≤ others
        → spent capacity t directory (cond b (file ∷ cs) cs) ≤ need capacity m call + others
    go true e ih =
        let h : spent capacity u directory cs ≤ others = subst (λ fs. spent capacity u directory fs ≤ others) later (subst (λ s. spent capacity s directory (changed_files s directory files) ≤ others) tree ih) in
        subst (λ k. spent capacity t directory (file ∷ cs) ≤ k + others) (sym (file-need capacity m path file.bytes parts.0 e)) (spent-more capacity t directory file cs others h)
    go false e ih =
        let own : u ≡ t = put-own t path (Entry.File file.bytes) (same-there t path file.bytes each.0 e) in
        let h : spent capacity t directory cs ≤ others = subst (λ s. spent capacity s directory (changed_files s directory files) ≤ others) (tree ∙ own) ih in
        omega (arith, h)

few-nodes : (capacity : ℕ) (m : Machine) (directory : Path) (files : List NamedFile) → IsLawful m.history → refusal m (Call.WriteFiles directory files) ≡ None → need capacity m (Call.WriteFiles directory files) ≤ needs capacity m (each_file directory files)
few-nodes capacity m directory files l ok = go (length cs == 0) refl
  where
    call : Call
    call = Call.WriteFiles directory files

    t : Tree
    t = working_tree m

    cs : List NamedFile
    cs = changed_files t directory files

    s : Tree
    s = files_put t directory cs

    f : FilesWritten t directory files
    f = write_files-accepted m directory files ok

    all : ℕ
    all = needs capacity m (each_file directory files)

    h : spent capacity t directory cs ≤ all
    h = spent-needs capacity m directory None files l f.ascend f.each (neither (files_refusal directory files) (each_refusal t m.descriptors directory files) ok).1

    of : (o : Option Tree) → tree_after m call ≡ o → need capacity m call ≡ cond (is_some o) (bodies_need capacity cs + path_need t (unwrap_or o t) directory + directory_need t (unwrap_or o t) directory) 0
    of o made = λ i. cond (is_none (ok i) && is_some (made i)) (bodies_need capacity cs + path_need t (unwrap_or (made i) t) directory + directory_need t (unwrap_or (made i) t) directory) 0

    go : (b : Bool) → length cs == 0 ≡ b → need capacity m call ≤ all
    go true e =
        let none : need capacity m call ≡ 0 = of None (ap (λ b. cond b None (Some s)) e) in
        omega (arith, none)
    go false e =
        let is : need capacity m call ≡ bodies_need capacity cs + path_need t s directory + directory_need t s directory = of (Some s) (ap (λ b. cond b None (Some s)) e) in
        let whole : spent capacity t directory cs ≡ bodies_need capacity cs + list_way t s directory = spent-some capacity t directory cs e in
        omega (arith, is, whole, h)

pub write_files_law : WriteFilesLaw
write_files_law = record { refused = refused-first; stands = all-stand; others = others-stay; grouped = all-in; same = all-same; few = few-nodes }
