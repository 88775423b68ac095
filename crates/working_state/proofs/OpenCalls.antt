-- The step of opening a file.
use Rattle.std.proofs.Common.{◌≡◌, ℕ, zero, suc, ◌<◌, ◌≤◌, Bool, true, false, cond, not, ◌&&◌, ◌||◌, Option, Some, None, Result, Ok, Err, [], ◌∷◌, length, take, refl, sym, ap, subst, ◌∙◌, inl, inr, arith}
use Rattle.std.proofs.lemmas.Bool.{cases_Bool}
use Rattle.std.proofs.lemmas.List.{length-take}
use Rattle.std.specs.Prelude.{nat_lt, unwrap_or, if◌then◌else◌}
use Rattle.std.specs.Option.{option_or, option_map_or, option_and_then, is_none, is_some}
use Rattle.std.specs.FinMap.{get}
use Rattle.fs_types.specs.Names.{Path, is_path}
use Rattle.plain_trees.specs.Contents.{Contents, Entry, parent_of, lookup_refusal}
use Rattle.plain_trees.specs.Trees.{Tree, is_full, bytes_of}
use Rattle.history_machine.specs.Descriptors.{Descriptors, least_free, opened, creates, is_exclusive, truncates, are_lawful}
use Rattle.history_machine.specs.History.{Past, working_root, changed, group_with}
use Rattle.plain_trees.specs.Files.{file_put}
use Rattle.history_machine.specs.Machine.{Machine, IsMachine, Space, working_tree, full_table_refusal, open_refusal, open_changes, refusal, tree_after, answer_of, machine_of, machine_with}
use Rattle.fs_types.specs.declared.call.Call.{Call}
use Rattle.fs_types.specs.declared.call.Reply.{Reply}
use Rattle.fs_types.specs.declared.fault.Fault.{Fault}
use Rattle.fs_types.specs.declared.fault.Fault.TheVariants.{NoEntry, IsDirectory, Exists, Invalid, DirectoryFull, TooManyOpen}
use Rattle.fs_types.specs.declared.open_flags.OpenFlags.{OpenFlags}
use Rattle.node_format.specs.declared.place.Place.TheVariants as place
use Rattle.nodes.specs.Bodies.{Blocks, body, head_index, data_to, IsBody}
use Rattle.nodes.specs.Trees.{tree}
use Rattle.nodes.proofs.RootMaps.{map_law, full_directory}
use Rattle.directory.specs.declared.lookups.Found.{Found}
use Rattle.directory.specs.declared.lookups.Found.TheVariants as found
use Rattle.directory.specs.Lookups.{look_up, found_entry, is_path_fault, IsLookupFault}
use Rattle.directory.proofs.LookupLaws.{found_is, found_leads_file, missing_parent, refused_is, rooted_leads}
use Rattle.working_state.proofs.Roots.{at_history}
use Rattle.working_state.specs.Moments.{Moment, moment, machine_at, seen_at, IsMountedAt, IsRefused, nodes_at, capacity_at}
use Rattle.working_state.specs.Leaves.{is_still, Leaves}
use Rattle.working_state.specs.Looking.{only_looks}
use Rattle.working_state.specs.Seen.{showing}
use Rattle.working_state.specs.Steps.{replied, CallStep}
use Rattle.working_state.specs.Moments.{IsAnswered}
use Rattle.working_state.specs.Opening.{open_refusal_of, changes_found}
use Rattle.working_state.specs.Worked.{IsWorked, IsLooked, WorkCause}
use Rattle.working_state.proofs.PathCalls.{working_tree_is, working_stands}
use Rattle.working_state.proofs.Refusals.{read_refuses, refused_step, never}
use Rattle.working_state.proofs.Standing.{AllStand, worked_machine, worked_later, worked_mounted, worked_pages, worked_reaches, looked_worked, looked_leaves}
use Rattle.working_state.proofs.Steps.{still_machine}

-- ---- refusals

-- what stands at each path of the tree that calls work on
pub working_is : (a : Moment) (root : ℕ) → IsMountedAt a → working_root a.state.history a.state.group ≡ Some root → get (working_tree (machine_at a)) ≡ tree (capacity_at a) (nodes_at a) root
working_is a root m is = ap (λ (t : Tree). get t) (working_tree_is a root is) ∙ (map_law (capacity_at a) (nodes_at a) root (working_stands a root m is).rooted).same

-- the refusal of lawful flags, by what stands at each path
abbrev refusal_by : Machine → Path → OpenFlags → Contents → Option Fault
refusal_by m path flags t = option_or (lookup_refusal t path) (open_refusal m path flags (t path))

open_at : (a : Moment) (path : Path) (flags : OpenFlags) (root : ℕ) → IsMountedAt a → working_root a.state.history a.state.group ≡ Some root → are_lawful flags ≡ true
    → refusal (machine_at a) (Call.Open path flags) ≡ refusal_by (machine_at a) path flags (tree (capacity_at a) (nodes_at a) root)
open_at a path flags root m is lawful =
    ap (λ b. cond (not b) (Some Invalid) (refusal_by (machine_at a) path flags (get (working_tree (machine_at a))))) lawful
    ∙ ap (refusal_by (machine_at a) path flags) (working_is a root m is)

creation : (b full : Bool) (table : Option Fault) → cond (not b) (Some NoEntry) (cond full (Some DirectoryFull) table) ≡ option_or (cond (not b) (Some NoEntry) (cond full (Some DirectoryFull) None)) table
creation false full table = refl
creation true true table = refl
creation true false table = refl

reopening : (b : Bool) (table : Option Fault) → cond b (Some Exists) table ≡ option_or (cond b (Some Exists) None) table
reopening true table = refl
reopening false table = refl

directory : (b : Bool) (table : Option Fault) → cond b (Some Exists) (Some IsDirectory) ≡ option_or (cond b (Some Exists) (Some IsDirectory)) table
directory true table = refl
directory false table = refl

-- the refusal of what was found, and then that of the table
open_found : (a : Moment) (path : Path) (flags : OpenFlags) (root : ℕ) (x : Found) → IsMountedAt a → working_root a.state.history a.state.group ≡ Some root → are_lawful flags ≡ true → look_up (nodes_at a) root path ≡ Ok x
    → refusal (machine_at a) (Call.Open path flags) ≡ option_or (open_refusal_of flags x) (full_table_refusal (machine_at a))
open_found a path flags root x m is lawful e =
    let n = machine_at a in
    let law = found_is (capacity_at a) (nodes_at a) root path x (rooted_leads (capacity_at a) (nodes_at a) root (working_stands a root m is).rooted) e in
    open_at a path flags root m is lawful
    ∙ ap (λ o. option_or o (open_refusal n path flags (tree (capacity_at a) (nodes_at a) root path))) law.0
    ∙ ap (open_refusal n path flags) law.1
    ∙ go x e
  where
    table : Option Fault
    table = full_table_refusal (machine_at a)

    go : (x : Found) → look_up (nodes_at a) root path ≡ Ok x → open_refusal (machine_at a) path flags (found_entry (capacity_at a) (nodes_at a) x) ≡ option_or (open_refusal_of flags x) table
    go (found.Missing full) e =
        let parent = missing_parent (nodes_at a) root path full (rooted_leads (capacity_at a) (nodes_at a) root (working_stands a root m is).rooted) e in
        let same : is_full (working_tree (machine_at a)) (parent_of path) ≡ full =
        ap (λ (t : Tree). is_full t (parent_of path)) (working_tree_is a root is)
        ∙ full_directory (capacity_at a) (nodes_at a) root (parent_of path) parent.0 (working_stands a root m is).rooted parent.1 ∙ sym parent.2 in
        ap (λ b. cond (not (creates flags)) (Some NoEntry) (cond b (Some DirectoryFull) table)) same ∙ creation (creates flags) full table
    go (found.File head size) e = reopening (creates flags && is_exclusive flags) table
    go (found.Dir block) e = directory (creates flags && is_exclusive flags) table

open_told : (a : Moment) (path : Path) (flags : OpenFlags) (root : ℕ) (fault : Fault) → IsMountedAt a → working_root a.state.history a.state.group ≡ Some root → are_lawful flags ≡ true → look_up (nodes_at a) root path ≡ Err fault
    → refusal (machine_at a) (Call.Open path flags) ≡ Some fault
open_told a path flags root fault m is lawful e =
    open_at a path flags root m is lawful
    ∙ ap (λ o. option_or o (open_refusal (machine_at a) path flags (tree (capacity_at a) (nodes_at a) root path))) (refused_is (capacity_at a) (nodes_at a) root path fault (working_stands a root m is).rooted e)

-- a look up that was refused, by whether the nodes tell of it
pub open_fault : (a b : Moment) (path : Path) (flags : OpenFlags) (root : ℕ) (fault : Fault) → IsMountedAt a → working_root a.state.history a.state.group ≡ Some root → are_lawful flags ≡ true
    → (is_path_fault fault ≡ true → look_up (nodes_at a) root path ≡ Err fault)
    → (is_path_fault fault ≡ false → WorkCause (seen_at a) fault (seen_at b)) → IsLookupFault fault
    → IsRefused a (Call.Open path flags) fault b
open_fault a b path flags root fault m is lawful refused why lookup = elim (cases_Bool (is_path_fault fault)) [
  | inl told ↦ inl (open_told a path flags root fault m is lawful (refused told))
  | inr other ↦ inr (read_refuses (seen_at a) (seen_at b) (machine_at a) (Call.Open path flags) fault (ap (λ b. is_none (cond (not b) (Some Invalid) None)) lawful) other lookup (why other))
]

-- what was found is refused
pub found_refuses : (a b : Moment) (path : Path) (flags : OpenFlags) (root : ℕ) (x : Found) (fault : Fault) → IsMountedAt a → working_root a.state.history a.state.group ≡ Some root → are_lawful flags ≡ true
    → look_up (nodes_at a) root path ≡ Ok x → open_refusal_of flags x ≡ Some fault → IsRefused a (Call.Open path flags) fault b
found_refuses a b path flags root x fault m is lawful led refused =
    inl (open_found a path flags root x m is lawful led ∙ ap (λ o. option_or o (full_table_refusal (machine_at a))) refused)

-- no descriptor is free
pub number_refuses : (a b : Moment) (path : Path) (flags : OpenFlags) (root : ℕ) (x : Found) → IsMountedAt a → working_root a.state.history a.state.group ≡ Some root → are_lawful flags ≡ true
    → look_up (nodes_at a) root path ≡ Ok x → open_refusal_of flags x ≡ None → least_free a.state.files ≡ None → IsRefused a (Call.Open path flags) TooManyOpen b
number_refuses a b path flags root x m is lawful led fits none =
    inl (open_found a path flags root x m is lawful led
    ∙ ap (λ o. option_or o (full_table_refusal (machine_at a))) fits ∙ ap (λ o. cond (is_none o) (Some TooManyOpen) None) none)

pub open_accepted : (a : Moment) (path : Path) (flags : OpenFlags) (root descriptor : ℕ) (x : Found) → IsMountedAt a → working_root a.state.history a.state.group ≡ Some root → are_lawful flags ≡ true
    → look_up (nodes_at a) root path ≡ Ok x → open_refusal_of flags x ≡ None → least_free a.state.files ≡ Some descriptor → refusal (machine_at a) (Call.Open path flags) ≡ None
open_accepted a path flags root descriptor x m is lawful led fits free =
    open_found a path flags root x m is lawful led
    ∙ ap (λ o. option_or o (full_table_refusal (machine_at a))) fits ∙ ap (λ o. cond (is_none o) (Some TooManyOpen) None) free

-- ---- changes

-- a body is as long as its file
long_body : (capacity : ℕ) (f : Blocks) (head size : ℕ) → IsBody capacity f head size → nat_lt 0 (length (body capacity f head size)) ≡ nat_lt 0 size
long_body capacity f head zero is = refl
long_body capacity f head (suc n) is =
    let enough : suc n ≤ length (data_to f (head_index capacity (suc n)) head) = is.1 in
    let long : length (take (suc n) (data_to f (head_index capacity (suc n)) head)) ≡ suc n = omega (arith, length-take (suc n) (data_to f (head_index capacity (suc n)) head)) in
    ap (nat_lt 0) long

-- whether what stands at the path is changed
abbrev changes_at : OpenFlags → Option Entry → Bool
changes_at flags o = is_none o || (truncates flags && nat_lt 0 (length (bytes_of o)))

pub changes_is : (a : Moment) (path : Path) (flags : OpenFlags) (root : ℕ) (x : Found) → IsMountedAt a → working_root a.state.history a.state.group ≡ Some root → look_up (nodes_at a) root path ≡ Ok x → open_refusal_of flags x ≡ None
    → open_changes (working_tree (machine_at a)) path flags ≡ changes_found flags x
changes_is a path flags root x m is led fits =
    ap (λ (t : Contents). changes_at flags (t path)) (working_is a root m is)
    ∙ ap (changes_at flags) (found_is (capacity_at a) (nodes_at a) root path x (rooted_leads (capacity_at a) (nodes_at a) root (working_stands a root m is).rooted) led).1
    ∙ go x led fits
  where
    go : (x : Found) → look_up (nodes_at a) root path ≡ Ok x → open_refusal_of flags x ≡ None → changes_at flags (found_entry (capacity_at a) (nodes_at a) x) ≡ changes_found flags x
    go (found.Missing full) led fits = refl
    go (found.File head size) led fits =
        let whole = ((working_stands a root m is).rooted path (place.File head size) (found_leads_file (nodes_at a) root path head size (rooted_leads (capacity_at a) (nodes_at a) root (working_stands a root m is).rooted) led)).0 in
        ap (λ b. truncates flags && b) (long_body (capacity_at a) (nodes_at a) head size whole)
    go (found.Dir block) led fits = absurd (no_directory (creates flags && is_exclusive flags) fits)
      where
        no_directory : (b : Bool) → cond b (Some Exists) (Some IsDirectory) ≡ None → ⊥
        no_directory true e = cc
        no_directory false e = cc

-- ---- steps of what is opened

-- a refused call
pub refused_work : (a b : Moment) (call : Call) (fault : Fault) → IsMountedAt a → IsWorked a b → Leaves (machine_at a) call a.device a.state.storage b.device b.state.storage → IsRefused a call fault b
    → IsAnswered a call (Err fault) b
refused_work a b call fault m w leaves refuses = record {
  mounted = worked_mounted a b m w;
  step = refused_step a b call fault m w refuses;
  leaves = leaves;
  is_off = w.rest.is_off;
  pages = worked_pages a b m w;
  reached = worked_reaches a b m w;
  refused = w.rest.history;
  regrouped = w.rest.group;
}

-- one that was refused before anything was written
pub refused_answer : (a b : Moment) (call : Call) (fault : Fault) → IsMountedAt a → IsLooked a b → is_still call || only_looks call ≡ false → IsRefused a call fault b
    → IsAnswered a call (Err fault) b
refused_answer a b call fault m l moves refuses = refused_work a b call fault m (looked_worked a b l) (looked_leaves a b call l moves) refuses

-- where what was answered is a fault
pub at_answer : {T : Type 0} (f : T → Reply) (a b : Moment) (call : Call) (fault : Fault) (result : Result T Fault) → result ≡ Err fault
    → IsAnswered a call (Err fault) b → IsAnswered a call (replied f result) b
at_answer f a b call fault result is answered = subst (λ r. IsAnswered a call (replied f r) b) (sym is) answered

-- the same but for the history and the open files
mounted_at : (b : Moment) (h : Past ℕ) (files : Descriptors) → IsMountedAt b → AllStand (at_history b h) → IsMachine (machine_at (moment b.device (record b.state { history = h; files = files }))) → IsMountedAt (moment b.device (record b.state { history = h; files = files }))
mounted_at b h files m all machine = record {
  lawful = m.lawful;
  ring_blocks = m.ring_blocks;
  fits = m.fits;
  roots = all;
  machine = machine;
  off = m.off;
}

-- the open files with one more
pub files_after : (m : Machine) (path : Path) (flags : OpenFlags) (descriptor : ℕ) → least_free m.descriptors ≡ Some descriptor
    → option_map_or (λ n. opened m.descriptors n (record { path = path; flags = flags })) (least_free m.descriptors) m.descriptors ≡ opened m.descriptors descriptor (record { path = path; flags = flags })
files_after m path flags descriptor free = ap (λ o. option_map_or (λ n. opened m.descriptors n (record { path = path; flags = flags })) o m.descriptors) free

-- what an open leaves that makes no tree
next_is : (m : Machine) (path : Path) (flags : OpenFlags) (descriptor : ℕ) → refusal m (Call.Open path flags) ≡ None → tree_after m (Call.Open path flags) ≡ None → least_free m.descriptors ≡ Some descriptor
    → machine_of m (Call.Open path flags) (refusal m (Call.Open path flags))
    ≡ machine_with m.history m.group (opened m.descriptors descriptor (record { path = path; flags = flags }))
next_is m path flags descriptor fine makes free =
    ap (machine_of m (Call.Open path flags)) fine
    ∙ (λ i. machine_with (option_map_or (changed m.history) (option_and_then (λ t. if is_some m.group then None else Some t) (makes i)) m.history) (option_map_or (group_with m.group) (makes i) m.group) (files_after m path flags descriptor free i))

pub made_by : (m : Machine) (path : Path) (flags : OpenFlags) (b : Bool) → open_changes (working_tree m) path flags ≡ b → tree_after m (Call.Open path flags) ≡ cond b (Some (file_put (working_tree m) path [])) None
made_by m path flags b is = ap (λ c. cond c (Some (file_put (working_tree m) path [])) None) is

answers_descriptor : (space : Space) (m : Machine) (path : Path) (flags : OpenFlags) (descriptor : ℕ) → refusal m (Call.Open path flags) ≡ None → least_free m.descriptors ≡ Some descriptor
    → answer_of space m (Call.Open path flags) (refusal m (Call.Open path flags)) ≡ Ok (Reply.Fd descriptor)
answers_descriptor space m path flags descriptor fine free = ap (answer_of space m (Call.Open path flags)) fine ∙ ap (λ o. Ok (Reply.Fd (unwrap_or o 0))) free

-- a file that is there, and stays as it is
pub opened_answer : (a b : Moment) (path : Path) (flags : OpenFlags) (descriptor : ℕ) (files : Descriptors) → IsMountedAt a → IsLooked a b → is_path path ≡ true
    → refusal (machine_at a) (Call.Open path flags) ≡ None → open_changes (working_tree (machine_at a)) path flags ≡ false → least_free a.state.files ≡ Some descriptor
    → files ≡ opened b.state.files descriptor (record { path = path; flags = flags })
    → IsAnswered a (Call.Open path flags) (Ok (Reply.Fd descriptor)) (moment b.device (record b.state { files = files }))
opened_answer a b path flags descriptor files m l lawful fine same free is =
    record { mounted = mounted_at b b.state.history files mid mid.roots machine; step = step; leaves = looked_leaves a b call l refl; is_off = l.rest.is_off; pages = worked_pages a b m w; reached = worked_reaches a b m w; refused = tt; regrouped = tt }
  where
    call : Call
    call = Call.Open path flags

    n : Machine
    n = machine_at a

    w : IsWorked a b
    w = looked_worked a b l

    mid : IsMountedAt b
    mid = worked_mounted a b m w

    none : tree_after n call ≡ None
    none = made_by n path flags false same

    leaves : machine_at (moment b.device (record b.state { files = files })) ≡ machine_of n call (refusal n call)
    leaves =
        let history = ap (λ (x : Machine). x.history) (worked_machine a b m w) in
        let descriptors = is ∙ ap (λ (fs : Descriptors). opened fs descriptor (record { path = path; flags = flags })) l.rest.files in
        let group = ap (λ (x : Machine). x.group) (worked_machine a b m w) in
        (λ i. machine_with (history i) (group i) (descriptors i)) ∙ sym (next_is n path flags descriptor fine none free)

    step : CallStep (showing (seen_at a) n false) call (Ok (Reply.Fd descriptor)) (showing (seen_at b) (machine_at (moment b.device (record b.state { files = files }))) false)
    step = record {
      later = worked_later a b w;
      answers = (
        refl,
        record {
          accepted = fine;
          answered = λ space _. answers_descriptor space n path flags descriptor fine free;
          leaves = leaves;
          writable = λ writes. never (is_none (refusal n call)) (sym (ap (λ o. is_none (refusal n call) && ((is_some o || is_some (option_and_then (λ t. if is_some n.group then None else Some t) o)) || false)) none) ∙ writes);
          serial_left = λ makes. never (is_none (refusal n call)) (sym (ap (λ o. is_none (refusal n call) && is_some (option_and_then (λ t. if is_some n.group then None else Some t) o)) none) ∙ makes);
        },
        refl,
      );
    }

    machine : IsMachine (machine_at (moment b.device (record b.state { files = files })))
    machine = still_machine (seen_at a) (seen_at b) n (machine_at (moment b.device (record b.state { files = files }))) false false call (Ok (Reply.Fd descriptor)) m.machine lawful step

-- ---- a file that is made or cut

-- what is found and fits is below the root, and no directory
pub found_below : (f : Blocks) (root : ℕ) (path : Path) (flags : OpenFlags) (x : Found) → look_up f root path ≡ Ok x → open_refusal_of flags x ≡ None → 0 < length path
found_below f root [] flags (found.Missing full) led fits = absurd cc
found_below f root [] flags (found.File head size) led fits = absurd cc
found_below f root [] flags (found.Dir block) led fits = absurd (go (creates flags && is_exclusive flags) fits)
  where
    go : (b : Bool) → cond b (Some Exists) (Some IsDirectory) ≡ None → ⊥
    go true e = cc
    go false e = cc
found_below f root (n ∷ path) flags x led fits = omega arith
