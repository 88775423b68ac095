-- The steps of reading bytes of files.
use Rattle.std.proofs.Common.{◌≡◌, ℕ, true, false, Option, Some, None, Result, Ok, Err, List, [], ◌∷◌, refl, sym, ap, subst, ◌∙◌, inl, inr}
use Rattle.std.proofs.lemmas.Bool.{cases_Bool, true≢false}
use Rattle.std.specs.Prelude.{IsTrue, IsSome, is_none, IfOk, IfErr, if◌then◌else◌}
use Rattle.std.specs.FinMap.{get}
use Rattle.std.specs.Option.{option_or, option_map_or}
use Rattle.fs_types.specs.Names.{Path}
use Rattle.plain_trees.specs.Contents.{Contents, Entry, IsTree, under, way_refusal, lookup_refusal, read_from}
use Rattle.plain_trees.specs.Trees.{Tree, IsFileTree, IsFile, bytes_of, bytes_of_file}
use Rattle.history_machine.specs.History.{working_root}
use Rattle.history_machine.specs.Descriptors.{Descriptor, Descriptors, descriptor_at, can_read}
use Rattle.history_machine.specs.Machine.{Machine, Space, working_tree, refusal, reply_of}
use Rattle.fs_types.specs.declared.call.Call.{Call}
use Rattle.fs_types.specs.declared.call.Reply.{Reply}
use Rattle.fs_types.specs.declared.call.View.{View}
use Rattle.fs_types.specs.declared.fault.Fault.{Fault}
use Rattle.fs_types.specs.declared.fault.Fault.TheVariants.{NoEntry, NotDirectory, BadDescriptor, Damaged, ReadFailed, PowerCut, NoMemory}
use Rattle.history_machine.proofs.Kept.{working-file_tree}
use Rattle.plain_trees.proofs.Lookups.{some-is, above, under-tree}
use Rattle.node_format.specs.declared.place.Place.TheVariants.{File}
use Rattle.nodes.specs.Bodies.{Blocks, body, IsBody}
use Rattle.nodes.specs.Trees.{root_tree, IsRoot}
use Rattle.nodes.proofs.RootMaps.{map_law}
use Rattle.directory.specs.declared.lookups.Found.{Found}
use Rattle.directory.specs.declared.lookups.Found.TheVariants as found
use Rattle.directory.specs.Lookups.{look_up, found_entry, is_path_fault, IsLookupFault}
use Rattle.directory.proofs.LookupLaws.{found_is, found_leads_file, rooted_leads}
use Rattle.node_store.specs.Faults.{is_look_fault}
use Rattle.working_state.specs.Moments.{Moment, machine_at, seen_at, IsMountedAt, IsStep, version_tree}
use Rattle.working_state.specs.Reading.{refuse_directory, file_refusal, IsRead}
use Rattle.working_state.specs.Seen.{Seen}
use Rattle.working_state.specs.Steps.{replied, begins_work, is_cut_answer, MayRefuse}
use Rattle.working_state.specs.Worked.{IsLooked, WorkCause}
use Rattle.working_state.proofs.PathCalls.{LooksUp, found_tells, refused_tells, working_tree_is, OnlyReads, read_done}
use Rattle.working_state.proofs.Refusals.{refused_step}
use Rattle.working_state.proofs.Standing.{looked_worked}
use Rattle.working_state.proofs.Views.{Shows, view_tree_is, view_looks}

-- The file that a path leads to.

not_so : IsTrue false → ⊥
not_so h = true≢false (sym h)

-- a look up's refusal that comes of no read
path_fault : (fault : Fault) → IsLookupFault fault → is_look_fault fault ≡ false → is_path_fault fault ≡ true
path_fault NoEntry is other = refl
path_fault NotDirectory is other = refl
path_fault Damaged is other = refl
path_fault ReadFailed is other = absurd (true≢false other)
path_fault PowerCut is other = absurd (true≢false other)
path_fault NoMemory is other = absurd (true≢false other)
path_fault _ is other = absurd (not_so is)

module _ (capacity : ℕ) (f : Blocks) (root : ℕ) (path : Path) (is : IsRoot capacity f root) where
  -- a look up that was refused
  pub look_up_refuses : {T : Type 0} (result : Result T Fault) (fault : Fault) → result ≡ Err fault → (is_path_fault fault ≡ true → look_up f root path ≡ Err fault) → IsLookupFault fault
      → IfErr result (λ x. is_look_fault x ≡ false → file_refusal (root_tree capacity f root) path ≡ Some x)
  look_up_refuses result fault e refused faults =
      subst (λ r. IfErr r (λ x. is_look_fault x ≡ false → file_refusal (root_tree capacity f root) path ≡ Some x)) (sym e)
      (λ other. refused_tells capacity f root path refuse_directory is fault (refused (path_fault fault faults other)))

  module _ (x y : Found) (led : look_up f root path ≡ Ok x) (called : x ≡ y) where
    led_to : look_up f root path ≡ Ok y
    led_to = subst (λ z. look_up f root path ≡ Ok z) called led

    -- what was found is refused or not for what it is
    pub found_refuses_file : (refused : Option Fault) → option_map_or refuse_directory (found_entry capacity f y) (Some NoEntry) ≡ refused → file_refusal (root_tree capacity f root) path ≡ refused
    found_refuses_file refused e = found_tells capacity f root path refuse_directory is y led_to ∙ e

  module _ (capacity' : ℕ) (f' : Blocks) (same : f' ≡ f) (same_capacity : capacity' ≡ capacity) (x : Found) (head size : ℕ) (led : look_up f root path ≡ Ok x) (called : x ≡ found.File head size) where
    file_there : look_up f root path ≡ Ok (found.File head size)
    file_there = subst (λ z. look_up f root path ≡ Ok z) called led

    -- the file that was found has a body
    pub file_body : IsBody capacity' f' head size
    file_body =
        subst (λ r. IsBody r f' head size) (sym same_capacity)
        (subst (λ (g : Blocks). IsBody capacity g head size) (sym same) (is path (File head size) (found_leads_file f root path head size (rooted_leads capacity f root is) file_there)).0)

    -- what is read of its body
    pub file_read : (offset count : ℕ) (result : Result (List ℕ) Fault) → IfOk result (λ bytes. bytes ≡ read_from (body capacity' f' head size) offset count) → IfOk result (IsRead (root_tree capacity f root) path offset count)
    file_read offset count (Err fault) read = tt
    file_read offset count (Ok bytes) read = record {
      accepted = found_tells capacity f root path refuse_directory is (found.File head size) file_there;
      read = read
          ∙ ap (λ r. read_from (body r f' head size) offset count) same_capacity
          ∙ ap (λ (g : Blocks). read_from (body capacity g head size) offset count) same
          ∙ ap (λ (o : Option Entry). read_from (bytes_of o) offset count)
          (sym (ap (λ (t : Contents). t path) (map_law capacity f root is).same ∙ (found_is capacity f root path (found.File head size) (rooted_leads capacity f root is) file_there).1));
    }

-- Steps.

body_refuses : (old new : Seen) (m : Machine) (call : Call) (fault : Fault) → begins_work m call ≡ true → is_look_fault fault ≡ true → WorkCause old fault new → MayRefuse old m call fault new
body_refuses old new m call ReadFailed begins is why = (begins, why)
body_refuses old new m call PowerCut begins is why = (begins, why)
body_refuses old new m call NoMemory begins is why = begins
body_refuses old new m call _ begins is why = absurd (true≢false (sym is))

-- a call reads of the file at a path of the tree of a root
pub record ReadsFile (a : Moment) (call : Call) (root : ℕ) (path : Path) (offset count : ℕ) : Type 0 where
  pub begins : begins_work (machine_at a) call ≡ true
  pub by_path : refusal (machine_at a) call ≡ file_refusal (version_tree a root) path
  pub only : OnlyReads (machine_at a) call
  pub replies : (space : Space) → reply_of space (machine_at a) call ≡ Reply.Bytes (read_from (bytes_of_file (version_tree a root) path) offset count)

pub read_step : (a b : Moment) (call : Call) (root : ℕ) (path : Path) (offset count : ℕ) (result : Result (List ℕ) Fault) → IsMountedAt a → IsLooked a b → ReadsFile a call root path offset count
    → IfOk result (IsRead (version_tree a root) path offset count)
    → IfErr result (λ fault. is_look_fault fault ≡ false → file_refusal (version_tree a root) path ≡ Some fault)
    → IfErr result (λ fault. is_look_fault fault ≡ true → WorkCause (seen_at a) fault (seen_at b))
    → IsStep a call (replied Reply.Bytes result) b (is_cut_answer (replied Reply.Bytes result))
read_step a b call root path offset count (Ok bytes) m l reads read refused why =
    read_done a b call (Reply.Bytes bytes) m l reads.only (reads.by_path ∙ read.accepted) (λ space. reads.replies space ∙ ap Reply.Bytes (sym read.read))
read_step a b call root path offset count (Err fault) m l reads read refused why =
    refused_step a b call fault m (looked_worked a b l) (elim (cases_Bool (is_look_fault fault)) [
      | inl is ↦ inr (body_refuses (seen_at a) (seen_at b) (machine_at a) call fault reads.begins is (why is))
      | inr other ↦ inl (reads.by_path ∙ refused other)
    ])

-- A file of the tree that a view shows.

pub view_reads : (a : Moment) (view : View) (path : Path) (offset count root : ℕ) → IsMountedAt a → Shows a.state.history a.state.group view root → ReadsFile a (Call.ReadAt view path offset count) root path offset count
view_reads a view path offset count root m shows = record {
  begins = looks.begins;
  by_path = looks.by_path;
  only = record { stays = refl; no_version = refl; no_end = refl; no_record = refl };
  replies = λ space. ap (λ (t : Tree). Reply.Bytes (read_from (bytes_of_file t path) offset count)) (view_tree_is a view root shows);
}
  where
    looks : LooksUp a (Call.ReadAt view path offset count) root path refuse_directory
    looks = view_looks a view path (Call.ReadAt view path offset count) refuse_directory refl root m shows refl

-- An open file.

-- path resolution is not refused where something stands
pub resolves : (t : Contents) → IsTree t → (path : Path) → IsSome (t path) → lookup_refusal t path ≡ None
resolves t tree [] there = refl
resolves t tree (n ∷ []) there = refl
resolves t tree (n ∷ m ∷ path) there =
    let dir : t (n ∷ []) ≡ Some Entry.Dir = above t tree (n ∷ []) path m there in
    ap (λ o. option_or (way_refusal o) (lookup_refusal (under t (n ∷ [])) (m ∷ path))) dir ∙ resolves (under t (n ∷ [])) (under-tree t (n ∷ []) tree dir) (m ∷ path) there

file_is_read : (t : Tree) (path : Path) → IsFileTree t → IsFile t path → file_refusal t path ≡ None
file_is_read t path tree is =
    ap (λ o. option_or o (option_map_or refuse_directory (get t path) (Some NoEntry))) (resolves (get t) tree.shape path (some-is (get t path) (Entry.File is.0) is.1))
    ∙ ap (λ o. option_map_or refuse_directory o (Some NoEntry)) is.1

-- the open file of a descriptor
pub record IsOpen (files : Descriptors) (descriptor : ℕ) (path : Path) : Type 0 where
  pub file : Descriptor
  pub there : descriptor_at files descriptor ≡ Some file
  pub reads : can_read file.flags ≡ true
  pub named : path ≡ file.path

pub open_reads : (a : Moment) (descriptor : ℕ) (path : Path) (offset count root : ℕ) → IsMountedAt a → working_root a.state.history a.state.group ≡ Some root → IsOpen a.state.files descriptor path → ReadsFile a (Call.Pread descriptor offset count) root path offset count
open_reads a descriptor path offset count root m is opened = record {
  begins = ap is_none accepted;
  by_path = accepted ∙ sym (ap (λ t. file_refusal t path) (sym (working_tree_is a root is)) ∙ file_is_read (working_tree (machine_at a)) path (working-file_tree (machine_at a) m.machine) file);
  only = record { stays = refl; no_version = refl; no_end = refl; no_record = refl };
  replies = λ space.
      ap (λ o. Reply.Bytes (option_map_or (λ x. read_from (bytes_of_file (working_tree (machine_at a)) x.path) offset count) o [])) opened.there
      ∙ ap (λ p. Reply.Bytes (read_from (bytes_of_file (working_tree (machine_at a)) p) offset count)) (sym opened.named)
      ∙ ap (λ (t : Tree). Reply.Bytes (read_from (bytes_of_file t path) offset count)) (working_tree_is a root is);
}
  where
    accepted : refusal (machine_at a) (Call.Pread descriptor offset count) ≡ None
    accepted =
        ap (λ o. option_map_or (λ (x : Descriptor). if can_read x.flags then None else Some BadDescriptor) o (Some BadDescriptor)) opened.there
        ∙ ap (λ b. if b then None else Some BadDescriptor) opened.reads

    file : IsFile (working_tree (machine_at a)) path
    file = subst (IsFile (working_tree (machine_at a))) (sym opened.named) (m.machine.files descriptor opened.file opened.there)
