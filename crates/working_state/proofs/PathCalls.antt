-- Calls with a path that has to be there, and what they refuse for what stands at it.
use Rattle.std.proofs.Common.{◌≡◌, ℕ, true, false, ◌||◌, Option, Some, None, Result, Ok, Err, refl, sym, ap, subst, ◌∙◌, inl, inr}
use Rattle.std.proofs.lemmas.Bool.{cases_Bool, true≢false, and_parts}
use Rattle.std.specs.Prelude.{unwrap_or, is_some, IsSome}
use Rattle.std.specs.Option.{option_or, option_map, option_map_or}
use Rattle.std.specs.FinMap.{get}
use Rattle.fs_types.specs.Names.{Path, is_path}
use Rattle.plain_trees.specs.Contents.{Contents, Entry, lookup_refusal}
use Rattle.plain_trees.specs.Trees.{bare}
use Rattle.history_machine.specs.History.{working_root}
use Rattle.history_machine.specs.HistoryMaps.{working_root-map}
use Rattle.history_machine.specs.Machine.{Machine, Space, working_tree, refusal, found_refusal, answer_of, machine_of, reply_of, tree_after, version_after, is_accepted}
use Rattle.fs_types.specs.declared.call.Call.{Call}
use Rattle.fs_types.specs.declared.call.Reply.{Reply}
use Rattle.fs_types.specs.declared.fault.Fault.{Fault}
use Rattle.fs_types.specs.declared.fault.Fault.TheVariants.{NoEntry, NotDirectory, Damaged}
use Rattle.plain_trees.proofs.Beneath.{None≢Some}
use Rattle.history_machine.proofs.Kept.{working-file_tree}
use Rattle.node_format.specs.declared.place.Place.TheVariants.{Dir}
use Rattle.node_store.specs.Faults.{IsReadFault}
use Rattle.nodes.specs.Bodies.{Blocks}
use Rattle.nodes.specs.Trees.{entries_in, tree, root_tree, IsRoot}
use Rattle.nodes.proofs.RootMaps.{map_law}
use Rattle.directory.specs.declared.lookups.Found.{Found}
use Rattle.directory.specs.declared.lookups.Found.TheVariants as found
use Rattle.directory.specs.Lookups.{look_up, found_entry, is_path_fault, IsLookupFault}
use Rattle.directory.proofs.LookupLaws.{found_is, found_leads, refused_is, rooted_leads}
use Rattle.working_state.specs.Moments.{Moment, machine_at, seen_at, IsMountedAt, IsRefused, IsStep, nodes_at, capacity_at, version_tree}
use Rattle.working_state.specs.Steps.{begins_work, is_for_record}
use Rattle.working_state.specs.Mounted.{IsStanding}
use Rattle.working_state.specs.Worked.{IsLooked, WorkCause}
use Rattle.working_state.proofs.Roots.{of_working}
use Rattle.working_state.proofs.Standing.{looked_worked, worked_machine, worked_later}
use Rattle.working_state.proofs.Refusals.{read_refuses, cause_later}

-- The tree that calls work on.

pub working_tree_is : (a : Moment) (root : ℕ) → working_root a.state.history a.state.group ≡ Some root → working_tree (machine_at a) ≡ version_tree a root
working_tree_is a root is = ap (λ o. unwrap_or o bare) (working_root-map (version_tree a) a.state.history a.state.group ∙ ap (option_map (version_tree a)) is)

pub working_stands : (a : Moment) (root : ℕ) → IsMountedAt a → working_root a.state.history a.state.group ≡ Some root → IsStanding a.device a.state.storage.ring root
working_stands a root m is = of_working (IsStanding a.device a.state.storage.ring) a.state root m.roots is

-- what stands in the tree that calls work on stands at a lawful path
pub found_lawful : (a : Moment) (root : ℕ) (path : Path) (x : Found) (entry : Entry) → IsMountedAt a → working_root a.state.history a.state.group ≡ Some root → look_up (nodes_at a) root path ≡ Ok x → found_entry (capacity_at a) (nodes_at a) x ≡ Some entry
    → is_path path ≡ true
found_lawful a root path x entry m is led there =
    let law = map_law (capacity_at a) (nodes_at a) root (working_stands a root m is).rooted in
    let stands : get (working_tree (machine_at a)) path ≡ Some entry =
    ap (λ t. get t path) (working_tree_is a root is)
    ∙ ap (λ (t : Contents). t path) law.same
    ∙ (found_is (capacity_at a) (nodes_at a) root path x (rooted_leads (capacity_at a) (nodes_at a) root (working_stands a root m is).rooted) led).1
    ∙ there in
    (working-file_tree (machine_at a) m.machine).paths path (subst IsSome (sym stands) refl)

-- The refusal of what stands at a path, or of nothing.

found_at : (capacity : ℕ) (f : Blocks) (root : ℕ) (path : Path) (refuse : Entry → Option Fault) → IsRoot capacity f root
    → found_refusal (root_tree capacity f root) path refuse ≡ option_or (lookup_refusal (tree capacity f root) path) (option_map_or refuse (tree capacity f root path) (Some NoEntry))
found_at capacity f root path refuse is = ap (λ (t : Contents). option_or (lookup_refusal t path) (option_map_or refuse (t path) (Some NoEntry))) (map_law capacity f root is).same

-- by what was found
pub found_tells : (capacity : ℕ) (f : Blocks) (root : ℕ) (path : Path) (refuse : Entry → Option Fault) → IsRoot capacity f root → (x : Found) → look_up f root path ≡ Ok x
    → found_refusal (root_tree capacity f root) path refuse ≡ option_map_or refuse (found_entry capacity f x) (Some NoEntry)
found_tells capacity f root path refuse is x e =
    let there = found_is capacity f root path x (rooted_leads capacity f root is) e in
    found_at capacity f root path refuse is
    ∙ ap (λ o. option_or o (option_map_or refuse (tree capacity f root path) (Some NoEntry))) there.0
    ∙ ap (λ o. option_map_or refuse o (Some NoEntry)) there.1

-- by what the look up was refused with
pub refused_tells : (capacity : ℕ) (f : Blocks) (root : ℕ) (path : Path) (refuse : Entry → Option Fault) → IsRoot capacity f root → (fault : Fault) → look_up f root path ≡ Err fault
    → found_refusal (root_tree capacity f root) path refuse ≡ Some fault
refused_tells capacity f root path refuse is fault e =
    found_at capacity f root path refuse is
    ∙ ap (λ o. option_or o (option_map_or refuse (tree capacity f root path) (Some NoEntry))) (refused_is capacity f root path fault is e)

-- a call looks a path up in the tree of a root, and refuses what stands there
pub record LooksUp (a : Moment) (call : Call) (root : ℕ) (path : Path) (refuse : Entry → Option Fault) : Type 0 where
  pub rooted : IsRoot (capacity_at a) (nodes_at a) root
  pub begins : begins_work (machine_at a) call ≡ true
  pub by_path : refusal (machine_at a) call ≡ found_refusal (version_tree a root) path refuse

module _ (a : Moment) (call : Call) (root : ℕ) (path : Path) (refuse : Entry → Option Fault) (looks : LooksUp a call root path refuse) where
  -- what was found is refused or not for what it is
  pub found_refuses : (x : Found) → look_up (nodes_at a) root path ≡ Ok x → refusal (machine_at a) call ≡ option_map_or refuse (found_entry (capacity_at a) (nodes_at a) x) (Some NoEntry)
  found_refuses x e = looks.by_path ∙ found_tells (capacity_at a) (nodes_at a) root path refuse looks.rooted x e

  -- the same of what is also called `y`
  pub found_by : (x y : Found) → look_up (nodes_at a) root path ≡ Ok x → x ≡ y → refusal (machine_at a) call ≡ option_map_or refuse (found_entry (capacity_at a) (nodes_at a) y) (Some NoEntry)
  found_by x y e is = found_refuses y (subst (λ z. look_up (nodes_at a) root path ≡ Ok z) is e)

  pub found_refused : (b : Moment) (x y : Found) (fault : Fault) → look_up (nodes_at a) root path ≡ Ok x → x ≡ y → option_map_or refuse (found_entry (capacity_at a) (nodes_at a) y) (Some NoEntry) ≡ Some fault
      → IsRefused a call fault b
  found_refused b x y fault led is refused = inl (found_by x y led is ∙ refused)

  told : (fault : Fault) → look_up (nodes_at a) root path ≡ Err fault → refusal (machine_at a) call ≡ Some fault
  told fault e = looks.by_path ∙ refused_tells (capacity_at a) (nodes_at a) root path refuse looks.rooted fault e

  -- a look up that was refused, by whether the nodes tell of it
  pub look_refused : (b : Moment) (fault : Fault)
      → (is_path_fault fault ≡ true → look_up (nodes_at a) root path ≡ Err fault)
      → (is_path_fault fault ≡ false → WorkCause (seen_at a) fault (seen_at b)) → IsLookupFault fault
      → IsRefused a call fault b
  look_refused b fault refused why is = elim (cases_Bool (is_path_fault fault)) [
    | inl tells ↦ inl (told fault (refused tells))
    | inr other ↦ inr (read_refuses (seen_at a) (seen_at b) (machine_at a) call fault looks.begins other is (why other))
  ]

  -- a directory that was found is one
  is_directory : (block : ℕ) → look_up (nodes_at a) root path ≡ Ok (found.Dir block) → entries_in (nodes_at a) block ≡ None → ⊥
  is_directory block led none =
      let whole = (looks.rooted path (Dir block) (found_leads (nodes_at a) root path block (rooted_leads (capacity_at a) (nodes_at a) root looks.rooted) led)).0 in
      None≢Some (sym none ∙ whole.1)

  -- a read of the directory that was found
  pub read_refused : (b c : Moment) (block : ℕ) (x : Found) (fault : Fault) → IsLooked a b → nodes_at b ≡ nodes_at a
      → look_up (nodes_at a) root path ≡ Ok x → x ≡ found.Dir block
      → (fault ≡ Damaged → entries_in (nodes_at b) block ≡ None) → (is_path_fault fault ≡ false → WorkCause (seen_at b) fault (seen_at c)) → IsReadFault fault
      → IsRefused a call fault c
  read_refused b c block x fault l same called is damaged why reads =
      look_refused c fault (tells fault damaged reads)
      (λ other. cause_later (seen_at a) (seen_at b) (seen_at c) fault (worked_later a b (looked_worked a b l)) (why other)) (is_lookup fault reads)
    where
      led : look_up (nodes_at a) root path ≡ Ok (found.Dir block)
      led = subst (λ z. look_up (nodes_at a) root path ≡ Ok z) is called

      is_lookup : (fault : Fault) → IsReadFault fault → IsLookupFault fault
      is_lookup NoEntry reads = refl
      is_lookup NotDirectory reads = refl
      is_lookup _ reads = reads

      tells : (fault : Fault) → (fault ≡ Damaged → entries_in (nodes_at b) block ≡ None) → IsReadFault fault → is_path_fault fault ≡ true → look_up (nodes_at a) root path ≡ Err fault
      tells Damaged damaged reads path_fault = absurd (is_directory block led (ap (λ (g : Blocks). entries_in g block) (sym same) ∙ damaged refl))
      tells NoEntry damaged reads path_fault = absurd (true≢false (sym reads))
      tells NotDirectory damaged reads path_fault = absurd (true≢false (sym reads))
      tells _ damaged reads path_fault = absurd (true≢false (sym path_fault))

-- what an answer of `Damaged` says
pub damaged_says : {T : Type 0} {A : Type 0} (fault : Fault) → ((let r : Result T Fault = Err fault in r) ≡ Err Damaged → A) → fault ≡ Damaged → A
damaged_says {T} fault says is = says (ap (λ (x : Fault). (let r : Result T Fault = Err x in r)) is)

-- Calls that only read.

pub record OnlyReads (m : Machine) (call : Call) : Type 0 where
  pub stays : machine_of m call None ≡ m
  pub no_version : tree_after m call ≡ None
  pub no_end : version_after m call ≡ None
  pub no_record : is_for_record call ≡ false

pub read_done : (a b : Moment) (call : Call) (reply : Reply) → IsMountedAt a → IsLooked a b → OnlyReads (machine_at a) call
    → refusal (machine_at a) call ≡ None → ((space : Space) → reply_of space (machine_at a) call ≡ reply)
    → IsStep a call (Ok reply) b false
read_done a b call reply m l reads fine replies =
    let w = looked_worked a b l in
    let before = machine_at a in
    record {
      later = worked_later a b w;
      answers = (
        refl,
        record {
          accepted = fine;
          answered = λ space _. ap (answer_of space before call) fine ∙ ap Ok (replies space);
          leaves = worked_machine a b m w ∙ sym reads.stays ∙ sym (ap (machine_of before call) fine);
          writable = λ writes. absurd (nothing ((and_parts (is_accepted before call) ((is_some (tree_after before call) || is_some (version_after before call)) || is_for_record call) writes).1));
          serial_left = λ makes. absurd (no_tree ((and_parts (is_accepted before call) (is_some (version_after before call)) makes).1));
        },
        refl,
      );
    }
  where
    no_tree : is_some (version_after (machine_at a) call) ≡ true → ⊥
    no_tree makes = true≢false (sym makes ∙ ap is_some reads.no_end)

    nothing : (is_some (tree_after (machine_at a) call) || is_some (version_after (machine_at a) call)) || is_for_record call ≡ true → ⊥
    nothing writes = true≢false (sym writes ∙ (λ i. (is_some (reads.no_version i) || is_some (reads.no_end i)) || is_for_record call) ∙ reads.no_record)
