-- What a count of a tree answers and leaves, and why it is refused.
use Rattle.std.proofs.Common.{◌≡◌, ◌∙◌, ◌⊎◌, inl, inr, ◌≤◌, ℕ, Bool, true, false, Option, Some, None, Result, Ok, Err, refl, sym, ap, subst, arith}
use Rattle.std.proofs.lemmas.Bool.{eqb-true}
use Rattle.std.specs.Prelude.{IfOk, IfErr}
use Rattle.std.specs.Option.{option_or, option_map}
use Rattle.std.specs.Prelude.{unwrap_or}
use Rattle.fs_types.specs.declared.call.View.{View}
use Rattle.fs_types.specs.declared.fault.Fault.{Fault}
use Rattle.fs_types.specs.declared.fault.Fault.TheVariants.{ReadFailed, PowerCut, NoMemory}
use Rattle.plain_trees.specs.Trees.{Tree, bare}
use Rattle.history_machine.specs.History.{view_refusal, seen_root}
use Rattle.history_machine.specs.HistoryMaps.{view_refusal-map, seen_root-map}
use Rattle.history_machine.specs.Machine.{view_tree}
use Rattle.flash_model.specs.Device.{Device}
use Rattle.node_store.specs.declared.storage.Storage.{Storage}
use Rattle.working_state.specs.Seen.{seen_of, seen_on, machine_on, tree_on}
use Rattle.working_state.specs.Worked.{ReadCause}
use Rattle.working_state.specs.declared.state.State.{State}
use Rattle.system.specs.Systems.{IsSystem}
use Rattle.system.specs.TreeSizes.{TellsSize, CountsTree, ShowRoots, RefusesRoots}
use Rattle.system.specs.declared.systems.System.{System}
use Rattle.tree_counts.specs.Sizes.{size_of}
use Rattle.tree_counts.specs.declared.tree_size.TreeSize.{TreeSize}
use Rattle.inquiries.specs.Readings.{Meets}

-- the view as it is refused
own : (d : Device) (s : State) (view : View) → view_refusal (machine_on d s).history view ≡ view_refusal s.history view
own d s view = view_refusal-map (tree_on d) s.history view

-- what a reading of nodes met
pub reads_meet : (d e : Device) (s t : Storage) (fault : Fault) → ReadCause (seen_of d s) fault (seen_of e t) → Meets d e fault
reads_meet d e s t ReadFailed cause = cause
reads_meet d e s t PowerCut cause = cause
reads_meet d e s t NoMemory cause = tt
reads_meet d e s t _ cause = absurd cause

pub cause_meets : (d e : Device) (m n : System) (fault : Fault) → ReadCause (seen_on d m.state) fault (seen_on e n.state) → Meets d e fault
cause_meets d e m n fault cause = reads_meet d e m.state.storage n.state.storage fault cause

-- how a count ended
pub record Ended (d : Device) (m : System) (view : View) (result : Result TreeSize Fault) (e : Device) (n : System) : Type 0 where
  pub machine : machine_on e n.state ≡ machine_on d m.state
  pub pages : (p : ℕ) → e.pages p ≡ d.pages p
  pub failed_reads : d.failed_reads ≤ e.failed_reads
  pub accepted : IfOk result (λ _. view_refusal (machine_on d m.state).history view ≡ None)
  pub size : IfOk result (λ size. size ≡ size_of (view_tree (machine_on d m.state) view))
  pub err : IfErr result (λ fault. (view_refusal (machine_on d m.state).history view ≡ Some fault) ⊎ Meets d e fault)

module _ (d : Device) (m : System) (view : View) (result : Result TreeSize Fault) (e : Device) (n : System) (s : IsSystem d m) (step : TellsSize d m view result e n) where
  nothing : (fault : Fault) → (view_refusal (machine_on d m.state).history view ≡ Some fault) ⊎ Meets d d fault → (result ≡ Err fault) × (e ≡ d) × (n ≡ m) → Ended d m view result e n
  nothing fault why (is, same, kept) =
      subst (λ (r : Result TreeSize Fault). Ended d m view r e n) (sym is)
      (subst (λ (x : Device). Ended d m view (Err fault) x n) (sym same)
      (subst (λ (y : System). Ended d m view (Err fault) d y) (sym kept)
      (record { machine = refl; pages = λ p. refl; failed_reads = omega arith; accepted = tt; size = tt; err = why })))

  works : (r : Result TreeSize Fault) → view_refusal m.state.history view ≡ None → CountsTree d m view r e n → Ended d m view r e n
  works (Ok size) fine is = record {
    machine = is.looks.stays.machine;
    pages = is.looks.stays.reads.pages;
    failed_reads = is.looks.stays.reads.failed_reads;
    accepted = own d m.state view ∙ fine;
    size = is.finds;
    err = tt;
  }
  works (Err fault) fine is = record {
    machine = is.looks.stays.machine;
    pages = is.looks.stays.reads.pages;
    failed_reads = is.looks.stays.reads.failed_reads;
    accepted = tt;
    size = tt;
    err = inr (cause_meets d e m n fault is.finds);
  }

  pub ended : Ended d m view result e n
  ended = by m.state.is_off refl (view_refusal m.state.history view) refl
    where
      by : (off : Bool) → m.state.is_off ≡ off → (o : Option Fault) → view_refusal m.state.history view ≡ o → Ended d m view result e n
      by true off o is = nothing PowerCut (inr (s.mounted.off off)) (step.stopped off)
      by false on None is = works result is (step.works on is)
      by false on (Some fault) is = nothing fault (inl (own d m.state view ∙ is)) (step.refused on fault is)

-- ---- two views of one root

module _ (d : Device) (m : System) (view other : View) where
  refusals : option_or (view_refusal (machine_on d m.state).history view) (view_refusal (machine_on d m.state).history other) ≡ option_or (view_refusal m.state.history view) (view_refusal m.state.history other)
  refusals = λ i. option_or (own d m.state view i) (own d m.state other i)

  pub roots_accepted : (same : Bool) → ShowRoots m.state view other same → option_or (view_refusal (machine_on d m.state).history view) (view_refusal (machine_on d m.state).history other) ≡ None
  roots_accepted same is = refusals ∙ (λ i. option_or (is.first i) (is.second i))

  pub roots_same : (same : Bool) → ShowRoots m.state view other same → same ≡ true → view_tree (machine_on d m.state) view ≡ view_tree (machine_on d m.state) other
  roots_same same is equal_roots =
      let equal : is.root ≡ is.other_root = eqb-true is.root is.other_root (sym is.compared ∙ equal_roots) in
      let seen : seen_root m.state.history m.state.group view ≡ seen_root m.state.history m.state.group other = is.shown ∙ ap (λ (r : ℕ). Some r) equal ∙ sym is.other_shown in
      ap (λ (o : Option Tree). unwrap_or o bare) (seen_root-map (tree_on d) m.state.history m.state.group view ∙ ap (option_map (tree_on d)) seen ∙ sym (seen_root-map (tree_on d) m.state.history m.state.group other))

  pub roots_refused : (fault : Fault) → IsSystem d m → RefusesRoots m.state view other fault → (option_or (view_refusal (machine_on d m.state).history view) (view_refusal (machine_on d m.state).history other) ≡ Some fault) ⊎ Meets d d fault
  roots_refused fault s (inl (off, is)) = inr (subst (Meets d d) (sym is) (s.mounted.off off))
  roots_refused fault s (inr (on, is)) = inl (refusals ∙ is)
