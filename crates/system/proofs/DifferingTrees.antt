-- Where the trees of two views differ is told by their roots.
use Rattle.std.proofs.Common.{◌≡◌, ◌∙◌, ℕ, true, false, None, Some, Result, Ok, Err, List, refl, sym, ap, subst}
use Rattle.std.proofs.lemmas.Bool.{true≢false}
use Rattle.std.specs.Option.{option_or}
use Rattle.std.specs.Prelude.{IfOk, IfErr}
use Rattle.fs_types.specs.Names.{Path}
use Rattle.fs_types.specs.declared.call.View.{View}
use Rattle.fs_types.specs.declared.fault.Fault.{Fault}
use Rattle.fs_types.specs.declared.fault.Fault.TheVariants.{PowerCut}
use Rattle.flash_model.specs.Device.{Device}
use Rattle.history_machine.specs.History.{view_refusal}
use Rattle.node_store.specs.NodePages.{node_of}
use Rattle.node_store.specs.declared.storage.Storage as parts
use Rattle.tree_differences.specs.Differing.{differing_paths}
use Rattle.working_state.specs.Moments.{moment}
use Rattle.working_state.specs.Seen.{tree_on, seen_of}
use Rattle.working_state.specs.Steps.{is_cut_answer}
use Rattle.working_state.specs.Worked.{ReadCause}
use Rattle.working_state.specs.declared.state.State.{State}
use Rattle.working_state.proofs.Views.{Shows, view_tree_is}
use Rattle.system.specs.DifferingTrees.{FindsDiffering, ComparesTrees, TellsDiffering}
use Rattle.system.specs.declared.systems.System.{System}

-- what was found of the roots
pub finds_differing : (d e : Device) (s t : State) (view : View) (root beside : ℕ) (st : parts.Storage) (r : Result (List Path) Fault) → Shows s.history s.group view root
    → IfOk r (λ paths. paths ≡ differing_paths (node_of d) root beside (tree_on d root)) → IfErr r (λ fault. ReadCause (seen_of d s.storage) fault (seen_of e st)) → t.storage ≡ st → FindsDiffering d s view root beside r e t
finds_differing d e s t view root beside st (Ok paths) shows is why same = is ∙ ap (differing_paths (node_of d) root beside) (sym (view_tree_is (moment d s) view root shows))
finds_differing d e s t view root beside st (Err fault) shows is why same = subst (λ (x : parts.Storage). ReadCause (seen_of d s.storage) fault (seen_of e x)) (sym same) why

-- a look that found the power off found it so
pub paths_cut : (d e : Device) (s : State) (st : parts.Storage) (r : Result (List Path) Fault) → IfErr r (λ fault. ReadCause (seen_of d s.storage) fault (seen_of e st)) → is_cut_answer r ≡ true → e.powered ≡ false
paths_cut d e s st (Ok paths) why cut = absurd (true≢false (sym cut))
paths_cut d e s st (Err PowerCut) why cut = why
paths_cut d e s st (Err _) why cut = absurd (true≢false (sym cut))

-- ---- the ways that it ends

pub differing_stopped : (d : Device) (m : System) (view other : View) (fault : Fault) → fault ≡ PowerCut → m.state.is_off ≡ true → TellsDiffering d m view other (Err fault) d m
differing_stopped d m view other fault is off = record {
  stopped = λ _. (ap Err is, refl, refl);
  refused = λ on f own. absurd (true≢false (sym off ∙ on));
  works = λ on fine both. absurd (true≢false (sym off ∙ on));
}

pub differing_refused : (d : Device) (m : System) (view other : View) (fault : Fault) → m.state.is_off ≡ false → option_or (view_refusal m.state.history view) (view_refusal m.state.history other) ≡ Some fault
    → TellsDiffering d m view other (Err fault) d m
differing_refused d m view other fault on own = record {
  stopped = λ off. absurd (true≢false (sym off ∙ on));
  refused = λ _ f is. (let same : Some fault ≡ Some f = sym own ∙ is in cc, refl, refl);
  works = λ _ fine both. absurd (let wrong : Some fault ≡ None = sym own ∙ (λ i. option_or (fine i) (both i)) in cc);
}

pub differing_told : (d e : Device) (m n : System) (view other : View) (r : Result (List Path) Fault) → m.state.is_off ≡ false → view_refusal m.state.history view ≡ None → view_refusal m.state.history other ≡ None
    → ComparesTrees d m view other r e n → TellsDiffering d m view other r e n
differing_told d e m n view other r on fine both compares = record {
  stopped = λ off. absurd (true≢false (sym off ∙ on));
  refused = λ _ f own. absurd (let wrong : None ≡ Some f = sym (λ i. option_or (fine i) (both i)) ∙ own in cc);
  works = λ _ _ _. compares;
}
