-- How much stands in the tree of a view is told by its root.
use Rattle.std.proofs.Common.{◌≡◌, ◌∙◌, ℕ, true, false, None, Some, Result, Ok, Err, refl, sym, ap, subst}
use Rattle.std.proofs.lemmas.Bool.{true≢false}
use Rattle.std.specs.Prelude.{IfOk, IfErr}
use Rattle.fs_types.specs.declared.call.View.{View}
use Rattle.fs_types.specs.declared.fault.Fault.{Fault}
use Rattle.fs_types.specs.declared.fault.Fault.TheVariants.{PowerCut}
use Rattle.flash_model.specs.Device.{Device}
use Rattle.history_machine.specs.History.{view_refusal}
use Rattle.node_store.specs.declared.storage.Storage as parts
use Rattle.working_state.specs.Moments.{moment}
use Rattle.working_state.specs.Seen.{tree_on, seen_of}
use Rattle.working_state.specs.Steps.{is_cut_answer}
use Rattle.working_state.specs.Worked.{ReadCause}
use Rattle.working_state.specs.declared.state.State.{State}
use Rattle.working_state.proofs.Views.{Shows, view_tree_is}
use Rattle.tree_counts.specs.Sizes.{size_of}
use Rattle.tree_counts.specs.declared.tree_size.TreeSize.{TreeSize}
use Rattle.system.specs.TreeSizes.{FindsSize, CountsTree, TellsSize}
use Rattle.system.specs.declared.systems.System.{System}

-- what was counted of the root
pub finds_size : (d e : Device) (s t : State) (view : View) (root : ℕ) (st : parts.Storage) (r : Result TreeSize Fault) → Shows s.history s.group view root
    → IfOk r (λ size. size ≡ size_of (tree_on d root)) → IfErr r (λ fault. ReadCause (seen_of d s.storage) fault (seen_of e st)) → t.storage ≡ st → FindsSize d s view r e t
finds_size d e s t view root st (Ok size) shows is why same = is ∙ ap size_of (sym (view_tree_is (moment d s) view root shows))
finds_size d e s t view root st (Err fault) shows is why same = subst (λ (x : parts.Storage). ReadCause (seen_of d s.storage) fault (seen_of e x)) (sym same) why

-- a count that found the power off found it so
pub size_cut : (d e : Device) (s : State) (st : parts.Storage) (r : Result TreeSize Fault) → IfErr r (λ fault. ReadCause (seen_of d s.storage) fault (seen_of e st)) → is_cut_answer r ≡ true → e.powered ≡ false
size_cut d e s st (Ok size) why cut = absurd (true≢false (sym cut))
size_cut d e s st (Err PowerCut) why cut = why
size_cut d e s st (Err _) why cut = absurd (true≢false (sym cut))

-- ---- the ways that a count ends

pub size_stopped : (d : Device) (m : System) (view : View) (fault : Fault) → fault ≡ PowerCut → m.state.is_off ≡ true → TellsSize d m view (Err fault) d m
size_stopped d m view fault is off = record {
  stopped = λ _. (ap Err is, refl, refl);
  refused = λ on f own. absurd (true≢false (sym off ∙ on));
  works = λ on fine. absurd (true≢false (sym off ∙ on));
}

pub size_refused : (d : Device) (m : System) (view : View) (fault : Fault) → m.state.is_off ≡ false → view_refusal m.state.history view ≡ Some fault → TellsSize d m view (Err fault) d m
size_refused d m view fault on own = record {
  stopped = λ off. absurd (true≢false (sym off ∙ on));
  refused = λ _ f is. (let same : Some fault ≡ Some f = sym own ∙ is in cc, refl, refl);
  works = λ _ fine. absurd (let wrong : Some fault ≡ None = sym own ∙ fine in cc);
}

pub size_counted : (d e : Device) (m n : System) (view : View) (r : Result TreeSize Fault) → m.state.is_off ≡ false → view_refusal m.state.history view ≡ None → CountsTree d m view r e n → TellsSize d m view r e n
size_counted d e m n view r on fine counts = record {
  stopped = λ off. absurd (true≢false (sym off ∙ on));
  refused = λ _ f own. absurd (let wrong : None ≡ Some f = sym fine ∙ own in cc);
  works = λ _ _. counts;
}
