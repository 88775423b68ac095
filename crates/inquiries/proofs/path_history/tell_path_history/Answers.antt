use Rattle.std.proofs.Common.{◌≡◌, ◌≤◌, ◌∙◌, ◌++◌, ℕ, Bool, Option, Some, None, List, inr, map, sym, ap, ap₂, subst}
use Rattle.std.proofs.lemmas.Bool.{true≢false}
use Rattle.std.specs.Prelude.{All, sum_by, if◌then◌else◌}
use Rattle.fs_types.specs.Names.{Name}
use Rattle.fs_types.specs.declared.call.View.{View}
use Rattle.fs_types.specs.declared.fault.Fault.{Fault}
use Rattle.fs_types.specs.declared.fault.Fault.TheVariants.{NoEntry}
use Rattle.history_machine.specs.History.{view_refusal}
use Rattle.history_machine.specs.Machine.{Machine}
use Rattle.inquiries.specs.PathHistories.{kept_views, looked_at, nowhere_in, IsSmallAt}
use Rattle.inquiries.specs.Readings.{shown}
use Rattle.inquiries.specs.declared.tell_fault.TheConstants.{MAX_LINES}
use Rattle.inquiries.proofs.PathLemmas.{views_seen}
use Rattle.inquiries.proofs.Readings.{unchanged-trans}
use Rattle.inquiries.proofs.path_history.tell_path_history.Goals as goal

pub check_somewhere-requires : goal.check_somewhere-requires
check_somewhere-requires g c =
    views_seen (shown c.args.fs.now) c.deref.result.now c.args.fs.now.mounted.mounted.machine
    (c.deref.ensures.value ∙ c.in_ok-views.ensures ∙ ap₂ (λ (serials : List ℕ) (names : List Name). map View.Serial serials ++ map View.Checkpoint names) c.in_ok-kept.ensures.serials c.in_ok-kept.ensures.checkpoints)

pub are_few-requires : goal.are_few-requires
are_few-requires g c =
    let are =
    c.deref-2.ensures.value ∙ c.in_ok-views.ensures ∙ ap₂ (λ (serials : List ℕ) (names : List Name). map View.Serial serials ++ map View.Checkpoint names) c.in_ok-kept.ensures.serials c.in_ok-kept.ensures.checkpoints in
    subst (λ (m : Machine). All (λ view. view_refusal m.history view ≡ None) c.deref-2.result.now) (sym c.check_somewhere.ensures.same.machine)
    (views_seen (shown c.args.fs.now) c.deref-2.result.now c.args.fs.now.mounted.mounted.machine are)

pub are_small-requires : goal.are_small-requires
are_small-requires g c =
    let m = shown c.args.fs.now in
    let are : c.deref-3.result.now ≡ kept_views m = c.deref-3.ensures.value ∙ c.in_ok-views.ensures ∙ ap₂ (λ (serials : List ℕ) (names : List Name). map View.Serial serials ++ map View.Checkpoint names) c.in_ok-kept.ensures.serials c.in_ok-kept.ensures.checkpoints in
    let counted = unchanged-trans c.args.fs.now c.check_somewhere.new.fs c.are_few.new.fs c.check_somewhere.ensures.same c.are_few.ensures.same in
    subst (λ (n : Machine). All (λ view. view_refusal n.history view ≡ None) c.deref-3.result.now) (sym counted.machine) (views_seen m c.deref-3.result.now c.args.fs.now.mounted.mounted.machine are)

pub returns-then-not-branch-2-clause-same : goal.returns-then-not-branch-2-clause-same
returns-then-not-branch-2-clause-same g c =
    let counted = unchanged-trans c.args.fs.now c.check_somewhere.new.fs c.are_few.new.fs c.check_somewhere.ensures.same c.are_few.ensures.same in
    unchanged-trans c.args.fs.now c.are_few.new.fs c.are_small.new.fs counted c.are_small.ensures.same

pub returns-then-not-branch-2-clause-err : goal.returns-then-not-branch-2-clause-err
returns-then-not-branch-2-clause-err g c =
    let m = shown c.args.fs.now in
    let first : c.deref.result.now ≡ kept_views m = c.deref.ensures.value ∙ c.in_ok-views.ensures ∙ ap₂ (λ (serials : List ℕ) (names : List Name). map View.Serial serials ++ map View.Checkpoint names) c.in_ok-kept.ensures.serials c.in_ok-kept.ensures.checkpoints in
    let are : c.deref-3.result.now ≡ kept_views m = c.deref-3.ensures.value ∙ c.in_ok-views.ensures ∙ ap₂ (λ (serials : List ℕ) (names : List Name). map View.Serial serials ++ map View.Checkpoint names) c.in_ok-kept.ensures.serials c.in_ok-kept.ensures.checkpoints in
    let counted = unchanged-trans c.args.fs.now c.check_somewhere.new.fs c.are_few.new.fs c.check_somewhere.ensures.same c.are_few.ensures.same in
    let told : Bool → Option Fault = λ (b : Bool). if b then None else Some NoEntry in
    let nowhere : nowhere_in m c.args.path.now (kept_views m) ≡ None = ap (nowhere_in m c.args.path.now) (sym first) ∙ ap told c.in_ok-check_somewhere.ensures.ok in (
      nowhere,
      inr (λ all. true≢false (sym (c.in_ok-are_small.ensures.ok.1 (subst (λ (n : Machine). All (IsSmallAt n c.args.path.now) c.deref-3.result.now) (sym counted.machine) (subst (All (IsSmallAt m c.args.path.now)) (sym are) all))) ∙ c.if-not-branch-2.true)),
    )

pub returns-in_err-list_states-clause-same : goal.returns-in_err-list_states-clause-same
returns-in_err-list_states-clause-same g c =
    let counted = unchanged-trans c.args.fs.now c.check_somewhere.new.fs c.are_few.new.fs c.check_somewhere.ensures.same c.are_few.ensures.same in
    unchanged-trans c.args.fs.now c.are_small.new.fs c.list_states.new.fs (unchanged-trans c.args.fs.now c.are_few.new.fs c.are_small.new.fs counted c.are_small.ensures.same) c.list_states.ensures.same

pub returns-clause-same : goal.returns-clause-same
returns-clause-same g c =
    let counted = unchanged-trans c.args.fs.now c.check_somewhere.new.fs c.are_few.new.fs c.check_somewhere.ensures.same c.are_few.ensures.same in
    unchanged-trans c.args.fs.now c.are_small.new.fs c.list_states.new.fs (unchanged-trans c.args.fs.now c.are_few.new.fs c.are_small.new.fs counted c.are_small.ensures.same) c.list_states.ensures.same

pub returns-clause-few : goal.returns-clause-few
returns-clause-few g c =
    let m = shown c.args.fs.now in
    let second : c.deref-2.result.now ≡ kept_views m = c.deref-2.ensures.value ∙ c.in_ok-views.ensures ∙ ap₂ (λ (serials : List ℕ) (names : List Name). map View.Serial serials ++ map View.Checkpoint names) c.in_ok-kept.ensures.serials c.in_ok-kept.ensures.checkpoints in
    let are : c.deref-3.result.now ≡ kept_views m = c.deref-3.ensures.value ∙ c.in_ok-views.ensures ∙ ap₂ (λ (serials : List ℕ) (names : List Name). map View.Serial serials ++ map View.Checkpoint names) c.in_ok-kept.ensures.serials c.in_ok-kept.ensures.checkpoints in
    let counted = unchanged-trans c.args.fs.now c.check_somewhere.new.fs c.are_few.new.fs c.check_somewhere.ensures.same c.are_few.ensures.same in
    let few = subst (λ (n : Machine). sum_by (looked_at n c.args.path.now) c.deref-2.result.now ≤ MAX_LINES) c.check_somewhere.ensures.same.machine (c.in_ok-are_few.ensures.ok.0 c.if-not-branch.false) in
    let small = subst (λ (n : Machine). All (IsSmallAt n c.args.path.now) c.deref-3.result.now) counted.machine (c.in_ok-are_small.ensures.ok.0 c.if-not-branch-2.false) in
    inr (subst (λ (views : List View). sum_by (looked_at m c.args.path.now) views ≤ MAX_LINES) second few, subst (All (IsSmallAt m c.args.path.now)) are small)
