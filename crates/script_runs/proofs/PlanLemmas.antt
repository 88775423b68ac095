-- What operations leave of a plan of faults.
use Rattle.std.specs.Prelude.{Option, Some, None, Result, Ok, Err, nat_lt, option_map}
use Rattle.std.specs.Result.{result_err}
use Rattle.std.proofs.Common.{◌≡◌, ℕ, ◌+◌, ◌≤◌, Bool, true, false, ◌&&◌, List, [], ◌∷◌, ◌++◌, filter, if◌then◌else◌, cond, refl, sym, ap, ◌∙◌, arith}
use mathlib.Core.Logic.{∥∥₁_elim}
use Rattle.std.proofs.lemmas.List.{length-append}
use Rattle.std.proofs.lemmas.Option.{none-some}
use Rattle.flash_model.specs.Device.{Device, Operates, failed}
use Rattle.flash_model.specs.Plan.{Schedule, answer_due, begun, schedule_after, is_ahead, counted, count_of, greatest, kind_answer, kind_at, kind_due}
use Rattle.flash_model.specs.declared.fault_kind.FaultKind.{FaultKind}
use Rattle.flash_model.specs.declared.fault_kind.Operation.{Operation}
use Rattle.flash_model.specs.declared.fault_kind.PlannedFault.{PlannedFault}
use Rattle.flash_model.specs.declared.flash.DevFault.{DevFault}
use Rattle.script_runs.specs.Plans.{begun_all, IsCalm, StaysCalm, HasBegun, GoesOn, EntriesLaw}

begun_all-push : (plan : Schedule) (classes : List Operation) (class : Operation) → begun_all plan (classes ++ class ∷ []) ≡ begun (begun_all plan classes) class
begun_all-push plan [] class = refl
begun_all-push plan (one ∷ classes) class = begun_all-push (begun plan one) classes class

-- where nothing waits, nothing is due
none_due : (plan : Schedule) (class : Operation) → plan.waiting ≡ [] → kind_due plan class ≡ None
none_due plan class none =
    ap (λ (entries : List PlannedFault). if nat_lt (count_of plan.counters class) greatest then kind_at class (count_of plan.counters class + 1) entries else None) none ∙ on (nat_lt (count_of plan.counters class) greatest)
  where
    on : (b : Bool) → (let nothing : Option FaultKind = None in (if b then nothing else None) ≡ nothing)
    on true = refl
    on false = refl

none_refused : (d : Device) (plan : Schedule) (class : Operation) → IsCalm d plan → answer_due d.powered plan class ≡ None
none_refused d plan class calm = ap (λ (on : Bool). answer_due on plan class) calm.powered ∙ ap (λ (due : Option FaultKind). option_map kind_answer due) (none_due plan class calm.none_waits)

none_waits_after : (d : Device) (plan : Schedule) (class : Operation) → IsCalm d plan → (schedule_after d.powered plan class).waiting ≡ []
none_waits_after d plan class calm = ap (λ (on : Bool). (schedule_after on plan class).waiting) calm.powered ∙ ap (λ (entries : List PlannedFault). filter (is_ahead class (counted (count_of plan.counters class))) entries) calm.none_waits

-- an operation of a calm flash is done, and leaves it calm
stays_one : {T : Type 0} (was now : Device) (old new : Schedule) (class : Operation) (result : Result T DevFault) {reads fails : ℕ} → Operates was now result reads fails
    → reads + fails ≤ failed result → result_err result ≡ answer_due was.powered old class → new ≡ schedule_after was.powered old class → IsCalm was old → StaysCalm was now new
stays_one was now old new class (Ok value) operates few answer is calm = record {
  no_failed_read = omega (arith, operates.failed_reads, few);
  no_failure = omega (arith, operates.failures, few);
  calm = record { powered = operates.power; none_waits = ap (λ (plan : Schedule). plan.waiting) is ∙ none_waits_after was old class calm };
}
stays_one was now old new class (Err fault) operates few answer is calm = absurd (none-some fault (sym (answer ∙ none_refused was old class calm)))

stays_on : (old was now : Device) (before after : Schedule) → StaysCalm old was before → StaysCalm was now after → StaysCalm old now after
stays_on old was now before after first later = record {
  no_failed_read = later.no_failed_read ∙ first.no_failed_read;
  no_failure = later.no_failure ∙ first.no_failure;
  calm = later.calm;
}

-- with the power on one more operation begins, and else none
begun_more : (on : Bool) (first was now : Device) (plan old new : Schedule) (class : Operation) → HasBegun first plan was old
    → new ≡ schedule_after on old class → now.operations ≡ was.operations + (if on then 1 else 0) → (IsCalm was old → StaysCalm was now new) → HasBegun first plan now new
begun_more true first was now plan old new class so is more stays = record {
  classes = so.classes ++ class ∷ [];
  plan = is ∙ ap (λ (p : Schedule). begun p class) so.plan ∙ sym (begun_all-push plan so.classes class);
  count = omega (arith, more, so.count, length-append so.classes (class ∷ []));
  calm = λ calm. let before = so.calm calm in stays_on first was now old new before (stays before.calm);
}
begun_more false first was now plan old new class so is more stays = record {
  classes = so.classes;
  plan = is ∙ so.plan;
  count = omega (arith, more, so.count);
  calm = λ calm. let before = so.calm calm in stays_on first was now old new before (stays before.calm);
}

-- a plan goes on by one more operation
pub goes_on_more : {T : Type 0} (first was now : Device) (plan old new : Schedule) (class : Operation) (result : Result T DevFault) {reads fails : ℕ} → GoesOn first plan was old
    → Operates was now result reads fails → reads + fails ≤ failed result → result_err result ≡ answer_due was.powered old class → new ≡ schedule_after was.powered old class → GoesOn first plan now new
goes_on_more first was now plan old new class result goes operates few answer is =
    ∥∥₁_elim goes squash₁ (λ so. ∣ begun_more was.powered first was now plan old new class so is operates.operations (stays_one was now old new class result operates few answer is) ∣₁)

-- it stays where the power is put on
pub goes_on_powered : (first was now : Device) (plan old new : Schedule) → GoesOn first plan was old → new ≡ old → now ≡ record was { powered = true } → GoesOn first plan now new
goes_on_powered first was now plan old new goes same power =
    ∥∥₁_elim goes squash₁ (λ so. ∣ record {
      classes = so.classes;
      plan = same ∙ so.plan;
      count = ap (λ (d : Device). d.operations) power ∙ so.count;
      calm = λ calm. let before = so.calm calm in record {
        no_failed_read = ap (λ (d : Device). d.failed_reads) power ∙ before.no_failed_read;
        no_failure = ap (λ (d : Device). d.failures) power ∙ before.no_failure;
        calm = record { powered = ap (λ (d : Device). d.powered) power; none_waits = ap (λ (p : Schedule). p.waiting) same ∙ before.calm.none_waits };
      };
    } ∣₁)

-- a plan has gone on by no operation
pub goes_on_none : (first now : Device) (plan new : Schedule) → new ≡ plan → now ≡ first → GoesOn first plan now new
goes_on_none first now plan new same is = ∣ record {
  classes = [];
  plan = same;
  count = omega (arith, ap (λ (d : Device). d.operations) is);
  calm = λ calm. record {
    no_failed_read = ap (λ (d : Device). d.failed_reads) is;
    no_failure = ap (λ (d : Device). d.failures) is;
    calm = record { powered = ap (λ (d : Device). d.powered) is ∙ calm.powered; none_waits = ap (λ (p : Schedule). p.waiting) same ∙ calm.none_waits };
  };
} ∣₁

filter-filter : (p q : PlannedFault → Bool) (entries : List PlannedFault) → filter p (filter q entries) ≡ filter (λ entry. q entry && p entry) entries
filter-filter p q [] = refl
filter-filter p q (entry ∷ entries) = one (q entry) (filter-filter p q entries)
  where
    one : (b : Bool) → filter p (filter q entries) ≡ filter (λ e. q e && p e) entries
        → filter p (cond b (entry ∷ filter q entries) (filter q entries)) ≡ cond (b && p entry) (entry ∷ filter (λ e. q e && p e) entries) (filter (λ e. q e && p e) entries)
    one true rest = ap (λ (l : List PlannedFault). cond (p entry) (entry ∷ l) l) rest
    one false rest = rest

all_kept : (entries : List PlannedFault) → entries ≡ filter (λ entry. true) entries
all_kept [] = refl
all_kept (entry ∷ entries) = ap (λ (l : List PlannedFault). entry ∷ l) (all_kept entries)

-- the entries that are left of a plan pass a test
entries_left : (plan : Schedule) (classes : List Operation) → (keep : PlannedFault → Bool) × ((begun_all plan classes).waiting ≡ filter keep plan.waiting)
entries_left plan [] = ((λ entry. true), all_kept plan.waiting)
entries_left plan (class ∷ classes) =
    let left = entries_left (begun plan class) classes in
    let ahead : PlannedFault → Bool = is_ahead class (counted (count_of plan.counters class)) in
    ((λ entry. ahead entry && left.0 entry), left.1 ∙ filter-filter left.0 ahead plan.waiting)

pub entries_law : EntriesLaw
entries_law old new before after goes =
    ∥∥₁_elim goes squash₁ (λ so. let left = entries_left before so.classes in ∣ (left.0, ap (λ (plan : Schedule). plan.waiting) so.plan ∙ left.1) ∣₁)
