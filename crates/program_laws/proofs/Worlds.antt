-- What a restart finds after the calls of a change group.
use Rattle.std.proofs.Common.{◌≡◌, ◌⊎◌, Bool, true, false, cond, Option, Some, None, Ok, Err, List, [], ◌∷◌, ◌++◌, inl, inr, refl, sym, ap, subst, ◌∙◌}
use Rattle.std.proofs.lemmas.List.Elements.{All-nil, All-cons, All-head, All-tail, All-push, All-contains}
use Rattle.std.specs.Prelude.{ℕ, All, is_some}
use Rattle.std.specs.Option.{option_map_or}
use Rattle.fs_types.specs.declared.call.Call.{Call}
use Rattle.fs_types.specs.declared.call.Group.{Group}
use Rattle.fs_types.specs.declared.call.Reply.{Reply}
use Rattle.fs_types.specs.declared.call.View.{View}
use Rattle.fs_types.specs.declared.event.Answer.{Answer}
use Rattle.fs_types.specs.declared.event.Event.{Event}
use Rattle.fs_types.specs.declared.fault.Fault.{Fault}
use Rattle.plain_trees.specs.Trees.{Tree}
use Rattle.flash_model.specs.Device.{Device}
use Rattle.history_machine.specs.History.{Past, changed, group_with, due_root}
use Rattle.history_machine.specs.Machine.{Machine, mounted, next, refusal, tree_after, group_after, machine_of}
use Rattle.history_machine.proofs.Groups.{stays}
use Rattle.working_state.specs.Seen.{machine_on, shown_on}
use Rattle.working_state.specs.Steps.{is_sync}
use Rattle.mounting.specs.Saved.{saved_trees}
use Rattle.undofs.specs.Runs.{World, Shows, IsSaved, Calls, IsMount, Happens, Run, found_after}
use Rattle.undofs.proofs.RunLaws.{shown, refused_keeps, not_both}
use Rattle.program_laws.specs.PutLaws.{IsPutCall, IsPutEvent}

-- each history of a list is this one
abbrev pub AreOne : Past Tree → List (Past Tree) → Type 0
AreOne h found = All (λ (g : Past Tree). g ≡ h) found

alone : (h x : Past Tree) → x ≡ h → AreOne h (x ∷ [])
alone h x is = All-cons (λ (g : Past Tree). g ≡ h) x [] is (All-nil (λ (g : Past Tree). g ≡ h))

-- what is saved is the one history that a restart finds
pub saved_is : (h : Past Tree) (w : World) → AreOne h w.found → IsSaved w.device w.found → saved_trees w.device ≡ Some h
saved_is h w finds saved = saved.saved ∙ ap Some (All-contains (λ (g : Past Tree). g ≡ h) w.found saved.history finds saved.among)

-- ---- one call

-- a world shows a machine with this history, and a restart finds no other
pub record IsAt (h : Past Tree) (m : Machine) (w : World) : Type 0 where
  pub shows : Shows w m
  pub history : m.history ≡ h
  pub finds : AreOne h w.found

-- what is mounted of a history
pub mounted_at : (d : Device) (h : Past Tree) (w : World) → IsMount d (h ∷ []) w → IsAt h (mounted h) w
mounted_at d h w here =
    let same : here.history ≡ h = All-contains (λ (g : Past Tree). g ≡ h) (h ∷ []) here.history (alone h h refl) here.among in
    record {
      shows = (here.system, here.is, here.machine ∙ ap (λ (g : Past Tree). mounted g) same);
      history = refl;
      finds = subst (AreOne h) (sym here.alone) (alone h here.history same);
    }

-- a call that is carried out is accepted, and shows the next machine
pub accepted_shows : (m : Machine) (w v : World) (call : Call) (reply : Reply) → Shows w m → Calls w call (Ok reply) v → (refusal m call ≡ None) × Shows v (next m call)
accepted_shows m w v call reply is here =
    let done = here.step.answers.1 in
    let was : machine_on w.device here.before.state ≡ m = shown w m here.before is here.was in
    (ap (λ (x : Machine). refusal x call) (sym was) ∙ done.accepted, (here.after, here.is, done.leaves ∙ ap (λ (x : Machine). next x call) was))

added : (h x : Past Tree) (call : Call) (reply : Reply) (found : List (Past Tree)) → x ≡ h → AreOne h found → AreOne h (found_after call (Ok reply) found x)
added h x call reply found is all = by (is_sync call)
  where
    by : (sync : Bool) → AreOne h (cond sync (x ∷ []) (found ++ x ∷ []))
    by true = alone h x is
    by false = All-push (λ (g : Past Tree). g ≡ h) found x all is

-- one that leaves the history adds no other
pub accepted_at : (h : Past Tree) (m : Machine) (w v : World) (call : Call) (reply : Reply) → IsAt h m w → Calls w call (Ok reply) v → (next m call).history ≡ h → IsAt h (next m call) v
accepted_at h m w v call reply at here same =
    let then = accepted_shows m w v call reply at.shows here in
    let is : (machine_on v.device here.after.state).history ≡ h = ap (λ (x : Machine). x.history) (shown v (next m call) here.after then.1 here.is) ∙ same in
    record {
      shows = then.1;
      history = same;
      finds = subst (AreOne h) (sym here.found) (added h (machine_on v.device here.after.state).history call reply w.found is at.finds);
    }

-- and one that is refused leaves all as it is
refused_at : (h : Past Tree) (m : Machine) (w v : World) (call : Call) (fault : Fault) → IsAt h m w → Calls w call (Err fault) v → IsAt h m v
refused_at h m w v call fault at here =
    let keeps : machine_on v.device here.after.state ≡ m =
    refused_keeps _ (shown_on w.device here.before.state) call fault (shown_on v.device here.after.state) here.step.answers ∙ shown w m here.before at.shows here.was in
    record { shows = (here.after, here.is, keeps); history = at.history; finds = subst (AreOne h) (sym here.found) at.finds }

-- ---- in a change group

-- and a group is open
abbrev pub IsInside : Past Tree → Machine → World → Type 0
IsInside h m w = IsAt h m w × (is_some m.group ≡ true)

pub begun_at : (h : Past Tree) (m : Machine) (w v : World) (reply : Reply) → IsAt h m w → Calls w Call.Begin (Ok reply) v → IsInside h (next m Call.Begin) v
begun_at h m w v reply at here =
    let ok : refusal m Call.Begin ≡ None = (accepted_shows m w v Call.Begin reply at.shows here).0 in (
      accepted_at h m w v Call.Begin reply at here (ap (λ (r : Option Fault). (machine_of m Call.Begin r).history) ok ∙ at.history),
      ap (λ (r : Option Fault). is_some (machine_of m Call.Begin r).group) ok,
    )

-- a call of a put leaves the group open
worked : (g : Option (Group Tree)) (o : Option Tree) → is_some g ≡ true → is_some (option_map_or (group_with g) o g) ≡ true
worked g None e = e
worked None (Some t) e = e
worked (Some g) (Some t) e = refl

after_put : (m : Machine) (call : Call) → IsPutCall call → is_some m.group ≡ true → is_some (group_after m call) ≡ true
after_put m (Call.Mkdir path) is e = worked m.group (tree_after m (Call.Mkdir path)) e
after_put m (Call.Stat View.Present path) is e = e
after_put m (Call.WriteFile path bytes) is e = worked m.group (tree_after m (Call.WriteFile path bytes)) e
after_put m (Call.WriteFiles directory files) is e = worked m.group (tree_after m (Call.WriteFiles directory files)) e
after_put m (Call.Rmdir path) is e = worked m.group (tree_after m (Call.Rmdir path)) e
after_put m (Call.Unlink path) is e = worked m.group (tree_after m (Call.Unlink path)) e
after_put m _ is e = absurd is

still_open : (m : Machine) (call : Call) → IsPutCall call → is_some m.group ≡ true → is_some (next m call).group ≡ true
still_open m call is e = by (refusal m call)
  where
    by : (r : Option Fault) → is_some (machine_of m call r).group ≡ true
    by (Some fault) = e
    by None = after_put m call is e

-- so it leaves the history, whatever it is answered
put_at : (h : Past Tree) (m : Machine) (w v : World) (event : Event) (answer : Answer) → IsPutEvent event → IsInside h m w → Happens w event answer v → (n : Machine) × IsInside h n v
put_at h m w v (Event.Call call) (Answer.Done reply) is inside here =
    let open' = still_open m call is inside.1 in
    let same : (next m call).history ≡ m.history = (stays m (call ∷ []) inside.1 (open', tt)).0 in
    (next m call, (accepted_at h m w v call reply inside.0 here (same ∙ inside.0.history), open'))
put_at h m w v (Event.Call call) (Answer.Refused fault) is inside here = (m, (refused_at h m w v call fault inside.0 here, inside.1))
put_at h m w v (Event.Call call) Answer.Mounted is inside here = absurd here
put_at h m w v (Event.Call call) Answer.Unmounted is inside here = absurd (not_both w inside.0.shows.0 inside.0.shows.1 here.0)
put_at h m w v event answer is inside here = absurd is

pub puts_at : (h : Past Tree) (m : Machine) (w v : World) (events : List Event) (answers : List Answer) → All IsPutEvent events → IsInside h m w → Run w events answers v → (n : Machine) × IsInside h n v
puts_at h m w v [] [] are inside run = (m, subst (λ (x : World). IsInside h m x) (sym run) inside)
puts_at h m w v [] (answer ∷ answers) are inside run = absurd run
puts_at h m w v (event ∷ events) [] are inside run = absurd run
puts_at h m w v (event ∷ events) (answer ∷ answers) are inside (between, here, rest) =
    let one = put_at h m w between event answer (All-head IsPutEvent event events are) inside here in
    puts_at h one.0 between v events answers (All-tail IsPutEvent event events are) one.1 rest

-- ---- the end of the group

-- a history is this one, or it changed once
abbrev pub IsOnce : Past Tree → Past Tree → Type 0
IsOnce h new = (new ≡ h) ⊎ ((t : Tree) × (new ≡ changed h t))

pub saved_once : (h new : Past Tree) (d : Device) → IsOnce h new → saved_trees d ≡ Some new → (saved_trees d ≡ Some h) ⊎ ((t : Tree) × (saved_trees d ≡ Some (changed h t)))
saved_once h new d (inl is) saved = inl (saved ∙ ap Some is)
saved_once h new d (inr (t, is)) saved = inr (t, saved ∙ ap Some is)

-- what an accepted `end` leaves: the history, or one version more where one is due
over : (m : Machine) → refusal m Call.End ≡ None → (next m Call.End).history ≡ option_map_or (changed m.history) (due_root m.group) m.history
over m ok = ap (λ (r : Option Fault). (machine_of m Call.End r).history) ok

by_due : (h : Past Tree) (o : Option Tree) → IsOnce h (option_map_or (changed h) o h)
by_due h None = inl refl
by_due h (Some t) = inr (t, refl)

pub ended_once : (m : Machine) → refusal m Call.End ≡ None → IsOnce m.history (next m Call.End).history
ended_once m ok = subst (IsOnce m.history) (sym (over m ok)) (by_due m.history (due_root m.group))

pub ended_undue : (m : Machine) → refusal m Call.End ≡ None → due_root m.group ≡ None → (next m Call.End).history ≡ m.history
ended_undue m ok undue = over m ok ∙ ap (λ (o : Option Tree). option_map_or (changed m.history) o m.history) undue

-- a restart finds what was synced, and no other
pub synced : (m : Machine) (w v : World) (reply : Reply) → Shows w m → Calls w Call.Sync (Ok reply) v → AreOne m.history v.found
synced m w v reply is here =
    let then = accepted_shows m w v Call.Sync reply is here in
    let same : (machine_on v.device here.after.state).history ≡ m.history =
    ap (λ (x : Machine). x.history) (shown v (next m Call.Sync) here.after then.1 here.is) ∙ ap (λ (r : Option Fault). (machine_of m Call.Sync r).history) then.0 in
    subst (AreOne m.history) (sym here.found) (alone m.history (machine_on v.device here.after.state).history same)

-- ---- steps of reclaiming and of cleaning

-- a restart finds this history alone, and it is saved
abbrev pub IsKept : Past Tree → World → Type 0
IsKept h w = AreOne h w.found × IsSaved w.device w.found

pub reclaimed : (h : Past Tree) (w v : World) (budget : ℕ) (answer : Answer) → IsKept h w → Happens w (Event.ReclaimStep budget) answer v → IsKept h v
reclaimed h w v budget (Answer.Done reply) kept here = (subst (AreOne h) (sym here.2.found) kept.0, here.2.saved)
reclaimed h w v budget (Answer.Refused fault) kept here = (subst (AreOne h) (sym here.found) kept.0, here.saved)
reclaimed h w v budget Answer.Mounted kept here = absurd here
reclaimed h w v budget Answer.Unmounted kept here = subst (IsKept h) (sym here.1) kept

pub cleaned : (h : Past Tree) (w v : World) (budget : ℕ) (answer : Answer) → IsKept h w → Happens w (Event.CleanStep budget) answer v → IsKept h v
cleaned h w v budget (Answer.Done reply) kept here = (subst (AreOne h) (sym here.2.found) kept.0, here.2.saved)
cleaned h w v budget (Answer.Refused fault) kept here = (subst (AreOne h) (sym here.found) kept.0, here.saved)
cleaned h w v budget Answer.Mounted kept here = absurd here
cleaned h w v budget Answer.Unmounted kept here = subst (IsKept h) (sym here.1) kept
