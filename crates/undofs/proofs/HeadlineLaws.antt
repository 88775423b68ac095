-- What is shown after a session on a flash whose newest record is sound, and what is given back from there.
use Rattle.std.proofs.Common.{◌≡◌, ℕ, zero, suc, Bool, false, Some, None, Result, Ok, Err, List, [], ◌∷◌, refl, sym, ap, subst, ◌∙◌, arith}
use Rattle.std.specs.Prelude.{Contains, IsOk}
use Rattle.std.specs.Option.{option_map}
use Rattle.history_machine.specs.Descriptors.{any_open}
use Rattle.history_machine.specs.History.{Past, IsLawful, fresh, undo_refusal, redo_refusal}
use Rattle.history_machine.specs.Laws.{UndoLaw, RedoLaw, RollbackLaw}
use Rattle.history_machine.specs.Machine.{Machine, Space, mounted, next, after, present_tree, refusal, travel_refusal, answer, step}
use Rattle.history_machine.proofs.Steps.{passes, outside}
use Rattle.plain_trees.specs.Trees.{Tree, bare}
use Rattle.fs_types.specs.declared.call.Call.{Call}
use Rattle.fs_types.specs.declared.event.Event.{Event}
use Rattle.fs_types.specs.declared.event.Answer.{Answer}
use Rattle.fs_types.specs.declared.fault.Fault.{Fault}
use Rattle.fs_types.specs.declared.fault.Fault.TheVariants.{Busy}
use Rattle.flash_model.specs.Device.{Device}
use Rattle.working_state.specs.Seen.{machine_on, shown_on}
use Rattle.mounting.specs.Records.{trees_of, HasTrees}
use Rattle.record_format.specs.declared.record.Record.{Record}
use Rattle.system.specs.Systems.{IsSystem}
use Rattle.system.specs.declared.systems.System.{System}
use Rattle.undofs.specs.Runs.{World, Shows, Happens, ReclaimsOn, CleansOn, PreparesOn, Mounts, Run, NoneRestarts, accepted}
use Rattle.undofs.specs.Headline.{Accepts, Answers, CarriesOut, GivesBack, HeadlineLaw, SoundHeadlineLaw, FormattedLaw}
use Rattle.undofs.proofs.RedoBetween.{redo_between}
use Rattle.undofs.proofs.CourseLaws.{course_law}
use Rattle.undofs.proofs.RunLaws.{shown, refused_keeps, not_both}

-- ---- what is shown after calls

pub accepts_next : (w v : World) (m : Machine) (call : Call) → Shows w m → Accepts w call v → (refusal m call ≡ None) × Shows v (next m call)
accepts_next w v m call is (reply, here) =
    let done = here.step.answers.1 in
    let was = shown w m here.before is here.was in
    (ap (λ (x : Machine). refusal x call) (sym was) ∙ done.accepted, (here.after, here.is, done.leaves ∙ ap (λ (x : Machine). next x call) was))

-- a step of reclaiming leaves what is shown
reclaim_shows : (w v : World) (m : Machine) (budget : ℕ) (result : Result Bool Fault) → Shows w m → ReclaimsOn w budget result v → Shows v m
reclaim_shows w v m budget result is here = (here.after, here.is, here.step.stays.machine ∙ shown w m here.before is here.was)

-- and so does a step of cleaning
clean_shows : (w v : World) (m : Machine) (budget : ℕ) (result : Result Bool Fault) → Shows w m → CleansOn w budget result v → Shows v m
clean_shows w v m budget result is here = (here.after, here.is, here.step.undisturbed.machine ∙ shown w m here.before is here.was)

-- and of preparing
prepare_shows : (w v : World) (m : Machine) (budget : ℕ) (result : Result Bool Fault) → Shows w m → PreparesOn w budget result v → Shows v m
prepare_shows w v m budget result is here = (here.after, here.is, here.step.undisturbed.machine ∙ shown w m here.before is here.was)

shows_after : (w : World) (m : Machine) (events : List Event) (answers : List Answer) (v : World) → Shows w m → NoneRestarts events → Run w events answers v → Shows v (after m (accepted events answers))
shows_after w m [] [] v is calls run = subst (λ (x : World). Shows x m) (sym run) is
shows_after w m [] (answer ∷ answers) v is calls run = absurd run
shows_after w m (event ∷ events) [] v is calls run = absurd run
shows_after w m (Event.Call call ∷ events) (Answer.Done reply ∷ answers) v is calls (between, here, rest) =
    shows_after between (next m call) events answers v (accepts_next w between m call is (reply, here)).1 calls rest
shows_after w m (Event.Call call ∷ events) (Answer.Refused fault ∷ answers) v is calls (between, here, rest) =
    let stays : machine_on between.device here.after.state ≡ m = refused_keeps _ (shown_on w.device here.before.state) call fault (shown_on between.device here.after.state) here.step.answers ∙ shown w m here.before is here.was in
    shows_after between m events answers v (here.after, here.is, stays) calls rest
shows_after w m (Event.Call call ∷ events) (Answer.Mounted ∷ answers) v is calls (between, here, rest) = absurd here
shows_after w m (Event.Call call ∷ events) (Answer.Unmounted ∷ answers) v is calls (between, here, rest) = absurd (not_both w is.0 is.1 here.0)
shows_after w m (Event.ReclaimStep budget ∷ events) (Answer.Done reply ∷ answers) v is calls (between, here, rest) =
    shows_after between m events answers v (reclaim_shows w between m budget (Ok here.0) is here.2) calls rest
shows_after w m (Event.ReclaimStep budget ∷ events) (Answer.Refused fault ∷ answers) v is calls (between, here, rest) =
    shows_after between m events answers v (reclaim_shows w between m budget (Err fault) is here) calls rest
shows_after w m (Event.ReclaimStep budget ∷ events) (Answer.Mounted ∷ answers) v is calls (between, here, rest) = absurd here
shows_after w m (Event.ReclaimStep budget ∷ events) (Answer.Unmounted ∷ answers) v is calls (between, here, rest) = absurd (not_both w is.0 is.1 here.0)
shows_after w m (Event.CleanStep budget ∷ events) (Answer.Done reply ∷ answers) v is calls (between, here, rest) =
    shows_after between m events answers v (clean_shows w between m budget (Ok here.0) is here.2) calls rest
shows_after w m (Event.CleanStep budget ∷ events) (Answer.Refused fault ∷ answers) v is calls (between, here, rest) =
    shows_after between m events answers v (clean_shows w between m budget (Err fault) is here) calls rest
shows_after w m (Event.CleanStep budget ∷ events) (Answer.Mounted ∷ answers) v is calls (between, here, rest) = absurd here
shows_after w m (Event.CleanStep budget ∷ events) (Answer.Unmounted ∷ answers) v is calls (between, here, rest) = absurd (not_both w is.0 is.1 here.0)
shows_after w m (Event.PrepareStep budget ∷ events) (Answer.Done reply ∷ answers) v is calls (between, here, rest) =
    shows_after between m events answers v (prepare_shows w between m budget (Ok here.0) is here.2) calls rest
shows_after w m (Event.PrepareStep budget ∷ events) (Answer.Refused fault ∷ answers) v is calls (between, here, rest) =
    shows_after between m events answers v (prepare_shows w between m budget (Err fault) is here) calls rest
shows_after w m (Event.PrepareStep budget ∷ events) (Answer.Mounted ∷ answers) v is calls (between, here, rest) = absurd here
shows_after w m (Event.PrepareStep budget ∷ events) (Answer.Unmounted ∷ answers) v is calls (between, here, rest) = absurd (not_both w is.0 is.1 here.0)
shows_after w m (Event.Restart ∷ events) (answer ∷ answers) v is calls run = absurd calls

pub answers_after : (w v : World) (m : Machine) (calls : List Call) → Shows w m → Answers w calls v → Shows v (after m calls)
answers_after w v m calls is (events, answers, are, run, same) = subst (λ (x : List Call). Shows v (after m x)) same (shows_after w m events answers v is are run)

-- a call was accepted, and then these: what is shown then
pub carries_out : (w v : World) (m : Machine) (call : Call) (calls : List Call) → Shows w m → CarriesOut w call calls v → (refusal m call ≡ None) × Shows v (after (next m call) calls)
carries_out w v m call calls is done =
    let first = accepts_next w done.between m call is done.first in
    (first.0, answers_after done.between v (next m call) calls first.1 done.later)

-- a world shows one machine
pub one_machine : (v : World) (m n : Machine) → Shows v m → Shows v n → n ≡ m
one_machine v m n is other = sym (shown v n is.0 other is.1) ∙ is.2

-- ---- what is given back

accepted_undo : (space : Space) (m : Machine) → refusal m Call.Undo ≡ None → IsOk (step space m Call.Undo).reply
accepted_undo space m none = rw none refl

accepted_checkpoint : (space : Space) (m : Machine) (name : List ℕ) → refusal m (Call.Checkpoint name) ≡ None → IsOk (step space m (Call.Checkpoint name)).reply
accepted_checkpoint space m name none = rw none refl

accepted_rollback : (space : Space) (m : Machine) (name : List ℕ) → refusal m (Call.Rollback name) ≡ None → IsOk (step space m (Call.Rollback name)).reply
accepted_rollback space m name none = rw none refl

pub no_space : Space
no_space = record { blocks = 0; bad = 0; free = 0; anchors = 0 }

-- where undo is accepted, no group and no file is open
none_open : (m : Machine) → refusal m Call.Undo ≡ None → (m.group ≡ None) × (any_open m.descriptors ≡ false)
none_open m none =
    let alone = outside m (travel_refusal m (undo_refusal m.history)) none in
    (alone.0, (passes (any_open m.descriptors) Busy (undo_refusal m.history) alone.1).0)

-- nor where redo is
none_open_redo : (m : Machine) → refusal m Call.Redo ≡ None → (m.group ≡ None) × (any_open m.descriptors ≡ false)
none_open_redo m none =
    let alone = outside m (travel_refusal m (redo_refusal m.history)) none in
    (alone.0, (passes (any_open m.descriptors) Busy (redo_refusal m.history) alone.1).0)

module _ (undo : UndoLaw) (redo : RedoLaw) (rollback : RollbackLaw) (w : World) (m : Machine) (lawful : IsLawful m.history) (is : Shows w m) where
  pub gives_back : GivesBack w m
  gives_back = record {
    undo = λ call calls changed v n makes keeps done last now.
        let then = carries_out w changed m call calls is done in
        let undone = accepts_next changed v (after (next m call) calls) Call.Undo then.1 last in
        ap (λ (x : Machine). present_tree x) (one_machine v (next (after (next m call) calls) Call.Undo) n undone.1 now)
        ∙ (undo no_space m call calls lawful makes keeps (none_open (after (next m call) calls) undone.0).1 (none_open (after (next m call) calls) undone.0).0).1;
    redo = λ undone v n done last now.
        let once = carries_out w undone m Call.Undo [] is done in
        let twice = accepts_next undone v (next m Call.Undo) Call.Redo once.1 last in
        one_machine v (next (next m Call.Undo) Call.Redo) n twice.1 now ∙ (redo no_space m lawful (accepted_undo no_space m once.0)).1;
    redo_later = λ calls undone v n keeps done last now.
        let once = carries_out w undone m Call.Undo calls is done in
        let twice = accepts_next undone v (after (next m Call.Undo) calls) Call.Redo once.1 last in
        let alone = none_open_redo (after (next m Call.Undo) calls) twice.0 in
        ap (λ (x : Machine). x.history) (one_machine v (next (after (next m Call.Undo) calls) Call.Redo) n twice.1 now)
        ∙ (redo_between m calls lawful once.0 keeps alone.1 alone.0).1;
    rollback = λ name calls kept v n none done last now.
        let then = carries_out w kept m (Call.Checkpoint name) calls is done in
        let back = accepts_next kept v (after (next m (Call.Checkpoint name)) calls) (Call.Rollback name) then.1 last in
        ap (λ (x : Machine). present_tree x) (one_machine v (next (after (next m (Call.Checkpoint name)) calls) (Call.Rollback name)) n back.1 now)
        ∙ rollback no_space m name calls lawful (accepted_checkpoint no_space m name then.0) none (accepted_rollback no_space (after (next m (Call.Checkpoint name)) calls) name back.0);
  }

-- ---- after a session

-- what is mounted on a world
abbrev pub Holds : World → Type 0
Holds w = (s : System) → w.system ≡ Some s → IsSystem w.device s

the_system : (w : World) (s t : System) → w.system ≡ Some s → IsSystem w.device s → w.system ≡ Some t → IsSystem w.device t
the_system w s t is system there = subst (IsSystem w.device) (let same : s ≡ t = cc in same) system

pub holds_on : (w : World) (events : List Event) (answers : List Answer) (v : World) → Holds w → Run w events answers v → Holds v
holds_on w [] [] v holds run = subst Holds (sym run) holds
holds_on w [] (answer ∷ answers) v holds run = absurd run
holds_on w (event ∷ events) [] v holds run = absurd run
holds_on w (event ∷ events) (answer ∷ answers) v holds (between, here, rest) = holds_on between events answers v (next_holds event answer here) rest
  where
    next_holds : (event : Event) (answer : Answer) → Happens w event answer between → Holds between
    next_holds (Event.Call call) (Answer.Done reply) here = λ s is. the_system between here.after s here.is here.mounted is
    next_holds (Event.Call call) (Answer.Refused fault) here = λ s is. the_system between here.after s here.is here.mounted is
    next_holds (Event.Call call) Answer.Mounted here = absurd here
    next_holds (Event.Call call) Answer.Unmounted here = subst Holds (sym here.1) holds
    next_holds (Event.ReclaimStep budget) (Answer.Done reply) here = λ s is. the_system between here.2.after s here.2.is here.2.mounted is
    next_holds (Event.ReclaimStep budget) (Answer.Refused fault) here = λ s is. the_system between here.after s here.is here.mounted is
    next_holds (Event.ReclaimStep budget) Answer.Mounted here = absurd here
    next_holds (Event.ReclaimStep budget) Answer.Unmounted here = subst Holds (sym here.1) holds
    next_holds (Event.CleanStep budget) (Answer.Done reply) here = λ s is. the_system between here.2.after s here.2.is here.2.mounted is
    next_holds (Event.CleanStep budget) (Answer.Refused fault) here = λ s is. the_system between here.after s here.is here.mounted is
    next_holds (Event.CleanStep budget) Answer.Mounted here = absurd here
    next_holds (Event.CleanStep budget) Answer.Unmounted here = subst Holds (sym here.1) holds
    next_holds (Event.PrepareStep budget) (Answer.Done reply) here = λ s is. the_system between here.2.after s here.2.is here.2.mounted is
    next_holds (Event.PrepareStep budget) (Answer.Refused fault) here = λ s is. the_system between here.after s here.is here.mounted is
    next_holds (Event.PrepareStep budget) Answer.Mounted here = absurd here
    next_holds (Event.PrepareStep budget) Answer.Unmounted here = subst Holds (sym here.1) holds
    next_holds Event.Restart (Answer.Done reply) here = absurd here
    next_holds Event.Restart (Answer.Refused fault) here = λ s is. absurd (not_both between s is here.0)
    next_holds Event.Restart Answer.Mounted here = λ s is. the_system between here.system s here.is here.mounted is
    next_holds Event.Restart Answer.Unmounted here = absurd here

some_history : (g h : Past Tree) → Some g ≡ Some h → g ≡ h
some_history g h is = cc

only_one : (x h : Past Tree) → Contains (x ∷ []) h → x ≡ h
only_one x h (zero, within, is) = is
only_one x h (suc n, within, is) = absurd (omega arith)

-- the first mount finds this history
pub record IsBegun (history : Past Tree) (w : World) : Type 0 where
  pub found : w.found ≡ history ∷ []
  pub shows : (n : Machine) → Shows w n → n ≡ mounted history
  pub holds : Holds w

pub begins : (d : Device) (history : Past Tree) (first : Answer) (w : World) → Mounts d (history ∷ []) first w → IsBegun history w
begins d history Answer.Mounted w here =
    let same : history ≡ here.history = only_one history here.history here.among in
    record {
      found = here.alone ∙ ap (λ (h : Past Tree). h ∷ []) (sym same);
      shows = λ n is. sym (shown w n here.system is here.is) ∙ here.machine ∙ ap (λ (h : Past Tree). mounted h) (sym same);
      holds = λ s is. the_system w here.system s here.is here.mounted is;
    }
begins d history (Answer.Refused fault) w here = record {
  found = here.1;
  shows = λ n is. absurd (not_both w is.0 is.1 here.0);
  holds = λ s is. absurd (not_both w s is here.0);
}
begins d history (Answer.Done reply) w here = absurd here
begins d history Answer.Unmounted w here = absurd here

pub sound_headline_law : UndoLaw → RedoLaw → RollbackLaw → SoundHeadlineLaw
sound_headline_law undo redo rollback there d events answers first v is_saved (history, w, saved, mounts, run) =
    let same : history ≡ there = some_history history there (sym saved ∙ is_saved) in
    let begun = begins d history first w mounts in
    let course = course_law w v (mounted there) events answers
    (λ n is. begun.shows n is ∙ ap (λ (h : Past Tree). mounted h) same) (begun.found ∙ ap (λ (h : Past Tree). h ∷ []) same) run in
    let holds = holds_on w events answers v begun.holds run in
    (course.0, course.1, λ m is. (course.2 m is, gives_back undo redo rollback v m (subst (λ (x : Machine). IsLawful x.history) is.2 (holds is.0 is.1).mounted.machine.lawful) is))

pub headline_law : UndoLaw → RedoLaw → RollbackLaw → HeadlineLaw
headline_law undo redo rollback limit d events answers first v formatted session =
    sound_headline_law undo redo rollback (fresh limit bare) d events answers first v (ap (option_map (trees_of d)) formatted.saved ∙ ap Some formatted.history) session

same_record : (r s : Record) → Some r ≡ Some s → r ≡ s
same_record r s is = cc

pub formatted_law : FormattedLaw
formatted_law limit d formatted = record {
  lawful = formatted.lawful;
  history = trees_of d formatted.newest;
  saved = ap (option_map (trees_of d)) formatted.saved;
  whole = λ r is. subst (HasTrees d) (same_record formatted.newest r (sym formatted.saved ∙ is)) formatted.trees;
}
