-- A put saves once.
use Rattle.std.proofs.Common.{◌≡◌, Bool, true, false, cond, Option, Some, None, Ok, List, [], ◌∷◌, ◌++◌, inl, refl, sym, ap, subst, ◌∙◌}
use Rattle.std.proofs.lemmas.Bool.{true≢false}
use Rattle.std.specs.Prelude.{ℕ, All, is_some}
use Rattle.fs_types.specs.declared.call.Call.{Call}
use Rattle.fs_types.specs.declared.call.Group.{Group}
use Rattle.fs_types.specs.declared.call.Reply.{Reply}
use Rattle.fs_types.specs.declared.event.Answer.{Answer}
use Rattle.fs_types.specs.declared.event.Event.{Event}
use Rattle.fs_types.specs.declared.fault.Fault.{Fault}
use Rattle.plain_trees.specs.Trees.{Tree}
use Rattle.plain_trees.proofs.Beneath.{None≢Some}
use Rattle.flash_model.specs.Device.{Device}
use Rattle.flash_simulation.specs.Simulation.{device_of}
use Rattle.flash_simulation.specs.declared.sim_flash.SimFlash.{SimFlash}
use Rattle.history_machine.specs.History.{Past, map_group, due_root}
use Rattle.history_machine.specs.Machine.{Machine, mounted, next}
use Rattle.working_state.specs.Seen.{tree_on}
use Rattle.system.specs.declared.systems.System.{System}
use Rattle.mounting.specs.Saved.{saved_trees}
use Rattle.undofs.specs.Runs.{World, Shows, Calls, Happens, Run}
use Rattle.undofs.specs.Sessions.{Session}
use Rattle.put_jobs.specs.Puts.{group_start, group_end, is_due, mark_all, clean_all, makes_directory, refused_by, stop_of, GoOn, Trims}
use Rattle.program_laws.specs.PutLaws.{IsPutEvent, SavesOnceLaw, PutsOnceLaw}
use Rattle.program_laws.proofs.PutEvents.{of_lots, of_input, of_removed, of_put}
use Rattle.program_laws.proofs.Worlds.{saved_is, mounted_at, accepted_shows, accepted_at, IsInside, begun_at, puts_at, IsOnce, saved_once, ended_once, ended_undue, synced, IsKept, reclaimed, cleaned}

-- a refusal ends a put, but that of a directory which is there
ends : (fault : Fault) → refused_by fault false ≡ None → ⊥
ends Fault.Exists e = None≢Some (sym e)
ends fault e = None≢Some (sym e)

-- a call that does not end it and makes no directory is carried out
done : (w v : World) (call : Call) (answer : Answer) → makes_directory call ≡ false → stop_of (Event.Call call) answer ≡ None → Happens w (Event.Call call) answer v → (reply : Reply) × Calls w call (Ok reply) v
done w v call (Answer.Done reply) other goes here = (reply, here)
done w v call (Answer.Refused fault) other goes here = absurd (ends fault (ap (refused_by fault) (sym other) ∙ goes))
done w v call Answer.Mounted other goes here = absurd here
done w v call Answer.Unmounted other goes here = absurd (None≢Some (sym goes))

-- ---- the group

-- the history that was saved before a group, and the machine that is shown in it
record IsGroup (start : SimFlash) (w : World) : Type 0 where
  history : Past Tree
  machine : Machine
  saved : saved_trees (device_of start) ≡ Some history
  inside : IsInside history machine w

grouped : (start : SimFlash) (events : List Event) (answers : List Answer) (w : World) → All IsPutEvent events → Session (device_of start) (group_start ++ events) (Answer.Mounted ∷ answers) w
    → GoOn (group_start ++ events) answers → IsGroup start w
grouped start events [] w are (h, at, saved, mounts, run) goes = absurd run
grouped start events (answer ∷ answers) w are (h, at, saved, mounts, (begun, here, rest)) goes =
    let first = done at begun Call.Begin answer refl goes.0 here in
    let inside = begun_at h (mounted h) at begun first.0 (mounted_at (device_of start) h at mounts) first.1 in
    let last = puts_at h (next (mounted h) Call.Begin) begun w events answers are inside rest in
    record { history = h; machine = last.0; saved = saved; inside = last.1 }

-- ---- its end

-- where no version is due in the group of a state, none is in that of its machine
undue_group : (f : ℕ → Tree) (g : Option (Group ℕ)) → is_some (due_root g) ≡ false → due_root (map_group f g) ≡ None
undue_group f None e = refl
undue_group f (Some g) e = by g.is_due e
  where
    by : (b : Bool) → is_some (cond b (Some g.root) None) ≡ false → cond b (Some (f g.root)) None ≡ None
    by true e = absurd (true≢false e)
    by false e = refl

undue : (w : World) (m : Machine) → Shows w m → is_due w.system ≡ false → due_root m.group ≡ None
undue w m (s, is, shows) e =
    let off : is_some (due_root s.state.group) ≡ false = ap (λ (o : Option System). is_due o) (sym is) ∙ e in
    ap (λ (x : Machine). due_root x.group) (sym shows) ∙ undue_group (tree_on w.device) s.state.group off

-- a trim leaves what is saved
trimmed : (h : Past Tree) (w v : World) (answers : List Answer) → IsKept h w → Run w (mark_all ∷ clean_all ∷ []) answers v → IsKept h v
trimmed h w v [] kept run = absurd run
trimmed h w v (first ∷ []) kept run = absurd run.2
trimmed h w v (first ∷ second ∷ []) kept (marked, here, (last, there, same)) =
    subst (IsKept h) (sym same) (cleaned h marked last _ second (reclaimed h w marked _ first kept here) there)
trimmed h w v (first ∷ second ∷ third ∷ more) kept run = absurd run.2.2

-- what is saved then is the history, or it changed once
record IsEnd (h : Past Tree) (left : World) : Type 0 where
  new : Past Tree
  once : IsOnce h new
  saved : saved_trees left.device ≡ Some new

ended : (h : Past Tree) (m : Machine) (w v left : World) (due : Bool) (answers : List Answer) → is_due w.system ≡ due → IsInside h m w → Run w (group_end due) answers v → GoOn (group_end due) answers
    → Trims due v left → IsEnd h left
ended h m w v left due [] is inside run goes trims = none due run
  where
    none : (due : Bool) → Run w (group_end due) [] v → IsEnd h left
    none true run = absurd run
    none false run = absurd run
ended h m w v left false (answer ∷ []) is inside (over, here, same) goes trims =
    let first = done w over Call.End answer refl goes.0 here in
    let ok = (accepted_shows m w over Call.End first.0 inside.0.shows first.1).0 in
    let keeps = ended_undue m ok (undue w m inside.0.shows is) ∙ inside.0.history in
    let at = accepted_at h m w over Call.End first.0 inside.0 first.1 keeps in
    record { new = h; once = inl refl; saved = subst (λ (x : World). saved_trees x.device ≡ Some h) (sym (trims ∙ same)) (saved_is h over at.finds first.1.saved) }
ended h m w v left false (answer ∷ second ∷ more) is inside run goes trims = absurd run.2
ended h m w v left true (answer ∷ []) is inside run goes trims = absurd run.2
ended h m w v left true (answer ∷ second ∷ []) is inside (over, here, (last, there, same)) goes (answers, trim) =
    let first = done w over Call.End answer refl goes.0 here in
    let then = accepted_shows m w over Call.End first.0 inside.0.shows first.1 in
    let commit = done over last Call.Sync second refl goes.1.0 there in
    let kept : IsKept (next m Call.End).history last = (synced (next m Call.End) over last commit.0 then.1 commit.1, commit.1.saved) in
    let end = trimmed (next m Call.End).history v left answers (subst (IsKept (next m Call.End).history) (sym same) kept) trim in
    record {
      new = (next m Call.End).history;
      once = subst (λ (x : Past Tree). IsOnce x (next m Call.End).history) inside.0.history (ended_once m then.0);
      saved = saved_is (next m Call.End).history left end.0 end.1;
    }
ended h m w v left true (answer ∷ second ∷ third ∷ more) is inside run goes trims = absurd run.2.2

-- ---- the laws

pub saves_once_law : SavesOnceLaw
saves_once_law start end events are (w, v, left, answers, group, run, goes, trims, is) =
    let begun = grouped start events group.answers w are group.run group.goes in
    let last = ended begun.history begun.machine w v left (is_due w.system) answers refl begun.inside run goes trims in
    (begun.history, begun.saved, saved_once begun.history last.new (device_of end) last.once (subst (λ (d : Device). saved_trees d ≡ Some last.new) is last.saved))

pub puts_once_law : PutsOnceLaw
puts_once_law = record {
  puts = λ image held base kept all start end put.
      let puts = put.2 in
      saves_once_law start end (put.0 ++ _) (of_put put.0 puts.0 (of_removed _ base kept put.0 put.1)) puts.3;
  creates = λ sizes limit held base all start end put. saves_once_law start end _ (of_lots put.0) put.3;
  unpacks = λ image things start end writes. saves_once_law start end _ (of_lots things) writes.1;
  writes = λ image path bytes start end writes. saves_once_law start end _ (of_input path bytes) writes.1;
}
