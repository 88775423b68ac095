-- Calls on the file system to which a history is copied.
use Rattle.std.proofs.Common.{◌≡◌, ◌∙◌, inr, ℕ, ◌+◌, ◌<◌, Some, None, List, [], ◌∷◌, ◌++◌, length, take, get_or, Result, Ok, Err, refl, sym, ap, subst}
use Rattle.std.proofs.lemmas.List.{take_more}
use Rattle.std.specs.Prelude.{OnOk, IfErr}
use Rattle.fs_types.specs.Names.{Path}
use Rattle.fs_types.specs.declared.call.Call.{Call}
use Rattle.fs_types.specs.declared.call.Reply.{Reply}
use Rattle.fs_types.specs.declared.fault.Fault.{Fault}
use Rattle.flash_model.specs.declared.flash.Flash.{Ghosts}
use Rattle.plain_trees.specs.Trees.{Tree}
use Rattle.history_machine.specs.History.{Past}
use Rattle.history_machine.specs.Machine.{Machine, machine_of, mounted, refusal, next, after}
use Rattle.mounting.specs.Saved.{saved_trees}
use Rattle.working_state.specs.Seen.{shown_on}
use Rattle.working_state.specs.Steps.{replied, empty}
use Rattle.system.specs.Steps.{TriesTwice}
use Rattle.tree_differences.specs.UpdateLaws.{EachAccepted}
use Rattle.tree_differences.proofs.Leading.{after-append}
use Rattle.undofs.proofs.RunLaws.{refused_keeps}
use Rattle.undofs.specs.Systems.{StepsBetween}
use Rattle.undofs.specs.declared.fs.Fs.{Fs}
use Rattle.inquiries.specs.Readings.{shown}
use Rattle.copies.specs.Calls.{Does, IsMove, Stops, StopsMoving}

-- ---- calls of a machine

pub does_none : (m : Machine) → Does m [] m
does_none m = record { accepted = tt; leads = refl }

accepted_both : (m : Machine) (xs ys : List Call) → EachAccepted m xs → EachAccepted (after m xs) ys → EachAccepted m (xs ++ ys)
accepted_both m [] ys first rest = rest
accepted_both m (x ∷ xs) ys first rest = (first.0, accepted_both (next m x) xs ys first.1 rest)

pub does_both : (m n k : Machine) (xs ys : List Call) → Does m xs n → Does n ys k → Does m (xs ++ ys) k
does_both m n k xs ys first second = record {
  accepted = accepted_both m xs ys first.accepted (subst (λ (x : Machine). EachAccepted x ys) first.leads second.accepted);
  leads = second.leads ∙ ap (λ (x : Machine). after x ys) first.leads ∙ sym (after-append m xs ys);
}

-- one call more of a list
pub does_more : (m n k : Machine) (calls : List Call) (i : ℕ) (call : Call) → i < length calls → call ≡ get_or calls i call → Does m (take i calls) n → Does n (call ∷ []) k → Does m (take (i + 1) calls) k
does_more m n k calls i call within at first one =
    subst (λ (cs : List Call). Does m cs k) (sym (take_more calls i call within ∙ ap (λ (c : Call). take i calls ++ c ∷ []) (sym at))) (does_both m n k (take i calls) (call ∷ []) first one)

-- what follows where a result is a success
pub on_ok : {T : Type 0} (result : Result T Fault) (P Q : Type 0) → (P → Q) → OnOk result P → OnOk result Q
on_ok (Ok x) P Q f p = f p
on_ok (Err fault) P Q f p = tt

-- what a call leaves of a machine at rest
pub moved : (m n : Machine) (h : Past Tree) (call : Call) → m ≡ mounted h → Does m (call ∷ []) n → n ≡ machine_of (mounted h) call None
moved m n h call rests done =
    let d : Does (mounted h) (call ∷ []) n = subst (λ (x : Machine). Does x (call ∷ []) n) rests done in
    d.leads ∙ ap (machine_of (mounted h) call) d.accepted.0

-- it is at rest then, too
pub still_rests : (m n : Machine) (call : Call) (h : Past Tree → Past Tree) → ((k : Past Tree) → machine_of (mounted k) call None ≡ mounted (h k)) → m ≡ mounted m.history → Does m (call ∷ []) n → n ≡ mounted n.history
still_rests m n call h leaves rests done =
    let is : n ≡ mounted (h m.history) = moved m n m.history call rests done ∙ leaves m.history in
    is ∙ sym (ap (λ (x : Machine). mounted x.history) is)

pub was_accepted : (m n : Machine) (call : Call) → Does m (call ∷ []) n → refusal m call ≡ None
was_accepted m n call done = done.accepted.0

-- ---- calls of a file system

module _ {G : Type 0} {flash : Ghosts G} where
  pub call_done : (before : Fs G flash) (call : Call) (reply : Reply) (left : Fs G flash) → StepsBetween before call (Ok reply) left → Does (shown before) (call ∷ []) (shown left)
  call_done before call reply left step = record { accepted = (step.step.answers.1.accepted, tt); leads = step.step.answers.1.leaves }

  pub call_stops : (before : Fs G flash) (call : Call) (fault : Fault) (left : Fs G flash) → StepsBetween before call (Err fault) left → Stops (shown before) (call ∷ []) (flash.device left.flash.now) fault
  call_stops before call fault left step =
      inr (record { made = []; call = call; rest = []; device = flash.device before.flash.now; system = before.system; later = left.system; are = refl; done = does_none (shown before); step = step.step })

  -- a call that is none of changes
  pub move_stops : (before : Fs G flash) (call : Call) (fault : Fault) (left : Fs G flash) → IsMove call → StepsBetween before call (Err fault) left → StopsMoving (flash.device left.flash.now) fault
  move_stops before call fault left is step = (shown before, call, is, call_stops before call fault left step)

  -- a refused call leaves the machine
  pub call_left : (before : Fs G flash) (call : Call) (fault : Fault) (left : Fs G flash) → StepsBetween before call (Err fault) left → shown left ≡ shown before
  call_left before call fault left step =
      refused_keeps (TriesTwice (flash.device before.flash.now) before.system call (Err fault) (flash.device left.flash.now) left.system) (shown_on (flash.device before.flash.now) before.system.state) call fault
      (shown_on (flash.device left.flash.now) left.system.state) step.step.answers

  -- a call that is the last one
  pub last_done : (before : Fs G flash) (call : Call) (result : Result (Unit {0}) Fault) (left : Fs G flash) → StepsBetween before call (replied empty result) left → OnOk result (Does (shown before) (call ∷ []) (shown left))
  last_done before call (Ok done) left step = call_done before call (empty done) left step
  last_done before call (Err fault) left step = tt

  pub last_stops : (before : Fs G flash) (call : Call) (result : Result (Unit {0}) Fault) (left : Fs G flash) → StepsBetween before call (replied empty result) left → IfErr result (Stops (shown before) (call ∷ []) (flash.device left.flash.now))
  last_stops before call (Ok done) left step = tt
  last_stops before call (Err fault) left step = call_stops before call fault left step

  pub last_move_stops : (before : Fs G flash) (call : Call) (result : Result (Unit {0}) Fault) (left : Fs G flash) → IsMove call → StepsBetween before call (replied empty result) left
      → IfErr result (StopsMoving (flash.device left.flash.now))
  last_move_stops before call (Ok done) left is step = tt
  last_move_stops before call (Err fault) left is step = move_stops before call fault left is step

  -- a sync saves the history that is shown
  pub synced : (before : Fs G flash) (result : Result (Unit {0}) Fault) (left : Fs G flash) → shown before ≡ mounted (shown before).history → StepsBetween before Call.Sync (replied empty result) left
      → OnOk result (saved_trees (flash.device left.flash.now) ≡ Some (shown left).history)
  synced before (Ok done) left rests step =
      step.step.after.synced refl
      ∙ ap (λ (m : Machine). Some m.history) (sym (moved (shown before) (shown left) (shown before).history Call.Sync rests (call_done before Call.Sync (empty done) left step)))
  synced before (Err fault) left rests step = tt

  -- a directory is made and removed
  pub touched : (before was made left : Fs G flash) (path : Path) (result : Result (Unit {0}) Fault) → shown was ≡ shown before → StepsBetween was (Call.Mkdir path) (Ok Reply.Empty) made
      → StepsBetween made (Call.Rmdir path) (replied empty result) left → OnOk result ((p : Path) × Does (shown before) (Call.Mkdir p ∷ Call.Rmdir p ∷ []) (shown left))
  touched before was made left path result same first second =
      on_ok result (Does (shown made) (Call.Rmdir path ∷ []) (shown left)) _
      (λ gone. (path, does_both (shown before) (shown made) (shown left) (Call.Mkdir path ∷ []) (Call.Rmdir path ∷ []) (subst (λ (m : Machine). Does m (Call.Mkdir path ∷ []) (shown made)) same (call_done was (Call.Mkdir path) Reply.Empty made first)) gone))
      (last_done made (Call.Rmdir path) result left second)
