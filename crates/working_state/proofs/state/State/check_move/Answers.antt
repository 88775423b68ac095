use Rattle.std.proofs.Common.{true, false, Some, None, Err, sym, ap, ◌∙◌, inl, inr}
use Rattle.std.proofs.lemmas.Bool.{and_parts}
use Rattle.std.proofs.lemmas.Result.{err_from_is_err_and}
use Rattle.fs_types.specs.Names.{is_path}
use Rattle.history_machine.specs.Machine.{working_tree}
use Rattle.node_format.specs.declared.place.Place.TheVariants.{Dir}
use Rattle.node_store.specs.NodePages.{node_of}
use Rattle.nodes.specs.Bodies.{Blocks}
use Rattle.nodes.specs.Trees.{leads}
use Rattle.working_state.specs.Moments.{moment, machine_at, seen_at}
use Rattle.working_state.proofs.ChangeSteps.{path_within}
use Rattle.working_state.proofs.MovedEntries.{of_fault, MoveRefused, move_below, move_target, move_then, is_deep, is_shallow, deeper_before, shallow_before, busy_before, deep_refuses, busy_refuses, moves_by, move_room, room_is, read_later}
use Rattle.working_state.proofs.Standing.{same_working, looked_worked, worked_mounted, worked_later, looked_on}
use Rattle.working_state.proofs.FileChanges.{looked_itself}
use Rattle.working_state.proofs.state.State.check_move.Goals as goal

pub returns-in_err-check_beyond-clause-refused : goal.returns-in_err-check_beyond-clause-refused
returns-in_err-check_beyond-clause-refused g c =
    let p = err_from_is_err_and c.from_residual.result c.from_residual.ensures.1 in
    of_fault (MoveRefused (moment (g.F.Flash.device c.args.flash.now) c.args.self.now) (moment (g.F.Flash.device c.args.flash.now) c.args.self.now) c.args.old.now c.args.new.now c.args.place) c.in_err-check_beyond.field-0.0 c.from_residual.result (p.1 ∙ ap Err p.2)
    (move_below (moment (g.F.Flash.device c.args.flash.now) c.args.self.now) c.args.old.now c.args.new.now c.args.place _ c.requires.differ c.is_dir-moves_directory.ensures (moment (g.F.Flash.device c.args.flash.now) c.args.self.now) c.in_err-check_beyond.field-0.0 c.in_err-check_beyond.ensures.err)

pub returns-in_err-lacks_room-clause-refused : goal.returns-in_err-lacks_room-clause-refused
returns-in_err-lacks_room-clause-refused g c =
    let p = err_from_is_err_and c.from_residual-in_err-lacks_room.result c.from_residual-in_err-lacks_room.ensures.1 in
    of_fault (MoveRefused (moment (g.F.Flash.device c.args.flash.now) c.args.self.now) (moment (g.F.Flash.device c.check_target.new.flash) c.check_target.new.self) c.args.old.now c.args.new.now c.args.place) c.in_err-lacks_room.field-0.0 c.from_residual-in_err-lacks_room.result (p.1 ∙ ap Err p.2)
    (move_target (moment (g.F.Flash.device c.args.flash.now) c.args.self.now) c.args.old.now c.args.new.now c.args.place _ c.requires.differ c.is_dir-moves_directory.ensures (moment (g.F.Flash.device c.check_target.new.flash) c.check_target.new.self) c.in_err-lacks_room.field-0.0
    c.in_ok-check_beyond.ensures.ok c.in_err-lacks_room.ensures.refused)

pub check_depth-requires-clause-mounted : goal.check_depth-requires-clause-mounted
check_depth-requires-clause-mounted g c = worked_mounted _ _ c.requires.mounted (looked_worked _ _ c.check_target.ensures.looked)

pub check_depth-requires-clause-working : goal.check_depth-requires-clause-working
check_depth-requires-clause-working g c = same_working _ _ c.check_target.ensures.looked.rest ∙ c.requires.working

pub check_target-requires-clause-way : goal.check_target-requires-clause-way
check_target-requires-clause-way g c = c.requires.stands.1

pub check_depth-requires-clause-stands : goal.check_depth-requires-clause-stands
check_depth-requires-clause-stands g c = ap (λ (f : Blocks). leads f (Dir c.args.root) c.args.old.now) c.check_target.ensures.nodes ∙ c.requires.stands.0

pub returns-in_err-check_depth-clause-refused : goal.returns-in_err-check_depth-clause-refused
returns-in_err-check_depth-clause-refused g c =
    let p = err_from_is_err_and c.from_residual-in_err-check_depth.result c.from_residual-in_err-check_depth.ensures.1 in
    let lawful = and_parts (is_path c.args.old.now) (is_path c.args.new.now) c.in_ok-check_beyond.ensures.lawful in
    let fault = c.in_err-check_depth.field-0.0 in
    of_fault (MoveRefused (moment (g.F.Flash.device c.args.flash.now) c.args.self.now) (moment (g.F.Flash.device c.check_depth.new.flash) c.check_depth.new.self) c.args.old.now c.args.new.now c.args.place) c.in_err-check_depth.field-0.0 c.from_residual-in_err-check_depth.result (p.1 ∙ ap Err p.2)
    (elim c.in_err-check_depth.ensures.refused [
      | inl told ↦ inl (λ entry kind. move_then (moment (g.F.Flash.device c.args.flash.now) c.args.self.now) c.args.old.now c.args.new.now c.args.place _ c.requires.differ c.is_dir-moves_directory.ensures (Some fault) c.in_ok-check_beyond.ensures.ok c.in_ok-lacks_room.ensures.allowed
          (deep_refuses (machine_at (moment (g.F.Flash.device c.args.flash.now) c.args.self.now)) c.args.old.now c.args.new.now
          (is_deep (moment (g.F.Flash.device c.args.flash.now) c.args.self.now) c.args.root c.args.old.now c.args.new.now c.args.place c.requires.mounted c.requires.working c.requires.stands.0 (path_within c.args.new.now lawful.1)
          (deeper_before (node_of (g.F.Flash.device c.args.flash.now)) (node_of (g.F.Flash.device c.check_target.new.flash)) c.args.place _ c.check_target.ensures.nodes told.1))
          ∙ ap Some (sym told.0)) entry kind)
      | inr why ↦ inr (read_later (seen_at (moment (g.F.Flash.device c.args.flash.now) c.args.self.now)) (seen_at (moment (g.F.Flash.device c.check_target.new.flash) c.check_target.new.self)) (seen_at (moment (g.F.Flash.device c.check_depth.new.flash) c.check_depth.new.self)) fault
          (worked_later _ _ (looked_worked _ _ c.check_target.ensures.looked)) why)
    ])

pub returns-in_err-check_closed-clause-refused : goal.returns-in_err-check_closed-clause-refused
returns-in_err-check_closed-clause-refused g c =
    let p = err_from_is_err_and c.from_residual-in_err-check_closed.result c.from_residual-in_err-check_closed.ensures.1 in
    let lawful = and_parts (is_path c.args.old.now) (is_path c.args.new.now) c.in_ok-check_beyond.ensures.lawful in
    let told = c.in_err-check_closed.ensures.err in
    of_fault (MoveRefused (moment (g.F.Flash.device c.args.flash.now) c.args.self.now) (moment (g.F.Flash.device c.check_depth.new.flash) c.check_depth.new.self) c.args.old.now c.args.new.now c.args.place) c.in_err-check_closed.field-0.0 c.from_residual-in_err-check_closed.result (p.1 ∙ ap Err p.2)
    (inl (move_then (moment (g.F.Flash.device c.args.flash.now) c.args.self.now) c.args.old.now c.args.new.now c.args.place _ c.requires.differ c.is_dir-moves_directory.ensures (Some c.in_err-check_closed.field-0.0) c.in_ok-check_beyond.ensures.ok c.in_ok-lacks_room.ensures.allowed
    (busy_refuses (machine_at (moment (g.F.Flash.device c.args.flash.now) c.args.self.now)) c.args.old.now c.args.new.now
    (is_shallow (moment (g.F.Flash.device c.args.flash.now) c.args.self.now) c.args.root c.args.old.now c.args.new.now c.args.place c.requires.mounted c.requires.working c.requires.stands.0 (path_within c.args.new.now lawful.1)
    (shallow_before (node_of (g.F.Flash.device c.args.flash.now)) (node_of (g.F.Flash.device c.check_target.new.flash)) c.args.place _ c.check_target.ensures.nodes c.in_ok-check_depth.ensures.shallow))
    (busy_before c.args.self.now c.check_depth.new.self c.args.old.now c.args.new.now true (c.check_depth.ensures.looked.rest.files ∙ c.check_target.ensures.looked.rest.files) told.1)
    ∙ ap Some (sym told.0))))

pub returns-in_err-check_room-clause-refused : goal.returns-in_err-check_room-clause-refused
returns-in_err-check_room-clause-refused g c =
    let p = err_from_is_err_and c.from_residual-in_err-check_room.result c.from_residual-in_err-check_room.ensures.1 in
    let lawful = and_parts (is_path c.args.old.now) (is_path c.args.new.now) c.in_ok-check_beyond.ensures.lawful in
    let told = c.in_err-check_room.ensures.err in
    of_fault (MoveRefused (moment (g.F.Flash.device c.args.flash.now) c.args.self.now) (moment (g.F.Flash.device c.check_depth.new.flash) c.check_depth.new.self) c.args.old.now c.args.new.now c.args.place) c.in_err-check_room.field-0.0 c.from_residual-in_err-check_room.result (p.1 ∙ ap Err p.2)
    (inl (move_then (moment (g.F.Flash.device c.args.flash.now) c.args.self.now) c.args.old.now c.args.new.now c.args.place _ c.requires.differ c.is_dir-moves_directory.ensures (Some c.in_err-check_room.field-0.0) c.in_ok-check_beyond.ensures.ok c.in_ok-lacks_room.ensures.allowed
    (moves_by (machine_at (moment (g.F.Flash.device c.args.flash.now) c.args.self.now)) c.args.old.now c.args.new.now false false true
    (is_shallow (moment (g.F.Flash.device c.args.flash.now) c.args.self.now) c.args.root c.args.old.now c.args.new.now c.args.place c.requires.mounted c.requires.working c.requires.stands.0 (path_within c.args.new.now lawful.1)
    (shallow_before (node_of (g.F.Flash.device c.args.flash.now)) (node_of (g.F.Flash.device c.check_target.new.flash)) c.args.place _ c.check_target.ensures.nodes c.in_ok-check_depth.ensures.shallow))
    (busy_before c.args.self.now c.check_depth.new.self c.args.old.now c.args.new.now false (c.check_depth.ensures.looked.rest.files ∙ c.check_target.ensures.looked.rest.files) c.in_ok-check_closed.ensures.ok)
    (room_is (working_tree (machine_at (moment (g.F.Flash.device c.args.flash.now) c.args.self.now))) c.args.old.now c.args.new.now _ _ c.in_ok-lacks_room.ensures.room told.1)
    ∙ ap Some (sym told.0))))

pub returns-clause-accepted : goal.returns-clause-accepted
returns-clause-accepted g c =
    let lawful = and_parts (is_path c.args.old.now) (is_path c.args.new.now) c.in_ok-check_beyond.ensures.lawful in
    move_then (moment (g.F.Flash.device c.args.flash.now) c.args.self.now) c.args.old.now c.args.new.now c.args.place _ c.requires.differ c.is_dir-moves_directory.ensures None c.in_ok-check_beyond.ensures.ok c.in_ok-lacks_room.ensures.allowed
    (moves_by (machine_at (moment (g.F.Flash.device c.args.flash.now) c.args.self.now)) c.args.old.now c.args.new.now false false false
    (is_shallow (moment (g.F.Flash.device c.args.flash.now) c.args.self.now) c.args.root c.args.old.now c.args.new.now c.args.place c.requires.mounted c.requires.working c.requires.stands.0 (path_within c.args.new.now lawful.1)
    (shallow_before (node_of (g.F.Flash.device c.args.flash.now)) (node_of (g.F.Flash.device c.check_target.new.flash)) c.args.place _ c.check_target.ensures.nodes c.in_ok-check_depth.ensures.shallow))
    (busy_before c.args.self.now c.check_depth.new.self c.args.old.now c.args.new.now false (c.check_depth.ensures.looked.rest.files ∙ c.check_target.ensures.looked.rest.files) c.in_ok-check_closed.ensures.ok)
    (room_is (working_tree (machine_at (moment (g.F.Flash.device c.args.flash.now) c.args.self.now))) c.args.old.now c.args.new.now _ _ c.in_ok-lacks_room.ensures.room c.in_ok-check_room.ensures.ok))

pub returns-clause-shallow : goal.returns-clause-shallow
returns-clause-shallow g c =
    shallow_before (node_of (g.F.Flash.device c.args.flash.now)) (node_of (g.F.Flash.device c.check_target.new.flash)) c.args.place _ c.check_target.ensures.nodes c.in_ok-check_depth.ensures.shallow

pub returns-clause-room : goal.returns-clause-room
returns-clause-room g c =
    move_room (node_of (g.F.Flash.device c.args.flash.now)) c.args.root c.args.old.now c.args.new.now _ c.in_ok-check_room.ensures.ok c.in_ok-lacks_room.ensures.fits

pub returns-in_err-check_beyond-clause-looked : goal.returns-in_err-check_beyond-clause-looked
returns-in_err-check_beyond-clause-looked g c = looked_itself (moment (g.F.Flash.device c.args.flash.now) c.args.self.now)

pub returns-in_err-lacks_room-clause-looked : goal.returns-in_err-lacks_room-clause-looked
returns-in_err-lacks_room-clause-looked g c = c.check_target.ensures.looked

pub returns-in_err-check_depth-clause-looked : goal.returns-in_err-check_depth-clause-looked
returns-in_err-check_depth-clause-looked g c = looked_on _ _ _ c.check_target.ensures.looked c.check_depth.ensures.looked

pub returns-in_err-check_closed-clause-looked : goal.returns-in_err-check_closed-clause-looked
returns-in_err-check_closed-clause-looked g c = looked_on _ _ _ c.check_target.ensures.looked c.check_depth.ensures.looked

pub returns-in_err-check_room-clause-looked : goal.returns-in_err-check_room-clause-looked
returns-in_err-check_room-clause-looked g c = looked_on _ _ _ c.check_target.ensures.looked c.check_depth.ensures.looked

pub returns-clause-looked : goal.returns-clause-looked
returns-clause-looked g c = looked_on _ _ _ c.check_target.ensures.looked c.check_depth.ensures.looked
