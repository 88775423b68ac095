use Rattle.std.proofs.Common.{◌≡◌, Some, Err, sym, ap, subst, ◌∙◌}
use Rattle.std.proofs.lemmas.Result.{err_from_is_err_and}
use Rattle.fs_types.specs.declared.call.Call.{Call}
use Rattle.node_format.specs.declared.place.Place.TheVariants.{Dir}
use Rattle.nodes.specs.Trees.{leads}
use Rattle.node_store.specs.NodePages.{node_of}
use Rattle.directory.specs.Trails.{IsTrail}
use Rattle.tree_edits.specs.Edits.{IsMovable}
use Rattle.working_state.specs.Moments.{moment}
use Rattle.working_state.proofs.Refusals.{at_refusal}
use Rattle.working_state.proofs.RenameSteps.{place_refuses, same_accepts, move_accepts, move_refuses}
use Rattle.working_state.proofs.Standing.{same_working, looked_worked, looked_on, worked_mounted}
use Rattle.working_state.proofs.state.State.check_rename.Goals as goal

pub returns-in_err-place-clause-refused : goal.returns-in_err-place-clause-refused
returns-in_err-place-clause-refused g c =
    let p = err_from_is_err_and c.from_residual.result c.from_residual.ensures.1 in
    at_refusal (moment (g.F.Flash.device c.args.flash.now) c.args.self.now) (moment (g.F.Flash.device c.find_place.new.flash) c.find_place.new.self) (Call.Rename c.args.old.now c.args.new.now) c.in_err-place.field-0.0 c.from_residual.result (p.1 ∙ ap Err p.2)
    (place_refuses (moment (g.F.Flash.device c.args.flash.now) c.args.self.now) (moment (g.F.Flash.device c.find_place.new.flash) c.find_place.new.self) c.args.old.now c.args.new.now c.in_err-place.field-0.0 c.in_err-place.ensures.refused)

pub returns-then-eq-clause-movable : goal.returns-then-eq-clause-movable
returns-then-eq-clause-movable g c = sym c.eq.ensures ∙ c.if-eq.true

pub returns-then-eq-clause-accepted : goal.returns-then-eq-clause-accepted
returns-then-eq-clause-accepted g c = same_accepts (moment (g.F.Flash.device c.args.flash.now) c.args.self.now) c.args.old.now c.args.new.now c.in_ok-place.place c.in_ok-place.ensures.found (sym c.eq.ensures ∙ c.if-eq.true)

pub check_move-requires-clause-mounted : goal.check_move-requires-clause-mounted
check_move-requires-clause-mounted g c = worked_mounted _ _ c.requires.mounted (looked_worked _ _ c.find_place.ensures.looked)

pub check_move-requires-clause-working : goal.check_move-requires-clause-working
check_move-requires-clause-working g c = same_working _ _ c.find_place.ensures.looked.rest ∙ c.requires.working

pub check_move-requires-clause-differ : goal.check_move-requires-clause-differ
check_move-requires-clause-differ g c = sym c.eq.ensures ∙ c.if-eq.false

pub check_move-requires-clause-stands : goal.check_move-requires-clause-stands
check_move-requires-clause-stands g c = (
  subst (λ f. leads f (Dir c.args.root) c.args.old.now ≡ Some c.in_ok-place.place) (sym c.find_place.ensures.nodes) c.in_ok-place.ensures.stands,
  subst (λ f. IsTrail f c.args.root c.args.old.now c.in_ok-place.old_trail) (sym c.find_place.ensures.nodes) c.in_ok-place.ensures.way,
)

pub returns-in_err-new_trail-clause-looked : goal.returns-in_err-new_trail-clause-looked
returns-in_err-new_trail-clause-looked g c = looked_on _ _ _ c.find_place.ensures.looked c.check_move.ensures.looked

pub returns-in_err-new_trail-clause-refused : goal.returns-in_err-new_trail-clause-refused
returns-in_err-new_trail-clause-refused g c =
    let p = err_from_is_err_and c.from_residual-in_err-new_trail.result c.from_residual-in_err-new_trail.ensures.1 in
    at_refusal (moment (g.F.Flash.device c.args.flash.now) c.args.self.now) (moment (g.F.Flash.device c.check_move.new.flash) c.check_move.new.self) (Call.Rename c.args.old.now c.args.new.now) c.in_err-new_trail.field-0.0 c.from_residual-in_err-new_trail.result (p.1 ∙ ap Err p.2)
    (move_refuses (moment (g.F.Flash.device c.args.flash.now) c.args.self.now) (moment (g.F.Flash.device c.find_place.new.flash) c.find_place.new.self) c.args.old.now c.args.new.now c.in_ok-place.place c.requires.mounted c.find_place.ensures.looked c.in_ok-place.ensures.found
    (moment (g.F.Flash.device c.check_move.new.flash) c.check_move.new.self) c.in_err-new_trail.field-0.0 c.in_err-new_trail.ensures.refused)

pub returns-clause-looked : goal.returns-clause-looked
returns-clause-looked g c = looked_on _ _ _ c.find_place.ensures.looked c.check_move.ensures.looked

pub returns-clause-movable : goal.returns-clause-movable
returns-clause-movable g c =
    let n = node_of (g.F.Flash.device c.find_place.new.flash) in
    let old = c.args.old.now in
    let new = c.args.new.now in
    let found = c.in_ok-place.ensures in
    let ok = c.in_ok-new_trail.ensures in
    let movable : IsMovable n c.args.root old c.in_ok-place.old_trail new c.in_ok-new_trail.new_trail c.in_ok-place.place = record {
      lawful = ok.lawful;
      lawful_place = found.place;
      old_way = subst (λ f. IsTrail f c.args.root old c.in_ok-place.old_trail) (sym c.find_place.ensures.nodes) found.way;
      new_way = ok.way;
      stands = subst (λ f. leads f (Dir c.args.root) old ≡ Some c.in_ok-place.place) (sym c.find_place.ensures.nodes) found.stands;
      shallow = ok.shallow;
      room = ok.room;
    } in
    (sym c.eq.ensures ∙ c.if-eq.false, subst (λ f. IsMovable f c.args.root old c.in_ok-place.old_trail new c.in_ok-new_trail.new_trail c.in_ok-place.place) (sym c.check_move.ensures.nodes) movable)

pub returns-clause-accepted : goal.returns-clause-accepted
returns-clause-accepted g c =
    move_accepts (moment (g.F.Flash.device c.args.flash.now) c.args.self.now) (moment (g.F.Flash.device c.find_place.new.flash) c.find_place.new.self) c.args.old.now c.args.new.now c.in_ok-place.place c.requires.mounted c.find_place.ensures.looked c.in_ok-place.ensures.found
    c.in_ok-new_trail.ensures.accepted
