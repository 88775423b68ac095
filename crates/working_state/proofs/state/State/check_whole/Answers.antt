use Rattle.std.proofs.Common.{Err, length, sym, ap, subst, ◌∙◌}
use Rattle.std.proofs.lemmas.Bool.{lt-ltb, le-ltb}
use Rattle.std.proofs.lemmas.Result.{err_from_is_err_and}
use Rattle.fs_types.specs.declared.call.Call.{Call}
use Rattle.nodes.specs.Bodies.{Blocks}
use Rattle.directory.specs.Trails.{IsTrail}
use Rattle.working_state.specs.Moments.{Moment, moment}
use Rattle.working_state.specs.WholeFiles.{place_refusal}
use Rattle.working_state.proofs.Refusals.{at_refusal}
use Rattle.working_state.proofs.WholeFiles.{write_fault, write_refuses, size_refuses, write_accepted, write_takes}
use Rattle.working_state.proofs.Standing.{looked_at}
use Rattle.working_state.proofs.LookNodes.{stands_lead}
use Rattle.working_state.proofs.state.State.check_whole.Goals as goal

pub returns-in_err-found-clause-refused : goal.returns-in_err-found-clause-refused
returns-in_err-found-clause-refused g c =
    let p = err_from_is_err_and c.from_residual.result c.from_residual.ensures.1 in
    let look = c.in_err-found.ensures in
    let a : Moment = moment (g.F.Flash.device c.args.flash.now) c.args.self.now in
    let b : Moment = moment (g.F.Flash.device c.find_path.new.flash) (record c.args.self.now { storage = c.find_path.new.storage }) in
    at_refusal a b (Call.WriteFile c.args.path.now c.args.bytes.now) c.in_err-found.field-0.0 c.from_residual.result (p.1 ∙ ap Err p.2)
    (write_fault a b c.args.path.now c.args.bytes.now c.args.root c.in_err-found.field-0.0 c.requires.mounted c.requires.working look.refused look.why look.faults)

pub returns-in_err-check_place-clause-refused : goal.returns-in_err-check_place-clause-refused
returns-in_err-check_place-clause-refused g c =
    let p = err_from_is_err_and c.from_residual-in_err-check_place.result c.from_residual-in_err-check_place.ensures.1 in
    let a : Moment = moment (g.F.Flash.device c.args.flash.now) c.args.self.now in
    let b : Moment = moment (g.F.Flash.device c.find_path.new.flash) (record c.args.self.now { storage = c.find_path.new.storage }) in
    at_refusal a b (Call.WriteFile c.args.path.now c.args.bytes.now) c.in_err-check_place.field-0.0 c.from_residual-in_err-check_place.result (p.1 ∙ ap Err p.2)
    (write_refuses a b c.args.path.now c.args.bytes.now c.args.root c.in_ok-found.found c.in_err-check_place.field-0.0 c.requires.mounted c.requires.working c.in_ok-found.ensures.found
    (ap (λ z. place_refusal z c.in_ok-found.found) (sym c.is_open.ensures) ∙ c.in_err-check_place.ensures.err))

pub returns-clause-takes : goal.returns-clause-takes
returns-clause-takes g c = write_takes c.is_open.result c.in_ok-found.found c.in_ok-check_place.ensures.ok

pub returns-in_err-found-clause-looked : goal.returns-in_err-found-clause-looked
returns-in_err-found-clause-looked g c = looked_at (moment (g.F.Flash.device c.args.flash.now) c.args.self.now) (g.F.Flash.device c.find_path.new.flash) c.find_path.new.storage c.find_path.ensures.looked

pub returns-in_err-check_place-clause-looked : goal.returns-in_err-check_place-clause-looked
returns-in_err-check_place-clause-looked g c = looked_at (moment (g.F.Flash.device c.args.flash.now) c.args.self.now) (g.F.Flash.device c.find_path.new.flash) c.find_path.new.storage c.find_path.ensures.looked

pub returns-clause-looked : goal.returns-clause-looked
returns-clause-looked g c = looked_at (moment (g.F.Flash.device c.args.flash.now) c.args.self.now) (g.F.Flash.device c.find_path.new.flash) c.find_path.new.storage c.find_path.ensures.looked

pub returns-clause-way : goal.returns-clause-way
returns-clause-way g c =
    subst (λ (f : Blocks). IsTrail f c.args.root c.args.path.now c.in_ok-found.trail) (sym c.find_path.ensures.nodes)
    (c.in_ok-found.ensures.trail (stands_lead (moment (g.F.Flash.device c.args.flash.now) c.args.self.now) c.args.root c.requires.mounted c.requires.working))

pub returns-then-bytes-clause-refused : goal.returns-then-bytes-clause-refused
returns-then-bytes-clause-refused g c =
    let a : Moment = moment (g.F.Flash.device c.args.flash.now) c.args.self.now in
    let b : Moment = moment (g.F.Flash.device c.find_path.new.flash) (record c.args.self.now { storage = c.find_path.new.storage }) in
    size_refuses a b c.args.path.now c.args.bytes.now c.args.root c.in_ok-found.found c.requires.mounted c.requires.working c.in_ok-found.ensures.found
    (ap (λ z. place_refusal z c.in_ok-found.found) (sym c.is_open.ensures) ∙ c.in_ok-check_place.ensures.ok) (lt-ltb 16777216 (length c.args.bytes.now) c.if-bytes.true)

pub returns-clause-accepted : goal.returns-clause-accepted
returns-clause-accepted g c =
    let a : Moment = moment (g.F.Flash.device c.args.flash.now) c.args.self.now in
    write_accepted a c.args.path.now c.args.bytes.now c.args.root c.in_ok-found.found c.requires.mounted c.requires.working c.in_ok-found.ensures.found
    (ap (λ z. place_refusal z c.in_ok-found.found) (sym c.is_open.ensures) ∙ c.in_ok-check_place.ensures.ok) (le-ltb 16777216 (length c.args.bytes.now) c.if-bytes.false)
