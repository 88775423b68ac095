use Rattle.std.proofs.Common.{Err, Ok, [], length, sym, ap, subst, ◌∙◌, inl, inr}
use Rattle.std.proofs.lemmas.Result.{err_from_is_err_and}
use Rattle.std.specs.Prelude.{unwrap_or}
use Rattle.nodes.specs.Bodies.{Blocks}
use Rattle.nodes.specs.Trees.{entries_in}
use Rattle.directory.specs.declared.lookups.Found.{Found}
use Rattle.directory.specs.Lookups.{look_up}
use Rattle.directory.specs.Trails.{IsTrail}
use Rattle.working_state.specs.Moments.{Moment, moment, seen_at}
use Rattle.working_state.proofs.LookNodes.{stands_lead}
use Rattle.working_state.proofs.ManyFiles.{begins, not_none, reads_refused, target_fault, target_refuses, at_target}
use Rattle.working_state.proofs.MovedEntries.{read_later}
use Rattle.working_state.proofs.PathCalls.{damaged_says}
use Rattle.working_state.proofs.Standing.{looked_at, looked_on, looked_worked, worked_mounted, worked_later}
use Rattle.working_state.proofs.state.State.find_target.Goals as goal

pub returns-in_err-found-clause-looked : goal.returns-in_err-found-clause-looked
returns-in_err-found-clause-looked g c = looked_at (moment (g.F.Flash.device c.args.flash.now) c.args.self.now) (g.F.Flash.device c.find_path.new.flash) c.find_path.new.storage c.find_path.ensures.looked

pub returns-in_err-found-clause-refused : goal.returns-in_err-found-clause-refused
returns-in_err-found-clause-refused g c =
    let p = err_from_is_err_and c.from_residual.result c.from_residual.ensures.1 in
    let a : Moment = moment (g.F.Flash.device c.args.flash.now) c.args.self.now in
    let b : Moment = moment (g.F.Flash.device c.find_path.new.flash) (record c.args.self.now { storage = c.find_path.new.storage }) in
    let look = c.in_err-found.ensures in
    at_target a b c.args.directory.now c.in_err-found.field-0.0 c.from_residual.result (p.1 ∙ ap Err p.2)
    (target_fault a b c.args.root c.args.directory.now c.in_err-found.field-0.0 c.requires.mounted c.requires.working look.refused look.why look.faults)

pub returns-in_err-block-clause-looked : goal.returns-in_err-block-clause-looked
returns-in_err-block-clause-looked g c = looked_at (moment (g.F.Flash.device c.args.flash.now) c.args.self.now) (g.F.Flash.device c.find_path.new.flash) c.find_path.new.storage c.find_path.ensures.looked

pub returns-in_err-block-clause-refused : goal.returns-in_err-block-clause-refused
returns-in_err-block-clause-refused g c =
    let p = err_from_is_err_and c.from_residual-in_err-block.result c.from_residual-in_err-block.ensures.1 in
    let a : Moment = moment (g.F.Flash.device c.args.flash.now) c.args.self.now in
    let b : Moment = moment (g.F.Flash.device c.find_path.new.flash) (record c.args.self.now { storage = c.find_path.new.storage }) in
    at_target a b c.args.directory.now c.in_err-block.field-0.0 c.from_residual-in_err-block.result (p.1 ∙ ap Err p.2)
    (λ file. inl (target_refuses a c.args.root c.args.directory.now c.in_ok-found.found c.in_err-block.field-0.0 c.requires.mounted c.requires.working c.in_ok-found.ensures.found c.in_err-block.ensures.err file))

pub count_in-requires : goal.count_in-requires
count_in-requires g c =
    let a : Moment = moment (g.F.Flash.device c.args.flash.now) c.args.self.now in
    let b : Moment = moment (g.F.Flash.device c.find_path.new.flash) (record c.args.self.now { storage = c.find_path.new.storage }) in
    worked_mounted a b c.requires.mounted (looked_worked a b (looked_at a (g.F.Flash.device c.find_path.new.flash) c.find_path.new.storage c.find_path.ensures.looked))

pub returns-in_err-count-clause-looked : goal.returns-in_err-count-clause-looked
returns-in_err-count-clause-looked g c =
    let a : Moment = moment (g.F.Flash.device c.args.flash.now) c.args.self.now in
    let b : Moment = moment (g.F.Flash.device c.find_path.new.flash) (record c.args.self.now { storage = c.find_path.new.storage }) in
    let d : Moment = moment (g.F.Flash.device c.count_in.new.flash) c.count_in.new.self in
    looked_on a b d (looked_at a (g.F.Flash.device c.find_path.new.flash) c.find_path.new.storage c.find_path.ensures.looked) c.count_in.ensures.looked

pub returns-in_err-count-clause-refused : goal.returns-in_err-count-clause-refused
returns-in_err-count-clause-refused g c =
    let p = err_from_is_err_and c.from_residual-in_err-count.result c.from_residual-in_err-count.ensures.1 in
    let a : Moment = moment (g.F.Flash.device c.args.flash.now) c.args.self.now in
    let b : Moment = moment (g.F.Flash.device c.find_path.new.flash) (record c.args.self.now { storage = c.find_path.new.storage }) in
    let d : Moment = moment (g.F.Flash.device c.count_in.new.flash) c.count_in.new.self in
    let fault = c.in_err-count.field-0.0 in
    let ends = c.in_err-count.ensures in
    let led = c.in_ok-found.ensures.found ∙ ap (λ (x : Found). Ok x) c.in_ok-block.ensures.ok in
    at_target a d c.args.directory.now fault c.from_residual-in_err-count.result (p.1 ∙ ap Err p.2)
    (λ file. inr (read_later (seen_at a) (seen_at b) (seen_at d) fault (worked_later a b (looked_worked a b (looked_at a (g.F.Flash.device c.find_path.new.flash) c.find_path.new.storage c.find_path.ensures.looked)))
    (reads_refused (seen_at b) (seen_at d) fault
    (λ is. not_none a c.args.root c.args.directory.now c.in_ok-block.block c.requires.mounted c.requires.working led (ap (λ (f : Blocks). entries_in f c.in_ok-block.block) (sym c.find_path.ensures.nodes) ∙ damaged_says fault ends.damaged is)) ends.why ends.faults)))

pub returns-clause-looked : goal.returns-clause-looked
returns-clause-looked g c =
    let a : Moment = moment (g.F.Flash.device c.args.flash.now) c.args.self.now in
    let b : Moment = moment (g.F.Flash.device c.find_path.new.flash) (record c.args.self.now { storage = c.find_path.new.storage }) in
    let d : Moment = moment (g.F.Flash.device c.count_in.new.flash) c.count_in.new.self in
    looked_on a b d (looked_at a (g.F.Flash.device c.find_path.new.flash) c.find_path.new.storage c.find_path.ensures.looked) c.count_in.ensures.looked

pub returns-clause-led : goal.returns-clause-led
returns-clause-led g c =
    (λ i. look_up (c.count_in.ensures.nodes i) c.args.root c.args.directory.now) ∙ (λ i. look_up (c.find_path.ensures.nodes i) c.args.root c.args.directory.now)
    ∙ c.in_ok-found.ensures.found ∙ ap (λ (x : Found). Ok x) c.in_ok-block.ensures.ok

pub returns-clause-way : goal.returns-clause-way
returns-clause-way g c =
    subst (λ (f : Blocks). IsTrail f c.args.root c.args.directory.now c.in_ok-found.trail) (sym (c.count_in.ensures.nodes ∙ c.find_path.ensures.nodes))
    (c.in_ok-found.ensures.trail (stands_lead (moment (g.F.Flash.device c.args.flash.now) c.args.self.now) c.args.root c.requires.mounted c.requires.working))

pub returns-clause-counted : goal.returns-clause-counted
returns-clause-counted g c =
    let a : Moment = moment (g.F.Flash.device c.args.flash.now) c.args.self.now in
    let led = c.in_ok-found.ensures.found ∙ ap (λ (x : Found). Ok x) c.in_ok-block.ensures.ok in
    let whole = begins a c.args.root c.args.directory.now c.in_ok-block.block c.requires.mounted c.requires.working led in
    let here = ap (λ (f : Blocks). entries_in f c.in_ok-block.block) c.find_path.ensures.nodes ∙ whole.1 in
    let later = ap (λ (f : Blocks). entries_in f c.in_ok-block.block) c.count_in.ensures.nodes ∙ here in
    ap (λ o. length (unwrap_or o [])) later ∙ sym (c.in_ok-count.ensures.count whole.0 here)
