use Rattle.std.proofs.Common.{Ok, Err, refl, ap, ◌∙◌, sym, subst}
use Rattle.std.proofs.lemmas.Result.{err_from_is_err_and}
use Rattle.fs_types.specs.declared.call.Call.{Call}
use Rattle.fs_types.specs.declared.call.Reply.{Reply}
use Rattle.plain_trees.specs.Trees.{Tree, bytes_of_file}
use Rattle.working_state.specs.Looking.{AsksForRange, LooksOnce, look_nodes}
use Rattle.working_state.specs.Moments.{Moment, moment, machine_at}
use Rattle.working_state.specs.Reading.{refuse_directory}
use Rattle.working_state.specs.Worked.{IsLooked}
use Rattle.working_state.proofs.ChangedCalls.{mounted_ready}
use Rattle.working_state.proofs.FileChanges.{looked_itself}
use Rattle.working_state.proofs.FileReads.{ReadsFile, view_reads, read_step}
use Rattle.working_state.proofs.Looks.{asks_none}
use Rattle.working_state.proofs.OpenCalls.{at_answer}
use Rattle.working_state.proofs.Refusals.{looked_answer, refused_step}
use Rattle.working_state.proofs.Standing.{worked_itself, looked_at}
use Rattle.working_state.proofs.Views.{Shows, view_refuses, view_stands, view_tree_is}
use Rattle.working_state.proofs.state.State.read_view.Goals as goal
use Rattle.working_state.proofs.state.State.read_view.Goals.{After-read_below}
use Rattle.working_state.proofs.state.State.read_view.Given.{Over}

pub returns-in_err-root : goal.returns-in_err-root
returns-in_err-root g c =
    let p = err_from_is_err_and c.from_residual.result c.from_residual.ensures.1 in
    let d = g.F.Flash.device c.args.flash.now in
    let a : Moment = moment d c.args.self.now in
    let call = Call.ReadAt c.args.view.now c.args.path.now c.args.offset c.args.count in
    at_answer Reply.Bytes a a call c.in_err-root.field-0.0 c.from_residual.result (p.1 ∙ ap Err p.2)
    (looked_answer a a call _ c.requires refl (looked_itself a) (λ most is. asks_none d most)
    (refused_step a a call _ c.requires (worked_itself a) (view_refuses a c.args.view.now c.args.path.now call refuse_directory refl _ c.in_err-root.ensures)))

pub read_below-requires-clause-ready : goal.read_below-requires-clause-ready
read_below-requires-clause-ready g c = mounted_ready (moment (g.F.Flash.device c.args.flash.now) c.args.self.now) c.requires

pub read_below-requires-clause-rooted : goal.read_below-requires-clause-rooted
read_below-requires-clause-rooted g c =
    let shown = c.in_ok-root.ensures in
    (view_stands (moment (g.F.Flash.device c.args.flash.now) c.args.self.now) c.args.view.now c.in_ok-root.root c.requires (record { fine = shown.0; shown = shown.1 })).rooted

module _ (g : Over) (c : After-read_below g) where
  abbrev before : Moment
  before = moment (g.F.Flash.device c.args.flash.now) c.args.self.now

  abbrev after : Moment
  after = moment (g.F.Flash.device c.read_below.new.flash) (record c.args.self.now { storage = c.read_below.new.storage })

  abbrev call : Call
  call = Call.ReadAt c.args.view.now c.args.path.now c.args.offset c.args.count

  shows : Shows before.state.history before.state.group c.args.view.now c.in_ok-root.root
  shows = record { fine = c.in_ok-root.ensures.0; shown = c.in_ok-root.ensures.1 }

  looked : IsLooked before after
  looked = looked_at before (g.F.Flash.device c.read_below.new.flash) c.read_below.new.storage c.read_below.ensures.looked

  asks : LooksOnce (machine_at before) call before.device after.device
  asks = subst (λ (t : Tree). AsksForRange before.device (look_nodes t c.args.path.now) (bytes_of_file t c.args.path.now) c.args.offset c.args.count after.device)
      (sym (view_tree_is before c.args.view.now c.in_ok-root.root shows)) c.read_below.ensures.asks

  reads : ReadsFile before call c.in_ok-root.root c.args.path.now c.args.offset c.args.count
  reads = view_reads before c.args.view.now c.args.path.now c.args.offset c.args.count c.in_ok-root.root c.requires shows

pub read_below-requires-clause-known : goal.read_below-requires-clause-known
read_below-requires-clause-known g c = λ known none. absurd cc

pub returns-in_err-bytes : goal.returns-in_err-bytes
returns-in_err-bytes g c =
    let t = (goal.at.returns-in_err-bytes g c).After-read_below in
    let p = err_from_is_err_and c.from_residual-in_err-bytes.result c.from_residual-in_err-bytes.ensures.1 in
    let fault = c.in_err-bytes.field-0.0 in
    at_answer Reply.Bytes (before g t) (after g t) (call g t) fault c.from_residual-in_err-bytes.result (p.1 ∙ ap Err p.2)
    (looked_answer (before g t) (after g t) (call g t) (Err fault) c.requires refl (looked g t) (asks g t)
    (read_step (before g t) (after g t) (call g t) c.in_ok-root.root c.args.path.now c.args.offset c.args.count (Err fault) c.requires (looked g t) (reads g t) tt c.in_err-bytes.ensures.refused c.in_err-bytes.ensures.why))

pub returns : goal.returns
returns g c =
    let t = (goal.at.returns g c).After-read_below in
    looked_answer (before g t) (after g t) (call g t) (Ok (Reply.Bytes c.in_ok-bytes.bytes)) c.requires refl (looked g t) (asks g t)
    (read_step (before g t) (after g t) (call g t) c.in_ok-root.root c.args.path.now c.args.offset c.args.count (Ok c.in_ok-bytes.bytes) c.requires (looked g t) (reads g t) c.in_ok-bytes.ensures.read tt tt)
