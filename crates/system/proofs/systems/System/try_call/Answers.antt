use Rattle.std.proofs.Common.{rules}
use Rattle.fs_types.specs.Requests.{call_of}
use Rattle.system.proofs.StateSteps.{state_system, state_step}
use Rattle.system.proofs.systems.System.try_call.Goals.{in-Sync+in_ok-sync-in-Sync, in-Fsync+in_ok-fsync-in-Fsync}
use Rattle.system.proofs.systems.System.try_call.Goals as goal

pub returns-in_default : goal.returns-in_default
returns-in_default g c =
    let d = g.F.Flash.device c.args.flash.now in
    let e = g.F.Flash.device c.carry_out.new.flash in
    let before = c.requires in
    let step = c.carry_out.ensures.step in
    record {
      system = state_system d e c.args.self.now c.carry_out.new.self c.carry_out.new.bodies (call_of c.args.request) c.carry_out.result before step c.carry_out.ensures.mounted c.carry_out.ensures.known;
      step = state_step d e c.args.self.now c.carry_out.new.self c.carry_out.new.bodies (call_of c.args.request) c.carry_out.result before step (search rules) c.carry_out.ensures.stopped;
    }

pub returns-clause-step : goal.returns-clause-step
returns-clause-step g c = elim c.match-request.branch [
  | in-Sync+in_ok-sync-in-Sync w ↦ rw (w.self-is, w.flash-is) (search rules)
  | in-Fsync+in_ok-fsync-in-Fsync w ↦ rw (w.self-is, w.flash-is) (search rules)
]
