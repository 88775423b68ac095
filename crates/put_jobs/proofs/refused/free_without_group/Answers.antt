use Rattle.fs_types.specs.declared.call.Call.{Call}
use Rattle.fs_types.specs.declared.call.Reply.{Reply}
use Rattle.fs_types.specs.declared.event.Answer.{Answer}
use Rattle.fs_types.specs.declared.event.Event.{Event}
use Rattle.std.proofs.Common.{subst}
use Rattle.flash_simulation.specs.Simulation.{device_of}
use Rattle.put_jobs.specs.Served.{Place, Turns, place}
use Rattle.put_jobs.proofs.refused.free_without_group.Goals as goal

pub returns-in-Done-Df-clause-told : goal.returns-in-Done-Df-clause-told
returns-in-Done-Df-clause-told c =
    let between : Place = record { device = device_of c.serve-left.new.flash; system = c.serve-left.new.system } in
    let left : Place = record { device = device_of c.serve.new.flash; system = c.serve.new.system } in
    let told : Turns between (Event.Call Call.Df) (Answer.Done (Reply.Df c.in-Done-Df.field-0-0 c.in-Done-Df.field-0-1 c.in-Done-Df.free c.in-Done-Df.field-0-3)) left =
    subst (λ (reply : Reply). Turns between (Event.Call Call.Df) (Answer.Done reply) left) c.in-Done-Df.field-0-is c.in-Done-Df.ensures.serves in
    (c.serve-left.result, between, c.in-Done-Df.field-0-0, c.in-Done-Df.field-0-1, c.in-Done-Df.field-0-3, c.serve-left.ensures.serves, told)
