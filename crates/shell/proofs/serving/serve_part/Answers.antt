use Rattle.std.proofs.Common.{◌≡◌, List, ℕ, Option, Some, Ok, Err, IfSome, inr, subst}
use Rattle.script_runs.specs.Scripts.{streams_at}
use Rattle.remote_flash.specs.Drivers.{driver_answers}
use Rattle.remote_flash.specs.Flashes.{told_device, driver_of}
use Rattle.remote_sessions.specs.Sessions.{SessionEnds}
use Rattle.shell.proofs.serving.serve_part.Goals as goal

pub returns-in-Ok-serve_script : goal.returns-in-Ok-serve_script
returns-in-Ok-serve_script g c =
    let before = streams_at (g.R.Read.remaining c.args.reader.now) (g.W.Write.contents c.args.out.now) in
    let after = streams_at (g.R.Read.remaining c.serve_script.new.reader) (g.W.Write.contents c.serve_script.new.writer) in
    let first = told_device c.in-Ok-start.flash in
    let last = told_device c.serve_script.new.flash in
    let told = g.F.Incoming.Read.remaining c.in-Ok.answers in
    record {
      told = told;
      known = subst (λ (name : List ℕ). IfSome (g.F.Channels.written c.args.files.now name) (λ (all : List ℕ). told ≡ Some all)) c.word_given.ensures c.in-Ok.ensures;
      first = first;
      fresh = c.in-Ok-start.ensures.ready;
      left = g.F.Incoming.Read.remaining (driver_answers (driver_of c.in-Ok-start.flash));
      shown = c.in-Ok-start.ensures.told;
      last = last;
      ends = subst (λ (history : Option ℕ). SessionEnds history first last before (Ok tt) after) c.history_given.ensures c.in-Ok-serve_script.ensures.ends;
    }

pub returns : goal.returns
returns g c =
    let before = streams_at (g.R.Read.remaining c.args.reader.now) (g.W.Write.contents c.args.out.now) in
    let after = streams_at (g.R.Read.remaining c.serve_script.new.reader) (g.W.Write.contents c.serve_script.new.writer) in
    let first = told_device c.in-Ok-start.flash in
    let last = told_device c.serve_script.new.flash in
    let fault = c.in-Err-serve_script.fault in
    let told = g.F.Incoming.Read.remaining c.in-Ok.answers in
    inr (
      fault,
      record {
        told = told;
        known = subst (λ (name : List ℕ). IfSome (g.F.Channels.written c.args.files.now name) (λ (all : List ℕ). told ≡ Some all)) c.word_given.ensures c.in-Ok.ensures;
        first = first;
        fresh = c.in-Ok-start.ensures.ready;
        left = g.F.Incoming.Read.remaining (driver_answers (driver_of c.in-Ok-start.flash));
        shown = c.in-Ok-start.ensures.told;
        last = last;
        ends = subst (λ (history : Option ℕ). SessionEnds history first last before (Err fault) after) c.history_given.ensures c.in-Err-serve_script.ensures.ends;
      },
      c.of_session.ensures,
    )
