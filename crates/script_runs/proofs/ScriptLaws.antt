-- Lines that were carried out are a session of the events that they ask for.
use Rattle.std.proofs.Common.{ℕ, List, [], ◌∷◌, ◌++◌, Option, Some, None, refl, ap}
use Rattle.fs_types.specs.declared.event.Event.{Event}
use Rattle.fs_types.specs.declared.event.Answer.{Answer}
use Rattle.script.specs.Lines.{line_of}
use Rattle.script.specs.declared.line.Line.{Line}
use Rattle.script.specs.declared.line_answer.LineAnswer.{LineAnswer}
use Rattle.undofs.specs.Runs.{World, Run}
use Rattle.fs_types.specs.declared.ask.Ask.{Ask}
use Rattle.undofs.proofs.AskedRuns.{run_on}
use Rattle.script_runs.specs.Scripts.{Scene, ask_of, RepliesBy, CarriesOut, LineAsked, AreAsked, ScriptLaw}

-- what was asked of a world, and the answers, up to another one
record Asked (lines : List (List ℕ)) (replies : List LineAnswer) (w v : World) : Type 0 where
  pub events : List Event
  pub answers : List Answer
  pub asked : AreAsked lines replies events answers
  pub run : Run w events answers v

-- one line
record OneAsked (ask : Option Ask) (answer : LineAnswer) (w v : World) : Type 0 where
  pub events : List Event
  pub answers : List Answer
  pub asked : LineAsked ask answer events answers
  pub run : Run w events answers v

one_asked : (ask : Option Ask) (line : Line) (s : Scene) (answer : LineAnswer) (t : Scene) → RepliesBy ask line s answer t → OneAsked ask answer s.world t.world
one_asked None line s answer t h = record { events = []; answers = []; asked = (refl, refl); run = h.0 }
one_asked (Some ask) line s answer t (told, happens, tells, plan) =
    record { events = happens.events; answers = happens.answers; asked = (t.world.system, told, tells, happens.asked); run = happens.run }

runs : (s t : Scene) (lines : List (List ℕ)) (replies : List LineAnswer) → CarriesOut s lines replies t → Asked lines replies s.world t.world
runs s t [] [] h = record { events = []; answers = []; asked = (refl, refl); run = ap (λ (x : Scene). x.world) h }
runs s t [] (reply ∷ replies) h = absurd h
runs s t (line ∷ lines) [] h = absurd h
runs s t (line ∷ lines) (reply ∷ replies) (between, here, rest) =
    let own = one_asked (ask_of (line_of line)) (line_of line) s reply between here in
    let later = runs between t lines replies rest in
    record {
      events = own.events ++ later.events;
      answers = own.answers ++ later.answers;
      asked = (own.events, own.answers, later.events, later.answers, refl, refl, own.asked, later.asked);
      run = run_on s.world between.world t.world own.events own.answers later.events later.answers own.run later.run;
    }

pub script_law : ScriptLaw
script_law start end lines replies session =
    let all = runs session.first session.last lines replies session.carried in
    (session.last.world, all.events, all.answers, all.asked, (session.history, session.first.world, session.saved, session.mounts, all.run), session.ends)
