-- Turns of a script, one after the other.
use Rattle.std.proofs.Common.{◌≡◌, ◌+◌, ℕ, Bool, true, false, IsTrue, List, [], ◌∷◌, ◌++◌, take, length, Option, Some, None, Result, Ok, Err, if◌then◌else◌, inl, inr, refl, sym, ap, ◌∙◌, subst, append-nil, append_assoc, arith, true≢false}
use Rattle.std.proofs.KnownBytes.{Appends-nil, Appends-trans, Consumes-nil}
use Rattle.std.specs.Io.KnownBytes.{Appends}
use Rattle.history_machine.specs.History.{Past}
use Rattle.plain_trees.specs.Trees.{Tree}
use Rattle.fs_types.specs.declared.fault.Fault.{Fault}
use Rattle.flash_model.specs.Reading.{OnlyReads}
use Rattle.script.specs.Lines.{line_of}
use Rattle.script.specs.declared.line.Line.{Line}
use Rattle.script.specs.declared.line_answer.LineAnswer.{LineAnswer}
use Rattle.system.specs.Mounts.{IsMountOf}
use Rattle.system.specs.Systems.{IsSystem}
use Rattle.system.specs.declared.systems.System.{System}
use Rattle.undofs.specs.Sessions.{Stands, world}
use Rattle.fs_types.specs.declared.ask.Ask.{Ask}
use Rattle.undofs.proofs.AskedRuns.{ask_law}
use Rattle.undofs.proofs.SessionSteps.{mount_begins}
use Rattle.script_runs.specs.Plans.{PlanGoesOn}
use Rattle.script_runs.specs.Scripts.{Scene, ask_of, RepliesBy, Replies, CarriesOut, Ground, IsRefusedOn, SessionOn, answer_text, answer_texts, HasTaken, streams_at, EndsBy, EndsOnFlash, EndsOrStops, ScriptEndsOn, AreAccepted, AreAcceptedBefore, refusal_of}
use Rattle.script_runs.specs.Turns.{Gets, Seat, seat_at, world_at, scene_at, DoesBy, Does, Writes, Carried, LinesEnd}
use Rattle.script_runs.specs.declared.scripts.Refusal.{Refusal}
use Rattle.script_runs.specs.declared.scripts.ScriptFault.{ScriptFault}
use Rattle.script_runs.specs.declared.scripts.Stop.{Stop}
use Rattle.script_runs.proofs.TakenLines.{taken_all, taken_more}

-- what a line does to a flash and what is mounted on it, it does to each world that has these
replies_by : (e : Option Ask) (line : Line) (s : Seat) (answer : LineAnswer) (t : Seat) → DoesBy e line s answer t → (found : List (Past Tree)) → Stands (world_at s found)
    → (more : List (Past Tree)) × RepliesBy e line (scene_at s found) answer (scene_at t more) × Stands (world_at t more)
replies_by None line s answer t (device, system, told) found stands =
    let same : world_at t found ≡ world_at s found = λ i. world (device i) (system i) found in
    (found, (same, told), subst Stands (sym same) stands)
replies_by (Some ask) line s answer t (told, serves, tells, plan) found stands =
    let so = ask_law s.device t.device s.system t.system ask told found serves stands in
    (so.0, (told, so.1, tells, plan), so.2)

carries_more : (s : Scene) (lines : List (List ℕ)) (answers : List LineAnswer) (t : Scene) (line : List ℕ) (answer : LineAnswer) (u : Scene)
    → CarriesOut s lines answers t → Replies (line_of line) t answer u → CarriesOut s (lines ++ line ∷ []) (answers ++ answer ∷ []) u
carries_more s [] [] t line answer u h more = (u, subst (λ (x : Scene). Replies (line_of line) x answer u) h more, refl)
carries_more s [] (one ∷ answers) t line answer u h more = absurd h
carries_more s (one ∷ lines) [] t line answer u h more = absurd h
carries_more s (one ∷ lines) (other ∷ answers) t line answer u h more = (h.0, h.1, carries_more h.0 lines answers t line answer u h.2 more)

-- one more line was carried out
carried_more : (s t : Seat) (lines : List (List ℕ)) (answers : List LineAnswer) (line : List ℕ) (answer : LineAnswer) (u : Seat)
    → Carried s t lines answers → Does (line_of line) t answer u → Carried s u (lines ++ line ∷ []) (answers ++ answer ∷ [])
carried_more s t lines answers line answer u carried does found stands =
    let so = carried found stands in
    let reply = replies_by (ask_of (line_of line)) (line_of line) t answer u does so.0 so.2 in
    (reply.0, carries_more (scene_at s found) lines answers (scene_at t so.0) line answer (scene_at u reply.0) so.1 reply.1, reply.2)

none_carried : (s : Seat) → Carried s s [] []
none_carried s found stands = (found, refl, stands)

texts_more : (answers : List LineAnswer) (answer : LineAnswer) → answer_texts (answers ++ answer ∷ []) ≡ answer_texts answers ++ answer_text answer
texts_more [] answer = append-nil (answer_text answer)
texts_more (one ∷ answers) answer = ap (λ (x : List ℕ). answer_text one ++ x) (texts_more answers answer) ∙ sym (append_assoc (answer_text one) (answer_texts answers) (answer_text answer))

accepted_more : (answers : List LineAnswer) (answer : LineAnswer) → AreAccepted answers → refusal_of answer ≡ None → AreAccepted (answers ++ answer ∷ [])
accepted_more [] answer h is = (is, tt)
accepted_more (one ∷ answers) answer h is = (h.0, accepted_more answers answer h.1 is)

accepted_before : (answers : List LineAnswer) → AreAccepted answers → AreAcceptedBefore answers
accepted_before [] h = tt
accepted_before (one ∷ []) h = tt
accepted_before (one ∷ next ∷ answers) h = (h.0, accepted_before (next ∷ answers) h.1)

before_more : (answers : List LineAnswer) (answer : LineAnswer) → AreAccepted answers → AreAcceptedBefore (answers ++ answer ∷ [])
before_more [] answer h = tt
before_more (one ∷ []) answer h = (h.0, tt)
before_more (one ∷ next ∷ answers) answer h = (h.0, before_more (next ∷ answers) answer h.1)

length_more : {X : Type 0} (xs : List X) (x : X) → length (xs ++ x ∷ []) ≡ length xs + 1
length_more [] x = refl
length_more (y ∷ xs) x = omega (arith, length_more xs x)

-- an answer that stops a script refuses its line, and one that does not refuses none where the script is to stop
pub stopped_by : (stop : Bool) (answer : LineAnswer) (refusal : Refusal) → (if stop then refusal_of answer else None) ≡ Some refusal → IsTrue stop × (refusal_of answer ≡ Some refusal)
stopped_by true answer refusal is = (refl, is)
stopped_by false answer refusal is = absurd cc

pub not_stopped : (stop : Bool) (answer : LineAnswer) → (if stop then refusal_of answer else None) ≡ None → IsTrue stop → refusal_of answer ≡ None
not_stopped true answer is h = is
not_stopped false answer is h = absurd (true≢false (sym h))

-- so many lines were carried out so far, and their answers are written: where a script is to stop none was refused
pub record IsRunning (stop : Bool) (s : Seat) (input left old new : Option (List ℕ)) (t : Seat) (done : ℕ) : Type 0 where
  pub lines : List (List ℕ)
  pub answers : List LineAnswer
  pub carried : Carried s t lines answers
  pub accepted : IsTrue stop → AreAccepted answers
  pub count : length lines ≡ done
  pub taken : HasTaken input lines left
  pub written : Appends old new (answer_texts answers)

pub starts : (stop : Bool) (s : Seat) (input old : Option (List ℕ)) → IsRunning stop s input input old old s 0
starts stop s input old = record {
  lines = [];
  answers = [];
  carried = none_carried s;
  accepted = λ h. tt;
  count = refl;
  taken = refl;
  written = Appends-nil old;
}

more_written : (old new written : Option (List ℕ)) (answers : List LineAnswer) (answer : LineAnswer) → Appends old new (answer_texts answers) → Appends new written (answer_text answer)
    → Appends old written (answer_texts (answers ++ answer ∷ []))
more_written old new written answers answer first second =
    subst (Appends old written) (sym (texts_more answers answer)) (Appends-trans old new written (answer_texts answers) (answer_text answer) first second)

pub turns : (stop : Bool) (s : Seat) (input left old new : Option (List ℕ)) (t : Seat) (done : ℕ) (line : Line) (rest written : Option (List ℕ)) (answer : LineAnswer) (u : Seat)
    → IsRunning stop s input left old new t done → Gets left rest (Ok (Some line)) → Does line t answer u → Writes new written answer (Ok tt)
    → (if stop then refusal_of answer else None) ≡ None → IsRunning stop s input rest old written u (done + 1)
turns stop s input left old new t done line rest written answer u running (bytes, takes, is) does writes goes =
    let step : Does (line_of bytes) t answer u = subst (λ (x : Line). Does x t answer u) is does in
    record {
      lines = running.lines ++ bytes ∷ [];
      answers = running.answers ++ answer ∷ [];
      carried = carried_more s t running.lines running.answers bytes answer u running.carried step;
      accepted = λ h. accepted_more running.answers answer (running.accepted h) (not_stopped stop answer goes h);
      count = length_more running.lines bytes ∙ ap (λ (n : ℕ). n + 1) running.count;
      taken = taken_more input running.lines left bytes rest running.taken takes;
      written = more_written old new written running.answers answer running.written writes;
    }

pub ends_stopped : (stop : Bool) (s : Seat) (input left old new : Option (List ℕ)) (t : Seat) (done : ℕ) (line : Line) (rest written : Option (List ℕ)) (answer : LineAnswer) (u : Seat) (refusal : Refusal)
    → IsRunning stop s input left old new t done → Gets left rest (Ok (Some line)) → Does line t answer u → Writes new written answer (Ok tt)
    → (if stop then refusal_of answer else None) ≡ Some refusal → LinesEnd stop s (streams_at input old) (Ok (Some (record { line = done + 1; refusal = refusal }))) (streams_at rest written) u
ends_stopped stop s input left old new t done line rest written answer u refusal running (bytes, takes, is) does writes stops =
    let step : Does (line_of bytes) t answer u = subst (λ (x : Line). Does x t answer u) is does in
    let why = stopped_by stop answer refusal stops in (
      why.0,
      (
        running.lines ++ bytes ∷ [],
        running.answers,
        answer,
        carried_more s t running.lines running.answers bytes answer u running.carried step,
        running.accepted why.0,
        why.1,
        sym (length_more running.lines bytes ∙ ap (λ (n : ℕ). n + 1) running.count),
        taken_more input running.lines left bytes rest running.taken takes,
        more_written old new written running.answers answer running.written writes,
      ),
    )

pub ends_at_end : (stop : Bool) (s : Seat) (input left old new : Option (List ℕ)) (t : Seat) (done : ℕ) (rest : Option (List ℕ))
    → IsRunning stop s input left old new t done → Gets left rest (Ok None) → LinesEnd stop s (streams_at input old) (Ok None) (streams_at rest new) t
ends_at_end stop s input left old new t done rest running gets =
    (running.lines, running.answers, (running.carried, running.accepted), taken_all input running.lines left rest running.taken gets.0 gets.1, running.written)

pub ends_unread : (stop : Bool) (s : Seat) (input left old new : Option (List ℕ)) (t : Seat) (done : ℕ) (rest : Option (List ℕ)) (fault : ScriptFault)
    → IsRunning stop s input left old new t done → Gets left rest (Err fault) → LinesEnd stop s (streams_at input old) (Err fault) (streams_at rest new) t
ends_unread stop s input left old new t done rest (ScriptFault.Mount fault) running gets = absurd gets
ends_unread stop s input left old new t done rest ScriptFault.Read running gets =
    (running.lines, running.answers, (running.carried, λ h. accepted_before running.answers (running.accepted h)), (left, running.taken, gets), running.written)
ends_unread stop s input left old new t done rest ScriptFault.Write running gets = absurd gets
ends_unread stop s input left old new t done rest ScriptFault.Memory running gets =
    inl (
      running.lines,
      running.answers,
      (running.carried, λ h. accepted_before running.answers (running.accepted h)),
      inr (gets.0, taken_more input running.lines left gets.0 rest running.taken gets.1),
      running.written,
    )

-- so many lines were carried out that no more are taken
pub ends_after_all : (stop : Bool) (s : Seat) (input left old new : Option (List ℕ)) (t : Seat) (done : ℕ)
    → IsRunning stop s input left old new t done → LinesEnd stop s (streams_at input old) (Err ScriptFault.Read) (streams_at left new) t
ends_after_all stop s input left old new t done running = (
  running.lines,
  running.answers,
  (running.carried, λ h. accepted_before running.answers (running.accepted h)),
  (left, running.taken, ([], λ k d within. absurd (omega arith), Consumes-nil left)),
  running.written,
)

pub ends_at_once : (stop : Bool) (s : Seat) (input old : Option (List ℕ)) → LinesEnd stop s (streams_at input old) (Err ScriptFault.Memory) (streams_at input old) s
ends_at_once stop s input old = inl ([], [], (none_carried s, λ h. tt), inl refl, Appends-nil old)

pub ends_unwritten : (stop : Bool) (s : Seat) (input left old new : Option (List ℕ)) (t : Seat) (done : ℕ) (line : Line) (rest written : Option (List ℕ)) (answer : LineAnswer) (u : Seat) (fault : ScriptFault)
    → IsRunning stop s input left old new t done → Gets left rest (Ok (Some line)) → Does line t answer u → Writes new written answer (Err fault)
    → LinesEnd stop s (streams_at input old) (Err fault) (streams_at rest written) u
ends_unwritten stop s input left old new t done line rest written answer u (ScriptFault.Mount fault) running gets does writes = absurd writes
ends_unwritten stop s input left old new t done line rest written answer u ScriptFault.Read running gets does writes = absurd writes
ends_unwritten stop s input left old new t done line rest written answer u ScriptFault.Write running gets does writes =
    let step : Does (line_of gets.0) t answer u = subst (λ (x : Line). Does x t answer u) gets.2 does in (
      running.lines ++ gets.0 ∷ [],
      running.answers,
      answer,
      writes.0,
      (carried_more s t running.lines running.answers gets.0 answer u running.carried step, λ h. before_more running.answers answer (running.accepted h)),
      taken_more input running.lines left gets.0 rest running.taken gets.1,
      Appends-trans old new written (answer_texts running.answers) (take writes.0 (answer_text answer)) running.written writes.1,
    )
ends_unwritten stop s input left old new t done line rest written answer u ScriptFault.Memory running gets does writes =
    let step : Does (line_of gets.0) t answer u = subst (λ (x : Line). Does x t answer u) gets.2 does in
    inr (
      running.lines ++ gets.0 ∷ [],
      running.answers,
      answer,
      (carried_more s t running.lines running.answers gets.0 answer u running.carried step, λ h. before_more running.answers answer (running.accepted h)),
      taken_more input running.lines left gets.0 rest running.taken gets.1,
      subst (λ (x : Option (List ℕ)). Appends old x (answer_texts running.answers)) (sym writes) running.written,
    )

-- where one account of what was carried out gives another, so does the end of a script
pub ends_map : (P Q : List (List ℕ) → List LineAnswer → Type 0) (C D : Fault → Type 0) → ((lines : List (List ℕ)) (answers : List LineAnswer) → P lines answers → Q lines answers) → ((fault : Fault) → C fault → D fault)
    → (input left : Option (List ℕ)) (result : Result (Unit {0}) ScriptFault) (old new : Option (List ℕ)) → EndsBy P C (streams_at input old) result (streams_at left new) → EndsBy Q D (streams_at input old) result (streams_at left new)
ends_map P Q C D f g input left (Ok done) old new h = (h.0, h.1, f h.0 h.1 h.2, h.3, h.4)
ends_map P Q C D f g input left (Err (ScriptFault.Mount fault)) old new h = (g fault h.0, h.1, h.2)
ends_map P Q C D f g input left (Err ScriptFault.Read) old new h = (h.0, h.1, f h.0 h.1 h.2, h.3, h.4)
ends_map P Q C D f g input left (Err ScriptFault.Write) old new h = (h.0, h.1, h.2, h.3, f h.0 (h.1 ++ h.2 ∷ []) h.4, h.5, h.6)
ends_map P Q C D f g input left (Err ScriptFault.Memory) old new (inl h) = inl (h.0, h.1, f h.0 h.1 h.2, h.3, h.4)
ends_map P Q C D f g input left (Err ScriptFault.Memory) old new (inr h) = inr (h.0, h.1, h.2, f h.0 (h.1 ++ h.2 ∷ []) h.3, h.4, h.5)

-- so it does where the script may stop
pub stops_map : (stop : Bool) (P Q : List (List ℕ) → List LineAnswer → Type 0) (C D : Fault → Type 0) → ((lines : List (List ℕ)) (answers : List LineAnswer) → P lines answers → Q lines answers) → ((fault : Fault) → C fault → D fault)
    → (input left : Option (List ℕ)) (result : Result (Option Stop) ScriptFault) (old new : Option (List ℕ)) → EndsOrStops stop P C (streams_at input old) result (streams_at left new) → EndsOrStops stop Q D (streams_at input old) result (streams_at left new)
stops_map stop P Q C D f g input left (Ok None) old new h =
    ends_map (λ lines answers. P lines answers × (IsTrue stop → AreAccepted answers)) (λ lines answers. Q lines answers × (IsTrue stop → AreAccepted answers)) C D (λ lines answers p. (f lines answers p.0, p.1)) g input left
    (Ok tt) old new h
stops_map stop P Q C D f g input left (Ok (Some at)) old new h =
    let s = h.1 in (h.0, (s.0, s.1, s.2, f s.0 (s.1 ++ s.2 ∷ []) s.3, s.4, s.5, s.6, s.7, s.8))
stops_map stop P Q C D f g input left (Err fault) old new h =
    ends_map (λ lines answers. P lines answers × (IsTrue stop → AreAcceptedBefore answers)) (λ lines answers. Q lines answers × (IsTrue stop → AreAcceptedBefore answers)) C D (λ lines answers p. (f lines answers p.0, p.1)) g
    input left (Err fault) old new h

-- a script that is not to stop ends as one does
pub lenient_end : (start end : Ground) (input left : Option (List ℕ)) (at : Option Stop) (old new : Option (List ℕ)) → ScriptEndsOn false start end (streams_at input old) (Ok at) (streams_at left new) → EndsOnFlash start end (streams_at input old) (Ok tt) (streams_at left new)
lenient_end start end input left None old new h =
    ends_map (λ lines answers. SessionOn start end lines answers × (IsTrue false → AreAccepted answers)) (SessionOn start end) (IsRefusedOn start end) (IsRefusedOn start end) (λ lines answers p. p.0) (λ fault cause. cause) input left
    (Ok tt) old new h
lenient_end start end input left (Some at) old new h = absurd (true≢false (sym h.0))

pub lenient_failure : (start end : Ground) (input left : Option (List ℕ)) (fault : ScriptFault) (old new : Option (List ℕ)) → ScriptEndsOn false start end (streams_at input old) (Err fault) (streams_at left new) → EndsOnFlash start end (streams_at input old) (Err fault) (streams_at left new)
lenient_failure start end input left fault old new h =
    ends_map (λ lines answers. SessionOn start end lines answers × (IsTrue false → AreAcceptedBefore answers)) (SessionOn start end) (IsRefusedOn start end) (IsRefusedOn start end) (λ lines answers p. p.0) (λ fault cause. cause)
    input left (Err fault) old new h

-- the lines of a reader on what was mounted on a flash
pub script_ends : (stop : Bool) (start mid end : Ground) (m : System) (s : Option System) (input left : Option (List ℕ)) (result : Result (Option Stop) ScriptFault) (old new : Option (List ℕ))
    → OnlyReads start.device mid.device → IsMountOf start.device mid.device m → IsSystem mid.device m → PlanGoesOn start.device start.plan mid.device mid.plan
    → LinesEnd stop (seat_at mid.device (Some m) mid.plan) (streams_at input old) result (streams_at left new) (seat_at end.device s end.plan) → ScriptEndsOn stop start end (streams_at input old) result (streams_at left new)
script_ends stop start mid end m s input left result old new reads begins system plan h =
    stops_map stop (Carried (seat_at mid.device (Some m) mid.plan) (seat_at end.device s end.plan)) (SessionOn start end) (λ fault. ⊥) (IsRefusedOn start end) session (λ fault none. absurd none) input left result old new h
  where
    session : (lines : List (List ℕ)) (answers : List LineAnswer) → Carried (seat_at mid.device (Some m) mid.plan) (seat_at end.device s end.plan) lines answers → SessionOn start end lines answers
    session lines answers carried =
        let first = mount_begins start.device mid.device m reads begins system in
        let all = carried (first.0 ∷ []) first.3 in
        record {
          history = first.0;
          first = scene_at (seat_at mid.device (Some m) mid.plan) (first.0 ∷ []);
          last = scene_at (seat_at end.device s end.plan) all.0;
          saved = first.1;
          mounts = first.2;
          begins = plan;
          carried = all.1;
          ends = refl;
          plan = refl;
        }
