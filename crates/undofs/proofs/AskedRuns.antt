-- What is asked leads on from each world.
use Rattle.std.proofs.Common.{◌≡◌, ℕ, zero, suc, Bool, true, false, Option, Some, None, Result, Ok, Err, List, [], ◌∷◌, ◌++◌, refl, sym, ap, subst}
use Rattle.std.specs.Prelude.{is_some}
use Rattle.history_machine.specs.History.{Past}
use Rattle.plain_trees.specs.Trees.{Tree}
use Rattle.fs_types.specs.declared.call.Call.{Call}
use Rattle.fs_types.specs.declared.call.Group.{Group}
use Rattle.fs_types.specs.declared.call.Reply.{Reply}
use Rattle.fs_types.specs.declared.event.Answer.{Answer}
use Rattle.fs_types.specs.declared.event.Event.{Event}
use Rattle.fs_types.specs.declared.fault.Fault.{Fault}
use Rattle.flash_model.specs.Device.{Device}
use Rattle.system.specs.HistorySpace.{ForgetsUntil, ForgetsFound, LooksAndForgets, df_answer}
use Rattle.system.specs.Steps.{SystemStep}
use Rattle.system.specs.Systems.{IsSystem}
use Rattle.system.specs.VersionSpace.{TellsHistorySpace}
use Rattle.system.specs.declared.systems.System.{System}
use Rattle.system.specs.declared.version_space.HistorySpace.{HistorySpace}
use Rattle.undofs.specs.Asks.{ServesAsk, AskedAs, IsEvent, TellsNothing, IsLook, DoesNothing, FindsNone, ForgetsNone, ForgetsSome, IsRefused, HappensAsk, AskLaw}
use Rattle.undofs.specs.Runs.{World, Run}
use Rattle.undofs.specs.Sessions.{Stands, world}
use Rattle.fs_types.specs.declared.ask.Ask.{Ask}
use Rattle.undofs.specs.declared.asks.Told.{Told}
use Rattle.undofs.proofs.SessionSteps.{answer_of, call_serves, serve_law}

-- a run and then another one
pub run_on : (u v w : World) (events : List Event) (answers : List Answer) (later : List Event) (rest : List Answer) → Run u events answers v → Run v later rest w → Run u (events ++ later) (answers ++ rest) w
run_on u v w [] [] later rest is more = subst (λ (x : World). Run x later rest w) is more
run_on u v w [] (answer ∷ answers) later rest run more = absurd run
run_on u v w (event ∷ events) [] later rest run more = absurd run
run_on u v w (event ∷ events) (answer ∷ answers) later rest (between, here, run) more = (between, here, run_on between v w events answers later rest run more)

-- it leads on from a world
abbrev LeadsOn : Device → Option System → Ask → Told → Device → Option System → List (Past Tree) → Type 0
LeadsOn d s ask told e t found = (more : List (Past Tree)) × HappensAsk (world d s found) ask told (world e t more) × Stands (world e t more)

on_systems : (d e : Device) (s t : Option System) (ask : Ask) (told : Told) (found : List (Past Tree)) (m n : System) → s ≡ Some m → t ≡ Some n
    → (Stands (world d (Some m) found) → LeadsOn d (Some m) ask told e (Some n) found) → Stands (world d s found) → LeadsOn d s ask told e t found
on_systems d e s t ask told found m n was is leads stands =
    subst (λ (x : Option System). LeadsOn d s ask told e x found) (sym is)
    (subst (λ (x : Option System). LeadsOn d x ask told e (Some n) found) (sym was) (leads (subst (λ (x : Option System). Stands (world d x found)) was stands)))

-- nothing is done
still : (d e : Device) (s t : Option System) (ask : Ask) (told : Told) (found : List (Past Tree)) → ServesAsk d s ask told e t → AskedAs ask told [] [] → e ≡ d → t ≡ s → Stands (world d s found) → LeadsOn d s ask told e t found
still d e s t ask told found serves asked device system stands =
    let same : world e t found ≡ world d s found = λ i. world (device i) (system i) found in
    (found, record { serves = serves; events = []; answers = []; asked = asked; run = same }, subst Stands (sym same) stands)

module _ (d : Device) (m : System) (ask : Ask) (told : Told) (found : List (Past Tree)) (stands : Stands (world d (Some m) found)) where
  -- a call
  one_call : (call : Call) (result : Result Reply Fault) (e : Device) (n : System) → SystemStep d m call result e n → IsSystem e n → ServesAsk d (Some m) ask told e (Some n)
      → AskedAs ask told (Event.Call call ∷ []) (answer_of result ∷ []) → LeadsOn d (Some m) ask told e (Some n) found
  one_call call result e n step system serves asked =
      let so = serve_law d e (Some m) (Some n) (Event.Call call) (answer_of result) found (call_serves d m call result e n step system) stands in
      (so.0, record { serves = serves; events = Event.Call call ∷ []; answers = answer_of result ∷ []; asked = asked; run = (world e (Some n) so.0, so.1, refl) }, so.2)

  -- and another one after it
  two_calls : (call next : Call) (result again : Result Reply Fault) (e f : Device) (n o : System) → SystemStep d m call result e n → IsSystem e n → SystemStep e n next again f o → IsSystem f o
      → ServesAsk d (Some m) ask told f (Some o) → AskedAs ask told (Event.Call call ∷ Event.Call next ∷ []) (answer_of result ∷ answer_of again ∷ []) → LeadsOn d (Some m) ask told f (Some o) found
  two_calls call next result again e f n o step system then ended serves asked =
      let one = serve_law d e (Some m) (Some n) (Event.Call call) (answer_of result) found (call_serves d m call result e n step system) stands in
      let two = serve_law e f (Some n) (Some o) (Event.Call next) (answer_of again) one.0 (call_serves e n next again f o then ended) one.2 in (
        two.0,
        record {
          serves = serves;
          events = Event.Call call ∷ Event.Call next ∷ [];
          answers = answer_of result ∷ answer_of again ∷ [];
          asked = asked;
          run = (world e (Some n) one.0, one.1, (world f (Some o) two.0, two.1, refl));
        },
        two.2,
      )

-- ---- what the versions keep

module _ (d : Device) (m : System) (found : List (Past Tree)) (stands : Stands (world d (Some m) found)) (e : Device) (n : System) (ended : IsSystem e n) where
  told_space : (space : HistorySpace) → TellsHistorySpace d m (Ok space) e n → (off : Bool) → m.state.is_off ≡ off → LeadsOn d (Some m) Ask.Space (Told.Space space) e (Some n) found
  told_space space tells true off = absurd (let apart = (tells.stopped off).0 in cc)
  told_space space tells false on =
      let (reply, step) = tells.as_df on in
      one_call d m Ask.Space (Told.Space space) found stands Call.Df (Ok reply) e n step ended (record { before = m; after = n; was = refl; is = refl; step = tells; mounted = ended }) IsLook

  untold_space : (fault : Fault) → TellsHistorySpace d m (Err fault) e n → (off : Bool) → m.state.is_off ≡ off → LeadsOn d (Some m) Ask.Space (Told.Answer (Answer.Refused fault)) e (Some n) found
  untold_space fault tells true off =
      let stopped = tells.stopped off in
      still d e (Some m) (Some n) Ask.Space (Told.Answer (Answer.Refused fault)) found (record { before = m; after = n; was = refl; is = refl; step = tells; mounted = ended }) TellsNothing stopped.1 (ap Some stopped.2) stands
  untold_space fault tells false on =
      let (reply, step) = tells.as_df on in
      one_call d m Ask.Space (Told.Answer (Answer.Refused fault)) found stands Call.Df (Err fault) e n step ended (record { before = m; after = n; was = refl; is = refl; step = tells; mounted = ended }) IsLook

-- ---- versions that are forgotten

module _ (d : Device) (m : System) (blocks : ℕ) (found : List (Past Tree)) (stands : Stands (world d (Some m) found)) (e : Device) (n : System) (ended : IsSystem e n) where
  abbrev serves_forgot : (count : ℕ) → ForgetsUntil d m blocks (Ok count) e n → ServesAsk d (Some m) (Ask.ForgetFree blocks) (Told.Forgot count) e (Some n)
  serves_forgot count until = record { before = m; after = n; was = refl; is = refl; step = until; mounted = ended }

  abbrev serves_refused : (fault : Fault) → ForgetsUntil d m blocks (Err fault) e n → ServesAsk d (Some m) (Ask.ForgetFree blocks) (Told.Answer (Answer.Refused fault)) e (Some n)
  serves_refused fault until = record { before = m; after = n; was = refl; is = refl; step = until; mounted = ended }

  forgot_by : (count : ℕ) (until : ForgetsUntil d m blocks (Ok count) e n) (works : LooksAndForgets d m blocks (Ok count) e n) (x : Result ℕ Fault) → works.found ≡ x → ForgetsFound x works.device works.system (Ok count) e n
      → LeadsOn d (Some m) (Ask.ForgetFree blocks) (Told.Forgot count) e (Some n) found
  forgot_by count until works (Err fault) is (other, device, system) = absurd (let none = other in cc)
  forgot_by zero until works (Ok zero) is (same, device, system) =
      one_call d m (Ask.ForgetFree blocks) (Told.Forgot 0) found stands Call.Df (df_answer works.as_df.0 works.found) e n
      (subst (λ (x : Device). SystemStep d m Call.Df (df_answer works.as_df.0 works.found) x n) (sym device)
      (subst (λ (x : System). SystemStep d m Call.Df (df_answer works.as_df.0 works.found) works.device x) (sym system) works.as_df.1))
      ended (serves_forgot 0 until) ForgetsNone
  forgot_by (suc k) until works (Ok zero) is (same, device, system) = absurd (let none = same in cc)
  forgot_by count until works (Ok (suc k)) is (same, reply, step) =
      subst (λ (c : ℕ). ForgetsUntil d m blocks (Ok c) e n → LeadsOn d (Some m) (Ask.ForgetFree blocks) (Told.Forgot c) e (Some n) found) (sym same)
      (λ until'. two_calls d m (Ask.ForgetFree blocks) (Told.Forgot (suc k)) found stands Call.Df (Call.Forget (suc k)) (df_answer works.as_df.0 works.found) (Ok reply) works.device e works.system n
      works.as_df.1 works.mounted step ended (serves_forgot (suc k) until') ForgetsSome)
      until

  refused_by : (fault : Fault) (until : ForgetsUntil d m blocks (Err fault) e n) (works : LooksAndForgets d m blocks (Err fault) e n) (x : Result ℕ Fault) → works.found ≡ x → ForgetsFound x works.device works.system (Err fault) e n
      → LeadsOn d (Some m) (Ask.ForgetFree blocks) (Told.Answer (Answer.Refused fault)) e (Some n) found
  refused_by fault until works (Err other) is (same, device, system) =
      one_call d m (Ask.ForgetFree blocks) (Told.Answer (Answer.Refused fault)) found stands Call.Df (df_answer works.as_df.0 works.found) e n
      (subst (λ (x : Device). SystemStep d m Call.Df (df_answer works.as_df.0 works.found) x n) (sym device)
      (subst (λ (x : System). SystemStep d m Call.Df (df_answer works.as_df.0 works.found) works.device x) (sym system) works.as_df.1))
      ended (serves_refused fault until) FindsNone
  refused_by fault until works (Ok zero) is (other, device, system) = absurd (let none = other in cc)
  refused_by fault until works (Ok (suc k)) is step =
      two_calls d m (Ask.ForgetFree blocks) (Told.Answer (Answer.Refused fault)) found stands Call.Df (Call.Forget (suc k)) (df_answer works.as_df.0 works.found) (Err fault) works.device e works.system n
      works.as_df.1 works.mounted step ended (serves_refused fault until) IsRefused

  forgot : (count : ℕ) (until : ForgetsUntil d m blocks (Ok count) e n) (off : Bool) (group : Option (Group ℕ)) → m.state.is_off ≡ off → m.state.group ≡ group
      → LeadsOn d (Some m) (Ask.ForgetFree blocks) (Told.Forgot count) e (Some n) found
  forgot count until true group off is = absurd (let apart = (until.stopped off).0 in cc)
  forgot count until false (Some g) on is = absurd (let apart = (until.grouped on (ap is_some is)).0 in cc)
  forgot count until false None on is = let works = until.works on is in forgot_by count until works works.found refl works.forgets

  refused : (fault : Fault) (until : ForgetsUntil d m blocks (Err fault) e n) (off : Bool) (group : Option (Group ℕ)) → m.state.is_off ≡ off → m.state.group ≡ group
      → LeadsOn d (Some m) (Ask.ForgetFree blocks) (Told.Answer (Answer.Refused fault)) e (Some n) found
  refused fault until true group off is =
      let stopped = until.stopped off in
      still d e (Some m) (Some n) (Ask.ForgetFree blocks) (Told.Answer (Answer.Refused fault)) found (serves_refused fault until) DoesNothing stopped.1 (ap Some stopped.2) stands
  refused fault until false (Some g) on is =
      let grouped = until.grouped on (ap is_some is) in
      still d e (Some m) (Some n) (Ask.ForgetFree blocks) (Told.Answer (Answer.Refused fault)) found (serves_refused fault until) DoesNothing grouped.1 (ap Some grouped.2) stands
  refused fault until false None on is = let works = until.works on is in refused_by fault until works works.found refl works.forgets

-- ---- what is served

abbrev pub space_told : Result HistorySpace Fault → Told
space_told (Ok space) = Told.Space space
space_told (Err fault) = Told.Answer (Answer.Refused fault)

pub space_serves : (d : Device) (m : System) (result : Result HistorySpace Fault) (e : Device) (n : System) → TellsHistorySpace d m result e n → IsSystem e n
    → ServesAsk d (Some m) Ask.Space (space_told result) e (Some n)
space_serves d m (Ok space) e n step system = record { before = m; after = n; was = refl; is = refl; step = step; mounted = system }
space_serves d m (Err fault) e n step system = record { before = m; after = n; was = refl; is = refl; step = step; mounted = system }

abbrev pub forgot_told : Result ℕ Fault → Told
forgot_told (Ok count) = Told.Forgot count
forgot_told (Err fault) = Told.Answer (Answer.Refused fault)

pub forget_serves : (d : Device) (m : System) (blocks : ℕ) (result : Result ℕ Fault) (e : Device) (n : System) → ForgetsUntil d m blocks result e n → IsSystem e n
    → ServesAsk d (Some m) (Ask.ForgetFree blocks) (forgot_told result) e (Some n)
forget_serves d m blocks (Ok count) e n step system = record { before = m; after = n; was = refl; is = refl; step = step; mounted = system }
forget_serves d m blocks (Err fault) e n step system = record { before = m; after = n; was = refl; is = refl; step = step; mounted = system }

-- ---- anything that is asked

pub ask_law : AskLaw
ask_law d e s t (Ask.Event event) (Told.Answer answer) found serves stands =
    let so = serve_law d e s t event answer found serves stands in
    (so.0, record { serves = serves; events = event ∷ []; answers = answer ∷ []; asked = IsEvent; run = (world e t so.0, so.1, refl) }, so.2)
ask_law d e s t (Ask.Event event) (Told.Space space) found serves stands = absurd serves
ask_law d e s t (Ask.Event event) (Told.Forgot count) found serves stands = absurd serves
ask_law d e s t Ask.Space (Told.Space space) found h stands =
    on_systems d e s t Ask.Space (Told.Space space) found h.before h.after h.was h.is (λ on. told_space d h.before found on e h.after h.mounted space h.step h.before.state.is_off refl) stands
ask_law d e s t Ask.Space (Told.Answer (Answer.Refused fault)) found h stands =
    on_systems d e s t Ask.Space (Told.Answer (Answer.Refused fault)) found h.before h.after h.was h.is (λ on. untold_space d h.before found on e h.after h.mounted fault h.step h.before.state.is_off refl) stands
ask_law d e s t Ask.Space (Told.Answer Answer.Unmounted) found h stands = still d e s t Ask.Space (Told.Answer Answer.Unmounted) found h TellsNothing h.1 h.2 stands
ask_law d e s t Ask.Space (Told.Answer (Answer.Done reply)) found h stands = absurd h
ask_law d e s t Ask.Space (Told.Answer Answer.Mounted) found h stands = absurd h
ask_law d e s t Ask.Space (Told.Forgot count) found h stands = absurd h
ask_law d e s t (Ask.ForgetFree blocks) (Told.Forgot count) found h stands =
    on_systems d e s t (Ask.ForgetFree blocks) (Told.Forgot count) found h.before h.after h.was h.is
    (λ on. forgot d h.before blocks found on e h.after h.mounted count h.step h.before.state.is_off h.before.state.group refl refl) stands
ask_law d e s t (Ask.ForgetFree blocks) (Told.Answer (Answer.Refused fault)) found h stands =
    on_systems d e s t (Ask.ForgetFree blocks) (Told.Answer (Answer.Refused fault)) found h.before h.after h.was h.is
    (λ on. refused d h.before blocks found on e h.after h.mounted fault h.step h.before.state.is_off h.before.state.group refl refl) stands
ask_law d e s t (Ask.ForgetFree blocks) (Told.Answer Answer.Unmounted) found h stands = still d e s t (Ask.ForgetFree blocks) (Told.Answer Answer.Unmounted) found h DoesNothing h.1 h.2 stands
ask_law d e s t (Ask.ForgetFree blocks) (Told.Answer (Answer.Done reply)) found h stands = absurd h
ask_law d e s t (Ask.ForgetFree blocks) (Told.Answer Answer.Mounted) found h stands = absurd h
ask_law d e s t (Ask.ForgetFree blocks) (Told.Space space) found h stands = absurd h
