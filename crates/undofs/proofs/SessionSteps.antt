-- What a call, a step of reclaiming, a mount and a restart leave of a world.
use Rattle.std.proofs.Common.{◌≡◌, ◌⊎◌, inl, inr, ℕ, Bool, true, false, Option, Some, None, Result, Ok, Err, List, [], ◌∷◌, ◌++◌, refl, sym, ap, subst, ◌∙◌, arith}
use Rattle.std.proofs.lemmas.Bool.{true≢false, cases_eq}
use Rattle.std.proofs.lemmas.List.Elements.{Contains-append_left, Contains-push}
use Rattle.std.specs.Prelude.{Contains, if◌then◌else◌}
use Rattle.std.specs.Option.{option_map}
use Rattle.history_machine.specs.History.{Past}
use Rattle.history_machine.specs.Machine.{Machine, mounted, next, refusal}
use Rattle.history_machine.proofs.Steps.{outside}
use Rattle.plain_trees.specs.Trees.{Tree}
use Rattle.fs_types.specs.declared.call.Call.{Call}
use Rattle.fs_types.specs.declared.call.Reply.{Reply}
use Rattle.fs_types.specs.declared.event.Event.{Event}
use Rattle.fs_types.specs.declared.event.Answer.{Answer}
use Rattle.fs_types.specs.declared.fault.Fault.{Fault}
use Rattle.fs_types.specs.declared.fault.Fault.TheVariants.{BadGeometry, NoRecord, Damaged, ReadFailed, PowerCut, NoMemory}
use Rattle.flash_model.specs.Device.{Device}
use Rattle.flash_model.specs.Geometry.{IsGeometry}
use Rattle.flash_model.specs.Reading.{OnlyReads}
use Rattle.record_format.specs.declared.record.Record.{Record}
use Rattle.anchors.specs.declared.best.Found.{Found}
use Rattle.anchors.specs.Parts.{parts_on, newest_at}
use Rattle.anchors.specs.Laws.{HasTie}
use Rattle.anchors.specs.Newest.{committed_on}
use Rattle.anchors.proofs.NewestLaws.{found_is_newest}
use Rattle.working_state.specs.Seen.{machine_on, shown_on}
use Rattle.working_state.specs.Steps.{is_sync}
use Rattle.system.specs.Steps.{SystemStep}
use Rattle.mounting.specs.Records.{trees_of, HasTrees}
use Rattle.system.specs.Mounts.{IsMountOf, MountCause}
use Rattle.system.specs.Cleaning.{Cleans, IsUndisturbed}
use Rattle.system.specs.Preparing.{PreparesAhead}
use Rattle.system.specs.Reclaiming.{Reclaims}
use Rattle.mounting.specs.Saved.{record_in, saved_on, saved_trees, IsWholeRecord}
use Rattle.system.specs.Systems.{IsSystem}
use Rattle.system.specs.declared.systems.System.{System}
use Rattle.system.proofs.SameRecords.{still_saved, same_trees, still_whole}
use Rattle.system.proofs.Syncs.{sync_syncs, fsync_syncs}
use Rattle.undofs.specs.Runs.{Shows, IsSaved, found_after, ReclaimsOn, CleansOn, PreparesOn, put_on, MayRefuseMount, Mounts, Happens, Run}
use Rattle.undofs.specs.Sessions.{IsSound, Stands, world, Starts, Serves, AreServed, IsServed, ServeLaw, IsSession}
use Rattle.undofs.proofs.RunLaws.{shown, refused_keeps}

-- ---- where no page changes

module _ (d e : Device) (lawful : IsGeometry d.geometry) (geometry : e.geometry ≡ d.geometry) (pages : (p : ℕ) → e.pages p ≡ d.pages p) where
  stays_among : (found more : List (Past Tree)) (s : IsSaved d found) → Contains more s.history → IsSaved e more
  stays_among found more s among = record { history = s.history; saved = same_trees d e lawful geometry pages ∙ s.saved; among = among; whole = still_whole d e lawful geometry pages s.whole }

  pub stays_saved : (found : List (Past Tree)) → IsSaved d found → IsSaved e found
  stays_saved found s = stays_among found found s s.among

-- ---- after a call

-- an accepted sync leaves the machine
sync_keeps : (m : Machine) (call : Call) → is_sync call ≡ true → refusal m call ≡ None → next m call ≡ m
sync_keeps m Call.Sync sync accepted = (sync_syncs m (outside m None accepted).0).leaves
sync_keeps m (Call.Fsync descriptor) sync accepted = (fsync_syncs m descriptor accepted).leaves
sync_keeps m _ sync accepted = absurd (true≢false (sym sync))

the_one : (h : Past Tree) → Contains (h ∷ []) h
the_one h = (0, omega arith, refl)

module _ (d : Device) (m : System) (call : Call) (e : Device) (n : System) (found : List (Past Tree)) (s : IsSaved d found) (working : Contains found (machine_on d m.state).history) where
  saved_among : (result : Result Reply Fault) (more : List (Past Tree)) → SystemStep d m call result e n → ((h : Past Tree) → Contains found h → Contains more h) → IsSaved e more
  saved_among result more step keeps = by step.after.either
    where
      by : {C : Type 0} → (saved_trees e ≡ saved_trees d) ⊎ (C × (saved_trees e ≡ Some (machine_on d m.state).history)) → IsSaved e more
      by (inl old) = record { history = s.history; saved = old ∙ s.saved; among = keeps s.history s.among; whole = step.after.whole s.whole }
      by (inr new) = record { history = (machine_on d m.state).history; saved = new.1; among = keeps (machine_on d m.state).history working; whole = step.after.whole s.whole }

  saved_done : (reply : Reply) → SystemStep d m call (Ok reply) e n → IsSaved e (found_after call (Ok reply) found (machine_on e n.state).history)
  saved_done reply step = by (is_sync call) refl
    where
      now : Past Tree
      now = (machine_on e n.state).history

      by : (b : Bool) → is_sync call ≡ b → IsSaved e (if is_sync call then now ∷ [] else found ++ now ∷ [])
      by true sync =
          let done = step.answers.1 in
          let kept : (machine_on d m.state).history ≡ now = ap (λ (x : Machine). x.history) (sym (done.leaves ∙ sync_keeps (machine_on d m.state) call sync done.accepted)) in
          subst (λ (b : Bool). IsSaved e (if b then now ∷ [] else found ++ now ∷ [])) (sym sync)
          (record { history = now; saved = step.after.synced sync ∙ ap Some kept; among = the_one now; whole = step.after.whole s.whole })
      by false other =
          subst (λ (b : Bool). IsSaved e (if b then now ∷ [] else found ++ now ∷ [])) (sym other)
          (saved_among (Ok reply) (found ++ now ∷ []) step (λ h has. Contains-append_left found (now ∷ []) h has))

  now_found : (reply : Reply) → Contains (found_after call (Ok reply) found (machine_on e n.state).history) (machine_on e n.state).history
  now_found reply = by (is_sync call) refl
    where
      now : Past Tree
      now = (machine_on e n.state).history

      by : (b : Bool) → is_sync call ≡ b → Contains (if is_sync call then now ∷ [] else found ++ now ∷ []) now
      by true sync = subst (λ (b : Bool). Contains (if b then now ∷ [] else found ++ now ∷ []) now) (sym sync) (the_one now)
      by false other = subst (λ (b : Bool). Contains (if b then now ∷ [] else found ++ now ∷ []) now) (sym other) (Contains-push found now)

-- the history that is shown is that of the system that is there
shows_system : (e : Device) (n : System) (found : List (Past Tree)) → Contains found (machine_on e n.state).history → (m : Machine) → Shows (world e (Some n) found) m → Contains found m.history
shows_system e n found has m is = subst (λ (x : Machine). Contains found x.history) (shown (world e (Some n) found) m n is refl) has

abbrev pub answer_of : Result Reply Fault → Answer
answer_of (Ok reply) = Answer.Done reply
answer_of (Err fault) = Answer.Refused fault

-- from each world an event leads to one that stands
abbrev Leads : Device → Option System → Event → Answer → Device → Option System → List (Past Tree) → Type 0
Leads d s event answer e t found = (more : List (Past Tree)) × Happens (world d s found) event answer (world e t more) × Stands (world e t more)

call_leads : (d : Device) (m : System) (call : Call) (result : Result Reply Fault) (e : Device) (n : System) (found : List (Past Tree)) → SystemStep d m call result e n → IsSystem e n
    → Stands (world d (Some m) found) → Leads d (Some m) (Event.Call call) (answer_of result) e (Some n) found
call_leads d m call (Ok reply) e n found step system stands =
    let working = stands.shown (machine_on d m.state) (m, refl, refl) in
    let more = found_after call (Ok reply) found (machine_on e n.state).history in
    let saved = saved_done d m call e n found stands.saved working reply step in (
      more,
      record { before = m; after = n; was = refl; is = refl; step = step; mounted = system; found = refl; saved = saved },
      record { lawful = system.mounted.lawful; saved = saved; shown = shows_system e n more (now_found d m call e n found stands.saved working reply) },
    )
call_leads d m call (Err fault) e n found step system stands =
    let working = stands.shown (machine_on d m.state) (m, refl, refl) in
    let saved = saved_among d m call e n found stands.saved working (Err fault) found step (λ h has. has) in
    let same : machine_on e n.state ≡ machine_on d m.state = refused_keeps _ (shown_on d m.state) call fault (shown_on e n.state) step.answers in (
      found,
      record { before = m; after = n; was = refl; is = refl; step = step; mounted = system; found = refl; saved = saved },
      record { lawful = system.mounted.lawful; saved = saved; shown = shows_system e n found (subst (λ (x : Machine). Contains found x.history) (sym same) working) },
    )

pub call_serves : (d : Device) (m : System) (call : Call) (result : Result Reply Fault) (e : Device) (n : System) → SystemStep d m call result e n → IsSystem e n
    → Serves d (Some m) (Event.Call call) (answer_of result) e (Some n)
call_serves d m call (Ok reply) e n step system = record { before = m; after = n; was = refl; is = refl; step = step; mounted = system }
call_serves d m call (Err fault) e n step system = record { before = m; after = n; was = refl; is = refl; step = step; mounted = system }

-- the same of a call that was lent
pub lent_serves : (d : Device) (m : System) (lent call : Call) (result : Result Reply Fault) (e : Device) (n : System) → lent ≡ call → SystemStep d m lent result e n → IsSystem e n
    → Serves d (Some m) (Event.Call call) (answer_of result) e (Some n)
lent_serves d m lent call result e n is step = call_serves d m call result e n (subst (λ (x : Call). SystemStep d m x result e n) is step)

-- ---- after a step of reclaiming

abbrev pub step_answer : Result Bool Fault → Answer
step_answer (Ok done) = Answer.Done (Reply.Step done)
step_answer (Err fault) = Answer.Refused fault

module _ (d : Device) (m : System) (budget : ℕ) (e : Device) (n : System) (found : List (Past Tree)) (stands : Stands (world d (Some m) found)) where
  step_saved : (result : Result Bool Fault) → Reclaims d m budget result e n → IsSaved e found
  step_saved result step = stays_saved d e stands.lawful step.stays.reads.geometry step.stays.reads.pages found stands.saved

  step_happens : (result : Result Bool Fault) → Reclaims d m budget result e n → IsSystem e n → ReclaimsOn (world d (Some m) found) budget result (world e (Some n) found)
  step_happens result step system = record { before = m; after = n; was = refl; is = refl; step = step; mounted = system; found = refl; saved = step_saved result step }

  step_stands : (result : Result Bool Fault) → Reclaims d m budget result e n → IsSystem e n → Stands (world e (Some n) found)
  step_stands result step system = record {
    lawful = system.mounted.lawful;
    saved = step_saved result step;
    shown = shows_system e n found (subst (λ (x : Machine). Contains found x.history) (sym step.stays.machine) (stands.shown (machine_on d m.state) (m, refl, refl)));
  }

pub step_serves : (d : Device) (m : System) (budget : ℕ) (result : Result Bool Fault) (e : Device) (n : System) → Reclaims d m budget result e n → IsSystem e n
    → Serves d (Some m) (Event.ReclaimStep budget) (step_answer result) e (Some n)
step_serves d m budget (Ok done) e n step system = (done, refl, record { before = m; after = n; was = refl; is = refl; step = step; mounted = system })
step_serves d m budget (Err fault) e n step system = record { before = m; after = n; was = refl; is = refl; step = step; mounted = system }

step_leads : (d : Device) (m : System) (budget : ℕ) (result : Result Bool Fault) (e : Device) (n : System) (found : List (Past Tree)) → Reclaims d m budget result e n → IsSystem e n
    → Stands (world d (Some m) found) → Leads d (Some m) (Event.ReclaimStep budget) (step_answer result) e (Some n) found
step_leads d m budget (Ok done) e n found step system stands =
    (found, (done, refl, step_happens d m budget e n found stands (Ok done) step system), step_stands d m budget e n found stands (Ok done) step system)
step_leads d m budget (Err fault) e n found step system stands =
    (found, step_happens d m budget e n found stands (Err fault) step system, step_stands d m budget e n found stands (Err fault) step system)

-- ---- after a step that disturbs nothing

module _ (d : Device) (m : System) (e : Device) (n : System) (found : List (Past Tree)) (stands : Stands (world d (Some m) found)) (undisturbed : IsUndisturbed d m e n) where
  undisturbed_saved : IsSaved e found
  undisturbed_saved = record {
    history = stands.saved.history;
    saved = undisturbed.saved ∙ stands.saved.saved;
    among = stands.saved.among;
    whole = undisturbed.whole stands.saved.whole;
  }

  undisturbed_stands : IsSystem e n → Stands (world e (Some n) found)
  undisturbed_stands system = record {
    lawful = system.mounted.lawful;
    saved = undisturbed_saved;
    shown = shows_system e n found (subst (λ (x : Machine). Contains found x.history) (sym undisturbed.machine) (stands.shown (machine_on d m.state) (m, refl, refl)));
  }

-- ---- after a step of cleaning

clean_happens : (d : Device) (m : System) (budget : ℕ) (result : Result Bool Fault) (e : Device) (n : System) (found : List (Past Tree)) → Cleans d m budget result e n → IsSystem e n
    → Stands (world d (Some m) found) → CleansOn (world d (Some m) found) budget result (world e (Some n) found)
clean_happens d m budget result e n found step system stands = record {
  before = m;
  after = n;
  was = refl;
  is = refl;
  step = step;
  mounted = system;
  found = refl;
  saved = undisturbed_saved d m e n found stands step.undisturbed;
}

pub clean_serves : (d : Device) (m : System) (budget : ℕ) (result : Result Bool Fault) (e : Device) (n : System) → Cleans d m budget result e n → IsSystem e n
    → Serves d (Some m) (Event.CleanStep budget) (step_answer result) e (Some n)
clean_serves d m budget (Ok done) e n step system = (done, refl, record { before = m; after = n; was = refl; is = refl; step = step; mounted = system })
clean_serves d m budget (Err fault) e n step system = record { before = m; after = n; was = refl; is = refl; step = step; mounted = system }

clean_leads : (d : Device) (m : System) (budget : ℕ) (result : Result Bool Fault) (e : Device) (n : System) (found : List (Past Tree)) → Cleans d m budget result e n → IsSystem e n
    → Stands (world d (Some m) found) → Leads d (Some m) (Event.CleanStep budget) (step_answer result) e (Some n) found
clean_leads d m budget (Ok done) e n found step system stands =
    (found, (done, refl, clean_happens d m budget (Ok done) e n found step system stands), undisturbed_stands d m e n found stands step.undisturbed system)
clean_leads d m budget (Err fault) e n found step system stands =
    (found, clean_happens d m budget (Err fault) e n found step system stands, undisturbed_stands d m e n found stands step.undisturbed system)

-- ---- after a step of preparing

prepare_happens : (d : Device) (m : System) (budget : ℕ) (result : Result Bool Fault) (e : Device) (n : System) (found : List (Past Tree)) → PreparesAhead d m budget result e n → IsSystem e n
    → Stands (world d (Some m) found) → PreparesOn (world d (Some m) found) budget result (world e (Some n) found)
prepare_happens d m budget result e n found step system stands = record {
  before = m;
  after = n;
  was = refl;
  is = refl;
  step = step;
  mounted = system;
  found = refl;
  saved = undisturbed_saved d m e n found stands step.undisturbed;
}

pub prepare_serves : (d : Device) (m : System) (budget : ℕ) (result : Result Bool Fault) (e : Device) (n : System) → PreparesAhead d m budget result e n → IsSystem e n
    → Serves d (Some m) (Event.PrepareStep budget) (step_answer result) e (Some n)
prepare_serves d m budget (Ok done) e n step system = (done, refl, record { before = m; after = n; was = refl; is = refl; step = step; mounted = system })
prepare_serves d m budget (Err fault) e n step system = record { before = m; after = n; was = refl; is = refl; step = step; mounted = system }

prepare_leads : (d : Device) (m : System) (budget : ℕ) (result : Result Bool Fault) (e : Device) (n : System) (found : List (Past Tree)) → PreparesAhead d m budget result e n → IsSystem e n
    → Stands (world d (Some m) found) → Leads d (Some m) (Event.PrepareStep budget) (step_answer result) e (Some n) found
prepare_leads d m budget (Ok done) e n found step system stands =
    (found, (done, refl, prepare_happens d m budget (Ok done) e n found step system stands), undisturbed_stands d m e n found stands step.undisturbed system)
prepare_leads d m budget (Err fault) e n found step system stands =
    (found, prepare_happens d m budget (Err fault) e n found step system stands, undisturbed_stands d m e n found stands step.undisturbed system)

-- ---- after a mount

no_system : (e : Device) (found : List (Past Tree)) (m : Machine) → Shows (world e None found) m → ⊥
no_system e found m (s, is, shows) = let none : None ≡ Some s = is in cc

-- no two records share the greatest sequence where one is the newest
untied : (d : Device) (found : Found) → newest_at d.geometry (parts_on d.geometry d.pages) ≡ Some found → HasTie d.geometry (parts_on d.geometry d.pages) → ⊥
untied d found is tie =
    let newest = found_is_newest d.geometry (parts_on d.geometry d.pages) found is in
    let most = tie.greatest found.page found.head newest.within newest.valid in
    let same = tie.same in
    elim (cases_eq tie.one.page found.page) [
      | inl own ↦ let less = newest.older tie.two.page tie.two.head tie.two_within (λ other. tie.apart (other ∙ sym own)) tie.two_valid in omega arith
      | inr other ↦ let less = newest.older tie.one.page tie.one.head tie.one_within other tie.one_valid in omega arith
    ]

module _ (d e : Device) (found : List (Past Tree)) (lawful : IsGeometry d.geometry) (s : IsSaved d found) (reads : OnlyReads d e) where
  some_record : (o : Option Record) → saved_on d ≡ o → option_map (trees_of d) o ≡ Some s.history → (r : Record) × (saved_on d ≡ Some r)
  some_record None is none = absurd cc
  some_record (Some r) is some = (r, is)

  the_record : (r : Record) × (saved_on d ≡ Some r)
  the_record = some_record (saved_on d) refl s.saved

  committed : (o : Option (Result Record Fault)) → committed_on d ≡ o → record_in o ≡ Some the_record.0 → committed_on d ≡ Some (Ok the_record.0)
  committed None is none = absurd cc
  committed (Some (Ok r)) is some = is ∙ (let same : r ≡ the_record.0 = cc in ap (λ (x : Record). Some (Ok x)) same)
  committed (Some (Err fault)) is none = absurd cc

  newest : committed_on d ≡ Some (Ok the_record.0)
  newest = committed (committed_on d) refl the_record.1

  some_place : (o : Option Found) → newest_at d.geometry (parts_on d.geometry d.pages) ≡ o → (found : Found) × (newest_at d.geometry (parts_on d.geometry d.pages) ≡ Some found)
  some_place (Some found) is = (found, is)
  some_place None is = absurd (let none : committed_on d ≡ None = (rw is refl) in let some = newest in cc)

  looks : (fault : Fault) → MountCause d e fault → MayRefuseMount d fault e
  looks BadGeometry (inl unlawful) = absurd (unlawful.0 lawful)
  looks BadGeometry (inr other) = absurd (let some = newest in cc)
  looks NoRecord (none, is) = absurd (let some = newest in cc)
  looks Damaged (inl tie) = let place = some_place (newest_at d.geometry (parts_on d.geometry d.pages)) refl in absurd (untied d place.0 place.1 tie)
  looks Damaged (inr (inl damaged)) = absurd (let some = newest in cc)
  looks Damaged (inr (inr lacks)) = absurd (lacks.2 (s.whole lacks.0 (ap record_in lacks.1)))
  looks ReadFailed why = why
  looks PowerCut why = why
  looks NoMemory why = tt
  looks _ why = absurd why

  still : IsSaved e found
  still = stays_saved d e lawful reads.geometry reads.pages found s

  still_lawful : IsGeometry e.geometry
  still_lawful = subst IsGeometry (sym reads.geometry) lawful

  pub refused_starts : (fault : Fault) → MountCause d e fault → (more : List (Past Tree)) × Mounts d found (Answer.Refused fault) (world e None more) × Stands (world e None more)
  refused_starts fault why = (
    found,
    (refl, refl, looks fault why, reads, still),
    record { lawful = still_lawful; saved = still; shown = λ m is. absurd (no_system e found m is) },
  )

  some_history : (g h : Past Tree) → Some g ≡ Some h → g ≡ h
  some_history g h is = cc

  pub mount_stands : (m : System) → IsMountOf d e m → IsSystem e m → Mounts d found Answer.Mounted (world e (Some m) (s.history ∷ [])) × Stands (world e (Some m) (s.history ∷ []))
  mount_stands m mount system =
      let there : saved_on e ≡ Some mount.newest = still_saved d e lawful reads.geometry reads.pages ∙ ap record_in mount.holds in
      let history : trees_of e mount.newest ≡ s.history = some_history (trees_of e mount.newest) s.history (sym (ap (option_map (trees_of e)) there) ∙ same_trees d e lawful reads.geometry reads.pages ∙ s.saved) in
      let machine : machine_on e m.state ≡ mounted s.history = mount.loaded.machine ∙ ap (λ (h : Past Tree). mounted h) history in
      let saved : IsSaved e (s.history ∷ []) = stays_among d e lawful reads.geometry reads.pages found (s.history ∷ []) s (the_one s.history) in (
        record { history = s.history; system = m; among = s.among; is = refl; machine = machine; mounted = system; holds = mount; reads = reads; alone = refl; saved = saved },
        record {
          lawful = still_lawful;
          saved = saved;
          shown = shows_system e m (s.history ∷ []) (subst (λ (x : Machine). Contains (s.history ∷ []) x.history) (sym machine) (the_one s.history));
        },
      )

  pub mounted_starts : (m : System) → IsMountOf d e m → IsSystem e m → (more : List (Past Tree)) × Mounts d found Answer.Mounted (world e (Some m) more) × Stands (world e (Some m) more)
  mounted_starts m mount system = let both = mount_stands m mount system in (s.history ∷ [], both.0, both.1)

-- the newest record of a flash that was mounted is sound, and a session begins with what it holds
pub mount_begins : (d e : Device) (m : System) → OnlyReads d e → IsMountOf d e m → IsSystem e m
    → (history : Past Tree) × (saved_trees d ≡ Some history) × Mounts d (history ∷ []) Answer.Mounted (world e (Some m) (history ∷ [])) × Stands (world e (Some m) (history ∷ []))
mount_begins d e m reads mount system =
    let lawful : IsGeometry d.geometry = subst IsGeometry reads.geometry system.mounted.lawful in
    let history : Past Tree = trees_of d mount.newest in
    let is : saved_trees d ≡ Some history = ap (λ o. option_map (trees_of d) (record_in o)) mount.holds in
    let same : saved_on e ≡ saved_on d = still_saved d e lawful reads.geometry reads.pages in
    let there : IsWholeRecord e = λ r saved. subst (HasTrees e) (one_record mount.newest r (sym (ap record_in mount.holds) ∙ (sym same ∙ saved))) mount.loaded.trees in
    let saved : IsSaved d (history ∷ []) = record { history = history; saved = is; among = the_one history; whole = still_whole e d system.mounted.lawful (sym reads.geometry) (λ p. sym (reads.pages p)) there } in
    let both = mount_stands d e (history ∷ []) lawful saved reads m mount system in
    (history, is, both.0, both.1)
  where
    one_record : (a b : Record) → Some a ≡ Some b → a ≡ b
    one_record a b x = cc

-- ---- after any event

-- a mount is answered so, on a flash whose newest record is sound
pub start_leads : (d e : Device) (t : Option System) (answer : Answer) (found : List (Past Tree)) → Starts d answer e t → IsGeometry d.geometry → IsSaved d found
    → (more : List (Past Tree)) × Mounts d found answer (world e t more) × Stands (world e t more)
start_leads d e t Answer.Mounted found start lawful saved =
    subst (λ (x : Option System). (more : List (Past Tree)) × Mounts d found Answer.Mounted (world e x more) × Stands (world e x more)) (sym start.is)
    (mounted_starts d e found lawful saved start.reads start.system start.holds start.mounted)
start_leads d e t (Answer.Refused fault) found (none, why, reads, asks) lawful saved =
    subst (λ (x : Option System). (more : List (Past Tree)) × Mounts d found (Answer.Refused fault) (world e x more) × Stands (world e x more)) (sym none)
    (refused_starts d e found lawful saved reads fault why)
start_leads d e t (Answer.Done reply) found start lawful saved = absurd start
start_leads d e t Answer.Unmounted found start lawful saved = absurd start

-- the systems before and after
on_systems : (d e : Device) (s t : Option System) (event : Event) (answer : Answer) (found : List (Past Tree)) (m n : System) → s ≡ Some m → t ≡ Some n
    → (Stands (world d (Some m) found) → Leads d (Some m) event answer e (Some n) found) → Stands (world d s found) → Leads d s event answer e t found
on_systems d e s t event answer found m n was is leads stands =
    subst (λ (x : Option System). Leads d s event answer e x found) (sym is)
    (subst (λ (x : Option System). Leads d x event answer e (Some n) found) (sym was) (leads (subst (λ (x : Option System). Stands (world d x found)) was stands)))

same_world : (d e : Device) (s t : Option System) (found : List (Past Tree)) → e ≡ d → t ≡ s → world e t found ≡ world d s found
same_world d e s t found device system = λ i. world (device i) (system i) found

pub serve_law : ServeLaw
serve_law d e s t (Event.Call call) (Answer.Done reply) found h stands =
    on_systems d e s t (Event.Call call) (Answer.Done reply) found h.before h.after h.was h.is (call_leads d h.before call (Ok reply) e h.after found h.step h.mounted) stands
serve_law d e s t (Event.Call call) (Answer.Refused fault) found h stands =
    on_systems d e s t (Event.Call call) (Answer.Refused fault) found h.before h.after h.was h.is (call_leads d h.before call (Err fault) e h.after found h.step h.mounted) stands
serve_law d e s t (Event.Call call) Answer.Mounted found h stands = absurd h
serve_law d e s t (Event.Call call) Answer.Unmounted found (none, device, system) stands =
    let same = same_world d e s t found device system in (found, (none, same), subst Stands (sym same) stands)
serve_law d e s t (Event.ReclaimStep budget) (Answer.Done reply) found (done, is, h) stands =
    subst (λ (x : Reply). Leads d s (Event.ReclaimStep budget) (Answer.Done x) e t found) (sym is)
    (on_systems d e s t (Event.ReclaimStep budget) (Answer.Done (Reply.Step done)) found h.before h.after h.was h.is (step_leads d h.before budget (Ok done) e h.after found h.step h.mounted) stands)
serve_law d e s t (Event.ReclaimStep budget) (Answer.Refused fault) found h stands =
    on_systems d e s t (Event.ReclaimStep budget) (Answer.Refused fault) found h.before h.after h.was h.is (step_leads d h.before budget (Err fault) e h.after found h.step h.mounted) stands
serve_law d e s t (Event.ReclaimStep budget) Answer.Mounted found h stands = absurd h
serve_law d e s t (Event.ReclaimStep budget) Answer.Unmounted found (none, device, system) stands =
    let same = same_world d e s t found device system in (found, (none, same), subst Stands (sym same) stands)
serve_law d e s t (Event.CleanStep budget) (Answer.Done reply) found (done, is, h) stands =
    subst (λ (x : Reply). Leads d s (Event.CleanStep budget) (Answer.Done x) e t found) (sym is)
    (on_systems d e s t (Event.CleanStep budget) (Answer.Done (Reply.Step done)) found h.before h.after h.was h.is (clean_leads d h.before budget (Ok done) e h.after found h.step h.mounted) stands)
serve_law d e s t (Event.CleanStep budget) (Answer.Refused fault) found h stands =
    on_systems d e s t (Event.CleanStep budget) (Answer.Refused fault) found h.before h.after h.was h.is (clean_leads d h.before budget (Err fault) e h.after found h.step h.mounted) stands
serve_law d e s t (Event.CleanStep budget) Answer.Mounted found h stands = absurd h
serve_law d e s t (Event.CleanStep budget) Answer.Unmounted found (none, device, system) stands =
    let same = same_world d e s t found device system in (found, (none, same), subst Stands (sym same) stands)
serve_law d e s t (Event.PrepareStep budget) (Answer.Done reply) found (done, is, h) stands =
    subst (λ (x : Reply). Leads d s (Event.PrepareStep budget) (Answer.Done x) e t found) (sym is)
    (on_systems d e s t (Event.PrepareStep budget) (Answer.Done (Reply.Step done)) found h.before h.after h.was h.is (prepare_leads d h.before budget (Ok done) e h.after found h.step h.mounted) stands)
serve_law d e s t (Event.PrepareStep budget) (Answer.Refused fault) found h stands =
    on_systems d e s t (Event.PrepareStep budget) (Answer.Refused fault) found h.before h.after h.was h.is (prepare_leads d h.before budget (Err fault) e h.after found h.step h.mounted) stands
serve_law d e s t (Event.PrepareStep budget) Answer.Mounted found h stands = absurd h
serve_law d e s t (Event.PrepareStep budget) Answer.Unmounted found (none, device, system) stands =
    let same = same_world d e s t found device system in (found, (none, same), subst Stands (sym same) stands)
serve_law d e s t Event.Restart answer found h stands =
    start_leads (put_on d) e t answer found h stands.lawful (stays_saved d (put_on d) stands.lawful refl (λ p. refl) found stands.saved)

-- ---- after events

run_served : (d e : Device) (s t : Option System) (events : List Event) (answers : List Answer) (found : List (Past Tree)) → AreServed d s events answers e t → Stands (world d s found)
    → (more : List (Past Tree)) × Run (world d s found) events answers (world e t more)
run_served d e s t [] [] found (device, system) stands = (found, same_world d e s t found device system)
run_served d e s t [] (answer ∷ answers) found h stands = absurd h
run_served d e s t (event ∷ events) [] found h stands = absurd h
run_served d e s t (event ∷ events) (answer ∷ answers) found (between, system, here, rest) stands =
    let one = serve_law d between s system event answer found here stands in
    let all = run_served between e system t events answers one.0 rest one.2 in
    (all.0, (world between system one.0, one.1, all.1))

pub session_served : (d e : Device) (t : Option System) (events : List Event) (answers : List Answer) → IsServed d events answers e t → IsSound d → IsSession d events answers e t
session_served d e t events [] h sound = absurd h
session_served d e t events (first ∷ answers) (between, system, start, rest) sound =
    let saved : IsSaved d (sound.history ∷ []) = record { history = sound.history; saved = sound.saved; among = the_one sound.history; whole = sound.whole } in
    let begun = start_leads d between system first (sound.history ∷ []) start sound.lawful saved in
    let all = run_served between e system t events answers begun.0 rest begun.2 in
    (all.0, (sound.history, world between system begun.0, sound.saved, begun.1, all.1))
