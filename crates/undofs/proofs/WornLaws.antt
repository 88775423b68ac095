-- Each block that is listed as bad is worn, after any session.
use Rattle.std.proofs.Common.{◌≡◌, ℕ, ◌+◌, Bool, true, false, Some, None, Result, Ok, Err, List, [], ◌∷◌, inl, inr, refl, sym, ap, subst, ◌∙◌}
use Rattle.std.specs.FinSet as set
use Rattle.std.specs.Ordering.{nat_cmp}
use Rattle.fs_types.specs.declared.call.Call.{Call}
use Rattle.fs_types.specs.declared.call.Reply.{Reply}
use Rattle.fs_types.specs.declared.event.Event.{Event}
use Rattle.fs_types.specs.declared.event.Answer.{Answer}
use Rattle.fs_types.specs.declared.fault.Fault.{Fault}
use Rattle.fs_types.specs.declared.fault.Fault.TheVariants.{PowerCut}
use Rattle.history_machine.specs.History.{Past}
use Rattle.plain_trees.specs.Trees.{Tree}
use Rattle.flash_model.specs.Device.{Device}
use Rattle.flash_model.specs.Reading.{OnlyReads}
use Rattle.record_format.specs.declared.record.Record.{Record}
use Rattle.anchors.specs.Parts.{newest_on, greatest_on}
use Rattle.anchors.specs.Committing.{Commits, IsCommitted}
use Rattle.anchors.specs.Keeping.{KeepsNewest}
use Rattle.anchors.proofs.Beginning.{committed_is_newest}
use Rattle.anchors.proofs.NewestLaws.{only_anchors_matter}
use Rattle.working_state.specs.Steps.{is_sync}
use Rattle.system.specs.Commits.{record_on, Saves, TriesOnce}
use Rattle.system.specs.Cleaning.{IsUndisturbed}
use Rattle.system.specs.Reclaiming.{Reclaims}
use Rattle.system.specs.Rooms.{MarksAnew, LacksCommit}
use Rattle.mounting.specs.Saved.{record_in, saved_on}
use Rattle.system.specs.Steps.{SystemStep, TriesTwice}
use Rattle.system.specs.declared.systems.System.{System}
use Rattle.system.proofs.Committed.{same_saved}
use Rattle.undofs.specs.Runs.{World, put_on, Calls, ReclaimsOn, CleansOn, PreparesOn, Mounts, Happens, Run}
use Rattle.undofs.specs.Worn.{AreWorn, RecordListsWorn, SystemListsWorn, WornLaw}
use Rattle.undofs.proofs.RunLaws.{not_both}

abbrev Bad : Type 0
Bad = set.FinSet nat_cmp

-- worn blocks stay worn
abbrev StayWorn : Device → Device → Type 0
StayWorn d e = (b : ℕ) → d.worn b ≡ true → e.worn b ≡ true

-- the newest record and a system list worn blocks alone
record ListWorn (d : Device) (m : System) : Type 0 where
  pub saved : RecordListsWorn d
  pub listed : AreWorn d m.state.storage.bad

-- ---- lists that grow

-- a list that grew by worn blocks
grown_worn : (d e : Device) (was now : Bad) → ((b : ℕ) → set.contains now b ≡ true → set.contains was b ≡ false → e.worn b ≡ true) → StayWorn d e → AreWorn d was → AreWorn e now
grown_worn d e was now new stay worn b has = by (set.contains was b) refl
  where
    by : (x : Bool) → set.contains was b ≡ x → e.worn b ≡ true
    by true old = stay b (worn b old)
    by false none = new b has none

same_record_worn : (d e : Device) → saved_on e ≡ saved_on d → StayWorn d e → RecordListsWorn d → RecordListsWorn e
same_record_worn d e same stay worn r is b has = stay b (worn r (sym same ∙ is) b has)

-- ---- after reads

read_stay : (d e : Device) → OnlyReads d e → StayWorn d e
read_stay d e reads b worn = reads.worn b ∙ worn

read_saved : (d e : Device) → OnlyReads d e → saved_on e ≡ saved_on d
read_saved d e reads = same_saved d e reads.geometry (λ i. newest_on d.geometry (λ p. reads.pages p i))

read_record_worn : (d e : Device) → OnlyReads d e → RecordListsWorn d → RecordListsWorn e
read_record_worn d e reads worn = same_record_worn d e (read_saved d e reads) (read_stay d e reads) worn

reclaims_worn : (d : Device) (m : System) (budget : ℕ) (result : Result Bool Fault) (e : Device) (n : System) → Reclaims d m budget result e n → ListWorn d m → ListWorn e n
reclaims_worn d m budget result e n step worn = record {
  saved = read_record_worn d e step.stays.reads worn.saved;
  listed = λ b has. read_stay d e step.stays.reads b (worn.listed b (ap (λ (x : Bad). set.contains x b) (sym step.stays.bad) ∙ has));
}

-- ---- after a commit

same_record : (a b : Record) → Some a ≡ Some b → a ≡ b
same_record a b e = cc

module _ {T : Type 0} (d : Device) (m : System) (result : Result T Fault) (e : Device) (n : System) (saves : Saves d m result e n) (worn : ListWorn d m) where
  stay : StayWorn d e
  stay = saves.only_anchors.worn

  now_listed : AreWorn e n.state.storage.bad
  now_listed = grown_worn d e m.state.storage.bad n.state.storage.bad saves.only_anchors.bad_worn stay worn.listed

  kept : KeepsNewest d.geometry d.pages e.pages → RecordListsWorn e
  kept keeps = same_record_worn d e (same_saved d e saves.only_anchors.geometry keeps.newest) stay worn.saved

  written : IsCommitted e.pages (record_on d m.state) (greatest_on d.geometry d.pages + 1) n.state.storage.bad → RecordListsWorn e
  written committed r is b has =
      let law = committed_is_newest e (record_on d m.state) (greatest_on d.geometry d.pages + 1) n.state.storage.bad saves.only_anchors.geometry committed in
      let newest : Record = record (record_on d m.state) { sequence = greatest_on d.geometry d.pages + 1; bad = law.0 } in
      let one : newest ≡ r = same_record newest r (sym (ap record_in law.3) ∙ is) in
      let list : set.from_list r.bad ≡ n.state.storage.bad = ap (λ (x : Record). set.from_list x.bad) (sym one) ∙ law.2 in
      now_listed b (ap (λ (x : Bad). set.contains x b) (sym list) ∙ has)

  now_saved : (r : Result T Fault) → Commits d.pages e.pages (record_on d m.state) (greatest_on d.geometry d.pages + 1) n.state.storage.bad r → RecordListsWorn e
  now_saved (Ok done) committed = written committed
  now_saved (Err PowerCut) (inl keeps) = kept keeps
  now_saved (Err PowerCut) (inr committed) = written committed
  now_saved (Err _) keeps = kept keeps

  saves_worn : ListWorn e n
  saves_worn = record { saved = now_saved result saves.commits; listed = now_listed }

-- ---- after a call

once_worn : (d : Device) (m : System) (call : Call) (result : Result Reply Fault) (e : Device) (n : System) → TriesOnce d m call result e n → ListWorn d m → ListWorn e n
once_worn d m call result e n once worn = by (is_sync call) refl
  where
    by : (x : Bool) → is_sync call ≡ x → ListWorn e n
    by true sync = saves_worn d m result e n (once.saves sync) worn
    by false other =
        let evolved = (once.leaves other).written.evolved in
        record {
          saved = same_record_worn d e (same_saved d e evolved.geometry (only_anchors_matter d.geometry d.pages e.pages evolved.anchor_pages)) evolved.worn worn.saved;
          listed = grown_worn d e m.state.storage.bad n.state.storage.bad evolved.bad_worn evolved.worn worn.listed;
        }

marks_worn : (d : Device) (m : System) (result : Result Bool Fault) (e : Device) (n : System) → MarksAnew d m result e n → ListWorn d m → ListWorn e n
marks_worn d m result e n marks worn =
    let committed : ListWorn marks.device marks.system = saves_worn d (record m { pass = None }) (Ok tt) marks.device marks.system marks.saves (record { saved = worn.saved; listed = worn.listed }) in
    reclaims_worn marks.device marks.system _ result e n marks.marks committed

lacks_worn : (d : Device) (m : System) (fault : Fault) (e : Device) (n : System) → LacksCommit d m fault e n → ListWorn d m → ListWorn e n
lacks_worn d m fault e n lacks worn = saves_worn {T = Unit {0}} d (record m { pass = None }) (Err fault) e n lacks.saves (record { saved = worn.saved; listed = worn.listed })

twice_worn : (d : Device) (m : System) (call : Call) (result : Result Reply Fault) (e : Device) (n : System) → TriesTwice d m call result e n → ListWorn d m → ListWorn e n
twice_worn d m call result e n twice worn = elim twice.rest [
  | inl lacks ↦ elim lacks.why [
    | inl commit ↦ lacks_worn twice.device twice.system lacks.fault e n commit first
    | inr marks ↦ marks_worn twice.device twice.system (Err lacks.fault) e n marks first
  ]
  | inr again ↦ once_worn again.device again.system call result e n again.second (marks_worn twice.device twice.system (Ok true) again.device again.system again.room first)
]
  where
    first : ListWorn twice.device twice.system
    first = once_worn d m call _ twice.device twice.system twice.first worn

step_worn : (d : Device) (m : System) (call : Call) (result : Result Reply Fault) (e : Device) (n : System) → SystemStep d m call result e n → ListWorn d m → ListWorn e n
step_worn d m call result e n step worn = elim step.tries [ inl once ↦ once_worn d m call result e n once.0 worn | inr twice ↦ twice_worn d m call result e n twice worn ]

-- ---- worlds

record IsWorn (w : World) : Type 0 where
  pub saved : RecordListsWorn w.device
  pub listed : SystemListsWorn w

the_one : (w : World) (s t : System) → w.system ≡ Some s → w.system ≡ Some t → s ≡ t
the_one w s t is other = cc

with_system : (v : World) (n : System) → v.system ≡ Some n → ListWorn v.device n → IsWorn v
with_system v n is worn = record {
  saved = worn.saved;
  listed = λ s there. subst (λ (x : System). AreWorn v.device x.state.storage.bad) (the_one v n s is there) worn.listed;
}

of_system : (w : World) (m : System) → w.system ≡ Some m → IsWorn w → ListWorn w.device m
of_system w m was worn = record { saved = worn.saved; listed = worn.listed m was }

calls_worn : (w : World) (call : Call) (result : Result Reply Fault) (v : World) → Calls w call result v → IsWorn w → IsWorn v
calls_worn w call result v here worn =
    with_system v here.after here.is (step_worn w.device here.before call result v.device here.after here.step (of_system w here.before here.was worn))

reclaimed_worn : (w : World) (budget : ℕ) (result : Result Bool Fault) (v : World) → ReclaimsOn w budget result v → IsWorn w → IsWorn v
reclaimed_worn w budget result v here worn =
    with_system v here.after here.is (reclaims_worn w.device here.before budget result v.device here.after here.step (of_system w here.before here.was worn))

undisturbed_worn : (d : Device) (m : System) (e : Device) (n : System) → IsUndisturbed d m e n → ListWorn d m → ListWorn e n
undisturbed_worn d m e n u worn = record {
  saved = same_record_worn d e (same_saved d e u.device.geometry u.newest.newest) u.device.worn worn.saved;
  listed = grown_worn d e m.state.storage.bad n.state.storage.bad (λ b now before. (u.new_bad b now before).1) u.device.worn worn.listed;
}

cleaned_worn : (w : World) (budget : ℕ) (result : Result Bool Fault) (v : World) → CleansOn w budget result v → IsWorn w → IsWorn v
cleaned_worn w budget result v here worn =
    with_system v here.after here.is (undisturbed_worn w.device here.before v.device here.after here.step.undisturbed (of_system w here.before here.was worn))

prepared_worn : (w : World) (budget : ℕ) (result : Result Bool Fault) (v : World) → PreparesOn w budget result v → IsWorn w → IsWorn v
prepared_worn w budget result v here worn =
    with_system v here.after here.is (undisturbed_worn w.device here.before v.device here.after here.step.undisturbed (of_system w here.before here.was worn))

mounts_worn : (d : Device) (found : List (Past Tree)) (answer : Answer) (v : World) → Mounts d found answer v → RecordListsWorn d → IsWorn v
mounts_worn d found Answer.Mounted v here worn = with_system v here.system here.is (record {
  saved = read_record_worn d v.device here.reads worn;
  listed = λ b has. read_stay d v.device here.reads b (worn here.holds.newest (ap record_in here.holds.holds) b (ap (λ (x : Bad). set.contains x b) (sym here.holds.loaded.bad) ∙ has));
})
mounts_worn d found (Answer.Refused fault) v (none, same, why, reads, saved) worn = record {
  saved = read_record_worn d v.device reads worn;
  listed = λ s is. absurd (not_both v s is none);
}
mounts_worn d found (Answer.Done reply) v here worn = absurd here
mounts_worn d found Answer.Unmounted v here worn = absurd here

happens_worn : (w : World) (event : Event) (answer : Answer) (v : World) → Happens w event answer v → IsWorn w → IsWorn v
happens_worn w (Event.Call call) (Answer.Done reply) v here worn = calls_worn w call (Ok reply) v here worn
happens_worn w (Event.Call call) (Answer.Refused fault) v here worn = calls_worn w call (Err fault) v here worn
happens_worn w (Event.Call call) Answer.Mounted v here worn = absurd here
happens_worn w (Event.Call call) Answer.Unmounted v here worn = subst IsWorn (sym here.1) worn
happens_worn w (Event.ReclaimStep budget) (Answer.Done reply) v here worn = reclaimed_worn w budget (Ok here.0) v here.2 worn
happens_worn w (Event.ReclaimStep budget) (Answer.Refused fault) v here worn = reclaimed_worn w budget (Err fault) v here worn
happens_worn w (Event.ReclaimStep budget) Answer.Mounted v here worn = absurd here
happens_worn w (Event.ReclaimStep budget) Answer.Unmounted v here worn = subst IsWorn (sym here.1) worn
happens_worn w (Event.CleanStep budget) (Answer.Done reply) v here worn = cleaned_worn w budget (Ok here.0) v here.2 worn
happens_worn w (Event.CleanStep budget) (Answer.Refused fault) v here worn = cleaned_worn w budget (Err fault) v here worn
happens_worn w (Event.CleanStep budget) Answer.Mounted v here worn = absurd here
happens_worn w (Event.CleanStep budget) Answer.Unmounted v here worn = subst IsWorn (sym here.1) worn
happens_worn w (Event.PrepareStep budget) (Answer.Done reply) v here worn = prepared_worn w budget (Ok here.0) v here.2 worn
happens_worn w (Event.PrepareStep budget) (Answer.Refused fault) v here worn = prepared_worn w budget (Err fault) v here worn
happens_worn w (Event.PrepareStep budget) Answer.Mounted v here worn = absurd here
happens_worn w (Event.PrepareStep budget) Answer.Unmounted v here worn = subst IsWorn (sym here.1) worn
happens_worn w Event.Restart answer v here worn = mounts_worn (put_on w.device) w.found answer v here worn.saved

run_worn : (w : World) (events : List Event) (answers : List Answer) (v : World) → Run w events answers v → IsWorn w → IsWorn v
run_worn w [] [] v run worn = subst IsWorn (sym run) worn
run_worn w [] (answer ∷ answers) v run worn = absurd run
run_worn w (event ∷ events) [] v run worn = absurd run
run_worn w (event ∷ events) (answer ∷ answers) v (between, here, rest) worn = run_worn between events answers v rest (happens_worn w event answer between here worn)

pub worn_law : WornLaw
worn_law d events [] v worn session = absurd session
worn_law d events (first ∷ answers) v worn (history, w, saved, mounts, run) =
    let last = run_worn w events answers v run (mounts_worn d (history ∷ []) first w mounts worn) in (last.saved, last.listed)
