-- What a change group leaves over the worlds of a run.
use Rattle.std.proofs.Common.{◌≡◌, Bool, true, false, cond, None, arith, Ok, List, [], ◌∷◌, ◌++◌, ap, subst, sym, refl, inl, inr, ◌⊎◌, ◌∙◌}
use Rattle.std.specs.Prelude.{Contains, is_some}
use Rattle.std.proofs.lemmas.List.Elements.{Contains-push_cases}
use Rattle.history_machine.specs.History.{Past, IsLawful}
use Rattle.history_machine.specs.Laws.{GroupLaw, EachStays, in_group}
use Rattle.history_machine.specs.Machine.{Machine, refusal, next, present_tree, working_tree}
use Rattle.history_machine.proofs.Groups.{stays}
use Rattle.plain_trees.specs.Trees.{Tree}
use Rattle.fs_types.specs.declared.call.Call.{Call}
use Rattle.fs_types.specs.declared.call.Reply.{Reply}
use Rattle.fs_types.specs.declared.event.Event.{Event}
use Rattle.fs_types.specs.declared.event.Answer.{Answer}
use Rattle.working_state.specs.Seen.{machine_on, shown_on}
use Rattle.working_state.specs.Steps.{is_sync}
use Rattle.undofs.specs.Groups.{IsInGroup, Regroups, RegroupLaw}
use Rattle.undofs.specs.Runs.{World, Shows, Run, NoneRestarts, accepted, found_after}
use Rattle.undofs.proofs.RunLaws.{shown, refused_keeps, not_both}
use Rattle.undofs.proofs.HeadlineLaws.{accepts_next, carries_out, one_machine, no_space, begins, holds_on}

-- a history that a restart may find after calls in a group: it was so before, or is the history that stands
abbrev IsOld : List (Past Tree) → Past Tree → Past Tree → Type 0
IsOld found past h = Contains found h ⊎ (h ≡ past)

alone : (x h : Past Tree) → Contains (x ∷ []) h → Contains {X = Past Tree} [] h ⊎ (x ≡ h)
alone x h has = Contains-push_cases [] x h has

added : (sync : Bool) (found : List (Past Tree)) (x past h : Past Tree) → x ≡ past → Contains (cond sync (x ∷ []) (found ++ x ∷ [])) h → IsOld found past h
added true found x past h same has = one (alone x h has)
  where
    one : Contains {X = Past Tree} [] h ⊎ (x ≡ h) → IsOld found past h
    one (inl (k, within, is)) = absurd (omega arith)
    one (inr is) = inr (sym is ∙ same)
added false found x past h same has = part (Contains-push_cases found x h has)
  where
    part : Contains found h ⊎ (x ≡ h) → IsOld found past h
    part (inl old) = inl old
    part (inr is) = inr (sym is ∙ same)

found_stays : (past : Past Tree) (w : World) (m : Machine) (events : List Event) (answers : List Answer) (v : World) → Shows w m → m.history ≡ past → is_some m.group ≡ true
    → EachStays m (accepted events answers) → NoneRestarts events → Run w events answers v → (h : Past Tree) → Contains v.found h → IsOld w.found past h
found_stays past w m [] [] v is same there each calls run h has = inl (subst (λ (x : World). Contains x.found h) run has)
found_stays past w m [] (answer ∷ answers) v is same there each calls run h has = absurd run
found_stays past w m (event ∷ events) [] v is same there each calls run h has = absurd run
found_stays past w m (Event.Call call ∷ events) (Answer.Done reply ∷ answers) v is same there each calls (between, here, rest) h has =
    let then = accepts_next w between m call is (reply, here) in
    let step = stays m (call ∷ []) there (each.0, tt) in
    last (found_stays past between (next m call) events answers v then.1 (step.0 ∙ same) each.0 each.1 calls rest h has)
  where
    last : IsOld between.found past h → IsOld w.found past h
    last (inr is_past) = inr is_past
    last (inl old) =
        let then = accepts_next w between m call is (reply, here) in
        let step = stays m (call ∷ []) there (each.0, tt) in
        let now : (machine_on between.device here.after.state).history ≡ past = ap (λ (x : Machine). x.history) (shown between (next m call) here.after then.1 here.is) ∙ step.0 ∙ same in
        added (is_sync call) w.found (machine_on between.device here.after.state).history past h now (subst (λ (x : List (Past Tree)). Contains x h) here.found old)
found_stays past w m (Event.Call call ∷ events) (Answer.Refused fault ∷ answers) v is same there each calls (between, here, rest) h has =
    let keeps : machine_on between.device here.after.state ≡ m = refused_keeps _ (shown_on w.device here.before.state) call fault (shown_on between.device here.after.state) here.step.answers ∙ shown w m here.before is here.was in
    subst (λ (x : List (Past Tree)). IsOld x past h) here.found (found_stays past between m events answers v (here.after, here.is, keeps) same there each calls rest h has)
found_stays past w m (Event.Call call ∷ events) (Answer.Mounted ∷ answers) v is same there each calls (between, here, rest) h has = absurd here
found_stays past w m (Event.Call call ∷ events) (Answer.Unmounted ∷ answers) v is same there each calls (between, here, rest) h has = absurd (not_both w is.0 is.1 here.0)
found_stays past w m (Event.ReclaimStep budget ∷ events) (Answer.Done reply ∷ answers) v is same there each calls (between, here, rest) h has =
    subst (λ (x : List (Past Tree)). IsOld x past h) here.2.found
    (found_stays past between m events answers v (here.2.after, here.2.is, here.2.step.stays.machine ∙ shown w m here.2.before is here.2.was) same there each calls rest h has)
found_stays past w m (Event.ReclaimStep budget ∷ events) (Answer.Refused fault ∷ answers) v is same there each calls (between, here, rest) h has =
    subst (λ (x : List (Past Tree)). IsOld x past h) here.found
    (found_stays past between m events answers v (here.after, here.is, here.step.stays.machine ∙ shown w m here.before is here.was) same there each calls rest h has)
found_stays past w m (Event.ReclaimStep budget ∷ events) (Answer.Mounted ∷ answers) v is same there each calls (between, here, rest) h has = absurd here
found_stays past w m (Event.ReclaimStep budget ∷ events) (Answer.Unmounted ∷ answers) v is same there each calls (between, here, rest) h has = absurd (not_both w is.0 is.1 here.0)
found_stays past w m (Event.CleanStep budget ∷ events) (Answer.Done reply ∷ answers) v is same there each calls (between, here, rest) h has =
    subst (λ (x : List (Past Tree)). IsOld x past h) here.2.found
    (found_stays past between m events answers v (here.2.after, here.2.is, here.2.step.undisturbed.machine ∙ shown w m here.2.before is here.2.was) same there each calls rest h has)
found_stays past w m (Event.CleanStep budget ∷ events) (Answer.Refused fault ∷ answers) v is same there each calls (between, here, rest) h has =
    subst (λ (x : List (Past Tree)). IsOld x past h) here.found
    (found_stays past between m events answers v (here.after, here.is, here.step.undisturbed.machine ∙ shown w m here.before is here.was) same there each calls rest h has)
found_stays past w m (Event.CleanStep budget ∷ events) (Answer.Mounted ∷ answers) v is same there each calls (between, here, rest) h has = absurd here
found_stays past w m (Event.CleanStep budget ∷ events) (Answer.Unmounted ∷ answers) v is same there each calls (between, here, rest) h has = absurd (not_both w is.0 is.1 here.0)
found_stays past w m (Event.PrepareStep budget ∷ events) (Answer.Done reply ∷ answers) v is same there each calls (between, here, rest) h has =
    subst (λ (x : List (Past Tree)). IsOld x past h) here.2.found
    (found_stays past between m events answers v (here.2.after, here.2.is, here.2.step.undisturbed.machine ∙ shown w m here.2.before is here.2.was) same there each calls rest h has)
found_stays past w m (Event.PrepareStep budget ∷ events) (Answer.Refused fault ∷ answers) v is same there each calls (between, here, rest) h has =
    subst (λ (x : List (Past Tree)). IsOld x past h) here.found
    (found_stays past between m events answers v (here.after, here.is, here.step.undisturbed.machine ∙ shown w m here.before is here.was) same there each calls rest h has)
found_stays past w m (Event.PrepareStep budget ∷ events) (Answer.Mounted ∷ answers) v is same there each calls (between, here, rest) h has = absurd here
found_stays past w m (Event.PrepareStep budget ∷ events) (Answer.Unmounted ∷ answers) v is same there each calls (between, here, rest) h has = absurd (not_both w is.0 is.1 here.0)
found_stays past w m (Event.Restart ∷ events) (answer ∷ answers) v is same there each calls run h has = absurd calls

-- what a restart may find after `begin`
before_begin : (found begun : List (Past Tree)) (reply : Reply) (x past h : Past Tree) → x ≡ past → begun ≡ found_after Call.Begin (Ok reply) found x → IsOld begun past h → IsOld found past h
before_begin found begun reply x past h same is (inr e) = inr e
before_begin found begun reply x past h same is (inl has) = added (is_sync Call.Begin) found x past h same (subst (λ (y : List (Past Tree)). Contains y h) is has)

-- the group that `begin` opens is open
opened : (m : Machine) → refusal m Call.Begin ≡ None → (is_some (next m Call.Begin).group ≡ true) × ((next m Call.Begin).history ≡ m.history)
opened m none = rw none (refl, refl)

module _ (law : GroupLaw) (w : World) (m : Machine) (lawful : IsLawful m.history) (is : Shows w m) where
  -- the group was begun, and this is shown before it ends
  inner : (calls : List Call) (inside : World) → IsInGroup w m calls inside → (refusal m Call.Begin ≡ None) × Shows inside (in_group m calls)
  inner calls inside group = carries_out w inside m Call.Begin calls is group.done

  pub regroups : Regroups w m
  regroups = record {
    abandoned = λ calls inside v n group last now.
        let here = inner calls inside group in
        let back = accepts_next inside v (in_group m calls) Call.Abandon here.1 last in
        one_machine v (next (in_group m calls) Call.Abandon) n back.1 now ∙ law.abandons no_space m calls here.0 group.stays back.0;
    ended = λ calls inside v g n group there last now.
        let here = inner calls inside group in
        let end = accepts_next inside v (in_group m calls) Call.End here.1 last in
        ap (λ (x : Machine). working_tree x) (one_machine v (next (in_group m calls) Call.End) n end.1 now)
        ∙ law.shows m calls lawful here.0 group.stays end.0
        ∙ ap (λ (x : Machine). working_tree x) (one_machine inside g (in_group m calls) there here.1);
    undone = λ calls inside ended v n group makes end last now.
        let here = inner calls inside group in
        let after_end = accepts_next inside ended (in_group m calls) Call.End here.1 end in
        let back = accepts_next ended v (next (in_group m calls) Call.End) Call.Undo after_end.1 last in
        ap (λ (x : Machine). present_tree x) (one_machine v (next (next (in_group m calls) Call.End) Call.Undo) n back.1 now)
        ∙ (law.ends no_space m calls lawful here.0 group.stays makes).2;
    lost = λ calls inside v n group restart now.
        let done = group.done in
        let here = accepts_next w done.between m Call.Begin is done.first in
        let open' = opened m here.0 in
        let each' : EachStays (next m Call.Begin) (accepted done.later.0 done.later.1) = subst (EachStays (next m Call.Begin)) (sym done.later.4) group.stays in
        let old = found_stays m.history done.between (next m Call.Begin) done.later.0 done.later.1 inside here.1 open'.1 open'.0 each' done.later.2 done.later.3 restart.history restart.among in
        let now' : (machine_on done.between.device done.first.1.after.state).history ≡ m.history = ap (λ (x : Machine). x.history) (shown done.between (next m Call.Begin) done.first.1.after here.1 done.first.1.is) ∙ open'.1 in (
          restart.history,
          before_begin w.found done.between.found done.first.0 (machine_on done.between.device done.first.1.after.state).history m.history restart.history now' done.first.1.found old,
          sym (shown v n restart.system now restart.is) ∙ restart.machine,
        );
  }

pub regroup_law : GroupLaw → RegroupLaw
regroup_law law d events [] v session m is = absurd session
regroup_law law d events (first ∷ answers) v (history, w, saved, mounts, run) m is =
    let holds = holds_on w events answers v (begins d history first w mounts).holds run in
    regroups law v m (subst (λ (x : Machine). IsLawful x.history) is.2 (holds is.0 is.1).mounted.machine.lawful) is
