-- What is still known of open files after a call.
use Rattle.std.proofs.Common.{◌≡◌, ◌≢◌, ℕ, true, false, Option, Some, None, Result, Ok, Err, refl, sym, ap, subst, ◌∙◌}
use Rattle.std.proofs.lemmas.Bool.{true≢false}
use Rattle.std.specs.Prelude.{is_some}
use Rattle.std.specs.Option.{option_map_or}
use Rattle.fs_types.specs.declared.call.Call.{Call}
use Rattle.fs_types.specs.declared.call.Reply.{Reply}
use Rattle.fs_types.specs.declared.fault.Fault.{Fault}
use Rattle.flash_model.specs.Device.{Device}
use Rattle.history_machine.specs.Descriptors.{Descriptor, Descriptors, descriptor_at, least_free, opened, opened_at_least}
use Rattle.history_machine.specs.History.{working_root}
use Rattle.history_machine.specs.Machine.{Machine, descriptors_after, machine_of}
use Rattle.node_store.specs.Storage.{is_kept, Evolved}
use Rattle.node_store.specs.StorageLaws.{Untouched_evolved}
use Rattle.working_state.specs.Moments.{Moment, machine_at, shown_at, storage_at, IsMountedAt, IsAnswered}
use Rattle.working_state.specs.OpenBodies.{known_at, nothing_known, kept_bodies, IsKnownOf, KnowsBelow, KnowsBodies}
use Rattle.working_state.specs.Steps.{is_cut_answer, AnswersOnce}
use Rattle.working_state.specs.Worked.{IsLooked}
use Rattle.working_state.specs.declared.known_bodies.KnownBodies.{KnownBodies}
use Rattle.working_state.specs.declared.known_bodies.KnownBody.{KnownBody}
use Rattle.working_state.proofs.PathCalls.{working_stands}
use Rattle.working_state.proofs.KeptBodies.{set_other, free_empty, by_same, kept_known, knows_nothing, knows_less}
use Rattle.working_state.proofs.Standing.{keeps, same_capacity, same_working}

-- reads and writes of nodes leave it
pub evolved_known : (a b : Moment) (bodies : KnownBodies) (root : ℕ) → IsMountedAt a → Evolved (storage_at a) (storage_at b) → working_root a.state.history a.state.group ≡ Some root
    → KnowsBelow a.device root a.state.files bodies → KnowsBelow b.device root a.state.files bodies
evolved_known a b bodies root m evolved is knows =
    let stands = working_stands a root m is in
    kept_known a.device b.device (is_kept (storage_at a)) (is_kept (storage_at b)) root a.state.files bodies (keeps (storage_at a) (storage_at b) m.lawful evolved) (same_capacity (storage_at a) (storage_at b) evolved)
    stands.held stands.rooted knows

-- a look at nodes leaves it
pub looked_knows : (a b : Moment) (bodies : KnownBodies) → IsMountedAt a → IsLooked a b → KnowsBodies a.device a.state bodies → KnowsBodies b.device b.state bodies
looked_knows a b bodies m l knows root is =
    let here : working_root a.state.history a.state.group ≡ Some root = sym (same_working a.state b.state l.rest) ∙ is in
    subst (λ (files : Descriptors). KnowsBelow b.device root files bodies) (sym l.rest.files)
    (evolved_known a b bodies root m (Untouched_evolved (storage_at a) (storage_at b) l.untouched) here (knows root here))

-- a file that is open stays open where another is opened
stays_open : (files : Descriptors) (file : Descriptor) (k : ℕ) → is_some (descriptor_at files k) ≡ true → descriptor_at (opened_at_least files file) k ≡ descriptor_at files k
stays_open files file k some = by (least_free files) refl
  where
    by : (o : Option ℕ) → least_free files ≡ o → descriptor_at (opened_at_least files file) k ≡ descriptor_at files k
    by None none = ap (λ (o : Option ℕ). descriptor_at (option_map_or (λ n. opened files n file) o files) k) none
    by (Some n) free =
        ap (λ (o : Option ℕ). descriptor_at (option_map_or (λ n. opened files n file) o files) k) free
        ∙ set_other files n k (Some file) (λ same. absurd (true≢false (sym some ∙ ap is_some (ap (descriptor_at files) same ∙ free_empty files n free))))

pub left_known : (e : Device) (root : ℕ) (m : Machine) (call : Call) (bodies : KnownBodies) → KnowsBelow e root m.descriptors bodies → KnowsBelow e root (descriptors_after m call) (kept_bodies call bodies)
left_known e root m (Call.Open path flags) bodies knows k known is =
    let so = knows k known is in
    subst (λ (o : Option Descriptor). IsKnownOf e root o known) (sym (stays_open m.descriptors (record { path = path; flags = flags }) k so.is_open)) so
left_known e root m (Call.Close n) bodies knows k known is =
    let left = knows_less bodies n k known is in
    subst (λ (o : Option Descriptor). IsKnownOf e root o known) (sym (set_other m.descriptors n k None left.0)) (knows k known left.1)
left_known e root m call bodies knows k known is = knows k known is

-- what is kept was known
kept_less : (call : Call) (bodies : KnownBodies) (k : ℕ) (known : KnownBody) → known_at (kept_bodies call bodies) k ≡ Some known → known_at bodies k ≡ Some known
kept_less (Call.Close n) bodies k known is = (knows_less bodies n k known is).1
kept_less call bodies k known is = is

pub answered_known : (a b : Moment) (call : Call) (result : Result Reply Fault) (bodies : KnownBodies) (root : ℕ) → IsAnswered a call result b → KnowsBelow b.device root a.state.files bodies
    → KnowsBelow b.device root b.state.files (kept_bodies call bodies)
answered_known a b call result bodies root answered knows = by result answered.step.answers
  where
    by : (r : Result Reply Fault) → AnswersOnce (shown_at a false) call r (shown_at b (is_cut_answer result)) → KnowsBelow b.device root b.state.files (kept_bodies call bodies)
    by (Ok reply) answers =
        let leaves : machine_at b ≡ machine_of (machine_at a) call None = answers.1.leaves ∙ ap (machine_of (machine_at a) call) answers.1.accepted in
        subst (λ (files : Descriptors). KnowsBelow b.device root files (kept_bodies call bodies)) (sym (ap (λ (m : Machine). m.descriptors) leaves)) (left_known b.device root (machine_at a) call bodies knows)
    by (Err fault) answers =
        subst (λ (files : Descriptors). KnowsBelow b.device root files (kept_bodies call bodies)) (sym (ap (λ (m : Machine). m.descriptors) answers.1))
        (λ k known is. knows k known (kept_less call bodies k known is))

-- what is remembered after it
pub call_knows : (a b : Moment) (call : Call) (result : Result Reply Fault) (bodies left : KnownBodies) (root : ℕ) → IsAnswered a call result b → KnowsBelow b.device root a.state.files bodies
    → (working_root b.state.history b.state.group ≡ Some root → left ≡ kept_bodies call bodies)
    → ((now : ℕ) → working_root b.state.history b.state.group ≡ Some now → now ≢ root → left ≡ nothing_known) → KnowsBodies b.device b.state left
call_knows a b call result bodies left root answered knows same other now is = by_same now root
    (λ here. subst (λ (x : KnownBodies). KnowsBelow b.device now b.state.files x) (sym (same (is ∙ ap Some here)))
    (subst (λ (r : ℕ). KnowsBelow b.device r b.state.files (kept_bodies call bodies)) (sym here) (answered_known a b call result bodies root answered knows)))
    (λ apart. subst (λ (x : KnownBodies). KnowsBelow b.device now b.state.files x) (sym (other now is apart)) (knows_nothing b.device now b.state.files))
