-- What a commit on the anchors makes of a system.
use Rattle.std.proofs.Common.{◌≡◌, ◌≢◌, ℕ, ◌+◌, ◌*◌, ◌≤◌, ◌-◌, ◌^◌, Bool, true, false, ◌||◌, Some, None, Result, Ok, Err, inl, refl, sym, ap, subst, ◌∙◌}
use Rattle.std.proofs.lemmas.Bool.{true≢false}
use Rattle.std.specs.Prelude.{OnOk, OnErr, IfErr, MatchResult, Vec}
use Rattle.std.specs.declared.alloc.Global.{Global}
use Rattle.std.specs.FinSet as set
use Rattle.std.specs.Ordering.{nat_cmp}
use Rattle.fs_types.specs.declared.fault.Fault.{Fault}
use Rattle.fs_types.specs.declared.fault.Fault.TheVariants.{Overflow, PowerCut, ReadOnly, ReadFailed, NoMemory}
use Rattle.fs_types.specs.declared.limits.TheConstants.{ANCHORS}
use Rattle.flash_model.specs.Device.{Device, block_of}
use Rattle.block_ring.specs.Ring.{AreDataBlocks}
use Rattle.bad_blocks.specs.Mode.{is_read_only}
use Rattle.record_format.specs.declared.record.Record.{Record}
use Rattle.anchors.specs.declared.anchors.Anchors.{Anchors}
use Rattle.anchors.specs.Parts.{greatest_on}
use Rattle.anchors.specs.Anchored.{OnlyAnchors}
use Rattle.anchors.specs.Committing.{Commits}
use Rattle.anchors.specs.Newest.{remembered}
use Rattle.anchors.specs.Remembering.{KnowsNewest, MayCommit, ReadsNone, IsPlaced, Remembers, CommitCause}
use Rattle.working_state.specs.Steps.{is_cut_answer}
use Rattle.working_state.specs.declared.state.State.{State}
use Rattle.system.specs.Commits.{record_on, Saves, SaveCause}
use Rattle.mounting.specs.Records.{history_of, roots_of}
use Rattle.mounting.specs.Saved.{saved_on}
use Rattle.system.specs.Systems.{IsSystem}
use Rattle.system.specs.declared.systems.System.{System}
use Rattle.system.proofs.AfterCommits.{is_newest, not_none, is_system}
use Rattle.system.proofs.Committed.{same_saved, newly_saved}
use Rattle.system.proofs.Running.{still_running}

-- the state with another bad list, and with its flag
abbrev pub with_bad : State → set.FinSet nat_cmp → State
with_bad s bad = record s { storage = record s.storage { bad = bad } }

abbrev pub with_cut : State → Bool → State
with_cut s cut = record s { is_off = s.is_off || cut }

-- what was found of a commit on the anchors
pub record IsTried {T : Type 0} (d e : Device) (m : System) (anchors : Anchors) (roots : Vec ℕ Global) (bad : set.FinSet nat_cmp) (answer : Result T Fault) (saved : Record) : Type 0 where
  pub says : saved ≡ record_on d m.state
  pub blocks : AreDataBlocks m.state.storage.ring.blocks m.state.storage.ring.used
  pub writable : is_read_only m.state.storage.bad ≡ false
  pub commits : Commits d.pages e.pages saved (greatest_on saved.geometry d.pages + 1) bad answer
  pub placed : OnOk answer ((reads : ℕ) × (ReadsNone m.state.storage.bad m.anchors → reads ≡ 0) × (reads ≤ ANCHORS * saved.geometry.pages) × IsPlaced d m.state.storage.bad m.anchors saved reads e bad)
  pub only_anchors : OnlyAnchors d m.state.storage.bad e bad
  pub ready : answer ≢ Err PowerCut → MayCommit e bad anchors
  pub remembers : MatchResult answer (λ _. Remembers anchors bad) (λ _. anchors ≡ m.anchors)
  pub listed : OnOk answer (roots.items ≡ roots_of m.state.history)
  pub unlisted : OnErr answer (roots ≡ m.record_roots)
  pub why : IfErr answer (CommitCause d m.state.storage.bad m.anchors e bad)

module _ {T : Type 0} (d e : Device) (m : System) (anchors : Anchors) (roots : Vec ℕ Global) (bad : set.FinSet nat_cmp) (answer : Result T Fault) (saved : Record) (s : IsSystem d m) (on : m.state.is_off ≡ false) (tried : IsTried d e m anchors roots bad answer saved) where
  abbrev after : System
  after = record { state = with_cut (with_bad m.state bad) (is_cut_answer answer); bodies = m.bodies; anchors = anchors; record_roots = roots; pass = m.pass; cleaned_to = m.cleaned_to; prepared = m.prepared }

  -- the newest record was known
  was_known : remembered m.anchors ≢ None
  was_known = not_none (remembered m.anchors) (s.known on).some

  abbrev failed : Fault → Result T Fault
  failed x = Err x

  over : (r : Result T Fault) → r ≡ Err Overflow → IfErr r (CommitCause d m.state.storage.bad m.anchors e bad) → greatest_on d.geometry d.pages ≡ 2 ^ 64 - 1
  over (Ok x) is why = absurd cc
  over (Err fault) is why =
      let cause : CommitCause d m.state.storage.bad m.anchors e bad Overflow = subst (CommitCause d m.state.storage.bad m.anchors e bad) (same_fault fault Overflow is) why in
      cause.0
    where
      same_fault : (x y : Fault) → failed x ≡ failed y → x ≡ y
      same_fault x y e = cc

  -- nothing was read, since the place of the newest record is known
  is_placed : (r : Result T Fault) → OnOk r ((reads : ℕ) × (ReadsNone m.state.storage.bad m.anchors → reads ≡ 0) × (reads ≤ ANCHORS * saved.geometry.pages) × IsPlaced d m.state.storage.bad m.anchors saved reads e bad)
      → OnOk r (IsPlaced d m.state.storage.bad m.anchors (record_on d m.state) 0 e bad)
  is_placed (Ok x) (reads, none, few, placed) =
      subst (λ (r : Record). IsPlaced d m.state.storage.bad m.anchors r 0 e bad) tried.says
      (subst (λ (n : ℕ). IsPlaced d m.state.storage.bad m.anchors saved n e bad) (none (inl was_known)) placed)
  is_placed (Err fault) placed = tt

  opens : (r : Result T Fault) → MatchResult r (λ _. Remembers anchors bad) (λ _. anchors ≡ m.anchors) → OnOk r (is_read_only bad ≡ false)
  opens (Ok x) remembers = remembers.writable
  opens (Err fault) remembers = tt

  saves : Saves d m answer e after
  saves = record {
    commits = subst (λ (r : Record). Commits d.pages e.pages r (greatest_on r.geometry d.pages + 1) bad answer) tried.says tried.commits;
    only_anchors = tried.only_anchors;
    used_pages = λ p used. tried.only_anchors.data_pages p (tried.blocks (block_of d p) used).0;
    state = refl;
    writable = opens answer tried.remembers;
    placed = is_placed answer tried.placed;
    overflow = λ is. over answer is tried.why;
  }

  knows_newest : is_cut_answer answer ≡ false → KnowsNewest e bad anchors
  knows_newest no_cut = is_newest e bad anchors (by answer tried.remembers) (tried.ready (λ is. true≢false (sym (ap is_cut_answer is) ∙ no_cut)))
    where
      by : (r : Result T Fault) → MatchResult r (λ _. Remembers anchors bad) (λ _. anchors ≡ m.anchors) → remembered anchors ≢ None
      by (Ok x) remembers = remembers.known
      by (Err fault) same = λ none. was_known (ap remembered (sym same) ∙ none)

  is_off : (with_cut (with_bad m.state bad) (is_cut_answer answer)).is_off ≡ true → e.powered ≡ false
  is_off off = by answer (sym (ap (λ (b : Bool). b || is_cut_answer answer) on) ∙ off) tried.why
    where
      by : (r : Result T Fault) → is_cut_answer r ≡ true → IfErr r (CommitCause d m.state.storage.bad m.anchors e bad) → e.powered ≡ false
      by (Ok x) is why = absurd (true≢false (sym is))
      by (Err PowerCut) is why = why
      by (Err _) is why = absurd (true≢false (sym is))

  cause : (fault : Fault) → CommitCause d m.state.storage.bad m.anchors e bad fault → SaveCause d m e after fault
  cause ReadOnly why = why
  cause Overflow why = (tried.writable, why.0)
  cause ReadFailed why = absurd (was_known why.0)
  cause PowerCut why = why
  cause NoMemory why = tt
  cause _ why = absurd why

  -- the roots of the newest record are known
  knows_roots : is_cut_answer answer ≡ false → (r : Record) → saved_on e ≡ Some r → roots.items ≡ roots_of (history_of r)
  knows_roots no_cut r is = by answer no_cut saves.commits tried.listed tried.unlisted
    where
      same_record : (a b : Record) → Some a ≡ Some b → a ≡ b
      same_record a b x = cc

      by : (a : Result T Fault) → is_cut_answer a ≡ false → Commits d.pages e.pages (record_on d m.state) (greatest_on d.geometry d.pages + 1) bad a
          → OnOk a (roots.items ≡ roots_of m.state.history) → OnErr a (roots ≡ m.record_roots) → roots.items ≡ roots_of (history_of r)
      by (Ok x) uncut commits listed unlisted =
          let newly = newly_saved d e m.state _ bad tried.only_anchors.geometry commits in
          listed ∙ ap roots_of (sym newly.history) ∙ ap (λ (x : Record). roots_of (history_of x)) (same_record newly.newest r (sym newly.saved ∙ is))
      by (Err PowerCut) uncut commits listed unlisted = absurd (true≢false uncut)
      by (Err _) uncut commits listed unlisted =
          ap (λ (v : Vec ℕ Global). v.items) unlisted ∙ s.roots on r (sym (same_saved d e tried.only_anchors.geometry commits.newest) ∙ is)

  system_after : IsSystem e after
  system_after = is_system d e m after answer s saves is_off knows_newest knows_roots (λ was. still_running d e m after answer s saves was refl) refl refl

  why_after : (r : Result T Fault) → IfErr r (CommitCause d m.state.storage.bad m.anchors e bad) → IfErr r (SaveCause d m e after)
  why_after (Ok x) why = tt
  why_after (Err fault) why = cause fault why

  -- what is promised of a commit that left this system and answered so
  abbrev IsLeft : System → Result T Fault → Type 0
  IsLeft n result = IsSystem e n × Saves d m result e n × IfErr result (SaveCause d m e n) × (n.pass ≡ m.pass) × (n.prepared ≡ m.prepared)

  pub tried_commit : (u : System) (t : State) (result : Result T Fault) → u ≡ record { state = with_bad m.state bad; bodies = m.bodies; anchors = anchors; record_roots = roots; pass = m.pass; cleaned_to = m.cleaned_to; prepared = m.prepared }
      → t ≡ with_cut u.state (is_cut_answer answer) → result ≡ answer → IsLeft (record u { state = t }) result
  tried_commit u t result was is same =
      let left : record u { state = t } ≡ after = λ i. record { state = (is ∙ ap (λ (x : System). with_cut x.state (is_cut_answer answer)) was) i; bodies = (was i).bodies; anchors = (was i).anchors; record_roots = (was i).record_roots; pass = (was i).pass; cleaned_to = (was i).cleaned_to; prepared = (was i).prepared } in
      subst (λ (r : Result T Fault). IsLeft (record u { state = t }) r) (sym same) (subst (λ (n : System). IsLeft n answer) (sym left) (system_after, saves, why_after answer tried.why, refl, refl))
