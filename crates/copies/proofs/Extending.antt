-- A tree that is made alone, and a version that is added to a history.
use Rattle.std.proofs.Common.{◌≡◌, ◌∙◌, ◌⊎◌, inl, inr, ℕ, ◌+◌, ◌-◌, ◌<◌, ◌≤◌, Option, Some, List, [], ◌∷◌, ◌++◌, get_or, length, map, refl, sym, ap, subst, arith}
use Rattle.std.specs.Prelude.{slice_get, unwrap_or}
use Rattle.std.proofs.lemmas.List.{length-map}
use Rattle.std.proofs.lemmas.Option.{same_Some}
use Rattle.fs_types.specs.Names.{Path}
use Rattle.fs_types.specs.declared.call.Call.{Call}
use Rattle.fs_types.specs.declared.call.Version.{Version}
use Rattle.fs_types.specs.declared.call.View.{View}
use Rattle.fs_types.specs.declared.event.Answer.{Answer}
use Rattle.fs_types.specs.declared.fault.Fault.{Fault}
use Rattle.flash_model.specs.Device.{Device}
use Rattle.flash_model.specs.declared.flash.Flash.{Ghosts}
use Rattle.flash_model.specs.Reading.{OnlyReads}
use Rattle.plain_trees.specs.Trees.{Tree, bare}
use Rattle.history_machine.specs.History.{Past, changed, fresh, gone_to}
use Rattle.history_machine.specs.Machine.{Machine, IsMachine, mounted, present_tree, view_tree, working_tree}
use Rattle.history_machine.proofs.Versions.{checkpoints-changed}
use Rattle.history_copies.specs.Copies.{roots_in}
use Rattle.history_copies.specs.Laws.{IsBuilt, bringing}
use Rattle.history_copies.proofs.Built.{build_law, last_all}
use Rattle.history_copies.proofs.Seen.{version_found}
use Rattle.inquiries.specs.Readings.{shown}
use Rattle.inquiries.specs.declared.tell_fault.TellFault.{TellFault}
use Rattle.inquiries.proofs.Entries.{view-file_tree}
use Rattle.mounting.specs.Formats.{IsFormatted}
use Rattle.mounting.specs.Saved.{saved_trees}
use Rattle.system.specs.Mounts.{IsMountOf}
use Rattle.system.specs.Systems.{IsSystem}
use Rattle.system.specs.declared.systems.System.{System}
use Rattle.tree_differences.specs.UpdateLaws.{Brings}
use Rattle.tree_differences.specs.Updates.{edit_changes}
use Rattle.tree_differences.proofs.Edited.{edit_law}
use Rattle.undofs.specs.Runs.{Mounts}
use Rattle.undofs.specs.Sessions.{world}
use Rattle.undofs.specs.declared.fs.Fs.{Fs}
use Rattle.undofs.proofs.SessionSteps.{mount_begins}
use Rattle.updates.specs.Asked.{Untold}
use Rattle.working_state.specs.Seen.{machine_on}
use Rattle.copies.specs.Added.{AddCause, AddsNot, AloneCause, HasOneMore, HoldsAlone, IsAtNewest, NotAdded, NotAddedAfter, NotAddedTo, StopsMaking}
use Rattle.copies.specs.Calls.{Does, StopsMoving}
use Rattle.copies.specs.Causes.{StopsBringing, of_untold}
use Rattle.copies.specs.Copied.{Holds, HasTrees}
use Rattle.copies.specs.declared.uncopied.Uncopied.{Uncopied}
use Rattle.copies.proofs.Brought.{brought}
use Rattle.copies.proofs.Causing.{only}
use Rattle.copies.proofs.Doing.{moved}
use Rattle.copies.proofs.Fresh.{fresh_holds, limit_of}
use Rattle.copies.proofs.Keeping.{got_serial, version_held}

-- a machine without a group and open files is that of its history
pub at_rest : (m : Machine) (h : Past Tree) → m ≡ mounted h → m ≡ mounted m.history
at_rest m h is = is ∙ sym (ap (λ (x : Machine). mounted x.history) is)

-- a flash is mounted with the history that its newest record holds
pub mounted_saved : (d e : Device) (m : System) → OnlyReads d e → IsMountOf d e m → IsSystem e m → (h : Past Tree) × (saved_trees d ≡ Some h) × (machine_on e m.state ≡ mounted h)
mounted_saved d e m reads mount system =
    let begun = mount_begins d e m reads mount system in
    (begun.0, begun.1, shown_alone begun.0 begun.2)
  where
    shown_alone : (history : Past Tree) → Mounts d (history ∷ []) Answer.Mounted (world e (Some m) (history ∷ [])) → machine_on e m.state ≡ mounted history
    shown_alone history mounts =
        let one : mounts.history ≡ history = only history mounts.history mounts.among in
        let there : m ≡ mounts.system = same_Some m mounts.system mounts.is in
        ap (λ (s : System). machine_on e s.state) there ∙ mounts.machine ∙ ap mounted one

-- ---- a tree alone

-- the version that calls make of an empty tree
pub made_first : (m n : Machine) (calls : List Call) (path : Path) (t : Tree) → IsMachine m → m ≡ mounted (fresh m.history.limit bare) → Brings bare t calls → Does m (bringing calls path) n → n ≡ mounted (changed m.history t)
made_first m n calls path t is begins brings done =
    brought m m n t calls path is (at_rest m (fresh m.history.limit bare) begins) refl (subst (λ (x : Machine). Brings (working_tree x) t calls) (sym begins) brings) done

-- the trees that are there then
pub held_both : (m n : Machine) (t : Tree) → IsMachine m → m ≡ mounted (fresh m.history.limit bare) → n ≡ mounted (changed m.history t) → Holds m.history.limit ((bare ∷ []) ++ t ∷ []) [] n.history
held_both m n t is begins made = version_held m.history.limit (bare ∷ []) [] m n t is made (fresh_holds m m.history.limit (limit_of m m.history.limit is begins) begins)

pub limit_is : (m : Machine) (limit : ℕ) → m ≡ mounted (fresh limit bare) → m.history.limit ≡ limit
limit_is m limit is = ap (λ (x : Machine). x.history.limit) is

pub fresh_again : (m : Machine) (limit : ℕ) → m ≡ mounted (fresh limit bare) → m ≡ mounted (fresh m.history.limit bare)
fresh_again m limit is = subst (λ (n : ℕ). m ≡ mounted (fresh n bare)) (sym (limit_is m limit is)) is

-- a tree that is synced stands on its flash
pub alone_on : (limit : ℕ) (t : Tree) (m : Machine) (h : Past Tree) (end other : Device) → end ≡ other → m ≡ mounted (fresh limit bare) → HasTrees m.history.limit (t ∷ []) 0 [] h → saved_trees end ≡ Some h → HoldsAlone limit t other
alone_on limit t m h end other same is has saved = record {
  history = h;
  saved = subst (λ (d : Device). saved_trees d ≡ Some h) same saved;
  has = subst (λ (n : ℕ). HasTrees n (t ∷ []) 0 [] h) (limit_is m limit is) has;
}

pub alone_stops : (limit : ℕ) (calls : List Call) (m : Machine) (d end other : Device) (fault : Fault) → end ≡ other → IsFormatted limit d → m ≡ mounted (fresh limit bare) → StopsMaking m calls end fault
    → AloneCause calls d other (Uncopied.Refused fault)
alone_stops limit calls m d end other fault same formatted is stops =
    (limit, formatted, subst (λ (x : Machine). StopsMaking x calls other fault) is (subst (λ (left : Device). StopsMaking m calls left fault) same stops))

-- ---- a version more

-- the newest version is the present one
pub newest_chosen : (m n : Machine) (serials : List ℕ) (place : ℕ) → IsMachine m → m ≡ mounted m.history → serials ≡ map (λ v. v.serial) m.history.versions → place ≡ length serials - 1
    → ((serial : ℕ) → slice_get serials place ≡ Some serial → Does m (Call.Goto serial ∷ []) n) → IsAtNewest m.history n
newest_chosen m n serials place is rests are at goes = record {
  serial = serial;
  is = moved m n h (Call.Goto serial) rests (goes serial stands);
  newest = ap (λ (o : Option ℕ). unwrap_or o h.cursor + 1) (version_found m is.lawful k d inside) ∙ last;
}
  where
    h : Past Tree
    h = m.history

    d : Version Tree
    d = record { serial = 0; root = bare }

    k : ℕ
    k = length h.versions - 1

    inside : k < length h.versions
    inside = let some : h.cursor < length h.versions = is.lawful.cursor_in in omega (arith, some)

    last : k + 1 ≡ length h.versions
    last = omega (arith, inside)

    serial : ℕ
    serial = (get_or h.versions k d).serial

    placed : place ≡ k
    placed = at ∙ ap (λ (j : ℕ). j - 1) (ap length are ∙ length-map h.versions (λ (v : Version Tree). v.serial))

    stands : slice_get serials place ≡ Some serial
    stands = (λ i. slice_get (are i) (placed i)) ∙ got_serial h.versions k d inside

-- a version after that
module _ (m n k : Machine) (t : Tree) (is : IsMachine m) (is' : IsMachine n) (at : IsAtNewest m.history n) (made : k ≡ mounted (changed n.history t)) where
  gone : n.history ≡ gone_to m.history at.serial
  gone = ap (λ (x : Machine). x.history) at.is

  few : length (roots_in m.history.versions) ≤ m.history.limit
  few = let within = is.lawful.within in let count = length-map m.history.versions (λ (v : Version Tree). v.root) in omega (arith, within, count)

  built_before : IsBuilt m.history.limit (roots_in m.history.versions) n.history
  built_before = subst (IsBuilt m.history.limit (roots_in m.history.versions)) (sym gone) (record {
    limit = refl;
    trees = sym (last_all m.history.limit (roots_in m.history.versions) few);
    newest = at.newest;
  })

  pub built_more : IsBuilt m.history.limit (roots_in m.history.versions ++ t ∷ []) k.history
  built_more = subst (IsBuilt m.history.limit (roots_in m.history.versions ++ t ∷ [])) (sym (ap (λ (x : Machine). x.history) made))
      (build_law.adds m.history.limit (roots_in m.history.versions) n.history t is'.lawful built_before)

  pub kept_more : k.history.checkpoints ≡ m.history.checkpoints
  kept_more = ap (λ (x : Machine). x.history.checkpoints) made ∙ checkpoints-changed n.history t ∙ ap (λ (h : Past Tree). h.checkpoints) gone

-- the changes that are listed bring the one present tree to the other
pub edited : (from to was : Machine) (changes : List Call) → IsMachine from → IsMachine to → was ≡ to → changes ≡ edit_changes (working_tree to) (view_tree from View.Present) → Brings (working_tree was) (working_tree from) changes
edited from to was changes is is' same are =
    subst (λ (m : Machine). Brings (working_tree m) (working_tree from) changes) (sym same)
    (subst (Brings (working_tree to) (view_tree from View.Present)) (sym are) (edit_law (working_tree to) (view_tree from View.Present) (view-file_tree to View.Present is') (view-file_tree from View.Present is)))

module _ {F G : Type 0} {flash : Ghosts F} {another : Ghosts G} where
  -- what differs is not told
  pub unlisted : (to : Fs G another) (from : Fs F flash) (to' : Fs G another) (from' : Fs F flash) (fault : TellFault) → Untold (working_tree (shown to)) (view_tree (shown from) View.Present) to from to' from' fault
      → NotAdded (shown from) (working_tree (shown to)) (flash.device from.flash.now) (flash.device from'.flash.now) (another.device to'.flash.now) (of_untold fault)
  unlisted to from to' from' (TellFault.Refused fault) (inl met) = inr (another.device to.flash.now, met)
  unlisted to from to' from' (TellFault.Refused fault) (inr met) = inl met
  unlisted to from to' from' TellFault.TooManyLines large = large

-- after the newest version of a history
pub not_after : (m n : Machine) (h : Past Tree) (first left second : Device) (why : Uncopied) → IsAtNewest h n → NotAdded m (working_tree n) first left second why → NotAddedAfter m h first left second why
not_after m n h first left second why at not = (at.serial, subst (λ (x : Machine). NotAdded m (working_tree x) first left second why) at.is not)

-- ---- on flashes

-- the history of a flash that was mounted has one version more
pub one_more : (saved old : Past Tree) (m n : Machine) (t : Tree) (second end other : Device) → end ≡ other → saved_trees second ≡ Some saved → m ≡ mounted saved → saved_trees second ≡ Some old
    → IsBuilt m.history.limit (roots_in m.history.versions ++ t ∷ []) n.history → n.history.checkpoints ≡ m.history.checkpoints → saved_trees end ≡ Some n.history → HasOneMore old t other
one_more saved old m n t second end other same there is stands built kept synced =
    let known : m.history ≡ old = ap (λ (x : Machine). x.history) is ∙ same_Some saved old (sym there ∙ stands) in
    record {
      history = n.history;
      saved = subst (λ (d : Device). saved_trees d ≡ Some n.history) same synced;
      built = subst (λ (h : Past Tree). IsBuilt h.limit (roots_in h.versions ++ t ∷ []) n.history) known built;
      kept = kept ∙ ap (λ (h : Past Tree). h.checkpoints) known;
    }

-- none is added to it
pub not_added_to : (m n : Machine) (saved : Past Tree) (first left second end other : Device) (why : Uncopied) → end ≡ other → saved_trees second ≡ Some saved → n ≡ mounted saved
    → NotAddedAfter m n.history first left end why → NotAddedTo m first left second other why
not_added_to m n saved first left second end other why same there is (serial, not) =
    by why (subst (λ (h : Past Tree). NotAdded m (working_tree (mounted (gone_to h serial))) first left other why) known (subst (λ (d : Device). NotAdded m (working_tree (mounted (gone_to n.history serial))) first left d why) same not))
  where
    known : n.history ≡ saved
    known = ap (λ (x : Machine). x.history) is

    by : (u : Uncopied) → NotAdded m (working_tree (mounted (gone_to saved serial))) first left other u → NotAddedTo m first left second other u
    by (Uncopied.Unready fault) cause = absurd cause
    by (Uncopied.Unmounted fault) cause = absurd cause
    by (Uncopied.Unread fault) cause = (saved, there, (serial, cause))
    by Uncopied.TooManyLines cause = (saved, there, (serial, cause))
    by (Uncopied.Refused fault) cause = (saved, there, (serial, cause))

-- of a first flash that was mounted
pub adds_not : (saved : Past Tree) (first was end left second other : Device) (m : Machine) (why : Uncopied) → end ≡ left → saved_trees first ≡ Some saved → m ≡ mounted saved → OnlyReads first was
    → NotAddedTo m was end second other why → AddCause first second left other why
adds_not saved first was end left second other m why same there is reads cause =
    by why (record { history = saved; saved = there; device = was; reads = reads; cause = moved_cause }) cause
  where
    moved_cause : NotAddedTo (mounted saved) was left second other why
    moved_cause = subst (λ (x : Machine). NotAddedTo x was left second other why) is (subst (λ (d : Device). NotAddedTo m was d second other why) same cause)

    by : (u : Uncopied) → AddsNot first second left other u → NotAddedTo m was end second other u → AddCause first second left other u
    by (Uncopied.Unread fault) not cause = not
    by Uncopied.TooManyLines not cause = not
    by (Uncopied.Refused fault) not cause = not
    by (Uncopied.Unready fault) not cause = not
    by (Uncopied.Unmounted fault) not (h, stands, (serial, none)) = absurd none

-- the tree of the first flash
pub tree_saved : (saved new : Past Tree) (m : Machine) (first : Device) → saved_trees first ≡ Some saved → m ≡ mounted saved → saved_trees first ≡ Some new → working_tree m ≡ present_tree (mounted new)
tree_saved saved new m first there is stands = ap working_tree is ∙ ap (λ (h : Past Tree). present_tree (mounted h)) (same_Some saved new (sym there ∙ stands))

-- the calls stop that make a version more
pub stops_added : (m n : Machine) (changes : List Call) (left : Device) (fault : Fault) → Brings (working_tree n) (working_tree m) changes → StopsMaking n changes left fault → StopsBringing m left fault ⊎ StopsMoving left fault
stops_added m n changes left fault brings (inl (path, stops)) =
    inl (record { shows = n; view = View.Present; changes = changes; brings = brings; path = path; stops = stops })
stops_added m n changes left fault brings (inr stops) = inr stops
