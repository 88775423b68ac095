-- Why the copying of a history stops.
use Rattle.std.proofs.Common.{◌≡◌, ◌∙◌, ◌⊎◌, inl, inr, ℕ, zero, suc, [], ◌∷◌, Option, Some, None, Result, Ok, Err, sym, ap, subst, arith}
use Rattle.std.specs.Option.{option_map, option_or}
use Rattle.std.specs.Prelude.{Contains, OnOk}
use Rattle.std.proofs.lemmas.Option.{same_Some}
use Rattle.fs_types.specs.declared.call.View.{View}
use Rattle.fs_types.specs.declared.fault.Fault.{Fault}
use Rattle.flash_model.specs.Device.{Device}
use Rattle.flash_model.specs.declared.flash.Flash.{Ghosts}
use Rattle.flash_model.specs.Reading.{OnlyReads}
use Rattle.plain_trees.specs.Trees.{Tree, bare}
use Rattle.history_machine.specs.History.{Past, fresh, view_refusal}
use Rattle.history_machine.specs.Machine.{Machine, view_tree, working_tree, mounted}
use Rattle.inquiries.specs.Folders.{IsSmall}
use Rattle.inquiries.specs.Readings.{IsUnchanged, Meets, shown}
use Rattle.inquiries.specs.declared.tell_fault.TellFault.{TellFault}
use Rattle.fs_types.specs.declared.event.Answer.{Answer}
use Rattle.mounting.specs.Formats.{IsFormatted}
use Rattle.mounting.specs.Records.{trees_of}
use Rattle.mounting.specs.Saved.{saved_trees}
use Rattle.history_copies.specs.Copies.{IsCopy}
use Rattle.copies.specs.Copied.{IsCopiedTo}
use Rattle.system.specs.Mounts.{IsMountOf}
use Rattle.system.specs.Systems.{IsSystem}
use Rattle.system.specs.declared.systems.System.{System}
use Rattle.working_state.specs.Seen.{machine_on}
use Rattle.undofs.specs.Runs.{Mounts}
use Rattle.undofs.specs.Sessions.{world}
use Rattle.undofs.proofs.SessionSteps.{mount_begins}
use Rattle.undofs.specs.declared.fs.Fs.{Fs}
use Rattle.updates.specs.Asked.{Untold}
use Rattle.copies.specs.Calls.{IsReady, StopsMoving}
use Rattle.copies.specs.Causes.{CopiesNot, CopyCause, HasLarge, NotCopied, NotCopiedTo, StopsBringing, of_untold}
use Rattle.copies.specs.declared.uncopied.Uncopied.{Uncopied}

module _ {F G : Type 0} {flash : Ghosts F} {another : Ghosts G} where
  -- what differs is not told
  pub untold : (to : Fs G another) (from : Fs F flash) (to' : Fs G another) (from' : Fs F flash) (view : View) (fault : TellFault) → view_refusal (shown from).history view ≡ None → IsReady (shown to)
      → Untold (working_tree (shown to)) (view_tree (shown from) view) to from to' from' fault
      → NotCopied (shown from) (flash.device from.flash.now) (flash.device from'.flash.now) (another.device to'.flash.now) (of_untold fault)
  untold to from to' from' view (TellFault.Refused fault) there ready (inl met) = inr (another.device to.flash.now, met)
  untold to from to' from' view (TellFault.Refused fault) there ready (inr met) = inl met
  untold to from to' from' view TellFault.TooManyLines there ready large =
      let small : IsSmall (working_tree (shown to)) = subst (λ (m : Machine). IsSmall (working_tree m)) (sym ready.rests) ready.small in
      (view, there, λ fits. large (small, fits))

-- the same machine, whose flash was read before
module _ {F : Type 0} {flash : Ghosts F} where
  pub stops_later : (a b : Fs F flash) (left second : Device) (why : Uncopied) → IsUnchanged a b
      → NotCopied (shown b) (flash.device b.flash.now) left second why → NotCopied (shown a) (flash.device a.flash.now) left second why
  stops_later a b left second (Uncopied.Unread fault) same (inl met) = inl (later fault met)
    where
      later : (fault : Fault) → Meets (flash.device b.flash.now) left fault → Meets (flash.device a.flash.now) left fault
      later Fault.ReadFailed met = let more = same.failed_reads in omega (arith, more, met)
      later Fault.PowerCut met = met
      later Fault.NoMemory met = met
      later _ met = absurd met
  stops_later a b left second (Uncopied.Unread fault) same (inr met) = inr met
  stops_later a b left second Uncopied.TooManyLines same large = subst HasLarge same.machine large
  stops_later a b left second (Uncopied.Refused fault) same stops = subst (λ (m : Machine). StopsBringing m second fault ⊎ StopsMoving second fault) same.machine stops
  stops_later a b left second (Uncopied.Unmounted fault) same why = absurd why
  stops_later a b left second (Uncopied.Unready fault) same why = absurd why

-- a look at two views that are there is refused by what the work met
pub met_alone : (a b : Option Fault) (d : Device) (fault : Fault) → a ≡ None → b ≡ None → (option_or a b ≡ Some fault) ⊎ Meets d d fault → Meets d d fault
met_alone a b d fault first second (inl own) = absurd (let none : option_or a b ≡ None = (λ i. option_or (first i) (second i)) in let wrong : None ≡ Some fault = sym none ∙ own in cc)
met_alone a b d fault first second (inr met) = met

-- what follows where a copy is made
pub on_uncopied : {T : Type 0} (result : Result T Uncopied) (P Q : Type 0) → (P → Q) → OnOk result P → OnOk result Q
on_uncopied (Ok x) P Q f p = f p
on_uncopied (Err why) P Q f p = tt

pub on_both : {T : Type 0} (result : Result T Uncopied) (P Q R : Type 0) → (P → Q → R) → OnOk result P → OnOk result Q → OnOk result R
on_both (Ok x) P Q R f p q = f p q
on_both (Err why) P Q R f p q = tt

-- of a second flash that was mounted
pub not_copied_to : (m : Machine) (first left second end other : Device) (why : Uncopied) → end ≡ other → NotCopied m first left end why → NotCopiedTo m first left second other why
not_copied_to m first left second end other (Uncopied.Unread fault) same cause = subst (λ (d : Device). NotCopied m first left d (Uncopied.Unread fault)) same cause
not_copied_to m first left second end other Uncopied.TooManyLines same cause = cause
not_copied_to m first left second end other (Uncopied.Refused fault) same cause = subst (λ (d : Device). NotCopied m first left d (Uncopied.Refused fault)) same cause
not_copied_to m first left second end other (Uncopied.Unmounted fault) same cause = absurd cause
not_copied_to m first left second end other (Uncopied.Unready fault) same cause = absurd cause

-- of a first flash that was mounted
pub copies_not : (first was end left second other : Device) (system : System) (why : Uncopied) → end ≡ left → IsMountOf first was system → OnlyReads first was
    → NotCopiedTo (machine_on was system.state) was end second other why → CopyCause first second left other why
copies_not first was end left second other system why same mounted reads cause = by why (record { device = was; system = system; mounted = mounted; reads = reads; cause = subst (λ (d : Device). NotCopiedTo (machine_on was system.state) was d second other why) same cause }) cause
  where
    by : (u : Uncopied) → CopiesNot first left second other u → NotCopiedTo (machine_on was system.state) was end second other u → CopyCause first second left other u
    by (Uncopied.Unread fault) not cause = not
    by Uncopied.TooManyLines not cause = not
    by (Uncopied.Refused fault) not cause = not
    by (Uncopied.Unready fault) not cause = not
    by (Uncopied.Unmounted fault) not cause = absurd cause

pub only : (history h : Past Tree) → Contains (history ∷ []) h → h ≡ history
only history h (zero, within, is) = sym is
only history h (suc k, within, is) = absurd (omega arith)

-- a flash that was formatted is mounted with an empty tree alone
pub mounted_fresh : (limit : ℕ) (d e : Device) (m : System) → IsFormatted limit d → OnlyReads d e → IsMountOf d e m → IsSystem e m → machine_on e m.state ≡ mounted (fresh limit bare)
mounted_fresh limit d e m formatted reads mount system =
    let begun = mount_begins d e m reads mount system in
    let alone : begun.0 ≡ fresh limit bare = same_Some begun.0 (fresh limit bare) (sym begun.1 ∙ ap (option_map (trees_of d)) formatted.saved ∙ ap (λ (h : Past Tree). Some h) formatted.history) in
    shown_alone begun.0 begun.2 ∙ ap mounted alone
  where
    shown_alone : (history : Past Tree) → Mounts d (history ∷ []) Answer.Mounted (world e (Some m) (history ∷ [])) → machine_on e m.state ≡ mounted history
    shown_alone history mounts =
        let one : mounts.history ≡ history = only history mounts.history mounts.among in
        let there : m ≡ mounts.system = same_Some m mounts.system mounts.is in
        ap (λ (s : System). machine_on e s.state) there ∙ mounts.machine ∙ ap mounted one

-- no page of a flash changed that was mounted and read
pub same_pages : (d was end other : Device) → OnlyReads d was → ((p : ℕ) → end.pages p ≡ was.pages p) → end ≡ other → (p : ℕ) → other.pages p ≡ d.pages p
same_pages d was end other reads kept same p = sym (ap (λ (x : Device). x.pages p) same) ∙ kept p ∙ reads.pages p

-- a copy that is synced stands on its flash
pub copied_to : (limit : ℕ) (m : Machine) (h : Past Tree) (end other : Device) → end ≡ other → IsCopy m.history h → h.limit ≡ limit → saved_trees end ≡ Some h → IsCopiedTo limit m other
copied_to limit m h end other same copy most saved = record { history = h; saved = subst (λ (d : Device). saved_trees d ≡ Some h) same saved; limit = most; copy = copy }
