-- The refusals that come of the change group and the open files: what is known without one, and that the machine refuses so.
use Rattle.std.proofs.Common.{◌≡◌, ℕ, Bool, true, false, cond, Option, Some, None, refl, sym}
use Rattle.std.proofs.lemmas.Bool.{true≢false}
use Rattle.std.specs.Option.{is_some, is_none}
use Rattle.plain_trees.specs.Trees.{Tree}
use Rattle.plain_trees.proofs.Beneath.{None≢Some}
use Rattle.history_machine.specs.Descriptors.{Descriptors, any_open}
use Rattle.history_machine.specs.History.{map_group, undo_refusal, redo_refusal, serial_refusal, forget_refusal, checkpoint_refusal, name_refusal}
use Rattle.history_machine.specs.Machine.{refusal}
use Rattle.fs_types.specs.declared.call.Call.{Call}
use Rattle.fs_types.specs.declared.call.Group.{Group}
use Rattle.fs_types.specs.declared.fault.Fault.{Fault}
use Rattle.fs_types.specs.declared.fault.Fault.TheVariants.{Busy, NoGroup, InGroup}
use Rattle.working_state.specs.Facts.{group_refusal}
use Rattle.working_state.specs.Moments.{Moment, machine_at, version_tree}

-- of a call on the history; of one that moves the present version, too, or begins a group; and of one that ends a group
abbrev pub outside_only : Option (Group ℕ) → Option Fault
outside_only group = cond (is_some group) (Some InGroup) None

abbrev pub travelling : Option (Group ℕ) → Descriptors → Option Fault
travelling group files = cond (is_some group) (Some InGroup) (cond (any_open files) (Some Busy) None)

abbrev pub ending : Option (Group ℕ) → Descriptors → Option Fault
ending group files = cond (is_none group) (Some NoGroup) (cond (any_open files) (Some Busy) None)

-- ---- without one

first_none : (b : Bool) (fault : Fault) (rest : Option Fault) → cond b (Some fault) rest ≡ None → (b ≡ false) × (rest ≡ None)
first_none true fault rest e = absurd (None≢Some (sym e))
first_none false fault rest e = (refl, e)

no_group : (group : Option (Group ℕ)) → is_some group ≡ false → group ≡ None
no_group None e = refl
no_group (Some g) e = absurd (true≢false e)

some_group : (group : Option (Group ℕ)) → is_none group ≡ false → (g : Group ℕ) × (group ≡ Some g)
some_group None e = absurd (true≢false e)
some_group (Some g) e = (g, refl)

pub outside_of : (group : Option (Group ℕ)) (rest : Option Fault) → cond (is_some group) (Some InGroup) rest ≡ None → group ≡ None
outside_of group rest e = no_group group (first_none (is_some group) InGroup rest e).0

pub closed_of : (b : Bool) (fault : Fault) (files : Descriptors) → cond b (Some fault) (cond (any_open files) (Some Busy) None) ≡ None → any_open files ≡ false
closed_of b fault files e = (first_none (any_open files) Busy None (first_none b fault (cond (any_open files) (Some Busy) None) e).1).0

pub inside_of : (group : Option (Group ℕ)) (rest : Option Fault) → cond (is_none group) (Some NoGroup) rest ≡ None → (g : Group ℕ) × (group ≡ Some g)
inside_of group rest e = some_group group (first_none (is_none group) NoGroup rest e).0

-- ---- with one

module _ (f : ℕ → Tree) (fault : Fault) where
  outside_says : (group : Option (Group ℕ)) (other : Option Fault) → outside_only group ≡ Some fault → cond (is_some (map_group f group)) (Some InGroup) other ≡ Some fault
  outside_says None other e = absurd (None≢Some e)
  outside_says (Some g) other e = e

  travel_says : (group : Option (Group ℕ)) (b : Bool) (other : Option Fault) → cond (is_some group) (Some InGroup) (cond b (Some Busy) None) ≡ Some fault
      → cond (is_some (map_group f group)) (Some InGroup) (cond b (Some Busy) other) ≡ Some fault
  travel_says None true other e = e
  travel_says None false other e = absurd (None≢Some e)
  travel_says (Some g) b other e = e

  ending_says : (group : Option (Group ℕ)) (b : Bool) → cond (is_none group) (Some NoGroup) (cond b (Some Busy) None) ≡ Some fault
      → cond (is_some (map_group f group)) (cond b (Some Busy) None) (Some NoGroup) ≡ Some fault
  ending_says None b e = e
  ending_says (Some g) b e = e

module _ (a : Moment) (fault : Fault) where
  abbrev group : Option (Group ℕ)
  group = a.state.group

  abbrev is_open : Bool
  is_open = any_open a.state.files

  -- the machine refuses the call with the same
  pub group_says : (call : Call) → group_refusal a.state.group a.state.files call ≡ Some fault → refusal (machine_at a) call ≡ Some fault
  group_says Call.Undo e = travel_says (version_tree a) fault group is_open (undo_refusal (machine_at a).history) e
  group_says Call.Redo e = travel_says (version_tree a) fault group is_open (redo_refusal (machine_at a).history) e
  group_says (Call.Goto serial) e = travel_says (version_tree a) fault group is_open (serial_refusal (machine_at a).history serial) e
  group_says (Call.Rollback name) e = travel_says (version_tree a) fault group is_open (name_refusal (machine_at a).history name) e
  group_says Call.Begin e = travel_says (version_tree a) fault group is_open None e
  group_says (Call.Forget count) e = outside_says (version_tree a) fault group (forget_refusal (machine_at a).history count) e
  group_says (Call.Checkpoint name) e = outside_says (version_tree a) fault group (checkpoint_refusal (machine_at a).history name) e
  group_says (Call.RemoveCheckpoint name) e = outside_says (version_tree a) fault group (name_refusal (machine_at a).history name) e
  group_says Call.Sync e = outside_says (version_tree a) fault group None e
  group_says Call.End e = ending_says (version_tree a) fault group is_open e
  group_says Call.Abandon e = ending_says (version_tree a) fault group is_open e
  group_says _ e = absurd (None≢Some e)
