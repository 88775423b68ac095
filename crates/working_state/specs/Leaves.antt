-- What calls leave of a flash, and of what nodes are kept with on it.
use Rattle.std.specs.Prelude.{◌≡◌, ℕ, ◌+◌, ◌≤◌, Bool, true, false}
use Rattle.std.specs.FinSet as set
use Rattle.history_machine.specs.Machine.{Machine, changes_tree, need}
use Rattle.fs_types.specs.declared.call.Call.{Call}
use Rattle.flash_model.specs.Device.{Device}
use Rattle.node_store.specs.declared.storage.Storage.{Storage}
use Rattle.node_store.specs.Fitting.{StillFits}
use Rattle.node_store.specs.Storage as parts
use Rattle.working_state.specs.Facts.{facts_of}
use Rattle.working_state.specs.Looking.{LooksOnce}
use Rattle.working_state.specs.Seen.{capacity_of}

-- nodes were read: all that is kept is as it was
pub record HasLooked (old : Device) (s : Storage) (new : Device) (t : Storage) : Type 0 where
  pub untouched : parts.IsUntouched (parts.storage old s.bad s.ring) (parts.storage new t.bad t.ring)
  pub fits : StillFits old s new t

-- so many nodes were written at most: kept blocks stay, anchors and kept blocks keep their pages, and a block was
-- taken for each node at most, and one for each that went bad
pub record HasWritten (old : Device) (s : Storage) (most : ℕ) (new : Device) (t : Storage) : Type 0 where
  pub evolved : parts.Evolved (parts.storage old s.bad s.ring) (parts.storage new t.bad t.ring)
  pub paid : t.ring.takes + set.len s.bad ≤ s.ring.takes + set.len t.bad + most
  pub fits : StillFits old s new t

-- calls that do no device operation
abbrev pub is_still : Call → Bool
is_still call = (facts_of call).still

-- what a call leaves, whatever it answers: what one try of its change does, in which it writes as many nodes at
-- most as it needs; a call that changes no tree only reads; one that does no device operation leaves all as it was;
-- and one that only looks, looks once
pub record Leaves (m : Machine) (call : Call) (old : Device) (s : Storage) (new : Device) (t : Storage) : Type 0 where
  pub written : HasWritten old s (need (capacity_of old) m call) new t
  pub looked : changes_tree m call ≡ false → HasLooked old s new t
  pub still : is_still call ≡ true → (new ≡ old) × (t ≡ s)
  pub asks : LooksOnce m call old new
