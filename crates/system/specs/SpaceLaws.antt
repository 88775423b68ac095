-- What the figures of a history mean for `df`: what it shows after versions are forgotten, or a checkpoint is removed.
use Rattle.std.specs.Prelude.{◌≡◌, ℕ, ◌+◌, Some, length, slice_get}
use Rattle.fs_types.specs.Names.{Name}
use Rattle.history_machine.specs.History.{without_checkpoint}
use Rattle.history_machine.specs.Machine.{Space}
use Rattle.flash_model.specs.Device.{Device}
use Rattle.working_state.specs.Mounted.{IsMounted}
use Rattle.working_state.specs.Roots.{IsSpace}
use Rattle.working_state.specs.declared.state.State.{State}
use Rattle.system.specs.HistorySpace.{after_forget}
use Rattle.system.specs.VersionSpace.{Frees, KeepsAlone}

-- what it frees to forget versions is what `df` shows free after that, less what it shows before
abbrev pub FreesLaw : Type 0
FreesLaw = (d : Device) (s : State) (count frees : ℕ) (before after : Space) → Frees d s count frees → IsSpace d s before → IsSpace d (after_forget s count) after
    → after.free ≡ before.free + frees

-- the state once a checkpoint is removed
abbrev pub after_removal : State → Name → State
after_removal s name = record s { history = without_checkpoint s.history name }

-- and what a checkpoint keeps alone is what `df` shows free after its removal, less what it shows before
abbrev pub RemovalLaw : Type 0
RemovalLaw = (d : Device) (s : State) (k : ℕ) (name : Name) (root alone : ℕ) (before after : Space)
    → IsMounted d s → slice_get s.history.checkpoints k ≡ Some (name, root) → KeepsAlone d s (length s.history.versions + k) alone
    → IsSpace d s before → IsSpace d (after_removal s name) after → after.free ≡ before.free + alone
