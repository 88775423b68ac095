-- Worn blocks: those that a record and a mounted system list as bad are.
use Rattle.std.specs.Prelude.{◌≡◌, ℕ, true, Some, List}
use Rattle.std.specs.FinSet as set
use Rattle.std.specs.Ordering.{nat_cmp}
use Rattle.fs_types.specs.declared.event.Event.{Event}
use Rattle.fs_types.specs.declared.event.Answer.{Answer}
use Rattle.flash_model.specs.Device.{Device}
use Rattle.record_format.specs.declared.record.Record.{Record}
use Rattle.mounting.specs.Saved.{saved_on}
use Rattle.system.specs.declared.systems.System.{System}
use Rattle.undofs.specs.Runs.{World}
use Rattle.undofs.specs.Sessions.{Session}

-- each of these blocks is worn
abbrev pub AreWorn : Device → set.FinSet nat_cmp → Type 0
AreWorn d blocks = (b : ℕ) → set.contains blocks b ≡ true → d.worn b ≡ true

-- each block that the newest record lists as bad is worn
abbrev pub RecordListsWorn : Device → Type 0
RecordListsWorn d = (r : Record) → saved_on d ≡ Some r → AreWorn d (set.from_list r.bad)

-- each block that the system lists as bad is worn, where one is mounted
abbrev pub SystemListsWorn : World → Type 0
SystemListsWorn w = (s : System) → w.system ≡ Some s → AreWorn w.device s.state.storage.bad

-- a session from a flash whose newest record lists worn blocks alone, as a format leaves it, leads to a system and a record that
-- list worn blocks alone
abbrev pub WornLaw : Type 0
WornLaw = (d : Device) (events : List Event) (answers : List Answer) (v : World) → RecordListsWorn d → Session d events answers v → RecordListsWorn v.device × SystemListsWorn v
