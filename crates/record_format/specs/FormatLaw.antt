-- The law of formats.
use Rattle.std.specs.Prelude.{◌≡◌, true}
use Rattle.record_format.specs.declared.record.Record.{Record}
use Rattle.record_format.specs.Payloads.{is_record, written}

-- a record of any format that is read may be written
abbrev pub ReadIsWritten : Type 0
ReadIsWritten = (r : Record) → is_record r ≡ true → is_record (written r r.bad) ≡ true
