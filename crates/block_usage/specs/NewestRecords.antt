-- The record of greatest sequence among some.
use Rattle.std.specs.Prelude.{ℕ, ◌+◌, ◌%◌, Bool, ◌&&◌, nat_lt, nat_le, Option, Some, None, if◌then◌else◌}
use Rattle.flash_model.specs.declared.geometry.Geometry.{Geometry}
use Rattle.record_format.specs.declared.page_head.PageHead.{PageHead}
use Rattle.block_usage.specs.declared.newest_records.Place.{Place}

-- a record that begins on a page with this header has pages, and its block has room for them
abbrev pub has_room : Geometry → ℕ → PageHead → Bool
has_room g page first = nat_lt 0 first.count && nat_le (page % g.pages + first.count) g.pages

-- of the record that was found, if one was, and one more: the first, where both have the same sequence
abbrev pub later_with : Option Place → ℕ → PageHead → Option Place
later_with None page head = Some (record { page = page; sequence = head.sequence })
later_with (Some place) page head = if nat_le head.sequence place.sequence then Some place else Some (record { page = page; sequence = head.sequence })

abbrev pub later : Option Place → ℕ → Option PageHead → Option Place
later newest page None = newest
later newest page (Some head) = later_with newest page head
