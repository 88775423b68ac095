-- What a serial NOR part in memory holds.
use Rattle.std.specs.Prelude.{◌≡◌, ℕ, ◌==◌, Bool, if◌then◌else◌, is_some, List, length, slice_get, vec_len, replicate, Option, Some, None}
use Rattle.std.specs.Option.{option_map_or}
use Rattle.std.proofs.Common.{sym, ◌∙◌, refl}
use Rattle.flash_model.specs.declared.flash.DevFault.{DevFault}
use Rattle.flash_model.specs.declared.flash.DevFault.TheVariants.{PowerCut}
use Rattle.nor_part.specs.declared.memory_nor.MemoryPage.{MemoryPage}
use Rattle.nor_part.specs.declared.memory_nor.MemoryNor.{MemoryNor}
use Rattle.nor_part.specs.Memory.{memory_page_at, AreFullPages}

-- how many pages
abbrev pub page_total : MemoryNor → ℕ
page_total part = vec_len part.pages

-- the bytes of each page
abbrev pub held_of : MemoryNor → ℕ → List ℕ
held_of part = memory_page_at part.pages.items

-- a read is still to be refused by plan
abbrev pub awaits_read : MemoryNor → Bool
awaits_read part = is_some part.read_fault

-- what the next read is refused with: with the power off by a cut, else by what is planned for it
abbrev pub read_due : MemoryNor → Option DevFault
read_due part = if part.powered then (if part.good_reads == 0 then part.read_fault else None) else Some PowerCut

length-found : (found : Option MemoryPage) → ((page : MemoryPage) → found ≡ Some page → vec_len page.bytes ≡ 256)
    → length (option_map_or (λ (page : MemoryPage). page.bytes.items) found (replicate 256 255)) ≡ 256
length-found None whole = refl
length-found (Some page) whole = sym page.bytes.ok.0 ∙ whole page refl

pub page_at-whole : (pages : List MemoryPage) → AreFullPages pages → (n : ℕ) → length (memory_page_at pages n) ≡ 256
page_at-whole pages whole n = length-found (slice_get pages n) (whole n)

pub whole_of : (part : MemoryNor) (n : ℕ) → length (held_of part n) ≡ 256
whole_of part n = page_at-whole part.pages.items part.whole n
