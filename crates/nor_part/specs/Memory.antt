-- A serial NOR part in memory.
use Rattle.std.specs.Prelude.{◌≡◌, ◌⊎◌, ◌<◌, ℕ, List, length, slice_get, slice_index, vec_len, replicate, true, Option, Some, None, Result, Ok, Err}
use Rattle.std.specs.Option.{ForSome, option_map_or}
use Rattle.flash_model.specs.declared.flash.DevFault.{DevFault}
use Rattle.flash_model.specs.declared.flash.DevFault.TheVariants.{Failed, PowerCut}
use Rattle.nor_part.specs.Part.{is_blank}
use Rattle.nor_part.specs.declared.memory_nor.MemoryPage.{MemoryPage}
use Rattle.nor_part.specs.declared.memory_nor.Trouble.{Trouble}
use Rattle.nor_part.specs.declared.memory_nor.Trouble.TheVariants.{Fails, CutBefore, CutWithin, CutAfter}

-- a page of a part, past the last one a blank one
abbrev pub memory_page_at : List MemoryPage → ℕ → List ℕ
memory_page_at pages n = option_map_or (λ page. page.bytes.items) (slice_get pages n) (replicate 256 255)

-- each page has 256 bytes
abbrev pub AreFullPages : List MemoryPage → Type 0
AreFullPages pages = (n : ℕ) → ForSome (slice_get pages n) (λ page. vec_len page.bytes ≡ 256)

-- each page is as an erase leaves it
abbrev pub AreBlankPages : List MemoryPage → Type 0
AreBlankPages pages = (n : ℕ) → ForSome (slice_get pages n) (λ page. page.bytes.items ≡ replicate 256 255)

-- each byte that is given as 0 has at most the fifth of its bits left
abbrev pub ZeroesBytes : List ℕ → List ℕ → Type 0
ZeroesBytes bytes new = (i : ℕ) → i < length bytes → slice_index bytes i ≡ 0 → slice_index new i < 17

-- what is given as 0 is so, or the page is as it was since power went before
abbrev pub ZeroesPage : List ℕ → List ℕ → List ℕ → Result (Unit {0}) DevFault → Type 0
ZeroesPage old bytes new result = ZeroesBytes bytes new ⊎ ((result ≡ Err PowerCut) × (new ≡ old))

-- a page is as it was, or erased
abbrev pub IsWholeErase : List ℕ → List ℕ → Type 0
IsWholeErase old new = (new ≡ old) ⊎ (is_blank new ≡ true)

-- the answer of an operation that is befallen so
abbrev pub trouble_answer : Option Trouble → Result (Unit {0}) DevFault
trouble_answer None = Ok tt
trouble_answer (Some Fails) = Err Failed
trouble_answer (Some CutBefore) = Err PowerCut
trouble_answer (Some CutWithin) = Err PowerCut
trouble_answer (Some CutAfter) = Err PowerCut
