-- The nodes that were used last, each with its block.
use Rattle.std.specs.Prelude.{ℕ, ◌<◌, ◌≤◌, nat_eq, Bool, List, [], ◌∷◌, length, take, map, filter, Option, Vec, refl}
use Rattle.std.specs.Coded.{Coded, code_by, coded×, coded_ℕ, coded_list}
use Rattle.std.specs.Global.{Global}
use Rattle.std.specs.List.{IsDistinct}
use Rattle.std.specs.Map.{keys_of, lookup, remove_entry}

-- blocks with the bytes of their nodes, the last one used first, and how many there may be
pub record NodeCache : Type 0 where
  pub entries : List (ℕ × List ℕ)
  pub room : ℕ

-- it is stored as the pair of its fields
abbrev pub cache_code : Coded NodeCache
cache_code =
    code_by (List (ℕ × List ℕ) × ℕ) (coded× (coded_list (coded× coded_ℕ (coded_list coded_ℕ))) coded_ℕ) (λ c. (c.entries, c.room))
    (λ p. record { entries = p.0; room = p.1 }) (λ _. refl)

-- nodes as the bytes that they hold
abbrev pub entries_as_bytes : List (ℕ × Vec ℕ Global) → List (ℕ × List ℕ)
entries_as_bytes es = map (λ e. (e.0, e.1.items)) es

-- the bytes that the cache has of a block
abbrev pub node_in : NodeCache → ℕ → Option (List ℕ)
node_in c b = lookup (nat_eq b) c.entries

-- a block goes first with these bytes, then the others as they were, as many as there is room for
abbrev pub with_first : NodeCache → ℕ → List ℕ → NodeCache
with_first c b bytes = record c { entries = take c.room ((b, bytes) ∷ remove_entry (nat_eq b) c.entries) }

-- a block is taken out
abbrev pub without : NodeCache → ℕ → NodeCache
without c b = record c { entries = remove_entry (nat_eq b) c.entries }

-- the entries of these blocks alone
abbrev pub with_blocks : (ℕ → Bool) → List (ℕ × List ℕ) → List (ℕ × List ℕ)
with_blocks these es = filter (λ e. these e.0) es

-- the bytes of the block that is listed first
abbrev pub first_bytes : List (ℕ × List ℕ) → List ℕ
first_bytes [] = []
first_bytes (e ∷ es) = e.1

-- no block is listed twice, nor more than there is room for, which is for one at least
pub record IsBounded (c : NodeCache) : Type 0 where
  pub once : IsDistinct nat_eq (keys_of c.entries)
  pub most : length c.entries ≤ c.room
  pub some : 0 < c.room
