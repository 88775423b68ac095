-- The map of the blocks as text.
use Rattle.std.specs.Prelude.{ℕ, ◌+◌, ◌%◌, ◌==◌, ◌||◌, Bool, true, false, if◌then◌else◌, List, [], ◌∷◌, ◌++◌, length, count_by, codes, decimal}
use Rattle.std.specs.List.{flat_map}
use Rattle.block_usage.specs.declared.block_kind.BlockKind.{BlockKind}

-- the byte that stands for a block
abbrev pub sign_of : BlockKind → ℕ
sign_of BlockKind.NewestAnchor = 82
sign_of BlockKind.Anchor = 65
sign_of BlockKind.Bad = 88
sign_of BlockKind.Present = 80
sign_of BlockKind.Shared = 83
sign_of BlockKind.Other = 86
sign_of BlockKind.Checkpoint = 67
sign_of BlockKind.Stale = 45
sign_of BlockKind.Blank = 46

-- what the legend says of it
abbrev pub meaning_of : BlockKind → List ℕ
meaning_of BlockKind.NewestAnchor = codes "anchor with the newest record"
meaning_of BlockKind.Anchor = codes "another anchor"
meaning_of BlockKind.Bad = codes "bad"
meaning_of BlockKind.Present = codes "present version alone"
meaning_of BlockKind.Shared = codes "present version and others"
meaning_of BlockKind.Other = codes "other versions"
meaning_of BlockKind.Checkpoint = codes "checkpoints alone"
meaning_of BlockKind.Stale = codes "free, not erased"
meaning_of BlockKind.Blank = codes "free, erased"

-- the kinds in the order in which the first that holds is told
abbrev pub all_kinds : List BlockKind
all_kinds = BlockKind.NewestAnchor ∷ BlockKind.Anchor ∷ BlockKind.Bad ∷ BlockKind.Present ∷ BlockKind.Shared ∷ BlockKind.Other ∷ BlockKind.Checkpoint ∷ BlockKind.Stale ∷ BlockKind.Blank ∷ []

abbrev pub is_anchor : BlockKind → Bool
is_anchor BlockKind.NewestAnchor = true
is_anchor BlockKind.Anchor = true
is_anchor _ = false

abbrev pub is_bad : BlockKind → Bool
is_bad BlockKind.Bad = true
is_bad _ = false

-- a version or a checkpoint reaches it
abbrev pub is_kept : BlockKind → Bool
is_kept BlockKind.Present = true
is_kept BlockKind.Shared = true
is_kept BlockKind.Other = true
is_kept BlockKind.Checkpoint = true
is_kept _ = false

abbrev pub is_free : BlockKind → Bool
is_free BlockKind.Stale = true
is_free BlockKind.Blank = true
is_free _ = false

-- a line has 64 signs, and the last one fewer, where as many are left
abbrev pub ends_line : ℕ → ℕ → Bool
ends_line blocks place = ((place + 1) % 64 == 0) || (place + 1 == blocks)

-- the sign of a block at a place, with the end of its line
abbrev pub sign_text : ℕ → ℕ → BlockKind → List ℕ
sign_text blocks place kind = sign_of kind ∷ (if ends_line blocks place then codes "\n" else [])

-- what is told of each of some blocks, of which the first is at this place
abbrev pub each_from : (ℕ → BlockKind → List ℕ) → ℕ → List BlockKind → List ℕ
each_from told place [] = []
each_from told place (kind ∷ kinds) = told place kind ++ each_from told (place + 1) kinds

abbrev pub signs_text : List BlockKind → List ℕ
signs_text kinds = each_from (sign_text (length kinds)) 0 kinds

-- how many blocks have a sign
abbrev pub sign_count : List BlockKind → ℕ → ℕ
sign_count kinds sign = count_by (λ kind. sign_of kind == sign) kinds

-- a line of the legend: the sign of a kind, how many blocks have it, and what it means
abbrev pub legend_line : List BlockKind → BlockKind → List ℕ
legend_line kinds kind = sign_of kind ∷ (codes " " ++ decimal (sign_count kinds (sign_of kind)) ++ codes " " ++ meaning_of kind ++ codes "\n")

-- how many blocks there are, how many of them are anchors, bad, kept and free
abbrev pub sums_line : List BlockKind → List ℕ
sums_line kinds = codes "blocks " ++ decimal (length kinds) ++ codes " anchors " ++ decimal (count_by is_anchor kinds) ++ codes " bad " ++ decimal (count_by is_bad kinds)
    ++ codes " kept " ++ decimal (count_by is_kept kinds) ++ codes " free " ++ decimal (count_by is_free kinds) ++ codes "\n"

-- the map: the signs of all blocks, the legend and the sums
abbrev pub map_text : List BlockKind → List ℕ
map_text kinds = signs_text kinds ++ flat_map (legend_line kinds) all_kinds ++ sums_line kinds
