-- Which parts make a history.
use Rattle.std.specs.Prelude.{ℕ, Bool, true, nat_lt, nat_le, ◌&&◌, List, [], ◌∷◌, length}
use Rattle.std.specs.List.{list_all}
use Rattle.fs_types.specs.declared.call.Version.{Version}
use Rattle.fs_types.specs.declared.limits.TheConstants.{MIN_VERSIONS, MAX_VERSIONS, MAX_CHECKPOINTS}
use Rattle.history_machine.specs.History.{Past}
use Rattle.plain_trees.specs.Trees.{Tree}

-- the history of these parts
abbrev pub history_of_parts : List (Version Tree) → ℕ → Bool → ℕ → List (List ℕ × Tree) → ℕ → Past Tree
history_of_parts versions cursor dropped next checkpoints limit = record { versions = versions; cursor = cursor; dropped = dropped; next = next; checkpoints = checkpoints; limit = limit }

-- serials ascend from above one on
abbrev pub past_serials_ascend : ℕ → List (Version Tree) → Bool
past_serials_ascend before [] = true
past_serials_ascend before (version ∷ versions) = nat_lt before version.serial && past_serials_ascend version.serial versions

-- the limit is 2 to 128, there are no more versions than that, one of them is present, and there are at most 16 checkpoints
abbrev pub past_has_counts : Past Tree → Bool
past_has_counts p =
    nat_le MIN_VERSIONS p.limit && nat_le p.limit MAX_VERSIONS && nat_le (length p.versions) p.limit && nat_lt p.cursor (length p.versions)
    && nat_le (length p.checkpoints) MAX_CHECKPOINTS

-- versions from serial 1 on, below the next serial, in order
abbrev pub past_has_versions : Past Tree → Bool
past_has_versions p = past_serials_ascend 0 p.versions && list_all (λ version. nat_lt version.serial p.next) p.versions

-- what a system may keep
abbrev pub is_history : Past Tree → Bool
is_history p = past_has_counts p && past_has_versions p
