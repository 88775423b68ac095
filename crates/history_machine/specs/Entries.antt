-- The law of entries, over every machine and every directory.
use Rattle.std.specs.Prelude.{◌≡◌, ℕ, Option, [], ◌∷◌, ◌++◌, take, filter, map, All}
use Rattle.fs_types.specs.Names.{Name, Path, is_after}
use Rattle.plain_trees.specs.Trees.{Tree, children}
use Rattle.history_machine.specs.Machine.{Machine, Space, view_tree, refusal, reply_of, entries_of}
use Rattle.fs_types.specs.declared.call.Call.{Call}
use Rattle.fs_types.specs.declared.call.Reply.{Reply}
use Rattle.fs_types.specs.declared.call.View.{View}

-- what list says of a directory and stat of each name, taken together
pub record EntryStatsLaw : Type 0 where
  -- entries is refused as list is
  pub refused : (m : Machine) (view : View) (path : Path) (from : Option Name) (most : ℕ)
      → refusal m (Call.Entries view path from most) ≡ refusal m (Call.List view path)
  -- its names are those of list that come after the one that is given, the first so many
  pub names : (t : Tree) (path : Path) (from : Option Name) (most : ℕ)
      → map (λ e. e.0) (entries_of t path from most) ≡ take most (filter (is_after from) (map (λ e. e.0) (children t path)))
  -- and of each it says what stat says
  pub stats : (space : Space) (m : Machine) (view : View) (path : Path) (from : Option Name) (most : ℕ)
      → All (λ e. reply_of space m (Call.Stat view (path ++ e.0 ∷ [])) ≡ Reply.Stat e.1) (entries_of (view_tree m view) path from most)
