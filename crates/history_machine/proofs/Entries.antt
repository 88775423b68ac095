-- The law of entries.
use Rattle.std.proofs.Common.{◌≡◌, Bool, true, false, cond, Option, List, [], ◌∷◌, ◌++◌, take, map, refl, sym, ap, ◌∙◌}
use Rattle.std.specs.Prelude.{filter}
use Rattle.std.proofs.lemmas.List.{take-map}
use Rattle.std.proofs.lemmas.List.Elements.{All-map}
use Rattle.std.proofs.lemmas.Simd.{map-map}
use Rattle.fs_types.specs.Names.{Name, is_after}
use Rattle.plain_trees.specs.Trees.{children}
use Rattle.history_machine.specs.Entries.{EntryStatsLaw}
use Rattle.history_machine.specs.Machine.{view_tree, reply_of, with_stat, listed_after}
use Rattle.fs_types.specs.declared.call.Call.{Call}
use Rattle.fs_types.specs.declared.call.Reply.{Reply}
use Rattle.fs_types.specs.declared.call.Stat.{Stat}

-- the names that come after another one
named_after : (from : Option Name) (listing : List (Name × Bool)) → map (λ e. e.0) (filter (λ e. is_after from e.0) listing) ≡ filter (is_after from) (map (λ e. e.0) listing)
named_after from [] = refl
named_after from (e ∷ listing) = on (is_after from e.0) (named_after from listing)
  where
    on : (b : Bool) → map (λ e. e.0) (filter (λ e. is_after from e.0) listing) ≡ filter (is_after from) (map (λ e. e.0) listing)
        → map (λ e. e.0) (cond b (e ∷ filter (λ e. is_after from e.0) listing) (filter (λ e. is_after from e.0) listing))
        ≡ cond b (e.0 ∷ filter (is_after from) (map (λ e. e.0) listing)) (filter (is_after from) (map (λ e. e.0) listing))
    on true same = ap (λ (names : List Name). e.0 ∷ names) same
    on false same = same

pub entry_stats_law : EntryStatsLaw
entry_stats_law = record {
  refused = λ m view path from most. refl;
  names = λ t path from most. map-map (λ (e : Name × Stat). e.0) (with_stat t path) (listed_after from most (children t path))
      ∙ sym (take-map (λ (e : Name × Bool). e.0) most (filter (λ e. is_after from e.0) (children t path)))
      ∙ ap (take most) (named_after from (children t path));
  stats = λ space m view path from most. All-map (λ (e : Name × Stat). reply_of space m (Call.Stat view (path ++ e.0 ∷ [])) ≡ Reply.Stat e.1) (with_stat (view_tree m view) path) (listed_after from most (children (view_tree m view) path)) (λ k d less. refl);
}
