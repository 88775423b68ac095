-- What is listed at a path is what stands there.
use Rattle.std.proofs.Common.{◌≡◌, ◌∙◌, Bool, true, false, Option, Some, None, IsSome, List, [], ◌∷◌, ◌++◌, refl, sym, ap, subst, arith}
use Rattle.std.proofs.lemmas.Bool.{true≢false}
use Rattle.std.proofs.lemmas.List.Elements.{All-nil, All-cons, All-contains}
use Rattle.std.specs.Prelude.{All, Contains, get_or, if◌then◌else◌}
use Rattle.std.specs.FinMap.{get}
use Rattle.fs_types.specs.Names.{Name, Path}
use Rattle.fs_types.specs.declared.call.Stat.{Stat}
use Rattle.history_machine.specs.Machine.{stat_of}
use Rattle.plain_trees.specs.Contents.{Entry}
use Rattle.plain_trees.specs.Trees.{Tree, children, IsFileTree}
use Rattle.inquiries.specs.Items.{item_at, items_at, items_below, items_by, IsItemOf}
use Rattle.inquiries.specs.declared.items.Item.{Item}
use Rattle.inquiries.proofs.DifferenceLemmas.{items_there}
use Rattle.inquiries.proofs.Entries.{items_below-none}
use Rattle.program_laws.specs.ListLaw.{ListLaw, TellsEntries}
use Rattle.program_laws.proofs.Pairs.{All-flat_map}
use Rattle.program_laws.proofs.Trees.{items_ordered, told_below}

abbrev standing : Path → Stat → Item
standing path stat = record { path = path; stat = stat }

-- an item stands at an entry of a directory
abbrev IsEntry : Path → Item → Type 0
IsEntry p item = (n : Name) × (item.path ≡ p ++ n ∷ [])

row_entry : (t : Tree) (p : Path) (n : Name) (b : Bool) → All (IsEntry p) (item_at t (p ++ n ∷ []) ∷ (if b then items_below t 0 (p ++ n ∷ []) else []))
row_entry t p n true =
    subst (λ (below : List Item). All (IsEntry p) (item_at t (p ++ n ∷ []) ∷ below)) (sym (items_below-none t 0 (p ++ n ∷ []) refl)) (All-cons (IsEntry p) (item_at t (p ++ n ∷ [])) [] (n, refl) (All-nil (IsEntry p)))
row_entry t p n false = All-cons (IsEntry p) (item_at t (p ++ n ∷ [])) [] (n, refl) (All-nil (IsEntry p))

all_entries : (t : Tree) (p : Path) → All (IsEntry p) (items_below t 1 p)
unfolding items_below
all_entries t p =
    All-flat_map (IsEntry p) (λ (e : Name × Bool). item_at t (p ++ e.0 ∷ []) ∷ (if e.1 then items_below t 0 (p ++ e.0 ∷ []) else [])) (children t p)
    (λ k d within. let e : Name × Bool = get_or (children t p) k d in row_entry t p e.0 e.1)

listed : (t : Tree) (p : Path) → get t p ≡ Some Entry.Dir → items_at t p ≡ items_below t 1 p
listed t p there = ap (λ (o : Option Entry). items_by t p (stat_of t p o)) there

entries_told : (t : Tree) (p : Path) → IsFileTree t → TellsEntries t p (items_below t 1 p)
entries_told t p lawful = record {
  entries = λ n there. found n (get t (p ++ n ∷ [])) refl there;
  others = λ item has.
      let entry = All-contains (IsEntry p) (items_below t 1 p) item (all_entries t p) has in
      (entry.0, entry.1, (All-contains (IsItemOf t) (items_below t 1 p) item (items_there t 1 p) has).there);
  order = items_ordered t 1 p;
}
  where
    found : (n : Name) (o : Option Entry) → get t (p ++ n ∷ []) ≡ o → IsSome o → Contains (items_below t 1 p) (item_at t (p ++ n ∷ []))
    found n None is some = absurd (true≢false (sym some))
    found n (Some x) is some = told_below t lawful 1 p n [] x (omega arith) is

pub list_law : ListLaw
list_law = record {
  directories = λ t p lawful there. subst (TellsEntries t p) (sym (listed t p there)) (entries_told t p lawful);
  files = λ t p bytes there. ap (λ (o : Option Entry). items_by t p (stat_of t p o)) there ∙ ap (λ (o : Option Entry). standing p (stat_of t p o) ∷ []) there;
}
