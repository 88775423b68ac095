-- Nothing differs between a tree and itself.
use Rattle.std.proofs.Common.{◌≡◌, ℕ, Bool, cond, Option, Some, None, List, [], ◌∷◌, ◌++◌, IsSome, refl, ap, ap₂, subst}
use Rattle.std.proofs.lemmas.List.Elements.{All-head, All-tail}
use Rattle.std.proofs.lemmas.Slice.Eq.{bytes_eq-Decides}
use Rattle.std.specs.Prelude.{All}
use Rattle.std.specs.FinMap.{get}
use Rattle.std.specs.List.{flat_map}
use Rattle.fs_types.specs.declared.limits.TheConstants.{MAX_NAMES}
use Rattle.plain_trees.specs.Contents.{Entry}
use Rattle.plain_trees.specs.Trees.{Tree}
use Rattle.inquiries.specs.Differences.{line_beside, changed_line, item_beside, difference_lines}
use Rattle.inquiries.specs.Items.{items_of, IsItemOf}
use Rattle.inquiries.specs.declared.items.Item.{Item}
use Rattle.inquiries.specs.declared.printing.Side.{Side}
use Rattle.inquiries.proofs.DifferenceLemmas.{items_there}

pub line_itself : (side : Side) (item : Item) (o : Option Entry) → IsSome o → line_beside side item o o ≡ []
line_itself side item None there = absurd cc
line_itself side item (Some Entry.Dir) there = refl
line_itself Side.Old item (Some (Entry.File bytes)) there = ap (λ (b : Bool). cond b [] (changed_line item.path)) ((bytes_eq-Decides bytes bytes).1 refl)
line_itself Side.New item (Some (Entry.File bytes)) there = refl

pub lines_itself : (side : Side) (t : Tree) (items : List Item) → All (IsItemOf t) items → flat_map (item_beside side t t) items ≡ []
lines_itself side t [] all = refl
lines_itself side t (item ∷ items) all =
    ap₂ (λ (x y : List ℕ). x ++ y) (line_itself side item (get t item.path) (All-head (IsItemOf t) item items all).there) (lines_itself side t items (All-tail (IsItemOf t) item items all))

pub nothing_differs : (old new : Tree) → old ≡ new → difference_lines old new ≡ []
nothing_differs old new same =
    subst (λ (u : Tree). difference_lines old u ≡ []) same
    (ap₂ (λ (x y : List ℕ). x ++ y) (lines_itself Side.Old old (items_of old) (items_there old MAX_NAMES [])) (lines_itself Side.New old (items_of old) (items_there old MAX_NAMES [])))
