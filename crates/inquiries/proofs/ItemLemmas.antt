-- Files that are listed.
use Rattle.std.proofs.Common.{◌≡◌, ◌∙◌, ℕ, Bool, true, false, Option, Some, None, List, [], ◌∷◌, length, IsSome, refl, sym, ap, arith}
use Rattle.std.proofs.lemmas.Bool.{true≢false, eqb-true}
use Rattle.std.specs.Prelude.{not, ◌==◌}
use Rattle.std.specs.FinMap.{get}
use Rattle.fs_types.specs.declared.call.Stat.{Stat}
use Rattle.fs_types.specs.declared.call.View.{View}
use Rattle.plain_trees.specs.Contents.{Entry}
use Rattle.plain_trees.specs.Trees.{Tree, bytes_of, bytes_of_file}
use Rattle.history_machine.specs.History.{view_refusal}
use Rattle.history_machine.specs.Machine.{Machine, stat_of, view_tree}
use Rattle.inquiries.specs.Items.{IsFileOf, IsItemOf}
use Rattle.inquiries.specs.Owners.{owns_block}
use Rattle.inquiries.specs.declared.items.Item.{Item}

file_there : (t : Tree) (item : Item) (size : ℕ) (o : Option Entry) → IsItemOf t item → item.stat ≡ Stat.File size → get t item.path ≡ o → IsSome o → get t item.path ≡ Some (Entry.File (bytes_of_file t item.path))
file_there t item size None is file at some = absurd (true≢false (sym some))
file_there t item size (Some Entry.Dir) is file at some = absurd (let wrong = sym (ap (stat_of t item.path) at) ∙ sym is.stat ∙ file in cc)
file_there t item size (Some (Entry.File bytes)) is file at some = at ∙ ap (λ (o : Option Entry). Some (Entry.File (bytes_of o))) (sym at)

-- an item of which that is told is a file
pub item_file : (m : Machine) (view : View) (item : Item) (size : ℕ) → view_refusal m.history view ≡ None → IsItemOf (view_tree m view) item → item.stat ≡ Stat.File size → IsFileOf m view item.path
item_file m view item size seen is file = record { accepted = seen; there = file_there (view_tree m view) item size (get (view_tree m view) item.path) is file refl is.there }

-- a length of none
no_length : (n : ℕ) → not (n == 0) ≡ false → n ≡ 0
no_length n none = by (n == 0) refl none
  where
    by : (b : Bool) → (n == 0) ≡ b → not b ≡ false → n ≡ 0
    by true is such = eqb-true n 0 is
    by false is such = absurd (true≢false such)

no_bytes : (bytes : List ℕ) → length bytes ≡ 0 → bytes ≡ []
no_bytes [] none = refl
no_bytes (x ∷ bytes) none = absurd (omega (arith, none))

-- a file that owns no block has no bytes
pub empty_file : (m : Machine) (view : View) (item : Item) (none : List ℕ) → IsItemOf (view_tree m view) item → IsFileOf m view item.path → owns_block item.stat ≡ false → none ≡ [] → get (view_tree m view) item.path ≡ Some (Entry.File none)
empty_file m view item none is file alone empty =
    let t : Tree = view_tree m view in
    let bytes : List ℕ = bytes_of_file t item.path in
    let stat : item.stat ≡ Stat.File (length bytes) = is.stat ∙ ap (stat_of t item.path) file.there in
    let long : length bytes ≡ 0 = no_length (length bytes) (sym (ap owns_block stat) ∙ alone) in
    file.there ∙ ap (λ (all : List ℕ). Some (Entry.File all)) (no_bytes bytes long ∙ sym empty)
