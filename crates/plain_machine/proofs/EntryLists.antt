-- The entries after a name, one name of the listing after the other.
use Rattle.std.proofs.Common.{◌≡◌, ℕ, zero, suc, ◌+◌, ◌<◌, Bool, true, false, Option, List, [], ◌∷◌, ◌++◌, length, get_or, take, drop, map, cond, refl, sym, ap, ◌∙◌, append_assoc, arith}
use Rattle.std.proofs.Math.Seq.{drop-cons}
use Rattle.std.specs.Prelude.{filter}
use Rattle.fs_types.specs.Names.{Name, Path, is_after}
use Rattle.plain_trees.specs.Trees.{Tree}
use Rattle.history_machine.specs.Machine.{listed_after, with_stat}
use Rattle.fs_types.specs.declared.call.Stat.{Stat}

-- what is left of the entries, of a listing and of how many are wanted
abbrev pub left_of : Tree → Path → Option Name → ℕ → List (Name × Bool) → List (Name × Stat)
left_of t path from most listing = map (with_stat t path) (listed_after from most listing)

-- the first name that is left
pub first_left : (items : List (Name × Bool)) (i : ℕ) (x : Name × Bool) → i < length items → x ≡ get_or items i x → drop i items ≡ x ∷ drop (i + 1) items
first_left items i x less is =
    let one : suc i ≡ i + 1 = omega arith in
    drop-cons items i x less ∙ ap (λ y. y ∷ drop (suc i) items) (sym is) ∙ ap (λ k. x ∷ drop k items) one

-- a name that comes after, and is wanted
pub entry_taken : (t : Tree) (path : Path) (from : Option Name) (most rest : ℕ) (x : Name × Bool) (xs : List (Name × Bool)) (front : List (Name × Stat)) → is_after from x.0 ≡ true → most ≡ suc rest
    → (front ++ with_stat t path x ∷ []) ++ left_of t path from rest xs ≡ front ++ left_of t path from most (x ∷ xs)
entry_taken t path from most rest x xs front after one =
    append_assoc front (with_stat t path x ∷ []) (left_of t path from rest xs)
    ∙ ap (λ b. front ++ map (with_stat t path) (take (suc rest) (cond b (x ∷ filter (λ e. is_after from e.0) xs) (filter (λ e. is_after from e.0) xs)))) (sym after)
    ∙ ap (λ k. front ++ left_of t path from k (x ∷ xs)) (sym one)

-- one that does not come after
pub entry_passed : (t : Tree) (path : Path) (from : Option Name) (most : ℕ) (x : Name × Bool) (xs : List (Name × Bool)) → is_after from x.0 ≡ false
    → left_of t path from most xs ≡ left_of t path from most (x ∷ xs)
entry_passed t path from most x xs before =
    ap (λ b. map (with_stat t path) (take most (cond b (x ∷ filter (λ e. is_after from e.0) xs) (filter (λ e. is_after from e.0) xs)))) (sym before)

-- none is wanted any more
pub none_wanted : (t : Tree) (path : Path) (from : Option Name) (most : ℕ) (xs ys : List (Name × Bool)) → most ≡ 0 → left_of t path from most xs ≡ left_of t path from most ys
none_wanted t path from zero xs ys none = refl
none_wanted t path from (suc most) xs ys none = absurd (omega arith)
