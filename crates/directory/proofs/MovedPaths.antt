-- Two paths rewritten, each directory once.
use Rattle.std.proofs.Common.{◌≡◌, ℕ, ◌⊎◌, inl, inr, Bool, true, false, cond, Option, Some, None, Result, Ok, Err, [], ◌∷◌, sym, ap, ◌∙◌}
use Rattle.std.specs.Prelude.{IfOk}
use Rattle.std.specs.Option.{is_some}
use Rattle.fs_types.specs.Names.{Name, Path, same_name}
use Rattle.plain_trees.specs.Contents.{Apart, beneath}
use Rattle.fs_types.specs.declared.fault.Fault.{Fault}
use Rattle.fs_types.proofs.Orders.{same_name-is, same_name-own}
use Rattle.node_format.specs.declared.place.Place.{Place}
use Rattle.node_format.specs.declared.place.Place.TheVariants.{Dir}
use Rattle.nodes.specs.Bodies.{Blocks}
use Rattle.nodes.specs.Chains.{entries_in, chain}
use Rattle.nodes.specs.Trees.{child, leads}
use Rattle.nodes.specs.Reached.{IsHeld, Keeps, Reached, PlaceNames}
use Rattle.nodes.specs.Rewritten.{IsFreshNode, IsFreshChain, IsSecondEdit, IsBranch, IsMoved}
use Rattle.nodes.proofs.Reaching.{held_child}
use Rattle.nodes.proofs.MovedTrees.{move_law}
use Rattle.directory.specs.Edits.{OnlyReaches}
use Rattle.directory.proofs.Held.{held_later, same_held}
use Rattle.directory.proofs.NewDirectories.{child_is, fresh_before, rewritten_before}
use Rattle.directory.proofs.Rewrites.{edit_later, written_later, fresh_later, rewritten_later}

-- ---- paths apart

pub apart_down : (n m : Name) (p q : Path) → same_name n m ≡ true → Apart (n ∷ p) (m ∷ q) → Apart p q
apart_down n m p q same (first, second) = (
  sym (ap (λ (b : Bool). is_some (cond b (beneath p q) None)) same) ∙ first,
  sym (ap (λ (b : Bool). is_some (cond b (beneath q p) None)) (ap (same_name m) (same_name-is n m same) ∙ same_name-own m)) ∙ second,
)

-- ---- edits seen from a later state, and from an earlier one

second_later : (f0 f1 f2 : Blocks) (from to : ℕ) (n m : Name) (at at' : Option Place) → entries_in f2 to ≡ entries_in f1 to → IsSecondEdit f0 f1 from to n at m at' → IsSecondEdit f0 f2 from to n at m at'
second_later f0 f1 f2 from to n m at at' same (items, spelled, led) = (items, same ∙ spelled, led)

pub second_before : (f g h : Blocks) (from to : ℕ) (n m : Name) (at at' : Option Place) → entries_in g from ≡ entries_in f from → IsSecondEdit g h from to n at m at' → IsSecondEdit f h from to n at m at'
second_before f g h from to n m at at' same (items, spelled, led) =
    (items, spelled, λ k. led k ∙ ap (λ (o : Option Place). cond (same_name m k) at' (cond (same_name n k) at o)) (child_is f g from k same))

pub branch_later : (f0 f1 f2 : Blocks) (k0 k1 k2 : ℕ → Bool) → Keeps k1 f1 k2 f2 → (from : ℕ) (n : Name) (p : Path) (at now : Option Place) → IsBranch f0 f1 k0 k1 from n p at now → IsBranch f0 f2 k0 k2 from n p at now
branch_later f0 f1 f2 k0 k1 k2 keeps from n [] at now is = is
branch_later f0 f1 f2 k0 k1 k2 keeps from n (m ∷ p) at now (below, next, goes, is, rewritten) =
    (below, next, goes, is, rewritten_later f0 f1 f2 k0 k1 k2 keeps (m ∷ p) below next at rewritten)

pub branch_before : (f g h : Blocks) (k l kept : ℕ → Bool) → Keeps k f l g → ((b : ℕ) → l b ≡ false → k b ≡ false) → (from : ℕ) (n : Name) (p : Path) (at now : Option Place) → IsHeld f k (Dir from)
    → IsBranch g h l kept from n p at now → IsBranch f h k kept from n p at now
branch_before f g h k l kept keeps was from n [] at now held is = is
branch_before f g h k l kept keeps was from n (m ∷ p) at now held (below, next, goes, is, rewritten) =
    let before : child f (Dir from) n ≡ Some (Dir below) = sym (child_is f g from n (same_held f g k l keeps from held).0) ∙ goes in
    (below, next, before, is, rewritten_before f g h k l kept keeps was (m ∷ p) below next at (held_child f k (Dir from) n (Dir below) before held) rewritten)

pub moved_later : (f0 f1 f2 : Blocks) (k0 k1 k2 : ℕ → Bool) → Keeps k1 f1 k2 f2 → (p q : Path) (from to : ℕ) (place : Place) → IsMoved f0 f1 k0 k1 from to p q place → IsMoved f0 f2 k0 k2 from to p q place
moved_later f0 f1 f2 k0 k1 k2 keeps [] q from to place r = absurd r
moved_later f0 f1 f2 k0 k1 k2 keeps (n ∷ p) [] from to place r = absurd r
moved_later f0 f1 f2 k0 k1 k2 keeps (n ∷ p) (m ∷ q) from to place (fresh, inl (same, below, next, goes, edit, rest)) = (
  fresh_later f0 f1 f2 k0 k1 k2 keeps from to fresh,
  inl (
    same,
    below,
    next,
    goes,
    edit_later f0 f1 f2 from to n (Some (Dir next)) (written_later f0 f1 f2 k0 k1 k2 keeps from to fresh).0 edit,
    moved_later f0 f1 f2 k0 k1 k2 keeps p q below next place rest,
  ),
)
moved_later f0 f1 f2 k0 k1 k2 keeps (n ∷ p) (m ∷ q) from to place (fresh, inr (differs, gone, came, edit, old_branch, new_branch)) = (
  fresh_later f0 f1 f2 k0 k1 k2 keeps from to fresh,
  inr (
    differs,
    gone,
    came,
    second_later f0 f1 f2 from to n m gone came (written_later f0 f1 f2 k0 k1 k2 keeps from to fresh).0 edit,
    branch_later f0 f1 f2 k0 k1 k2 keeps from n p None gone old_branch,
    branch_later f0 f1 f2 k0 k1 k2 keeps from m q (Some place) came new_branch,
  ),
)

-- ---- below a name that both paths go through

-- ---- where the paths part

-- the states of a parting: at first (0), with the old branch written (1), and with the new one too (2)
pub record Parts (f0 f1 f2 : Blocks) (k0 k1 k2 : ℕ → Bool) (block : ℕ) (n m : Name) (p q : Path) (place : Place) (former here : Option Place) : Type 0 where
  pub differs : same_name n m ≡ false
  pub held : IsHeld f0 k0 (Dir block)
  pub first : Keeps k0 f0 k1 f1
  pub second : Keeps k1 f1 k2 f2
  pub was_fresh : (b : ℕ) → k1 b ≡ false → k0 b ≡ false
  pub was_fresh_too : (b : ℕ) → k2 b ≡ false → k1 b ≡ false
  pub old_branch : IsBranch f0 f1 k0 k1 block n p None former
  pub new_branch : IsBranch f1 f2 k1 k2 block m q (Some place) here

-- the directory where the paths part is the same in all of them, and so are its blocks
pub same_parted : (f0 f1 f2 : Blocks) (k0 k1 k2 : ℕ → Bool) (block : ℕ) → Keeps k0 f0 k1 f1 → Keeps k1 f1 k2 f2 → IsHeld f0 k0 (Dir block) → (entries_in f2 block ≡ entries_in f0 block) × (chain f2 block ≡ chain f0 block)
same_parted f0 f1 f2 k0 k1 k2 block first second held =
    let here = same_held f0 f1 k0 k1 first block held in
    let later = same_held f1 f2 k1 k2 second block (held_later f0 f1 k0 k1 first block held) in
    (later.0 ∙ here.0, later.1 ∙ here.1)

pub path_parted : (f0 f1 f2 f3 : Blocks) (k0 k1 k2 k3 : ℕ → Bool) (block : ℕ) (n m : Name) (p q : Path) (place : Place) (former here : Option Place) (r : Result ℕ Fault) → Parts f0 f1 f2 k0 k1 k2 block n m p q place former here → Keeps k2 f2 k3 f3
    → IfOk r (λ to. IsSecondEdit f2 f3 block to n former m here × IsFreshChain f2 f3 k2 k3 block to) → IfOk r (λ to. IsMoved f0 f3 k0 k3 block to (n ∷ p) (m ∷ q) place)
path_parted f0 f1 f2 f3 k0 k1 k2 k3 block n m p q place former here (Err fault) parts third done = tt
path_parted f0 f1 f2 f3 k0 k1 k2 k3 block n m p q place former here (Ok to) parts third (edited, fresh) =
    let first = parts.first in
    let later = held_later f0 f1 k0 k1 first block parts.held in
    let fresh_one = fresh_before f1 f2 f3 k1 k2 k3 parts.second parts.was_fresh_too block to later fresh in (
      fresh_before f0 f1 f3 k0 k1 k3 first parts.was_fresh block to parts.held fresh_one,
      inr (
        parts.differs,
        former,
        here,
        second_before f0 f2 f3 block to n m former here (same_parted f0 f1 f2 k0 k1 k2 block first parts.second parts.held).0 edited,
        branch_later f0 f2 f3 k0 k2 k3 third block n p None former (branch_later f0 f1 f2 k0 k1 k2 parts.second block n p None former parts.old_branch),
        branch_later f0 f2 f3 k0 k2 k3 third block m q (Some place) here (branch_before f0 f1 f2 k0 k1 k2 first parts.was_fresh block m q (Some place) here parts.held parts.new_branch),
      ),
    )

-- ---- what the new root reaches

pub only_moved : (old new : Blocks) (kept kept' : ℕ → Bool) (from : ℕ) (p q : Path) (place : Place) (result : Result ℕ Fault) → Keeps kept old kept' new → IsHeld old kept (Dir from) → leads old (Dir from) p ≡ Some place
    → IfOk result (λ to. IsMoved old new kept kept' from to p q place) → IfOk result (λ to. OnlyReaches old new kept from to None)
only_moved old new kept kept' from p q place (Err fault) keeps held led moved = tt
only_moved old new kept kept' from p q place (Ok to) keeps held led moved = λ b reached. on b ((move_law old new kept kept' from to p q place keeps held led moved).reached b reached)
  where
    on : (b : ℕ) → Reached old (from ∷ []) b ⊎ IsFreshNode kept new b
        → Reached old (from ∷ []) b ⊎ IsFreshNode kept new b ⊎ ((root : ℕ) × (at : Place) × (let none : Option Place = None in none ≡ Some at) × PlaceNames at root × Reached new (root ∷ []) b)
    on b (inl before) = inl before
    on b (inr fresh) = inr (inl fresh)
