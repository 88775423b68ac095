-- A path rewritten, seen from a later state, and by one directory more.
use Rattle.std.proofs.Common.{◌≡◌, ℕ, Bool, Option, Some, List, [], ◌∷◌, inl, inr, ap, subst, ◌∙◌}
use Rattle.std.specs.Prelude.{Contains}
use Rattle.fs_types.specs.Names.{Name, Path}
use Rattle.node_format.specs.declared.place.Place.{Place}
use Rattle.node_format.specs.declared.place.Place.TheVariants.{Dir}
use Rattle.nodes.specs.Bodies.{Blocks}
use Rattle.nodes.specs.Chains.{entries_in, chain, is_chained}
use Rattle.nodes.specs.Trees.{child}
use Rattle.nodes.specs.Reached.{Keeps}
use Rattle.nodes.specs.Rewritten.{IsDirectoryEdit, IsFreshChain, IsRewritten}
use Rattle.nodes.proofs.Chains.{chain_frame}
use Rattle.directory.proofs.NewDirectories.{edit_before}

-- ---- what was written stays while other nodes are written

pub edit_later : (f0 f1 f2 : Blocks) (from to : ℕ) (name : Name) (at : Option Place) → entries_in f2 to ≡ entries_in f1 to → IsDirectoryEdit f0 f1 from to name at → IsDirectoryEdit f0 f2 from to name at
edit_later f0 f1 f2 from to name at same (items, spelled, leads) = (items, same ∙ spelled, leads)

-- a directory written anew stays, and so do its blocks
pub written_later : (f0 f1 f2 : Blocks) (k0 k1 k2 : ℕ → Bool) → Keeps k1 f1 k2 f2 → (from to : ℕ) → IsFreshChain f0 f1 k0 k1 from to → (entries_in f2 to ≡ entries_in f1 to) × (chain f2 to ≡ chain f1 to)
written_later f0 f1 f2 k0 k1 k2 keeps from to fresh = chain_frame f1 f2 to (λ b inside. keeps.same b (fresh b inside).0)

pub fresh_later : (f0 f1 f2 : Blocks) (k0 k1 k2 : ℕ → Bool) → Keeps k1 f1 k2 f2 → (from to : ℕ) → IsFreshChain f0 f1 k0 k1 from to → IsFreshChain f0 f2 k0 k2 from to
fresh_later f0 f1 f2 k0 k1 k2 keeps from to fresh b inside =
    let was = fresh b (subst (λ (blocks : List ℕ). Contains blocks b) (written_later f0 f1 f2 k0 k1 k2 keeps from to fresh).1 inside) in
    (keeps.stays b was.0, elim was.1 [ inl free ↦ inl (free.0, ap is_chained (keeps.same b was.0) ∙ free.1) | inr old ↦ inr old ])

pub rewritten_later : (f0 f1 f2 : Blocks) (k0 k1 k2 : ℕ → Bool) → Keeps k1 f1 k2 f2 → (path : Path) (from to : ℕ) (at : Option Place) → IsRewritten f0 f1 k0 k1 from to path at → IsRewritten f0 f2 k0 k2 from to path at
rewritten_later f0 f1 f2 k0 k1 k2 keeps [] from to at r = absurd r
rewritten_later f0 f1 f2 k0 k1 k2 keeps (n ∷ []) from to at (fresh, edit) =
    (fresh_later f0 f1 f2 k0 k1 k2 keeps from to fresh, edit_later f0 f1 f2 from to n at (written_later f0 f1 f2 k0 k1 k2 keeps from to fresh).0 edit)
rewritten_later f0 f1 f2 k0 k1 k2 keeps (n ∷ m ∷ p) from to at (below, next, leads, fresh, edit, rest) = (
  below,
  next,
  leads,
  fresh_later f0 f1 f2 k0 k1 k2 keeps from to fresh,
  edit_later f0 f1 f2 from to n (Some (Dir next)) (written_later f0 f1 f2 k0 k1 k2 keeps from to fresh).0 edit,
  rewritten_later f0 f1 f2 k0 k1 k2 keeps (m ∷ p) below next at rest,
)

pub rewritten_one : (f0 f1 f2 : Blocks) (k0 k1 k2 : ℕ → Bool) (block to below next : ℕ) (name m : Name) (p : Path) (at : Option Place) → entries_in f1 block ≡ entries_in f0 block → child f0 (Dir block) name ≡ Some (Dir below)
    → Keeps k1 f1 k2 f2 → IsRewritten f0 f1 k0 k1 below next (m ∷ p) at → IsDirectoryEdit f1 f2 block to name (Some (Dir next)) → IsFreshChain f0 f2 k0 k2 block to → IsRewritten f0 f2 k0 k2 block to (name ∷ m ∷ p) at
rewritten_one f0 f1 f2 k0 k1 k2 block to below next name m p at same leads keeps lower edit fresh =
    (below, next, leads, fresh, edit_before f0 f1 f2 block to name (Some (Dir next)) same edit, rewritten_later f0 f1 f2 k0 k1 k2 keeps (m ∷ p) below next at lower)

-- ---- refusals
