-- What is held stays while other nodes are written.
use Rattle.std.proofs.Common.{◌≡◌, ℕ, Bool, Option, unwrap_or, List, [], ◌∷◌, refl, sym, ap, subst}
use Rattle.node_format.specs.Items.{Item}
use Rattle.node_format.specs.declared.place.Place.TheVariants.{Dir}
use Rattle.nodes.specs.Bodies.{Blocks}
use Rattle.nodes.specs.Chains.{entries_in, items_in, chain}
use Rattle.nodes.specs.Reached.{IsHeld, Keeps, Reached, IsFirst, IsNamed, Names}
use Rattle.nodes.proofs.Chains.{chain_frame}
use Rattle.nodes.proofs.Chained.{reached_chain}

reached_before : (f g : Blocks) (root : ℕ) → ((b : ℕ) → Reached f (root ∷ []) b → g b ≡ f b) → {b : ℕ} → Reached g (root ∷ []) b → Reached f (root ∷ []) b
reached_before f g root same (IsFirst first) = IsFirst first
reached_before f g root same {b} (IsNamed {block} before by) =
    let here : Reached f (root ∷ []) block = reached_before f g root same before in
    IsNamed here (subst (λ (node : Option (List ℕ)). Names node b) (same block here) by)

pub held_later : (f g : Blocks) (k l : ℕ → Bool) → Keeps k f l g → (root : ℕ) → IsHeld f k (Dir root) → IsHeld g l (Dir root)
held_later f g k l keeps root held other is block reached =
    let here : Reached g (root ∷ []) block = subst (λ (r : ℕ). Reached g (r ∷ []) block) (sym is) reached in
    keeps.stays block (held root refl block (reached_before f g root (λ b r. keeps.same b (held root refl b r)) here))

-- a held directory stays, and so do its blocks
pub same_held : (f g : Blocks) (k l : ℕ → Bool) → Keeps k f l g → (root : ℕ) → IsHeld f k (Dir root) → (entries_in g root ≡ entries_in f root) × (chain g root ≡ chain f root)
same_held f g k l keeps root held = chain_frame f g root (λ b inside. keeps.same b (held root refl b (reached_chain f root b inside)))

pub same_held_items : (f g : Blocks) (k l : ℕ → Bool) → Keeps k f l g → (root : ℕ) → IsHeld f k (Dir root) → items_in g root ≡ items_in f root
same_held_items f g k l keeps root held = ap (λ (found : Option (List Item)). unwrap_or found []) (same_held f g k l keeps root held).0
