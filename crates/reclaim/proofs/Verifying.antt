-- Lists of blocks that all pass a test, and what the tests say of roots.
use Rattle.std.proofs.Common.{◌≡◌, ◌↔◌, ◌⊎◌, inl, inr, ℕ, ◌+◌, ◌-◌, ◌<◌, ◌≤◌, Bool, true, false, None, List, length, take, refl, sym, subst, ◌∙◌, arith}
use Rattle.std.specs.Prelude.{Contains, not, IsTrue, All, slice_index}
use Rattle.std.proofs.lemmas.Bool.{cases_lt}
use Rattle.std.proofs.lemmas.List.{take_all}
use Rattle.std.proofs.lemmas.Grind.{get_or_default_zero}
use Rattle.std.proofs.lemmas.List.Elements.{All-more, All-contains, All-contains_itself, All-weaker}
use Rattle.fs_types.specs.declared.limits.TheConstants.{ANCHORS}
use Rattle.node_format.specs.declared.place.Place.TheVariants.{Dir}
use Rattle.block_ring.specs.Ring.{IsDataBlock}
use Rattle.nodes.specs.Bodies.{Blocks}
use Rattle.nodes.specs.TreeLaws.{IsShallow}
use Rattle.nodes.specs.Reached.{Reached, IsFirst}
use Rattle.directory.specs.Depths.{IsDeeper}
use Rattle.reclaim.specs.Passes.{Pass}
use Rattle.reclaim.specs.Verified.{AreRoots}
use Rattle.reclaim.proofs.Looking.{never}
use Rattle.reclaim.proofs.Soundness.{trees_hold_nodes}

-- ---- a test of each element

pub all_more : (P : ℕ → Type 0) (xs : List ℕ) (i : ℕ) (good : Bool) → i < length xs → All P (take i xs) → (IsTrue good ↔ P (slice_index xs i)) → good ≡ true → All P (take (i + 1) xs)
all_more P xs i good below so_far exact is = All-more P xs i 0 below so_far (exact.0 is)

pub all_end : (P : ℕ → Type 0) (xs : List ℕ) (i : ℕ) → length xs ≤ i → All P (take i xs) → IsTrue true ↔ All P xs
all_end P xs i past all = (λ t. subst (All P) (take_all i xs past) all, λ h. refl)

pub all_of : (P : ℕ → Type 0) (xs : List ℕ) → ((b : ℕ) → Contains xs b → P b) → All P xs
all_of P xs each = All-weaker (Contains xs) P each xs (All-contains_itself xs)

-- what is not too deep is shallow enough
pub shallow_exact : (f : Blocks) (roots : List ℕ) (deep : Bool) → (deep ≡ true → (root : ℕ) × Contains roots root × IsDeeper f (Dir root) 16)
    → (deep ≡ false → (root : ℕ) → Contains roots root → IsShallow f (Dir root) 16) → IsTrue (not deep) ↔ All (λ root. IsShallow f (Dir root) 16) roots
shallow_exact f roots true deeper shallow = (
  λ t. absurd (never t),
  λ all.
      let found = deeper refl in
      let own = All-contains (λ root. IsShallow f (Dir root) 16) roots found.0 all found.1 in
      absurd (omega (arith, own found.2.0 found.2.1, found.2.2)),
)
shallow_exact f roots false deeper shallow = (λ t. all_of (λ root. IsShallow f (Dir root) 16) roots (shallow refl), λ h. refl)

-- ---- roots

-- roots with trees are data blocks
pub roots_are_data : (limit blocks : ℕ) (f : Blocks) (roots : List ℕ) → ((b : ℕ) → b < ANCHORS → f b ≡ None) → ((b : ℕ) → blocks ≤ b → f b ≡ None) → AreRoots limit f roots
    → All (IsDataBlock blocks) roots
roots_are_data limit blocks f roots low high trees = all_of (IsDataBlock blocks) roots (λ b within. at b within (cases_lt b ANCHORS) (cases_lt b blocks))
  where
    held : (b : ℕ) → Contains roots b → f b ≡ None → ⊥
    held b within none = trees_hold_nodes (limit - 80) f roots trees b (IsFirst within) none

    at : (b : ℕ) → Contains roots b → (b < ANCHORS) ⊎ (ANCHORS ≤ b) → (b < blocks) ⊎ (blocks ≤ b) → IsDataBlock blocks b
    at b within (inl before) other = absurd (held b within (low b before))
    at b within (inr after) (inl inside) = (after, inside)
    at b within (inr after) (inr past) = absurd (held b within (high b past))

-- a reached block without a node
pub none_reached : (limit : ℕ) (f : Blocks) (own roots : List ℕ) → own ≡ roots → ((b : ℕ) × Reached f own b × (f b ≡ None)) → AreRoots limit f roots → ⊥
none_reached limit f own roots same (b, reached, none) trees =
    trees_hold_nodes (limit - 80) f roots trees b (subst (λ (l : List ℕ). Reached f l b) same reached) none

-- a block that is listed
pub at_place : (p : Pass) (b : ℕ) → Contains p.order b → (k : ℕ) × (k < length p.order) × (slice_index p.order k ≡ b)
at_place p b has = (has.0, has.1, sym (get_or_default_zero p.order has.0 b has.1) ∙ has.2)
