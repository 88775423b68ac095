-- How much a tree has, and what is met where a view is there.
use Rattle.std.proofs.Common.{◌≡◌, ◌∙◌, ◌⊎◌, inl, inr, ◌≤◌, ◌^◌, ℕ, Option, Some, None, sym, ap}
use Rattle.plain_trees.specs.Trees.{Tree}
use Rattle.tree_counts.specs.Sizes.{entries_of, lengths_of, size_of}
use Rattle.tree_counts.specs.declared.tree_size.TreeSize.{TreeSize}
use Rattle.inquiries.proofs.Sizes.{word_some, word_none}

module _ (t : Tree) (size : TreeSize) (is : size ≡ size_of t) where
  pub entries_some : (n : ℕ) → size.entries ≡ Some n → n ≡ entries_of t
  entries_some n some = word_some (entries_of t) n (sym some ∙ ap (λ (s : TreeSize). s.entries) is)

  pub bytes_some : (n : ℕ) → size.bytes ≡ Some n → n ≡ lengths_of t
  bytes_some n some = word_some (lengths_of t) n (sym some ∙ ap (λ (s : TreeSize). s.bytes) is)

  pub entries_none : size.entries ≡ None → 2 ^ 64 ≤ entries_of t
  entries_none none = word_none (entries_of t) (sym none ∙ ap (λ (s : TreeSize). s.entries) is)

  pub bytes_none : size.bytes ≡ None → 2 ^ 64 ≤ lengths_of t
  bytes_none none = word_none (lengths_of t) (sym none ∙ ap (λ (s : TreeSize). s.bytes) is)

-- a refusal of its own that there is not
pub no_own : {A : Type 0} (own : Option A) (fault : A) (M : Type 0) → own ≡ None → (own ≡ Some fault) ⊎ M → M
no_own own fault M none (inl is) = absurd (let wrong : None ≡ Some fault = sym none ∙ is in cc)
no_own own fault M none (inr met) = met
