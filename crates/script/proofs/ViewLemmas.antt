-- Words that name no view.
use Rattle.std.proofs.Common.{◌≡◌, ℕ, ◌≤◌, List, [], ◌∷◌, length, map, Err, Bor, refl, arith}
use Rattle.script.specs.Lines.{named_view}
use Rattle.script.specs.declared.misread.Misread.TheVariants.{Syntax}

-- two words name no view
pub named_view_many : (words : List (Bor (List ℕ))) → 2 ≤ length words → named_view (map (λ w. w.now) words) ≡ Err Syntax
named_view_many [] many = absurd (omega arith)
named_view_many (one ∷ []) many = absurd (omega arith)
named_view_many (one ∷ two ∷ rest) many = refl
