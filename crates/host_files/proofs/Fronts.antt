-- The first bytes of a reader.
use Rattle.std.proofs.Common.{◌≡◌, ℕ, List, [], ◌++◌, take, Option, Some, None, IfSome, option_map, subst, ◌∙◌, ap}

pub front_read : (limit most : ℕ) (rest known : Option (List ℕ)) (old new : List ℕ) → limit ≡ most → rest ≡ known → old ≡ []
    → IfSome (option_map (take limit) rest) (λ xs. new ≡ old ++ xs) → IfSome known (λ all. new ≡ take most all)
front_read limit most None known old new same is none h = subst (λ (o : Option (List ℕ)). IfSome o (λ all. new ≡ take most all)) is tt
front_read limit most (Some all) known old new same is none h =
    let read : new ≡ take most all = h ∙ ap (λ (o : List ℕ). o ++ take limit all) none ∙ ap (λ (n : ℕ). take n all) same in
    subst (λ (o : Option (List ℕ)). IfSome o (λ all. new ≡ take most all)) is read
