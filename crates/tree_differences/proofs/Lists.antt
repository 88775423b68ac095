-- Lists that are joined, and what a test keeps of them.
use Rattle.std.proofs.Common.{◌≡◌, ◌∙◌, suc, Bool, List, [], ◌∷◌, ◌++◌, refl, sym, ap, ap₂, arith}
use Rattle.std.proofs.lemmas.List.Elements.{filter-append}
use Rattle.std.proofs.lemmas.List.Concat.{flat_map-cons}
use Rattle.std.specs.Prelude.{Contains, filter}
use Rattle.std.specs.List.{flat_map}

head_in : {X : Type 0} (x : X) (xs : List X) → Contains (x ∷ xs) x
head_in x xs = (0, omega arith, refl)

tail_in : {X : Type 0} (x y : X) (xs : List X) → Contains xs y → Contains (x ∷ xs) y
tail_in x y xs (k, lt, is) = (suc k, omega arith, is)

-- what is joined is the same where each part is
pub flat_same : {X A : Type 0} (f g : X → List A) (xs : List X) → ((x : X) → Contains xs x → f x ≡ g x) → flat_map f xs ≡ flat_map g xs
flat_same f g [] same = refl
flat_same {A = A} f g (x ∷ xs) same =
    flat_map-cons f x xs
    ∙ ap₂ (λ (a b : List A). a ++ b) (same x (head_in x xs)) (flat_same f g xs (λ y has. same y (tail_in x y xs has)))
    ∙ sym (flat_map-cons g x xs)

-- nothing is joined
pub flat_none : {X A : Type 0} (f : X → List A) (xs : List X) → ((x : X) → Contains xs x → f x ≡ []) → flat_map f xs ≡ []
flat_none f [] none = refl
flat_none {A = A} f (x ∷ xs) none =
    flat_map-cons f x xs ∙ ap₂ (λ (a b : List A). a ++ b) (none x (head_in x xs)) (flat_none f xs (λ y has. none y (tail_in x y xs has)))

-- a test keeps of what is joined what it keeps of the parts
pub filter_flat : {X A : Type 0} (p : A → Bool) (f : X → List A) (xs : List X) → filter p (flat_map f xs) ≡ flat_map (λ x. filter p (f x)) xs
filter_flat p f [] = refl
filter_flat {A = A} p f (x ∷ xs) =
    ap (filter p) (flat_map-cons f x xs) ∙ filter-append p (f x) (flat_map f xs) ∙ ap (λ (l : List A). filter p (f x) ++ l) (filter_flat p f xs)
    ∙ sym (flat_map-cons (λ x. filter p (f x)) x xs)
