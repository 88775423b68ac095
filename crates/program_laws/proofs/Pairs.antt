-- Lists each element of which stands in a relation to each later one.
use Rattle.std.proofs.Common.{◌≡◌, ◌∙◌, zero, suc, List, [], ◌∷◌, ◌++◌, get_or, refl, ap, ap₂, subst, sym, arith}
use Rattle.std.proofs.lemmas.List.Concat.{flat_map-append}
use Rattle.std.proofs.lemmas.List.Elements.{All-nil, All-head, All-tail, All-append, All-weaker, Contains-append_left, Contains-append_right}
use Rattle.std.proofs.lemmas.List.Kept.{AllPairs-cons}
use Rattle.std.specs.List.{flat_map}
use Rattle.std.specs.Prelude.{All, AllPairs, Contains}

module _ {X : Type 0} (R : X → X → Type 0) where
  pub AllPairs-nil : AllPairs R []
  AllPairs-nil i j d less within = absurd (omega arith)

  pub AllPairs-head : (x : X) (xs : List X) → AllPairs R (x ∷ xs) → All (R x) xs
  AllPairs-head x xs pairs k d within = pairs zero (suc k) d (omega arith) (omega arith)

  pub AllPairs-tail : (x : X) (xs : List X) → AllPairs R (x ∷ xs) → AllPairs R xs
  AllPairs-tail x xs pairs i j d less within = pairs (suc i) (suc j) d (omega arith) (omega arith)

  -- of two lists, where each element of the first stands so to each of the second
  pub AllPairs-append : (xs ys : List X) → AllPairs R xs → AllPairs R ys → All (λ x. All (R x) ys) xs → AllPairs R (xs ++ ys)
  AllPairs-append [] ys first rest across = rest
  AllPairs-append (x ∷ xs) ys first rest across =
      AllPairs-cons R x (xs ++ ys) (All-append (R x) xs ys (AllPairs-head x xs first) (All-head (λ y. All (R y) ys) x xs across))
      (AllPairs-append xs ys (AllPairs-tail x xs first) rest (All-tail (λ y. All (R y) ys) x xs across))

pub AllPairs-weaker : {X : Type 0} (R Q : X → X → Type 0) → ((x y : X) → R x y → Q x y) → (xs : List X) → AllPairs R xs → AllPairs Q xs
AllPairs-weaker R Q weaker xs pairs i j d less within = weaker (get_or xs i d) (get_or xs j d) (pairs i j d less within)

-- ---- lists joined

pub All-flat_map : {X A : Type 0} (P : A → Type 0) (f : X → List A) (xs : List X) → All (λ x. All P (f x)) xs → All P (flat_map f xs)
All-flat_map P f [] all = All-nil P
All-flat_map P f (x ∷ xs) all = All-append P (f x) (flat_map f xs) (All-head (λ y. All P (f y)) x xs all) (All-flat_map P f xs (All-tail (λ y. All P (f y)) x xs all))

pub Contains-flat_map : {X A : Type 0} (f : X → List A) (xs : List X) (x : X) (a : A) → Contains xs x → Contains (f x) a → Contains (flat_map f xs) a
Contains-flat_map f [] x a (k, within, is) has = absurd (omega arith)
Contains-flat_map f (y ∷ ys) x a (zero, within, is) has = Contains-append_left (f y) (flat_map f ys) a (subst (λ z. Contains (f z) a) (sym is) has)
Contains-flat_map f (y ∷ ys) x a (suc k, within, is) has = Contains-append_right (f y) (flat_map f ys) a (Contains-flat_map f ys x a (k, omega arith, is) has)

pub Contains-first : {X : Type 0} (x : X) (xs : List X) → Contains (x ∷ xs) x
Contains-first x xs = (0, omega arith, refl)

pub Contains-later : {X : Type 0} (x y : X) (xs : List X) → Contains xs x → Contains (y ∷ xs) x
Contains-later x y xs (k, within, is) = (suc k, omega arith, is)

-- of lists that are joined, where elements stand so whose lists do
pub AllPairs-flat_map : {X A : Type 0} (Q : X → X → Type 0) (R : A → A → Type 0) (f : X → List A) → ((x : X) → AllPairs R (f x)) → ((x y : X) → Q x y → All (λ a. All (R a) (f y)) (f x))
    → (xs : List X) → AllPairs Q xs → AllPairs R (flat_map f xs)
AllPairs-flat_map Q R f own cross [] pairs = AllPairs-nil R
AllPairs-flat_map Q R f own cross (x ∷ xs) pairs =
    AllPairs-append R (f x) (flat_map f xs) (own x) (AllPairs-flat_map Q R f own cross xs (AllPairs-tail Q x xs pairs))
    (λ k d within. All-flat_map (R (get_or (f x) k d)) f xs (All-weaker (Q x) (λ y. All (R (get_or (f x) k d)) (f y)) (λ y stands. cross x y stands k d within) xs (AllPairs-head Q x xs pairs)))

-- what each element of joined lists makes
pub flat_map-flat_map : {X A B : Type 0} (g : A → List B) (f : X → List A) (xs : List X) → flat_map g (flat_map f xs) ≡ flat_map (λ x. flat_map g (f x)) xs
flat_map-flat_map g f [] = refl
flat_map-flat_map {B = B} g f (x ∷ xs) = flat_map-append g (f x) (flat_map f xs) ∙ ap (λ (rest : List B). flat_map g (f x) ++ rest) (flat_map-flat_map g f xs)

-- two functions that agree at each element
pub flat_map-agree : {X A : Type 0} (P : X → Type 0) (f g : X → List A) → ((x : X) → P x → f x ≡ g x) → (xs : List X) → All P xs → flat_map f xs ≡ flat_map g xs
flat_map-agree P f g agree [] all = refl
flat_map-agree {A = A} P f g agree (x ∷ xs) all = ap₂ (λ (first rest : List A). first ++ rest) (agree x (All-head P x xs all)) (flat_map-agree P f g agree xs (All-tail P x xs all))
