-- What is left of a path after a beginning of it.
use Rattle.std.proofs.Common.{◌≡◌, ◌≢◌, Bool, true, false, cond, Option, Some, None, [], ◌∷◌, ◌++◌, sym, ap, refl, ◌∙◌}
use Rattle.std.proofs.lemmas.Bool.{true≢false}
use Rattle.std.specs.Option.{is_some, unwrap_or}
use Rattle.fs_types.specs.Names.{Path, same_name, same_path}
use Rattle.plain_trees.specs.Contents.{beneath, begins}
use Rattle.fs_types.proofs.Orders.{same_name-is, same_name-own, same_path-is, same_path-own}

pub None≢Some : {A : Type 0} {x : A} → None ≡ Some x → ⊥
None≢Some e = true≢false (sym (ap is_some e))

pub same_Some : {A : Type 0} {x y : A} → Some x ≡ Some y → x ≡ y
same_Some {x = x} e = ap (λ o. unwrap_or o x) e

-- a path after its own beginning
pub beneath-append : (p r : Path) → beneath p (p ++ r) ≡ Some r
beneath-append [] r = refl
beneath-append (n ∷ p) r = ap (λ b. cond b (beneath p (p ++ r)) None) (same_name-own n) ∙ beneath-append p r

pub beneath-own : (p : Path) → beneath p p ≡ Some []
beneath-own [] = refl
beneath-own (n ∷ p) = ap (λ b. cond b (beneath p p) None) (same_name-own n) ∙ beneath-own p

-- what is left, and the beginning before it, is the path
pub beneath-Some : (p q r : Path) → beneath p q ≡ Some r → q ≡ p ++ r
beneath-Some [] q r e = same_Some e
beneath-Some (n ∷ p) [] r e = absurd (None≢Some e)
beneath-Some (n ∷ p) (m ∷ q) r e = go (same_name n m) refl e (beneath-Some p q r)
  where
    go : (b : Bool) → same_name n m ≡ b → cond b (beneath p q) None ≡ Some r → (beneath p q ≡ Some r → q ≡ p ++ r) → m ∷ q ≡ n ∷ p ++ r
    go true same is rest = λ i. sym (same_name-is n m same) i ∷ rest is i
    go false same is rest = absurd (None≢Some is)

pub begins-append : (p r : Path) → begins p (p ++ r) ≡ true
begins-append p r = ap is_some (beneath-append p r)

-- a beginning of a beginning
pub beneath-beneath : (p q r : Path) → beneath (p ++ q) (p ++ r) ≡ beneath q r
beneath-beneath [] q r = refl
beneath-beneath (n ∷ p) q r = ap (λ b. cond b (beneath (p ++ q) (p ++ r)) None) (same_name-own n) ∙ beneath-beneath p q r

-- what to show at a path, by whether it begins with p
pub by_beneath : (p q : Path) (P : Option Path → Type 0) → ((r : Path) → q ≡ p ++ r → P (Some r)) → (beneath p q ≡ None → P None) → P (beneath p q)
by_beneath p q P so none = go (beneath p q) refl
  where
    go : (o : Option Path) → beneath p q ≡ o → P o
    go None e = none e
    go (Some r) e = so r (beneath-Some p q r e)

-- and by whether it is p
pub by_same : (p q : Path) (P : Bool → Type 0) → (p ≡ q → P true) → (p ≢ q → P false) → P (same_path p q)
by_same p q P so none = go (same_path p q) refl
  where
    go : (b : Bool) → same_path p q ≡ b → P b
    go true e = so (same_path-is p q e)
    go false e = none (λ is. true≢false (sym (same_path-own p) ∙ ap (same_path p) is ∙ e))

pub same_path-false : (p q : Path) → p ≢ q → same_path p q ≡ false
same_path-false p q apart = by_same p q (λ b. b ≡ false) (λ is. absurd (apart is)) (λ _. refl)

pub begins-false : (p q : Path) → begins p q ≡ false → beneath p q ≡ None
begins-false p q = go (beneath p q)
  where
    go : (o : Option Path) → is_some o ≡ false → o ≡ None
    go None e = refl
    go (Some r) e = absurd (true≢false e)
