-- What stands at each path after something is put, or nothing is left, at paths in order.
use Rattle.std.proofs.Common.{◌≡◌, ◌∙◌, ◌-◌, ℕ, zero, suc, Bool, true, false, cond, Option, Some, None, List, [], ◌∷◌, length, get_or, refl, sym, ap, arith}
use Rattle.std.proofs.lemmas.List.{length-reverse, get_or-reverse}
use Rattle.std.specs.Prelude.{Contains, reverse}
use Rattle.fs_types.specs.Names.{Path, same_path}
use Rattle.fs_types.proofs.Orders.{same_path-is, same_path-own}
use Rattle.plain_trees.specs.Contents.{Entry, Contents}

-- this stands at a path, and all else stays
abbrev pub set_at : Path → Option Entry → Contents → Contents
set_at p x c q = cond (same_path q p) x (c q)

-- where something is to stand at a path, or nothing, it does; else all stays
abbrev pub assigned : Option (Option Entry) → Path → Contents → Contents
assigned None p c = c
assigned (Some x) p c = set_at p x c

-- the same for paths in order, by what is to stand at each
abbrev pub all_assigned : (Path → Option (Option Entry)) → List Path → Contents → Contents
all_assigned x [] c = c
all_assigned x (p ∷ ps) c = all_assigned x ps (assigned (x p) p c)

module _ (x : Path → Option (Option Entry)) (q : Path) where
  -- a path at which nothing is to change
  one_misses : (p : Path) (c : Contents) (o : Option (Option Entry)) → x p ≡ o → x q ≡ None → assigned o p c q ≡ c q
  one_misses p c None is none = refl
  one_misses p c (Some y) is none = go (same_path q p) refl
    where
      go : (b : Bool) → same_path q p ≡ b → cond b y (c q) ≡ c q
      go true same = absurd (let wrong : Some y ≡ None = sym is ∙ ap x (sym (same_path-is q p same)) ∙ none in cc)
      go false other = refl

  pub all_miss : (ps : List Path) (c : Contents) → x q ≡ None → all_assigned x ps c q ≡ c q
  all_miss [] c none = refl
  all_miss (p ∷ ps) c none = all_miss ps (assigned (x p) p c) none ∙ one_misses p c (x p) refl none

  -- a path that has already what it is to have
  one_keeps : (p : Path) (c : Contents) (o : Option (Option Entry)) (e : Option Entry) → x p ≡ o → x q ≡ Some e → c q ≡ e → assigned o p c q ≡ e
  one_keeps p c None e is some has = has
  one_keeps p c (Some y) e is some has = go (same_path q p) refl
    where
      go : (b : Bool) → same_path q p ≡ b → cond b y (c q) ≡ e
      go true same = let one : Some y ≡ Some e = sym is ∙ ap x (sym (same_path-is q p same)) ∙ some in cc
      go false other = has

  all_keep : (ps : List Path) (c : Contents) (e : Option Entry) → x q ≡ Some e → c q ≡ e → all_assigned x ps c q ≡ e
  all_keep [] c e some has = has
  all_keep (p ∷ ps) c e some has = all_keep ps (assigned (x p) p c) e some (one_keeps p c (x p) e refl some has)

  -- a path that gets it
  one_has : (c : Contents) (e : Option Entry) → x q ≡ Some e → assigned (x q) q c q ≡ e
  one_has c e some = ap (λ o. assigned o q c q) some ∙ ap (λ b. cond b e (c q)) (same_path-own q)

  pub all_have : (ps : List Path) (c : Contents) (e : Option Entry) → x q ≡ Some e → Contains ps q → all_assigned x ps c q ≡ e
  all_have [] c e some (k, below, at) = absurd (omega arith)
  all_have (p ∷ ps) c e some (zero, below, at) = all_keep ps (assigned (x p) p c) e some (ap (λ r. assigned (x r) r c q) at ∙ one_has c e some)
  all_have (p ∷ ps) c e some (suc k, below, at) = all_have ps (assigned (x p) p c) e some (k, omega arith, at)

pub contains_reversed : (ps : List Path) (q : Path) → Contains ps q → Contains (reverse ps) q
contains_reversed ps q (k, below, at) = (
  length ps - 1 - k,
  omega (arith, length-reverse ps),
  get_or-reverse ps (length ps - 1 - k) q (omega arith)
      ∙ ap (λ (j : ℕ). get_or ps j q) (let e : length ps - 1 - (length ps - 1 - k) ≡ k = omega arith in e) ∙ at,
)
