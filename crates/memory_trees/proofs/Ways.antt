-- Looking a path up, one name at a time.
use Rattle.std.proofs.Common.{◌≡◌, ℕ, ◌+◌, ◌-◌, ◌<◌, ◌≤◌, length, take, drop, get_or, [], ◌∷◌, ◌++◌, refl, sym, ◌∙◌, ap, arith, append_assoc}
use Rattle.std.specs.Prelude.{Option, Some, None}
use Rattle.std.specs.Option.{option_or}
use Rattle.std.proofs.lemmas.List.{drop_more, take_more, length-drop}
use Rattle.fs_types.specs.Names.{Name, Path}
use Rattle.plain_trees.specs.Contents.{Contents, lookup_refusal, way_refusal, under}
use Rattle.fs_types.specs.declared.fault.Fault.{Fault}

-- below a path, and below that
under_more : (t : Contents) (p : Path) (n : Name) → under (under t p) (n ∷ []) ≡ under t (p ++ n ∷ [])
under_more t p n = λ i q. t (sym (append_assoc p (n ∷ []) q) i)

-- two names and more ahead: the first one's way, and then the rest
two_ahead : (t : Contents) (front : Path) (n m : Name) (rest : Path) → lookup_refusal (under t front) (n ∷ m ∷ rest) ≡ option_or (way_refusal (t (front ++ n ∷ []))) (lookup_refusal (under t (front ++ n ∷ [])) (m ∷ rest))
two_ahead t front n m rest = ap (λ s. option_or (way_refusal (t (front ++ n ∷ []))) (lookup_refusal s (m ∷ rest))) (under_more t front n)

step_from : (t : Contents) (path : Path) (j : ℕ) → j + 1 < length path → lookup_refusal (under t (take j path)) (drop j path) ≡ option_or (way_refusal (t (take (j + 1) path))) (lookup_refusal (under t (take (j + 1) path)) (drop (j + 1) path))
step_from t path j h =
    let n = get_or path j [] in
    let m = get_or path (j + 1) [] in
    let first : drop j path ≡ n ∷ drop (j + 1) path = drop_more path j [] (omega arith) in
    let second : drop (j + 1) path ≡ m ∷ drop (j + 1 + 1) path = drop_more path (j + 1) [] h in
    let front : take (j + 1) path ≡ take j path ++ n ∷ [] = take_more path j [] (omega arith) in
    rw (first, second, front) (two_ahead t (take j path) n m (drop (j + 1 + 1) path))

-- the way up to the place before `i`, and from there on
pub way_step : (t : Contents) (path : Path) (i : ℕ) → 1 ≤ i → i < length path → lookup_refusal (under t (take (i - 1) path)) (drop (i - 1) path) ≡ option_or (way_refusal (t (take i path))) (lookup_refusal (under t (take i path)) (drop i path))
way_step t path i low h =
    let one : i - 1 + 1 ≡ i = omega arith in
    let within : i - 1 + 1 < length path = omega arith in
    step_from t path (i - 1) within
    ∙ ap (λ k. option_or (way_refusal (t (take k path))) (lookup_refusal (under t (take k path)) (drop k path))) one

last_ahead : (t : Contents) (rest : Path) → length rest ≤ 1 → lookup_refusal t rest ≡ None
last_ahead t [] h = refl
last_ahead t (n ∷ []) h = refl
last_ahead t (n ∷ m ∷ rest) h = absurd (omega arith)

-- with one name ahead or none, nothing is in the way
pub way_end : (t : Contents) (path : Path) (i : ℕ) → length path ≤ i → lookup_refusal (under t (take (i - 1) path)) (drop (i - 1) path) ≡ None
way_end t path i h = last_ahead (under t (take (i - 1) path)) (drop (i - 1) path) (omega (arith, length-drop (i - 1) path))

-- what stops the way here stops it as a whole
pub way_stops : (t : Contents) (path : Path) (i : ℕ) (whole : Option Fault) (f : Fault) → 1 ≤ i → i < length path → way_refusal (t (take i path)) ≡ Some f
    → lookup_refusal (under t (take (i - 1) path)) (drop (i - 1) path) ≡ whole → Some f ≡ whole
way_stops t path i whole f low h stops so_far =
    sym (way_step t path i low h ∙ ap (λ o. option_or o (lookup_refusal (under t (take i path)) (drop i path))) stops) ∙ so_far

-- what stops it not leaves the rest
pub way_goes_on : (t : Contents) (path : Path) (i : ℕ) (whole : Option Fault) → 1 ≤ i → i < length path → way_refusal (t (take i path)) ≡ None
    → lookup_refusal (under t (take (i - 1) path)) (drop (i - 1) path) ≡ whole → lookup_refusal (under t (take (i + 1 - 1) path)) (drop (i + 1 - 1) path) ≡ whole
way_goes_on t path i whole low h goes so_far =
    let here : i + 1 - 1 ≡ i = omega arith in
    ap (λ k. lookup_refusal (under t (take k path)) (drop k path)) here
    ∙ sym (way_step t path i low h ∙ ap (λ o. option_or o (lookup_refusal (under t (take i path)) (drop i path))) goes)
    ∙ so_far

or-nothing : (o : Option Fault) → option_or o None ≡ o
or-nothing None = refl
or-nothing (Some fault) = refl

in-order : (a b c : Option Fault) → option_or a (option_or b c) ≡ option_or (option_or a b) c
in-order None b c = refl
in-order (Some fault) b c = refl

-- the way to a name in a directory is the way to it, and then the directory
pub way_in : (t : Contents) (n : Name) (p : Path) (name : Name) → lookup_refusal t (n ∷ p ++ name ∷ []) ≡ option_or (lookup_refusal t (n ∷ p)) (way_refusal (t (n ∷ p)))
way_in t n [] name = or-nothing (way_refusal (t (n ∷ [])))
way_in t n (m ∷ p) name =
    ap (option_or (way_refusal (t (n ∷ [])))) (way_in (under t (n ∷ [])) m p name)
    ∙ in-order (way_refusal (t (n ∷ []))) (lookup_refusal (under t (n ∷ [])) (m ∷ p)) (way_refusal (t (n ∷ m ∷ p)))

pub way_into : (t : Contents) (p : Path) (name : Name) → 0 < length p → lookup_refusal t (p ++ name ∷ []) ≡ option_or (lookup_refusal t p) (way_refusal (t p))
way_into t [] name some = absurd (omega arith)
way_into t (n ∷ p) name some = way_in t n p name

-- the way to the root is that to each name in it
pub way_stopped : (t : Contents) (p : Path) (name : Name) (fault : Fault) → lookup_refusal t p ≡ Some fault → Some fault ≡ lookup_refusal t (p ++ name ∷ [])
way_stopped t [] name fault e = sym e
way_stopped t (n ∷ p) name fault e = sym (way_in t n p name ∙ ap (λ o. option_or o (way_refusal (t (n ∷ p)))) e)
