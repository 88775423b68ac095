-- The directories that a path goes through.
use Rattle.std.proofs.Common.{◌≡◌, ℕ, suc, ◌+◌, ◌<◌, ◌⊎◌, inl, inr, Option, Some, None, Result, Ok, List, [], ◌∷◌, ◌++◌, length, take, drop, get_or, refl, sym, ap, ◌∙◌, arith, length-append}
use Rattle.std.specs.Prelude.{slice_index}
use Rattle.std.specs.Option.{option_and_then}
use Rattle.std.proofs.lemmas.List.{get_or_append_left, get_or-append-add}
use Rattle.std.proofs.Math.Seq.{take-suc, drop-cons}
use Rattle.fs_types.specs.Names.{Path}
use Rattle.fs_types.specs.declared.fault.Fault.{Fault}
use Rattle.node_format.specs.declared.place.Place.{Place}
use Rattle.node_format.specs.declared.place.Place.TheVariants.{Dir}
use Rattle.nodes.specs.Bodies.{Blocks}
use Rattle.nodes.specs.Trees.{child, leads}
use Rattle.nodes.proofs.RootMaps.{leads-append}
use Rattle.directory.specs.Lookups.{below_in, look_up, LeadsToDirectories, ◌>>=◌}
use Rattle.directory.specs.Trails.{IsTrail, IsWay}

-- ---- names of a path

-- one name more
pub take_more : (i : ℕ) (path : Path) → i < length path → take (i + 1) path ≡ take i path ++ get_or path i [] ∷ []
take_more i path less = let e : i + 1 ≡ suc i = omega arith in ap (λ k. take k path) e ∙ take-suc path i [] less

one_name : (o : Option Place) → option_and_then (λ next. Some next) o ≡ o
one_name None = refl
one_name (Some place) = refl

-- what one name more leads to
pub leads_more : (f : Blocks) (root block i : ℕ) (path : Path) → i < length path → leads f (Dir root) (take i path) ≡ Some (Dir block) → leads f (Dir root) (take (i + 1) path) ≡ child f (Dir block) (get_or path i [])
leads_more f root block i path less led =
    let n = get_or path i [] in
    ap (leads f (Dir root)) (take_more i path less) ∙ leads-append f (Dir root) (take i path) (n ∷ []) ∙ ap (option_and_then (λ next. leads f next (n ∷ []))) led ∙ one_name (child f (Dir block) n)

-- ---- a look up on its way: the blocks of the directories before, and the one that it is at

pub record Goes (f : Blocks) (root : ℕ) (path : Path) (i : ℕ) (trail : List ℕ) (block : ℕ) : Type 0 where
  pub counted : length trail ≡ i
  pub through : (k : ℕ) → k < i → leads f (Dir root) (take k path) ≡ Some (Dir (slice_index trail k))
  pub here : leads f (Dir root) (take i path) ≡ Some (Dir block)

pub begins_way : (f : Blocks) (root : ℕ) (path : Path) (i : ℕ) (trail : List ℕ) (block : ℕ) → length trail ≡ i → IsWay f root path trail block → Goes f root path i trail block
begins_way f root path i trail block counted way = record {
  counted = counted;
  through = λ k less. way.through k (omega (arith, counted));
  here = ap (λ (n : ℕ). leads f (Dir root) (take n path)) (sym counted) ∙ way.here;
}

pub begins : (f : Blocks) (root : ℕ) (path : Path) (trail : List ℕ) → trail ≡ [] → Goes f root path 0 trail root
begins f root path trail none = record { counted = ap length none; through = λ k less. absurd (omega arith); here = refl }

-- the blocks with this one
pub with_here : (f : Blocks) (root : ℕ) (path : Path) (i : ℕ) (trail trail' : List ℕ) (block : ℕ) → Goes f root path i trail block → trail' ≡ trail ++ block ∷ []
    → (k : ℕ) → k < i + 1 → leads f (Dir root) (take k path) ≡ Some (Dir (slice_index trail' k))
with_here f root path i trail trail' block goes is k less = on (earlier k i less)
  where
    earlier : (k i : ℕ) → k < i + 1 → (k < i) ⊎ (k ≡ i)
    earlier k i less = grind arith

    on : (k < i) ⊎ (k ≡ i) → leads f (Dir root) (take k path) ≡ Some (Dir (slice_index trail' k))
    on (inl before) =
        let counted = goes.counted in
        let within : k < length trail = omega arith in
        goes.through k before ∙ ap (λ (b : ℕ). Some (Dir b)) (sym (ap (λ (t : List ℕ). slice_index t k) is ∙ get_or_append_left trail (block ∷ []) 0 k within))
    on (inr same) =
        let at : slice_index (trail ++ block ∷ []) (length trail + 0) ≡ block = get_or-append-add trail (block ∷ []) 0 0 in
        let counted = goes.counted in
        let last : length trail + 0 ≡ k = omega arith in
        ap (λ (j : ℕ). leads f (Dir root) (take j path)) same ∙ goes.here
        ∙ ap (λ (b : ℕ). Some (Dir b)) (sym (ap (λ (t : List ℕ). slice_index t k) is ∙ ap (slice_index (trail ++ block ∷ [])) (sym last) ∙ at))

pub goes_on : (f : Blocks) (root : ℕ) (path : Path) (i : ℕ) (trail trail' : List ℕ) (block below : ℕ) → Goes f root path i trail block → trail' ≡ trail ++ block ∷ [] → i < length path
    → child f (Dir block) (get_or path i []) ≡ Some (Dir below) → Goes f root path (i + 1) trail' below
goes_on f root path i trail trail' block below goes is less led = record {
  counted = let counted = goes.counted in omega (arith, ap length is, length-append trail (block ∷ []));
  through = with_here f root path i trail trail' block goes is;
  here = leads_more f root block i path less goes.here ∙ led;
}

pub ends : (f : Blocks) (root : ℕ) (path : Path) (i : ℕ) (trail trail' : List ℕ) (block : ℕ) → LeadsToDirectories f root → Goes f root path i trail block → trail' ≡ trail ++ block ∷ [] → i + 1 ≡ length path → IsTrail f root path trail'
ends f root path i trail trail' block leads_to goes is last = record {
  counted = let counted = goes.counted in omega (arith, ap length is, length-append trail (block ∷ []));
  through = λ k less. with_here f root path i trail trail' block goes is k (omega arith);
  begins = λ k less. leads_to (take k path) (slice_index trail' k) (with_here f root path i trail trail' block goes is k (omega arith));
}

pub whole : (f : Blocks) (root : ℕ) (path : Path) (i : ℕ) (trail : List ℕ) (block : ℕ) → LeadsToDirectories f root → Goes f root path i trail block → i ≡ length path → IsTrail f root path trail
whole f root path i trail block leads_to goes last = record {
  counted = let counted = goes.counted in omega arith;
  through = λ k less. goes.through k (omega arith);
  begins = λ k less. leads_to (take k path) (slice_index trail k) (goes.through k (omega arith));
}

-- a look up of the names from one on goes on at the directory that the name leads to
pub looks_on : (f : Blocks) (block below i : ℕ) (path : Path) → i + 1 < length path → below_in f (get_or path i []) block ≡ Ok below → look_up f block (drop i path) ≡ look_up f below (drop (i + 1) path)
looks_on f block below i path less is =
    let first = drop-cons path i [] (omega arith) in
    let second = drop-cons path (suc i) [] (omega arith) in
    let e : suc i ≡ i + 1 = omega arith in
    ap (look_up f block) (first ∙ ap (λ (q : Path). get_or path i [] ∷ q) second)
    ∙ ap (λ (r : Result ℕ Fault). r >>= (λ next. look_up f next (get_or path (suc i) [] ∷ drop (suc (suc i)) path))) is
    ∙ ap (look_up f below) (sym second ∙ ap (λ k. drop k path) e)
