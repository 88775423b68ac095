-- A look up of a path that begins where it parts from another one.
use Rattle.std.proofs.Common.{◌≡◌, ℕ, zero, suc, ◌+◌, ◌-◌, ◌<◌, ◌≤◌, Bool, true, false, cond, Option, Some, Result, Ok, List, [], ◌∷◌, length, take, drop, get_or, refl, sym, ap, subst, ◌∙◌, arith}
use Rattle.std.specs.Prelude.{nat_le, slice_index, slice_index_or, unwrap_or}
use Rattle.std.proofs.lemmas.List.{get_or_default, length-take, get_or-take}
use Rattle.std.proofs.Math.Seq.{drop-cons}
use Rattle.fs_types.specs.declared.fault.Fault.{Fault}
use Rattle.fs_types.specs.declared.limits.TheConstants.{MAX_ENTRIES}
use Rattle.fs_types.specs.Names.{Name, Path, same_name}
use Rattle.fs_types.proofs.Orders.{same_name-is}
use Rattle.node_format.specs.Items.{Item, named_place}
use Rattle.node_format.specs.declared.place.Place.{Place}
use Rattle.node_format.specs.declared.place.Place.TheVariants.{Dir}
use Rattle.nodes.specs.Bodies.{Blocks}
use Rattle.nodes.specs.Trees.{entries_in, child, leads}
use Rattle.directory.specs.Lookups.{directory_at, found_of, look_up, way_nodes, ◌>>=◌}
use Rattle.directory.specs.Moves.{common}
use Rattle.directory.specs.Beside.{parting, beside_nodes}
use Rattle.directory.specs.Trails.{IsTrail, IsWay}
use Rattle.directory.proofs.Directories.{place_named}
use Rattle.directory.proofs.LookupLaws.{found_items}
use Rattle.directory.proofs.TrailEdits.{level_child}

-- ---- names in common

pub take_common : (k : ℕ) (p q : Path) → k ≤ common p q → take k p ≡ take k q
take_common zero p q le = refl
take_common (suc k) [] q le = absurd (omega arith)
take_common (suc k) (n ∷ p) [] le = absurd (omega arith)
take_common (suc k) (n ∷ p) (m ∷ q) le = on (same_name n m) refl le (take_common k p q)
  where
    on : (b : Bool) → same_name n m ≡ b → suc k ≤ cond b (suc (common p q)) 0 → (k ≤ common p q → take k p ≡ take k q) → n ∷ take k p ≡ m ∷ take k q
    on true same le again = λ i. same_name-is n m same i ∷ again (omega arith) i
    on false differs le again = absurd (omega arith)

pub common_within : (p q : Path) → common p q ≤ length q
common_within [] q = omega arith
common_within (n ∷ p) [] = omega arith
common_within (n ∷ p) (m ∷ q) = on (same_name n m) (common_within p q)
  where
    on : (b : Bool) → common p q ≤ length q → cond b (suc (common p q)) 0 ≤ suc (length q)
    on true le = omega arith
    on false le = omega arith

common_name : (k : ℕ) (p q : Path) → k < common p q → get_or p k [] ≡ get_or q k []
common_name k [] q less = absurd (omega arith)
common_name k (n ∷ p) [] less = absurd (omega arith)
common_name zero (n ∷ p) (m ∷ q) less = on (same_name n m) refl less
  where
    on : (b : Bool) → same_name n m ≡ b → 0 < cond b (suc (common p q)) 0 → n ≡ m
    on true same less = same_name-is n m same
    on false differs less = absurd (omega arith)
common_name (suc k) (n ∷ p) (m ∷ q) less = on (same_name n m) less (common_name k p q)
  where
    on : (b : Bool) → suc k < cond b (suc (common p q)) 0 → (k < common p q → get_or p k [] ≡ get_or q k []) → get_or p k [] ≡ get_or q k []
    on true less again = again (omega arith)
    on false less again = absurd (omega arith)

-- ---- a look up goes on at the directory that its first name leads to

child_items : (f : Blocks) (block : ℕ) (name : Name) (items : List Item) → entries_in f block ≡ Some items → child f (Dir block) name ≡ named_place items name
child_items f block name items begins = ap (λ (o : Option (List Item)). named_place (unwrap_or o []) name) begins

look_step : (f : Blocks) (block below : ℕ) (name : Name) (rest : Path) (items : List Item) → entries_in f block ≡ Some items → child f (Dir block) name ≡ Some (Dir below)
    → look_up f block (name ∷ rest) ≡ look_up f below rest
look_step f block below name [] items begins led =
    found_items f block name items begins ∙ ap (λ (o : Option Place). Ok (found_of o (nat_le MAX_ENTRIES (length items)))) (sym (child_items f block name items begins) ∙ led)
look_step f block below name (next ∷ rest) items begins led =
    ap (λ (r : Result (Option Place) Fault). (r >>= directory_at) >>= (λ to. look_up f to (next ∷ rest))) (place_named f block name items begins)
    ∙ ap (λ (o : Option Place). directory_at o >>= (λ to. look_up f to (next ∷ rest))) (sym (child_items f block name items begins) ∙ led)

-- ---- and so on down to where the paths part

dir_same : (a b : ℕ) → (let o : Option Place = Some (Dir a) in o ≡ Some (Dir b)) → a ≡ b
dir_same a b e = cc

trail_root : (f : Blocks) (root : ℕ) (other : Path) (trail : List ℕ) → IsTrail f root other trail → slice_index_or trail 0 root ≡ root
trail_root f root [] [] way = refl
trail_root f root [] (b ∷ trail) way = absurd (let counted = way.counted in omega arith)
trail_root f root (n ∷ other) trail way =
    let counted = way.counted in
    let within : 0 < length trail = omega arith in
    get_or_default trail 0 root 0 within ∙ sym (dir_same root (slice_index trail 0) (way.through 0 (omega arith)))

looks_beside : (f : Blocks) (root k : ℕ) (other path : Path) (trail : List ℕ) → IsTrail f root other trail → k ≤ common other path → k ≤ length other - 1
    → look_up f (slice_index_or trail k root) (drop k path) ≡ look_up f root path
looks_beside f root zero other path trail way le most = ap (λ (b : ℕ). look_up f b path) (trail_root f root other trail way)
looks_beside f root (suc k) other path trail way le most =
    let counted = way.counted in
    let below : k + 1 < length other = omega arith in
    let within : k < length path = omega (arith, common_within other path) in
    let begins = way.begins k (omega arith) in
    let name : get_or other k [] ≡ get_or path k [] = common_name k other path (omega arith) in
    let next : suc k ≡ k + 1 = omega arith in
    let led : child f (Dir (slice_index trail k)) (get_or path k []) ≡ Some (Dir (slice_index trail (suc k))) =
    ap (child f (Dir (slice_index trail k))) (sym name) ∙ level_child f root other trail k way below ∙ ap (λ (j : ℕ). Some (Dir (slice_index trail j))) (sym next) in
    let at : slice_index_or trail (suc k) root ≡ slice_index trail (suc k) = get_or_default trail (suc k) root 0 (omega arith) in
    let was : slice_index_or trail k root ≡ slice_index trail k = get_or_default trail k root 0 (omega arith) in
    ap (λ (b : ℕ). look_up f b (drop (suc k) path)) at
    ∙ sym (look_step f (slice_index trail k) (slice_index trail (suc k)) (get_or path k []) (drop (suc k) path) begins.0 begins.1 led)
    ∙ ap (look_up f (slice_index trail k)) (sym (drop-cons path k [] within))
    ∙ ap (λ (b : ℕ). look_up f b (drop k path)) (sym was)
    ∙ looks_beside f root k other path trail way (omega arith) (omega arith)

-- where a look up begins that stands beside another
pub record IsBeside (f : Blocks) (root : ℕ) (path : Path) (trail : List ℕ) (k block : ℕ) : Type 0 where
  pub looked : look_up f block (drop k path) ≡ look_up f root path
  pub way : IsWay f root path (take k trail) block
  pub within : k ≤ length path
  pub known : k ≤ length trail
  pub counted : length (take k trail) ≡ k

pub beside : (f : Blocks) (root : ℕ) (other path : Path) (trail : List ℕ) (k : ℕ) → k ≡ parting other path → IsTrail f root other trail → IsBeside f root path trail k (slice_index_or trail k root)
beside f root other path trail k is way =
    let counted = way.counted in
    let le : k ≤ common other path = omega arith in
    let most : k ≤ length other - 1 = omega arith in
    let long : length (take k trail) ≡ k = omega (arith, length-take k trail) in
    let through = λ (i : ℕ) (less : i < length (take k trail)).
    ap (λ (p : Path). leads f (Dir root) p) (sym (take_common i other path (omega arith))) ∙ way.through i (omega arith) ∙ ap (λ (b : ℕ). Some (Dir b)) (sym (get_or-take k trail i 0 (omega arith))) in
    record {
      looked = looks_beside f root k other path trail way le most;
      way = record { through = through; here = ap (λ (n : ℕ). leads f (Dir root) (take n path)) long ∙ here k le most };
      within = omega (arith, common_within other path);
      known = omega arith;
      counted = long;
    }
  where
    here : (k : ℕ) → k ≤ common other path → k ≤ length other - 1 → leads f (Dir root) (take k path) ≡ Some (Dir (slice_index_or trail k root))
    here zero le most = ap (λ (b : ℕ). Some (Dir b)) (sym (trail_root f root other trail way))
    here (suc k) le most =
        let counted = way.counted in
        ap (λ (p : Path). leads f (Dir root) p) (sym (take_common (suc k) other path le)) ∙ way.through (suc k) (omega arith)
        ∙ ap (λ (b : ℕ). Some (Dir b)) (sym (get_or_default trail (suc k) root 0 (omega arith)))

-- a look up that goes on in a block, with the first blocks of the other trail
pub record GoesOnBeside (f : Blocks) (root : ℕ) (other path : Path) (trail front : List ℕ) (block : ℕ) : Type 0 where
  pub within : length front ≤ length path
  pub looked : look_up f block (drop (length front) path) ≡ look_up f root path
  pub way : IsWay f root path front block
  pub nodes : way_nodes f block (drop (length front) path) ≡ beside_nodes f root other trail path

pub goes_beside : (f : Blocks) (root : ℕ) (other path : Path) (trail front : List ℕ) (k block : ℕ) → k ≡ parting other path → IsTrail f root other trail → front ≡ take k trail → block ≡ slice_index_or trail k root → GoesOnBeside f root other path trail front block
goes_beside f root other path trail front k block at trail_of begun here =
    let is = beside f root other path trail k at trail_of in
    let long : length front ≡ k = ap length begun ∙ is.counted in
    let parts : block ≡ slice_index_or trail (parting other path) root = here ∙ ap (λ (n : ℕ). slice_index_or trail n root) at in
    record {
      within = omega (arith, long, is.within);
      looked = (λ i. look_up f (here i) (drop (long i) path)) ∙ is.looked;
      way = subst (λ (b : ℕ). IsWay f root path front b) (sym here) (subst (λ (t : List ℕ). IsWay f root path t (slice_index_or trail k root)) (sym begun) is.way);
      nodes = λ i. way_nodes f (parts i) (drop ((long ∙ at) i) path);
    }
