-- What a step of a look up tells of the whole path.
use Rattle.std.proofs.Common.{◌≡◌, ℕ, zero, suc, ◌+◌, ◌<◌, ◌≤◌, true, Option, Some, None, Result, Ok, Err, [], ◌∷◌, length, drop, get_or, refl, sym, ap, ◌∙◌, arith}
use Rattle.std.specs.Prelude.{nat_le}
use Rattle.std.proofs.lemmas.Bool.{true≢false}
use Rattle.std.proofs.Math.Seq.{drop-cons}
use Rattle.fs_types.specs.declared.limits.TheConstants.{MAX_ENTRIES}
use Rattle.fs_types.specs.Names.{Name, Path}
use Rattle.fs_types.specs.declared.fault.Fault.{Fault}
use Rattle.fs_types.specs.declared.fault.Fault.TheVariants.{NoEntry, NotDirectory, Damaged}
use Rattle.nodes.specs.Faults.{IsReadFault}
use Rattle.node_format.specs.declared.place.Place.{Place}
use Rattle.node_format.specs.declared.place.Place.TheVariants.{Dir, File}
use Rattle.nodes.specs.Bodies.{Blocks}
use Rattle.nodes.specs.Chains.{chain}
use Rattle.directory.specs.declared.lookups.Found.{Found}
use Rattle.directory.specs.declared.lookups.Found.TheVariants as found
use Rattle.directory.specs.Seeking.{chain_items}
use Rattle.directory.specs.Lookups.{directory_at, below_in, found_of, found_in, place_in, look_up, nodes_on_way, way_nodes, is_path_fault, IsLookupFault, ◌>>=◌}

-- ---- refusals

pub read_looked : (fault : Fault) → IsReadFault fault → IsLookupFault fault
read_looked NoEntry is = refl
read_looked NotDirectory is = refl
read_looked _ is = is

damaged_is : (fault : Fault) → IsReadFault fault → is_path_fault fault ≡ true → fault ≡ Damaged
damaged_is Damaged is path = refl
damaged_is NoEntry is path = absurd (true≢false (sym is))
damaged_is NotDirectory is path = absurd (true≢false (sym is))
damaged_is _ is path = absurd (true≢false (sym path))

fault_same : (x y : Fault) → (let r : Result ℕ Fault = Err x in r ≡ Err y) → x ≡ y
fault_same x y e = cc

-- a place that is no directory refuses by what the nodes hold
pub at_refused : (place : Option Place) (fault : Fault) → (let r : Result ℕ Fault = Err fault in r ≡ directory_at place) → is_path_fault fault ≡ true
at_refused None fault e = ap is_path_fault (fault_same fault NoEntry e)
at_refused (Some (File head size)) fault e = ap is_path_fault (fault_same fault NotDirectory e)
at_refused (Some (Dir block)) fault e = absurd cc

pub path_looked : (fault : Fault) → is_path_fault fault ≡ true → IsLookupFault fault
path_looked NoEntry is = refl
path_looked NotDirectory is = refl
path_looked Damaged is = refl
path_looked _ is = absurd (true≢false (sym is))

-- ---- a look up at a block, of the names from one on

no_directory : (f : Blocks) (block : ℕ) (name : Name) (path : Path) → place_in f name block ≡ Err Damaged → look_up f block (name ∷ path) ≡ Err Damaged
no_directory f block name [] none = ap (λ (r : Result (Option Place) Fault). r >>= (λ place. Ok (found_of place (nat_le MAX_ENTRIES (length (chain_items f block)))))) none
no_directory f block name (next ∷ path) none = ap (λ (r : Result (Option Place) Fault). (r >>= directory_at) >>= (λ below. look_up f below (next ∷ path))) none

-- a read at the block was refused
pub read_refuses : (f : Blocks) (whole : Result Found Fault) (block i : ℕ) (path : Path) (fault : Fault) → i < length path → look_up f block (drop i path) ≡ whole → IsReadFault fault → (fault ≡ Damaged → place_in f (get_or path i []) block ≡ Err Damaged)
    → is_path_fault fault ≡ true → whole ≡ Err fault
read_refuses f whole block i path fault less looked is none path_fault =
    let damaged = damaged_is fault is path_fault in
    sym looked ∙ ap (look_up f block) (drop-cons path i [] less) ∙ no_directory f block (get_or path i []) (drop (suc i) path) (none damaged) ∙ ap (λ (e : Fault). Err e) (sym damaged)

-- a name but the last leads to no directory
pub way_refuses : (f : Blocks) (whole : Result Found Fault) (block i : ℕ) (path : Path) (fault : Fault) → i + 1 < length path → look_up f block (drop i path) ≡ whole → below_in f (get_or path i []) block ≡ Err fault → whole ≡ Err fault
way_refuses f whole block i path fault less looked is =
    let first = drop-cons path i [] (omega arith) in
    let second = drop-cons path (suc i) [] (omega arith) in
    sym looked ∙ ap (look_up f block) (first ∙ ap (λ (q : Path). get_or path i [] ∷ q) second)
    ∙ ap (λ (r : Result ℕ Fault). r >>= (λ next. look_up f next (get_or path (suc i) [] ∷ drop (suc (suc i)) path))) is

none_left : (k : ℕ) (path : Path) → length path ≡ k → drop k path ≡ []
none_left zero [] e = refl
none_left zero (n ∷ path) e = absurd (omega arith)
none_left (suc k) [] e = absurd (omega arith)
none_left (suc k) (n ∷ path) e = none_left k path (omega arith)

-- what a name leads to in nodes that are the same
pub place_here : (f h : Blocks) (block : ℕ) (n m : Name) (r : Result (Option Place) Fault) → h ≡ f → n ≡ m → place_in h n block ≡ r → place_in f m block ≡ r
place_here f h block n m r same name is = ap (λ (k : Name). place_in f k block) (sym name) ∙ ap (λ (e : Blocks). place_in e n block) (sym same) ∙ is

pub found_here : (f h : Blocks) (block : ℕ) (n m : Name) (what : Found) → h ≡ f → n ≡ m → found_in h n block ≡ Ok what → found_in f m block ≡ Ok what
found_here f h block n m what same name is = ap (λ (k : Name). found_in f k block) (sym name) ∙ ap (λ (e : Blocks). found_in e n block) (sym same) ∙ is

-- what was found in a directory, by the place and the number of its entries
pub found_by : (f : Blocks) (block count : ℕ) (name : Name) (place : Option Place) (what : Found) → place_in f name block ≡ Ok place → (place ≡ None → count ≡ length (chain_items f block)) → what ≡ found_of place (nat_le MAX_ENTRIES count) → found_in f name block ≡ Ok what
found_by f block count name place what is counted found_is = ap (λ (r : Result (Option Place) Fault). r >>= (λ place. Ok (found_of place (nat_le MAX_ENTRIES (length (chain_items f block)))))) is ∙ on place counted found_is
  where
    on : (place : Option Place) → (place ≡ None → count ≡ length (chain_items f block)) → what ≡ found_of place (nat_le MAX_ENTRIES count) → (let r : Result Found Fault = Ok (found_of place (nat_le MAX_ENTRIES (length (chain_items f block)))) in r) ≡ Ok what
    on None counted found_is = ap (λ (n : ℕ). Ok (found_of None (nat_le MAX_ENTRIES n))) (sym (counted refl)) ∙ ap (λ (x : Found). Ok x) (sym found_is)
    on (Some (File head size)) counted found_is = ap (λ (x : Found). Ok x) (sym found_is)
    on (Some (Dir block)) counted found_is = ap (λ (x : Found). Ok x) (sym found_is)

pub below_is : (f : Blocks) (block : ℕ) (name : Name) (place : Option Place) (r : Result ℕ Fault) → place_in f name block ≡ Ok place → r ≡ directory_at place → below_in f name block ≡ r
below_is f block name place r is at = ap (λ (p : Result (Option Place) Fault). p >>= directory_at) is ∙ sym at

-- the last name leads to what was found
pub last_found : (f : Blocks) (whole : Result Found Fault) (block i : ℕ) (path : Path) (what : Found) → i + 1 ≡ length path → look_up f block (drop i path) ≡ whole → found_in f (get_or path i []) block ≡ Ok what → whole ≡ Ok what
last_found f whole block i path what last looked is =
    let first = drop-cons path i [] (omega arith) in
    let none = none_left (suc i) path (omega arith) in
    sym looked ∙ ap (look_up f block) (first ∙ ap (λ (q : Path). get_or path i [] ∷ q) none) ∙ is

-- no name is left
pub whole_found : (f : Blocks) (whole : Result Found Fault) (block i : ℕ) (path : Path) → i ≡ length path → look_up f block (drop i path) ≡ whole → whole ≡ Ok (found.Dir block)
whole_found f whole block i path last looked = sym looked ∙ ap (look_up f block) (none_left i path (sym last))

-- ---- the nodes of the directories on the way

-- a name more leads to a directory
pub way_on : (f : Blocks) (block below i : ℕ) (path : Path) → i < length path → below_in f (get_or path i []) block ≡ Ok below → way_nodes f block (drop i path) ≡ length (chain f block) + way_nodes f below (drop (i + 1) path)
way_on f block below i path less is =
    let next : suc i ≡ i + 1 = omega arith in
    ap (way_nodes f block) (drop-cons path i [] less) ∙ ap (λ (r : Result ℕ Fault). length (chain f block) + nodes_on_way (λ below. way_nodes f below (drop (suc i) path)) r) is
    ∙ ap (λ (k : ℕ). length (chain f block) + way_nodes f below (drop k path)) next

-- a directory on the way has its nodes
pub way_here : (f : Blocks) (block i : ℕ) (path : Path) → i < length path → length (chain f block) ≤ way_nodes f block (drop i path)
way_here f block i path less = let all : way_nodes f block (drop i path) ≡ way_nodes f block (get_or path i [] ∷ drop (suc i) path) = ap (way_nodes f block) (drop-cons path i [] less) in omega (arith, all)
