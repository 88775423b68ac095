-- How many entries a directory has after an edit: names that are among those of another are no more.
use Rattle.std.proofs.Common.{◌≡◌, ◌≢◌, ◌+◌, ◌-◌, ◌≤◌, Bool, true, false, cond, T, Option, Some, None, List, [], ◌∷◌, ◌++◌, length, sym, ap, refl, ◌∙◌, subst, arith, IsSome, inl, inr, ◌⊎◌}
use Rattle.std.proofs.lemmas.Bool.{true≢false, cond-false}
use Rattle.std.specs.Option.{option_map, is_some}
use Rattle.std.specs.Ordering.{is_eq, eq_by_cmp}
use Rattle.std.specs.Cmp.{tied_itself}
use Rattle.std.specs.FinMap.{FinMap, get, entries, find, insert, remove, is_sorted, entries_sorted, get-entries, len, len-entries, len-insert, len-remove, get-insert, get-remove, contains_key, empty_of_len, get-empty}
use Rattle.std.specs.FinMap.Entries.{below_all}
use Rattle.fs_types.specs.Names.{Name, Path, name_cmp}
use Rattle.plain_trees.specs.Contents.{Entry, is_dir}
use Rattle.plain_trees.specs.Trees.{Tree, entry_count}
use Rattle.fs_types.proofs.Orders.{names_total, names_exact}
use Rattle.plain_trees.proofs.Listings.{directory, get-directory, len-directory, left, right, listed-above, equal}

is_some-map : {A B : Type 0} (f : A → B) (o : Option A) → is_some (option_map f o) ≡ is_some o
is_some-map f None = refl
is_some-map f (Some x) = refl

pub value-of : {A : Type 0} (o : Option A) → IsSome o → (x : A) × (o ≡ Some x)
value-of None h = absurd (true≢false (sym h))
value-of (Some x) h = (x, refl)

-- a name that ties is the same
apart-tied : (n k : Name) → n ≢ k → eq_by_cmp name_cmp n k ≡ false
apart-tied n k apart = go (eq_by_cmp name_cmp n k) refl
  where
    go : (b : Bool) → eq_by_cmp name_cmp n k ≡ b → b ≡ false
    go true e = absurd (apart (names_exact n k (equal _ e)))
    go false e = refl

own-tied : (n : Name) → eq_by_cmp name_cmp n n ≡ true
own-tied n = ap is_eq (tied_itself names_total n)

-- an entry at the front, and the others
found-own : (e : Name × Bool) (es : List (Name × Bool)) → IsSome (find name_cmp e.0 (e ∷ es))
found-own e es = ap (λ b. is_some (cond b (Some e.1) (find name_cmp e.0 es))) (own-tied e.0)

found-more : (e : Name × Bool) (es : List (Name × Bool)) (n : Name) → IsSome (find name_cmp n es) → IsSome (find name_cmp n (e ∷ es))
found-more e es n h = go (eq_by_cmp name_cmp n e.0)
  where
    go : (b : Bool) → IsSome (cond b (Some e.1) (find name_cmp n es))
    go true = refl
    go false = h

above-apart : (e : Name × Bool) (es : List (Name × Bool)) (n : Name) → T (is_sorted name_cmp (e ∷ es)) → IsSome (find name_cmp n es) → n ≢ e.0
above-apart e es n h there same =
    let found = value-of _ there in
    let less = listed-above e.0 n found.0 es (left _ _ h) found.1 in
    true≢false (sym (ap is_eq (tied_itself names_total e.0)) ∙ ap (λ m. is_eq (name_cmp e.0 m)) (sym same) ∙ ap is_eq less)

not-empty : (m : FinMap name_cmp Bool) (n : Name) → IsSome (get m n) → len m ≢ 0
not-empty m n h e = true≢false (sym h ∙ ap (λ k. is_some (get k n)) (empty_of_len m e) ∙ ap is_some (get-empty name_cmp n))

-- names in order that are all in a map are at most as many as it has
pub length-le : (es : List (Name × Bool)) → T (is_sorted name_cmp es) → (m : FinMap name_cmp Bool) → ((n : Name) → IsSome (find name_cmp n es) → IsSome (get m n)) → length es ≤ len m
length-le [] h m among = omega arith
length-le (e ∷ es) h m among =
    let has : contains_key m e.0 ≡ true = among e.0 (found-own e es) in
    let fewer : len (remove m e.0) ≡ len m - 1 = len-remove names_total m e.0 ∙ ap (λ b. cond b (len m - 1) (len m)) has in
    let some : len m ≢ 0 = not-empty m e.0 has in
    let tail : T (is_sorted name_cmp es) = right (below_all name_cmp e.0 es) (is_sorted name_cmp es) h in
    let rest : length es ≤ len (remove m e.0) = length-le es tail (remove m e.0) (λ n there.
    ap is_some (get-remove names_total m e.0 n ∙ cond-false _ _ _ (apart-tied n e.0 (above-apart e es n h there))) ∙ among n (found-more e es n there)) in
    omega arith

-- the entry of a name in a directory
abbrev pub Has : Tree → Path → Name → Type 0
Has t p n = IsSome (get t (p ++ n ∷ []))

in-directory : (t : Tree) (p : Path) (n : Name) → is_some (get (directory t p) n) ≡ is_some (get t (p ++ n ∷ []))
in-directory t p n = ap is_some (get-directory t p n) ∙ is_some-map is_dir (get t (p ++ n ∷ []))

pub count-within : (t : Tree) (p : Path) (m : FinMap name_cmp Bool) → ((n : Name) → Has t p n → IsSome (get m n)) → entry_count t p ≤ len m
count-within t p m among =
    let few : length (entries (directory t p)) ≤ len m = length-le (entries (directory t p)) (entries_sorted (directory t p)) m (λ n there. among n (sym (in-directory t p n) ∙ ap is_some (get-entries (directory t p) n) ∙ there)) in
    omega (arith, len-entries (directory t p), len-directory t p)

-- no more entries than another directory has
pub count-le : (t s : Tree) (p q : Path) → ((n : Name) → Has t p n → Has s q n) → entry_count t p ≤ entry_count s q
count-le t s p q among =
    let few : entry_count t p ≤ len (directory s q) = count-within t p (directory s q) (λ n there. in-directory s q n ∙ among n there) in
    omega (arith, len-directory s q)

-- a name that is k, or was there
with-name : (m : FinMap name_cmp Bool) (k n : Name) → (n ≡ k) ⊎ IsSome (get m n) → IsSome (get (insert m k true) n)
with-name m k n (inl is) = ap is_some (get-insert names_total m k true n) ∙ ap (λ b. is_some (cond b (Some true) (get m n))) (ap (eq_by_cmp name_cmp n) (sym is) ∙ own-tied n)
with-name m k n (inr there) = ap is_some (get-insert names_total m k true n) ∙ go (eq_by_cmp name_cmp n k)
  where
    go : (b : Bool) → IsSome (cond b (Some true) (get m n))
    go true = refl
    go false = there

insert-le : (m : FinMap name_cmp Bool) (k : Name) → len (insert m k true) ≤ len m + 1
insert-le m k = subst (λ l. l ≤ len m + 1) (sym (len-insert names_total m k true)) (go (contains_key m k))
  where
    go : (b : Bool) → cond b (len m) (len m + 1) ≤ len m + 1
    go true = omega arith
    go false = omega arith

-- at most one more
pub count-more : (t s : Tree) (p q : Path) (k : Name) → ((n : Name) → Has t p n → (n ≡ k) ⊎ Has s q n) → entry_count t p ≤ entry_count s q + 1
count-more t s p q k among =
    let few : entry_count t p ≤ len (insert (directory s q) k true) = count-within t p (insert (directory s q) k true) (λ n there. with-name (directory s q) k n (either n (among n there))) in
    omega (arith, len-directory s q, insert-le (directory s q) k)
  where
    either : (n : Name) → (n ≡ k) ⊎ Has s q n → (n ≡ k) ⊎ IsSome (get (directory s q) n)
    either n (inl is) = inl is
    either n (inr there) = inr (in-directory s q n ∙ there)

-- one name in another's place
pub count-swap : (t s : Tree) (p q : Path) (j k : Name) → Has s q j → ((n : Name) → Has t p n → (n ≡ k) ⊎ ((n ≢ j) × Has s q n)) → entry_count t p ≤ entry_count s q
count-swap t s p q j k old among =
    let m : FinMap name_cmp Bool = remove (directory s q) j in
    let few : entry_count t p ≤ len (insert m k true) = count-within t p (insert m k true) (λ n there. with-name m k n (either n (among n there))) in
    let has : contains_key (directory s q) j ≡ true = in-directory s q j ∙ old in
    let some : len (directory s q) ≢ 0 = not-empty (directory s q) j has in
    let fewer : len m ≡ len (directory s q) - 1 = len-remove names_total (directory s q) j ∙ ap (λ b. cond b (len (directory s q) - 1) (len (directory s q))) has in
    let more : len (insert m k true) ≤ len m + 1 = insert-le m k in
    omega (arith, len-directory s q)
  where
    either : (n : Name) → (n ≡ k) ⊎ ((n ≢ j) × Has s q n) → (n ≡ k) ⊎ IsSome (get (remove (directory s q) j) n)
    either n (inl is) = inl is
    either n (inr f) = inr (ap is_some (get-remove names_total (directory s q) j n ∙ cond-false _ _ _ (apart-tied n j f.0)) ∙ in-directory s q n ∙ f.1)

-- one entry more than another directory has
pub count-grows : (s t : Tree) (q p : Path) (k : Name) → Has t p k → ((n : Name) → Has s q n → (n ≢ k) × Has t p n) → entry_count s q + 1 ≤ entry_count t p
count-grows s t q p k there among =
    let m : FinMap name_cmp Bool = remove (directory t p) k in
    let few : entry_count s q ≤ len m = count-within s q m (λ n has. ap is_some (get-remove names_total (directory t p) k n ∙ cond-false _ _ _ (apart-tied n k (among n has).0)) ∙ in-directory t p n ∙ (among n has).1) in
    let has : contains_key (directory t p) k ≡ true = in-directory t p k ∙ there in
    let some : len (directory t p) ≢ 0 = not-empty (directory t p) k has in
    let fewer : len m ≡ len (directory t p) - 1 = len-remove names_total (directory t p) k ∙ ap (λ b. cond b (len (directory t p) - 1) (len (directory t p))) has in
    omega (arith, len-directory t p)

-- a directory without entries has no name
pub none-in : (t : Tree) (p : Path) (n : Name) → entry_count t p ≡ 0 → get t (p ++ n ∷ []) ≡ None
none-in t p n e = go (get t (p ++ n ∷ [])) refl
  where
    go : (o : Option Entry) → get t (p ++ n ∷ []) ≡ o → o ≡ None
    go None is = refl
    go (Some x) is = absurd (not-empty (directory t p) n (in-directory t p n ∙ ap is_some is) (len-directory t p ∙ e))
