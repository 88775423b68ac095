-- The entries of an `LruCache` as plain ones.
use Rattle.std.specs.Prelude.{◌≡◌, ℕ, zero, suc, ◌-◌, ◌<◌, ◌≤◌, false, is_some, nat_eq, not, Bool, cond, true, List, [], ◌∷◌, length, take, find, slice_get, option_map, Option, Some, None, Vec, refl}
use Rattle.std.specs.Global.{Global}
use Rattle.std.specs.List.{IsDistinct}
use Rattle.std.specs.Map.{keys_of, lookup, lookup_entry, remove_entry}
use Rattle.std.specs.Option.{option_map_or}
use Rattle.std.proofs.Common.{sym, ◌∙◌, ap, subst, inl, inr, arith}
use Rattle.std.proofs.lemmas.Bool.{cases_Bool, cond-true, cond-false, eqb-true, eq-eqb, true≢false}
use Rattle.std.proofs.lemmas.Map.Made.{lookup-map_values}
use Rattle.lru.specs.LruCache.{LruCache, IsValid, put_entries, promoted}
use Rattle.lru.proofs.CallerLemmas.{Contains-lookup_entry}
use Rattle.node_store.specs.NodeCache.{NodeCache, entries_as_bytes, node_in, with_first, with_blocks, first_bytes, IsBounded}

abbrev pub Node : Type 0
Node = Vec ℕ Global

abbrev pub view : LruCache ℕ Node → NodeCache
view c = record { entries = entries_as_bytes c.entries; room = c.cap }

take_plain : (n : ℕ) (es : List (ℕ × Node)) → entries_as_bytes (take n es) ≡ take n (entries_as_bytes es)
take_plain zero es = refl
take_plain (suc n) [] = refl
take_plain (suc n) (e ∷ es) = ap (λ l. (e.0, e.1.items) ∷ l) (take_plain n es)

module _ (b : ℕ) where
  remove_plain : (es : List (ℕ × Node)) → entries_as_bytes (remove_entry (nat_eq b) es) ≡ remove_entry (nat_eq b) (entries_as_bytes es)
  remove_plain [] = refl
  remove_plain (e ∷ es) = elim (cases_Bool (nat_eq b e.0)) [
    | inl is ↦ ap entries_as_bytes (cond-true _ _ _ is) ∙ sym (cond-true _ _ _ is)
    | inr is_not ↦ ap entries_as_bytes (cond-false _ _ _ is_not) ∙ ap (λ l. (e.0, e.1.items) ∷ l) (remove_plain es) ∙ sym (cond-false _ _ _ is_not)
  ]

  -- where no entry is found, none is taken out
  none_out : (es : List (ℕ × Node)) → lookup_entry (nat_eq b) es ≡ None → remove_entry (nat_eq b) es ≡ es
  none_out [] none = refl
  none_out (e ∷ es) none = elim (cases_Bool (nat_eq b e.0)) [
    | inl is ↦ absurd (true≢false (ap is_some (sym (cond-true _ (Some e) _ is) ∙ none)))
    | inr is_not ↦ cond-false _ _ _ is_not ∙ ap (λ l. e ∷ l) (none_out es (sym (cond-false _ (Some e) _ is_not) ∙ none))
  ]

  -- where one is found, there is one less
  one_out : (es : List (ℕ × Node)) (f : ℕ × Node) → lookup_entry (nat_eq b) es ≡ Some f → suc (length (remove_entry (nat_eq b) es)) ≡ length es
  one_out [] f has = cc
  one_out (e ∷ es) f has = elim (cases_Bool (nat_eq b e.0)) [
    | inl is ↦ ap (λ (l : List (ℕ × Node)). suc (length l)) (cond-true _ _ _ is)
    | inr is_not ↦ ap (λ (l : List (ℕ × Node)). suc (length l)) (cond-false _ _ _ is_not) ∙ ap suc (one_out es f (sym (cond-false _ (Some e) _ is_not) ∙ has))
  ]

  node_of_entry : (es : List (ℕ × Node)) → option_map (λ e. e.1) (lookup_entry (nat_eq b) es) ≡ lookup (nat_eq b) es
  node_of_entry [] = refl
  node_of_entry (e ∷ es) = elim (cases_Bool (nat_eq b e.0)) [
    | inl is ↦ ap (option_map (λ e. e.1)) (cond-true _ (Some e) _ is) ∙ sym (cond-true _ _ _ is)
    | inr is_not ↦ ap (option_map (λ e. e.1)) (cond-false _ (Some e) _ is_not) ∙ node_of_entry es ∙ sym (cond-false _ _ _ is_not)
  ]

-- a list that fits is whole
take_whole : {X : Type 0} (n : ℕ) (xs : List X) → length xs ≤ n → take n xs ≡ xs
take_whole zero [] fits = refl
take_whole zero (x ∷ xs) fits = absurd (omega arith)
take_whole (suc n) [] fits = refl
take_whole (suc n) (x ∷ xs) fits = ap (λ l. x ∷ l) (take_whole n xs (omega arith))

length_plain : (es : List (ℕ × Node)) → length (entries_as_bytes es) ≡ length es
length_plain [] = refl
length_plain (e ∷ es) = ap suc (length_plain es)

module _ (c : LruCache ℕ Node) (b : ℕ) where
  abbrev put : Node → Option (ℕ × Node) → List (ℕ × Node)
  put v o = option_map_or (λ e. (e.0, v) ∷ remove_entry (nat_eq b) c.entries) o ((b, v) ∷ take (c.cap - 1) c.entries)

  abbrev taken : List ℕ → ℕ → List (ℕ × List ℕ)
  taken bytes n = take n ((b, bytes) ∷ remove_entry (nat_eq b) (entries_as_bytes c.entries))

  put_new : (v : Node) (n : ℕ) → c.cap ≡ n → 0 < n → lookup_entry (nat_eq b) c.entries ≡ None → entries_as_bytes ((b, v) ∷ take (n - 1) c.entries) ≡ taken v.items n
  put_new v zero is some none = absurd (omega arith)
  put_new v (suc n) is some none =
      let less : suc n - 1 ≡ n = omega arith in
      ap (λ k. entries_as_bytes ((b, v) ∷ take k c.entries)) less
      ∙ ap (λ l. (b, v.items) ∷ l) (take_plain n c.entries ∙ ap (take n) (sym (ap entries_as_bytes (none_out b c.entries none)) ∙ remove_plain b c.entries))

  put_old : (v : Node) (e : ℕ × Node) → length c.entries ≤ c.cap → lookup_entry (nat_eq b) c.entries ≡ Some e
      → entries_as_bytes ((e.0, v) ∷ remove_entry (nat_eq b) c.entries) ≡ taken v.items c.cap
  put_old v e most has =
      let key : b ≡ e.0 = eqb-true b e.0 (Contains-lookup_entry (nat_eq b) c.entries e has).1 in
      let out = one_out b c.entries e has in
      let size : length (remove_entry (nat_eq b) (entries_as_bytes c.entries)) ≡ length (remove_entry (nat_eq b) c.entries) = ap length (sym (remove_plain b c.entries)) ∙ length_plain (remove_entry (nat_eq b) c.entries) in
      let fits : suc (length (remove_entry (nat_eq b) (entries_as_bytes c.entries))) ≤ c.cap = omega (arith, out, size) in
      ap (λ k. (k, v.items) ∷ entries_as_bytes (remove_entry (nat_eq b) c.entries)) (sym key) ∙ ap (λ l. (b, v.items) ∷ l) (remove_plain b c.entries)
      ∙ sym (take_whole c.cap ((b, v.items) ∷ remove_entry (nat_eq b) (entries_as_bytes c.entries)) fits)

  put_by : (v : Node) (o : Option (ℕ × Node)) → 0 < c.cap → length c.entries ≤ c.cap → lookup_entry (nat_eq b) c.entries ≡ o → entries_as_bytes (put v o) ≡ taken v.items c.cap
  put_by v None some most is = put_new v c.cap refl some is
  put_by v (Some e) some most is = put_old v e most is

  -- what is put goes first
  pub put_first : (v : Node) → 0 < c.cap → length c.entries ≤ c.cap → view (record { entries = put_entries nat_eq c b v; cap = c.cap }) ≡ with_first (view c) b v.items
  put_first v some most = ap (λ l. record { entries = l; room = c.cap }) (put_by v (lookup_entry (nat_eq b) c.entries) some most refl)

  moved_by : (bytes : List ℕ) (o : Option (ℕ × Node)) → length c.entries ≤ c.cap → lookup_entry (nat_eq b) c.entries ≡ o → option_map (λ (v : Node). v.items) (option_map (λ e. e.1) o) ≡ Some bytes
      → entries_as_bytes (option_map_or (λ e. e ∷ remove_entry (nat_eq b) c.entries) o c.entries) ≡ taken bytes c.cap
  moved_by bytes None most is has = cc
  moved_by bytes (Some e) most is has =
      let same : e.1.items ≡ bytes = cc in
      put_old e.1 e most is ∙ ap (λ l. taken l c.cap) same

  -- a block that is listed is moved to the front
  pub promoted_first : (bytes : List ℕ) → length c.entries ≤ c.cap → node_in (view c) b ≡ Some bytes
      → view (record { entries = promoted (nat_eq b) c.entries; cap = c.cap }) ≡ with_first (view c) b bytes
  promoted_first bytes most has =
      ap (λ l. record { entries = l; room = c.cap }) (moved_by bytes (lookup_entry (nat_eq b) c.entries) most refl
      (ap (option_map (λ (v : Node). v.items)) (node_of_entry b c.entries) ∙ sym (lookup-map_values (λ (v : Node). v.items) (nat_eq b) c.entries) ∙ has))

  stays_by : (o : Option (ℕ × Node)) → option_map (λ e. e.1) o ≡ lookup (nat_eq b) c.entries → is_some (lookup (nat_eq b) c.entries) ≡ false
      → option_map_or (λ e. e ∷ remove_entry (nat_eq b) c.entries) o c.entries ≡ c.entries
  stays_by None is none = refl
  stays_by (Some e) is none = absurd (true≢false (ap is_some is ∙ none))

  -- one that is not listed is not moved
  pub promoted_none : is_some (lookup (nat_eq b) c.entries) ≡ false → view (record { entries = promoted (nat_eq b) c.entries; cap = c.cap }) ≡ view c
  promoted_none none = ap (λ es. record { entries = entries_as_bytes es; room = c.cap }) (stays_by (lookup_entry (nat_eq b) c.entries) (node_of_entry b c.entries) none)

  some_items : (o : Option Node) → is_some o ≡ is_some (option_map (λ (v : Node). v.items) o)
  some_items None = refl
  some_items (Some v) = refl

  -- a block is listed as it was
  pub listed_plain : is_some (lookup (nat_eq b) c.entries) ≡ is_some (node_in (view c) b)
  listed_plain = some_items (lookup (nat_eq b) c.entries) ∙ ap is_some (sym (lookup-map_values (λ (v : Node). v.items) (nat_eq b) c.entries))

  -- a block is taken out
  pub out_plain : view (record { entries = remove_entry (nat_eq b) c.entries; cap = c.cap }) ≡ record { entries = remove_entry (nat_eq b) (entries_as_bytes c.entries); room = c.cap }
  out_plain = ap (λ l. record { entries = l; room = c.cap }) (remove_plain b c.entries)

keys_plain : (es : List (ℕ × Node)) → keys_of (entries_as_bytes es) ≡ keys_of es
keys_plain [] = refl
keys_plain (e ∷ es) = ap (λ l. e.0 ∷ l) (keys_plain es)

pub bounded_plain : (c : LruCache ℕ Node) → IsValid nat_eq c → IsBounded (view c)
bounded_plain c valid = record {
  once = subst (IsDistinct nat_eq) (sym (keys_plain c.entries)) valid.0;
  most = subst (λ n. n ≤ c.cap) (sym (length_plain c.entries)) valid.1;
  some = valid.2;
}

-- the bytes of the first entry
pub first_plain : (es : List (ℕ × Node)) (e : ℕ × Node) → Some e ≡ slice_get es 0 → e.1.items ≡ first_bytes (entries_as_bytes es)
first_plain [] e is = cc
first_plain (f ∷ es) e is = cc

pub none_first : (es : List (ℕ × Node)) → ◌≡◌ {A = Option (ℕ × Node)} None (slice_get es 0) → ◌≡◌ {A = List ℕ} [] (first_bytes (entries_as_bytes es))
none_first [] is = refl
none_first (f ∷ es) is = cc

-- the first block that passes a test
pub found_plain : (t : ℕ → Bool) (es : List (ℕ × Node)) → option_map (λ (e : ℕ × Node). e.0) (find (λ (e : ℕ × Node). t e.0) es) ≡ find t (keys_of (entries_as_bytes es))
found_plain t [] = refl
found_plain t (e ∷ es) = elim (cases_Bool (t e.0)) [
  | inl is ↦ ap (option_map (λ (e : ℕ × Node). e.0)) (cond-true _ (Some e) _ is) ∙ sym (cond-true _ (Some e.0) _ is)
  | inr is_not ↦ ap (option_map (λ (e : ℕ × Node). e.0)) (cond-false _ (Some e) _ is_not) ∙ found_plain t es ∙ sym (cond-false _ (Some e.0) _ is_not)
]

-- a block that is not among these is taken out
pub unused_out : (these : ℕ → Bool) (b : ℕ) (es : List (ℕ × List ℕ)) → these b ≡ false → with_blocks these (remove_entry (nat_eq b) es) ≡ with_blocks these es
unused_out these b [] out = refl
unused_out these b (e ∷ es) out = elim (cases_Bool (nat_eq b e.0)) [
  | inl is ↦ ap (with_blocks these) (cond-true _ _ _ is) ∙ sym (cond-false _ _ _ (ap these (sym (eqb-true b e.0 is)) ∙ out))
  | inr is_not ↦ ap (with_blocks these) (cond-false _ _ _ is_not) ∙ ap (λ l. cond (these e.0) (e ∷ l) l) (unused_out these b es out)
]

-- where none is found that is not among these, all are
pub all_with : (these : ℕ → Bool) (es : List (ℕ × List ℕ)) → find (λ b. not (these b)) (keys_of es) ≡ None → with_blocks these es ≡ es
all_with these [] none = refl
all_with these (e ∷ es) none = elim (cases_Bool (these e.0)) [
  | inl is ↦ cond-true _ _ _ is ∙ ap (λ l. e ∷ l) (all_with these es (sym (cond-false _ (Some e.0) _ (ap not is)) ∙ none))
  | inr is_not ↦ absurd (true≢false (ap is_some (sym (cond-true _ (Some e.0) _ (ap not is_not)) ∙ none)))
]

-- what is found passes the test
pub found_passes : (t : ℕ → Bool) (bs : List ℕ) (b : ℕ) → find t bs ≡ Some b → t b ≡ true
found_passes t [] b found = cc
found_passes t (c ∷ bs) b found = elim (cases_Bool (t c)) [
  | inl is ↦ let same : c ≡ b = cc in ap t (sym same) ∙ is
  | inr is_not ↦ found_passes t bs b (sym (cond-false _ (Some c) _ is_not) ∙ found)
]

-- one that is found is one less when it is taken out
pub shorter : (t : ℕ → Bool) (b : ℕ) (es : List (ℕ × List ℕ)) → find t (keys_of es) ≡ Some b → length (remove_entry (nat_eq b) es) < length es
shorter t b [] found = cc
shorter t b (e ∷ es) found = elim (cases_Bool (nat_eq b e.0)) [
  | inl is ↦ let size = ap (λ (l : List (ℕ × List ℕ)). length l) (cond-true _ es (e ∷ remove_entry (nat_eq b) es) is) in omega (arith, size)
  | inr is_not ↦ elim (cases_Bool (t e.0)) [
    | inl passes ↦ let same : Some e.0 ≡ Some b = sym (cond-true _ (Some e.0) _ passes) ∙ found in let key : b ≡ e.0 = cc in absurd (true≢false (sym (eq-eqb b e.0 key) ∙ is_not))
    | inr fails ↦
        let size = ap (λ (l : List (ℕ × List ℕ)). length l) (cond-false _ es (e ∷ remove_entry (nat_eq b) es) is_not) in
        let rest = shorter t b es (sym (cond-false _ (Some e.0) _ fails) ∙ found) in
        omega (arith, size, rest)
  ]
]

pub not_so : (t : Bool) → not t ≡ true → t ≡ false
not_so false is = refl
not_so true is = cc
