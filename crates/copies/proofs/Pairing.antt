-- Pairs of what is gone and what is new, that look the same.
use Rattle.std.proofs.Common.{◌≡◌, ◌≢◌, ◌∙◌, ◌⊎◌, inl, inr, ◌+◌, ◌<◌, ℕ, zero, suc, Bool, true, false, cond, Option, Some, None, IsSome, List, [], ◌∷◌, ◌++◌, length, map, take, get_or, refl, sym, ap, subst, arith}
use Rattle.std.proofs.lemmas.Bool.{true≢false}
use Rattle.std.proofs.lemmas.Bool.Decides.{nat_tests}
use Rattle.std.proofs.lemmas.Option.{same_Some}
use Rattle.std.proofs.lemmas.List.{take_more, map-append}
use Rattle.std.proofs.lemmas.List.Elements.{All-append, All-cons, All-contains, All-contains_itself, All-head, All-nil, All-tail, Contains-append_left, Contains-append_right, Contains-push, Contains-push_cases}
use Rattle.std.specs.Prelude.{All, Contains, if◌then◌else◌}
use Rattle.std.specs.List.{flat_map}
use Rattle.std.specs.BTreeMap.{is_at}
use Rattle.std.specs.Ordering.{nat_cmp}
use Rattle.fs_types.specs.Names.{Path, same_path}
use Rattle.fs_types.proofs.Orders.{same_path-is, same_path-own}
use Rattle.copies.specs.Pairs.{Indexes, IsPair, Pairs, pair_of}
use Rattle.copies.specs.declared.pairs.Look.{Look}

-- ---- the last of some looks with each shape

at_same : (k q : ℕ) → is_at (nat_cmp k) q ≡ true → k ≡ q
at_same k q at = grind (arith, nat_tests)

at_own : (k : ℕ) → is_at (nat_cmp k) k ≡ true
at_own k = grind (arith, nat_tests)

pub none_indexed : (last : ℕ → Option Path) → ((shape : ℕ) → last shape ≡ None) → Indexes [] last
none_indexed last none = record {
  among = λ shape path is. absurd (let wrong : None ≡ Some path = sym (none shape) ∙ is in cc);
  all = λ look has. absurd (let within = has.1 in omega (arith, within));
}

module _ (looks : List Look) (look : Look) (path : Path) (was now : ℕ → Option Path) (same : path ≡ look.path) (indexed : Indexes looks was)
    (is : (q : ℕ) → now q ≡ cond (is_at (nat_cmp look.shape) q) (Some path) (was q)) where
  pushed_among : (shape : ℕ) (p : Path) → now shape ≡ Some p → Contains (looks ++ look ∷ []) (record { path = p; shape = shape })
  pushed_among shape p at = by (is_at (nat_cmp look.shape) shape) refl (sym (is shape) ∙ at)
    where
      by : (b : Bool) → is_at (nat_cmp look.shape) shape ≡ b → cond b (Some path) (was shape) ≡ Some p → Contains (looks ++ look ∷ []) (record { path = p; shape = shape })
      by true here found =
          let one : look.path ≡ p = sym same ∙ same_Some path p found in
          let two : look.shape ≡ shape = at_same look.shape shape here in
          let own : look ≡ record { path = p; shape = shape } = λ i. record { path = one i; shape = two i } in
          subst (Contains (looks ++ look ∷ [])) own (Contains-push looks look)
      by false here found = Contains-append_left looks (look ∷ []) (record { path = p; shape = shape }) (indexed.among shape p found)

  pushed_all : (x : Look) → Contains looks x ⊎ (look ≡ x) → IsSome (now x.shape)
  pushed_all x cases = subst IsSome (sym (is x.shape)) (by (is_at (nat_cmp look.shape) x.shape) refl cases)
    where
      by : (b : Bool) → is_at (nat_cmp look.shape) x.shape ≡ b → Contains looks x ⊎ (look ≡ x) → IsSome (cond b (Some path) (was x.shape))
      by true here cases = refl
      by false here (inl has) = indexed.all x has
      by false here (inr own) = absurd (true≢false (sym (at_own look.shape) ∙ ap (λ (y : Look). is_at (nat_cmp look.shape) y.shape) own ∙ here))

  pushed : Indexes (looks ++ look ∷ []) now
  pushed = record { among = pushed_among; all = λ x has. pushed_all x (Contains-push_cases looks look x has) }

pub indexed_more : (looks : List Look) (i : ℕ) (look : Look) (path : Path) (was now : ℕ → Option Path) → i < length looks → look ≡ get_or looks i look → path ≡ look.path → Indexes (take i looks) was
    → ((q : ℕ) → now q ≡ cond (is_at (nat_cmp look.shape) q) (Some path) (was q)) → Indexes (take (i + 1) looks) now
indexed_more looks i look path was now within at same indexed is =
    subst (λ (l : List Look). Indexes l now) (sym (take_more looks i look within ∙ ap (λ (x : Look). take i looks ++ x ∷ []) (sym at))) (pushed (take i looks) look path was now same indexed is)

-- ---- pairs

-- the pair of what is new, if something that is gone looks the same
abbrev pub pair_by : (ℕ → Option Path) → Look → List (Path × Path)
pair_by last look = pair_of (last look.shape) look.path

module _ (gone come : List Look) (last : ℕ → Option Path) (indexed : Indexes gone last) where
  one_alike : (look : Look) → Contains come look → All (IsPair gone come) (pair_by last look)
  one_alike look has = by (last look.shape) refl
    where
      apart_by : (from : Path) → last look.shape ≡ Some from → (b : Bool) → same_path from look.path ≡ b → All (IsPair gone come) (if b then [] else (from, look.path) ∷ [])
      apart_by from at true same = All-nil (IsPair gone come)
      apart_by from at false same = All-cons (IsPair gone come) (from, look.path) [] (record {
        shape = look.shape;
        from = indexed.among look.shape from at;
        to = has;
        apart = λ one. true≢false (sym (same_path-own from) ∙ ap (same_path from) one ∙ same);
      }) (All-nil (IsPair gone come))

      by : (o : Option Path) → last look.shape ≡ o → All (IsPair gone come) (pair_of o look.path)
      by None at = All-nil (IsPair gone come)
      by (Some from) at = apart_by from at (same_path from look.path) refl

  all_alike : (looks : List Look) → All (Contains come) looks → All (IsPair gone come) (flat_map (pair_by last) looks)
  all_alike [] all = All-nil (IsPair gone come)
  all_alike (x ∷ looks) all =
      All-append (IsPair gone come) (pair_by last x) (flat_map (pair_by last) looks) (one_alike x (All-head (Contains come) x looks all)) (all_alike looks (All-tail (Contains come) x looks all))

  -- where nothing that is gone stood there
  one_found : (from to : Look) → Contains gone from → from.shape ≡ to.shape → All (λ other. other.path ≢ to.path) gone → Contains (map (λ (one : Path × Path). one.1) (pair_by last to)) to.path
  one_found from to has same free = by (last to.shape) refl (subst (λ (k : ℕ). IsSome (last k)) same (indexed.all from has))
    where
      apart_by : (p : Path) → p ≢ to.path → (b : Bool) → same_path p to.path ≡ b → Contains (map (λ (one : Path × Path). one.1) (if b then [] else (p, to.path) ∷ [])) to.path
      apart_by p apart true is = absurd (apart (same_path-is p to.path is))
      apart_by p apart false is = Contains-push [] to.path

      by : (o : Option Path) → last to.shape ≡ o → IsSome o → Contains (map (λ (one : Path × Path). one.1) (pair_of o to.path)) to.path
      by None at some = absurd (true≢false (sym some))
      by (Some p) at some = apart_by p (All-contains (λ other. other.path ≢ to.path) gone (record { path = p; shape = to.shape }) free (indexed.among to.shape p at)) (same_path p to.path) refl

  all_found : (looks : List Look) (to : Look) (path : Path) → Contains looks to → Contains (map (λ (one : Path × Path). one.1) (pair_by last to)) path → Contains (map (λ (one : Path × Path). one.1) (flat_map (pair_by last) looks)) path
  all_found [] to path has one = absurd (let within = has.1 in omega (arith, within))
  all_found (x ∷ looks) to path (zero, within, at) one =
      subst (λ (l : List Path). Contains l path) (sym (map-append (λ (one : Path × Path). one.1) (pair_by last x) (flat_map (pair_by last) looks)))
      (Contains-append_left (map (λ (one : Path × Path). one.1) (pair_by last x)) (map (λ (one : Path × Path). one.1) (flat_map (pair_by last) looks)) path
      (subst (λ (y : Look). Contains (map (λ (one : Path × Path). one.1) (pair_by last y)) path) (sym at) one))
  all_found (x ∷ looks) to path (suc k, within, at) one =
      subst (λ (l : List Path). Contains l path) (sym (map-append (λ (one : Path × Path). one.1) (pair_by last x) (flat_map (pair_by last) looks)))
      (Contains-append_right (map (λ (one : Path × Path). one.1) (pair_by last x)) (map (λ (one : Path × Path). one.1) (flat_map (pair_by last) looks)) path
      (all_found looks to path (k, omega (arith, within), at) one))

  pub paired : (moves : List (Path × Path)) → moves ≡ flat_map (pair_by last) come → Pairs gone come moves
  paired moves are = subst (Pairs gone come) (sym are) (record {
    alike = all_alike come (All-contains_itself come);
    found = λ from to has has' same free. all_found come to to.path has' (one_found from to has same free);
  })
