-- Items that are spelled one after the other.
use Rattle.std.proofs.Common.{◌≡◌, ℕ, ◌+◌, ◌*◌, ◌<◌, ◌≤◌, Bool, true, List, [], ◌∷◌, ◌++◌, length, take, get_or, refl, sym, ap, ◌∙◌, arith}
use Rattle.std.proofs.lemmas.List.{append-nil, take_more, take_all, flat_map_more}
use Rattle.std.proofs.lemmas.List.Folds.{list_all-append}
use Rattle.std.specs.List.{flat_map, list_all}

-- the first i items are spelled after what was there, each in at most so many bytes, and their numbers fit
pub record IsPushed {X : Type 0} (spell : X → List ℕ) (fit : X → Bool) (size : ℕ) (xs : List X) (i : ℕ) (was now : List ℕ) (was_len now_len : ℕ) : Type 0 where
  pub items : now ≡ was ++ flat_map spell (take i xs)
  pub len : now_len ≤ was_len + size * i
  pub fits : list_all fit (take i xs) ≡ true

module _ {X : Type 0} (spell : X → List ℕ) (fit : X → Bool) (size : ℕ) (xs : List X) (was : List ℕ) (was_len : ℕ) where
  pub pushed_none : IsPushed spell fit size xs 0 was was was_len was_len
  pushed_none = record { items = sym (append-nil was); len = omega arith; fits = refl }

  pub pushed_more : (i : ℕ) (now after : List ℕ) (now_len after_len : ℕ) (d : X) → i < length xs → IsPushed spell fit size xs i was now was_len now_len
      → after ≡ now ++ spell (get_or xs i d) → after_len ≤ now_len + size → fit (get_or xs i d) ≡ true → IsPushed spell fit size xs (i + 1) was after was_len after_len
  pushed_more i now after now_len after_len d lt so_far added longer fits = record {
    items = added ∙ ap (λ bytes. bytes ++ spell (get_or xs i d)) so_far.items ∙ flat_map_more spell was (take i xs) (get_or xs i d) ∙ ap (λ ys. was ++ flat_map spell ys) (sym (take_more xs i d lt));
    len = omega (arith, so_far.len);
    fits = ap (list_all fit) (take_more xs i d lt) ∙ list_all-append fit (take i xs) (get_or xs i d ∷ []) ∙ rw (so_far.fits, fits) refl;
  }

  pub pushed_items : (i : ℕ) (now : List ℕ) (now_len : ℕ) → length xs ≤ i → IsPushed spell fit size xs i was now was_len now_len → now ≡ was ++ flat_map spell xs
  pushed_items i now now_len le so_far = so_far.items ∙ ap (λ ys. was ++ flat_map spell ys) (take_all i xs le)

  pub pushed_fits : (i : ℕ) (now : List ℕ) (now_len : ℕ) → length xs ≤ i → IsPushed spell fit size xs i was now was_len now_len → list_all fit xs ≡ true
  pushed_fits i now now_len le so_far = ap (list_all fit) (sym (take_all i xs le)) ∙ so_far.fits

  -- the same where the item is known by its place
  pub pushed_item : (i : ℕ) (now after : List ℕ) (now_len after_len : ℕ) (x : X) → i < length xs → x ≡ get_or xs i x → IsPushed spell fit size xs i was now was_len now_len
      → after ≡ now ++ spell x → after_len ≤ now_len + size → fit x ≡ true → IsPushed spell fit size xs (i + 1) was after was_len after_len
  pushed_item i now after now_len after_len x lt is so_far added longer fits =
      pushed_more i now after now_len after_len x lt so_far (added ∙ ap (λ y. now ++ spell y) is) longer (ap fit (sym is) ∙ fits)
