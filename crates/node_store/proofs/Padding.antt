-- A page filled with bytes and zeros.
use Rattle.std.proofs.Common.{◌≡◌, ℕ, ◌-◌, ◌<◌, ◌≤◌, List, [], ◌++◌, length, get_or, take, drop, replicate, sym, ap, ◌∙◌, refl, inl, inr, arith, length-append, length-drop, get_or-take}
use Rattle.std.specs.Prelude.{min}
use borrow.Rule.Slice.PartMut.{put_mid, post_of}
use Rattle.std.proofs.lemmas.Bool.{cases_lt}
use Rattle.std.proofs.lemmas.List.{ext_get_or, length-take-le, length-replicate, get_or_append_left, get_or-append_right, get_or-replicate, get_or_past, take_at, drop_all, append-nil}

-- bytes and zeros behind them, at a place
padded_at : (bytes : List ℕ) (n i : ℕ) → i < n → get_or (bytes ++ replicate n 0) i 0 ≡ get_or bytes i 0
padded_at bytes n i h =
    elim (cases_lt i (length bytes)) [
      | inl within ↦ get_or_append_left bytes (replicate n 0) 0 i within
      | inr past ↦
          get_or-append_right bytes (replicate n 0) (length bytes) i 0 refl past
          ∙ get_or-replicate n (i - length bytes) 0 0 (omega arith)
          ∙ sym (get_or_past bytes i 0 past)
    ]

pub padded : (page bytes : List ℕ) (n : ℕ) → length page ≡ n → ((k : ℕ) → k < n → get_or page k 0 ≡ get_or bytes k 0)
    → page ≡ take n (bytes ++ replicate n 0)
padded page bytes n len filled =
    let long : n ≤ length (bytes ++ replicate n 0) = omega (arith, length-append bytes (replicate n 0), length-replicate {A = ℕ} n 0) in
    ext_get_or 0 page (take n (bytes ++ replicate n 0)) (len ∙ sym (length-take-le n (bytes ++ replicate n 0) long))
    (λ i h. let within : i < n = omega arith in
    filled i within ∙ sym (get_or-take n (bytes ++ replicate n 0) i 0 within ∙ padded_at bytes n i within))

-- the first bytes of a page, and zeros behind them
fronted_at : (bytes : List ℕ) (n count i : ℕ) → count ≡ min (length bytes) n → i < n → get_or (take count bytes ++ replicate (n - count) 0) i 0 ≡ get_or bytes i 0
fronted_at bytes n count i is h =
    let size : length (take count bytes) ≡ count = length-take-le count bytes (omega arith) in
    elim (cases_lt i count) [
      | inl within ↦ get_or_append_left (take count bytes) (replicate (n - count) 0) 0 i (omega arith) ∙ get_or-take count bytes i 0 within
      | inr past ↦
          get_or-append_right (take count bytes) (replicate (n - count) 0) count i 0 size past
          ∙ get_or-replicate (n - count) (i - count) 0 0 (omega arith)
          ∙ sym (get_or_past bytes i 0 (omega arith))
    ]

-- a page over whose front bytes were copied, and the rest of which was made zeros
pub filled_over : (page bytes copied zeros : List ℕ) (count : ℕ) → count ≡ min (length bytes) (length page) → copied ≡ take count bytes → zeros ≡ replicate (length (take (length (copied ++ drop count page) - count) (drop count (copied ++ drop count page)))) 0
    → put_mid count (length (copied ++ drop count page) - count) (copied ++ drop count page) zeros ≡ take (length page) (bytes ++ replicate (length page) 0)
filled_over page bytes copied zeros count is front rest =
    let size : length copied ≡ count = ap length front ∙ length-take-le count bytes (omega arith) in
    let long : length (copied ++ drop count page) ≡ length page = omega (arith, length-append copied (drop count page), length-drop count page) in
    let none : post_of count (length (copied ++ drop count page) - count) (copied ++ drop count page) ≡ [] =
    drop_all (length (copied ++ drop count page) - count) (drop count (copied ++ drop count page)) (omega (arith, length-drop count (copied ++ drop count page))) in
    let left : length (take (length (copied ++ drop count page) - count) (drop count (copied ++ drop count page))) ≡ length page - count =
    omega (arith, length-take-le (length (copied ++ drop count page) - count) (drop count (copied ++ drop count page)) (omega (arith, length-drop count (copied ++ drop count page))), long) in
    let shown : put_mid count (length (copied ++ drop count page) - count) (copied ++ drop count page) zeros ≡ take count bytes ++ replicate (length page - count) 0 =
    ap (λ (l : List ℕ). l ++ (zeros ++ post_of count (length (copied ++ drop count page) - count) (copied ++ drop count page))) (take_at copied (drop count page) count size ∙ front)
    ∙ ap (λ (l : List ℕ). take count bytes ++ (zeros ++ l)) none
    ∙ ap (λ (l : List ℕ). take count bytes ++ l) (append-nil zeros ∙ rest)
    ∙ ap (λ (n : ℕ). take count bytes ++ replicate n 0) left in
    shown ∙ padded (take count bytes ++ replicate (length page - count) 0) bytes (length page)
    (omega (arith, length-append (take count bytes) (replicate (length page - count) 0), length-take-le count bytes (omega arith), length-replicate {A = ℕ} (length page - count) 0))
    (λ k h. fronted_at bytes (length page) count k is h)
