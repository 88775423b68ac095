-- Sums over numbers from 0 on.
use Rattle.std.proofs.Common.{◌≡◌, ℕ, ◌+◌, min, sym, ap, ◌∙◌, arith}
use Rattle.std.proofs.lemmas.List.FromFn.{sum_by-map-range_with_len_more}
use Rattle.std.proofs.lemmas.List.Sums.{sum-map}
use Rattle.std.specs.List.{sum_by, range_with_len}

-- one term more
pub sum_more : (f : ℕ → ℕ) (n : ℕ) → sum_by f (range_with_len 0 (n + 1)) ≡ sum_by f (range_with_len 0 n) + f n
sum_more f n =
    sym (sum-map f (range_with_len 0 (n + 1)))
    ∙ sum_by-map-range_with_len_more (λ (k : ℕ). k) f 0 n n (omega arith)
    ∙ ap (λ (s : ℕ). s + f n) (sum-map f (range_with_len 0 n))

-- and of sums that are told up to a greatest number
pub capped_more : (told sum next term after top : ℕ) → told ≡ min sum top → next ≡ min (told + term) top → after ≡ sum + term → next ≡ min after top
capped_more told sum next term after top h k l = omega arith
