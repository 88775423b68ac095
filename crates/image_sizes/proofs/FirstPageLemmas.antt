-- One page more among those of which the newest first page is told.
use Rattle.std.proofs.Common.{◌≡◌, ℕ, ◌+◌, ◌<◌, ◌≤◌, nat_lt, Bool, true, false, Option, Some, None, if◌then◌else◌, refl, ap, arith}
use borrow.Author.Count.{below_more}
use borrow.Author.Tests.{ltb-true, ltb-false}
use Rattle.flash_model.specs.Device.{Page}
use Rattle.image_sizes.specs.FirstPages.{IsNewest, first_page, newer}
use Rattle.image_sizes.specs.declared.record_sizes.FirstPage.{FirstPage}

-- what a page tells is not past a sequence
IsUpTo : (ℕ → Page) → ℕ → ℕ → Type 0
IsUpTo pages sequence p = (other : FirstPage) → first_page (pages p) ≡ Some other → other.sequence ≤ sequence

later : (pages : ℕ → Page) (n : ℕ) (old new : FirstPage) (b : Bool) → nat_lt old.sequence new.sequence ≡ b → first_page (pages n) ≡ Some new → IsNewest pages n (Some old)
    → IsNewest pages (n + 1) (if b then Some new else Some old)
unfolding IsUpTo
later pages n old new true less is before =
    let below : old.sequence < new.sequence = ltb-true _ _ less in (
      (n, omega arith, is),
      λ p other inside tells.
          below_more (IsUpTo pages new.sequence) n
          (λ q under another told. let most : another.sequence ≤ old.sequence = before.1 q another under told in omega (arith, most, below))
          (λ another told. let same : another ≡ new = cc (told, is) in let even : another.sequence ≡ new.sequence = ap (λ (x : FirstPage). x.sequence) same in omega (arith, even))
          p inside other tells,
    )
later pages n old new false less is before =
    let above : new.sequence ≤ old.sequence = ltb-false _ _ less in (
      (before.0.0, (let under : before.0.0 < n = before.0.1 in omega (arith, under)), before.0.2),
      λ p other inside tells.
          below_more (IsUpTo pages old.sequence) n
          (λ q under another told. before.1 q another under told)
          (λ another told. let same : another ≡ new = cc (told, is) in let even : another.sequence ≡ new.sequence = ap (λ (x : FirstPage). x.sequence) same in omega (arith, even, above))
          p inside other tells,
    )

step : (pages : ℕ → Page) (n : ℕ) (newest next : Option FirstPage) → first_page (pages n) ≡ next → IsNewest pages n newest → IsNewest pages (n + 1) (newer newest next)
unfolding IsUpTo
step pages n None None is before = below_more (λ (p : ℕ). first_page (pages p) ≡ None) n before is
step pages n None (Some new) is before = (
  (n, omega arith, is),
  λ p other inside tells.
      below_more (IsUpTo pages new.sequence) n
      (λ q under another told. let none : first_page (pages q) ≡ None = before q under in cc (none, told))
      (λ another told. let same : another ≡ new = cc (told, is) in let even : another.sequence ≡ new.sequence = ap (λ (x : FirstPage). x.sequence) same in omega (arith, even))
      p inside other tells,
)
step pages n (Some old) None is before = (
  (before.0.0, (let under : before.0.0 < n = before.0.1 in omega (arith, under)), before.0.2),
  λ p other inside tells.
      below_more (IsUpTo pages old.sequence) n
      (λ q under another told. before.1 q another under told)
      (λ another told. cc (told, is))
      p inside other tells,
)
step pages n (Some old) (Some new) is before = later pages n old new (nat_lt old.sequence new.sequence) refl is before

pub newest_more : (pages : ℕ → Page) (n : ℕ) (newest : Option FirstPage) → IsNewest pages n newest → IsNewest pages (n + 1) (newer newest (first_page (pages n)))
newest_more pages n newest before = step pages n newest (first_page (pages n)) refl before
