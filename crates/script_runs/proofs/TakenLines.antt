-- Lines that were taken from a reader, one after the other.
use Rattle.std.proofs.Common.{◌≡◌, ℕ, ◌<◌, nat_lt, true, List, [], ◌∷◌, ◌++◌, length, Option, Some, None, IfSome, refl, sym, ap, ◌∙◌, subst, append-nil, arith}
use Rattle.std.specs.Io.KnownBytes.{Consumes, IsAtEnd}
use Rattle.std.proofs.lemmas.Bool.Decides.{nat_tests}
use Rattle.script.proofs.LineLemmas.{taken_line}
use Rattle.script.specs.Lines.{line_of}
use Rattle.script.specs.Streams.{lines_of, TakesLine, BeginsWithLines}
use Rattle.script.specs.declared.line.Line.{Line}
use Rattle.script_runs.specs.Scripts.{HasTaken, HasTakenAll}

one_more : (old between new : Option (List ℕ)) (line : List ℕ) (lines : List (List ℕ)) → BeginsWithLines old (line ∷ []) between → BeginsWithLines between lines new
    → BeginsWithLines old (line ∷ lines) new
one_more None between new line lines h rest = tt
one_more (Some xs) None new line lines h rest = absurd h
one_more (Some xs) (Some ys) None line lines h rest = absurd rest
one_more (Some xs) (Some ys) (Some zs) line lines h rest = h ∙ ap (λ (l : List (List ℕ)). line ∷ l) rest

begins_with_none : (old : Option (List ℕ)) → BeginsWithLines old [] old
begins_with_none None = tt
begins_with_none (Some xs) = refl

-- known bytes begin with the lines that were taken
taken_lines : (old : Option (List ℕ)) (lines : List (List ℕ)) (new : Option (List ℕ)) → HasTaken old lines new → BeginsWithLines old lines new
taken_lines old [] new h = subst (λ (x : Option (List ℕ)). BeginsWithLines old [] x) (sym h) (begins_with_none old)
taken_lines old (line ∷ lines) new h = one_more old h.0 new line lines (taken_line old h.0 line h.1) (taken_lines h.0 lines new h.2)

all_lines : (old : Option (List ℕ)) (lines : List (List ℕ)) (rest new : Option (List ℕ)) → BeginsWithLines old lines rest → Consumes rest new [] → IsAtEnd new
    → IfSome old (λ bytes. lines_of bytes ≡ lines)
all_lines None lines rest new h none end = tt
all_lines (Some xs) lines None new h none end = absurd h
all_lines (Some xs) lines (Some ys) None h none end = absurd none
all_lines (Some xs) lines (Some ys) (Some zs) h none end = h ∙ ap (λ (l : List ℕ). lines ++ lines_of l) (none ∙ end) ∙ append-nil lines

pub taken_all : (old : Option (List ℕ)) (lines : List (List ℕ)) (rest new : Option (List ℕ)) → HasTaken old lines rest → Consumes rest new [] → IsAtEnd new
    → HasTakenAll old lines new
taken_all old lines rest new h none end = (rest, h, none, end, all_lines old lines rest new (taken_lines old lines rest h) none end)

pub taken_more : (old : Option (List ℕ)) (lines : List (List ℕ)) (between : Option (List ℕ)) (line : List ℕ) (new : Option (List ℕ))
    → HasTaken old lines between → TakesLine between new line → HasTaken old (lines ++ line ∷ []) new
taken_more old [] between line new h more = (new, subst (λ (x : Option (List ℕ)). TakesLine x new line) h more, refl)
taken_more old (first ∷ lines) between line new h more = (h.0, h.1, taken_more h.0 lines between line new h.2 more)

-- a line that is too long has no form
pub too_long : (bytes : List ℕ) → 65536 < length bytes → Line.Syntax ≡ line_of bytes
too_long bytes long = let test : nat_lt 65536 (length bytes) ≡ true = grind (arith, nat_tests) in rw test
