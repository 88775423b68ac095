-- The lines of what is left in a reader.
use Rattle.std.proofs.Common.{◌≡◌, ◌≢◌, ℕ, ◌<◌, ◌==◌, false, List, [], ◌∷◌, ◌++◌, length, Option, Some, None, Ok, Err, Result, inl, inr, refl, sym, ap, ◌∙◌, append-nil, append_assoc, arith}
use Rattle.std.specs.List.{onto_first, AllByRecursion}
use Rattle.std.specs.Io.KnownBytes.{Consumes}
use Rattle.std.proofs.lemmas.Bool.Decides.{nat_tests}
use Rattle.std.proofs.lemmas.List.Elements.{recursion_from_All}
use Rattle.script.specs.Streams.{lines_of, TakesLine, TakesLines, TakesLineBytes, BeginsWithLines}
use Rattle.script.specs.declared.line_reader.Taken.{Taken}
use Rattle.script.specs.declared.line_reader.Taken.TheVariants.{Line, TooLong, End}

abbrev NoLf : List ℕ → Type 0
NoLf = AllByRecursion (λ b. b ≢ 10)

-- a byte that is no LF goes onto the first line
onto_line : (b : ℕ) (bytes : List ℕ) → b ≢ 10 → lines_of (b ∷ bytes) ≡ onto_first b (lines_of bytes)
onto_line b bytes other = let test : (b == 10) ≡ false = grind (arith, nat_tests) in rw test

lines_of_lf : (line ys : List ℕ) → NoLf line → lines_of (line ++ 10 ∷ ys) ≡ line ∷ lines_of ys
lines_of_lf [] ys h = refl
lines_of_lf (b ∷ line) ys h = onto_line b (line ++ 10 ∷ ys) h.0 ∙ ap (onto_first b) (lines_of_lf line ys h.1)

lines_of_end : (b : ℕ) (line : List ℕ) → NoLf (b ∷ line) → lines_of (b ∷ line) ≡ (b ∷ line) ∷ []
lines_of_end b [] h = onto_line b [] h.0
lines_of_end b (c ∷ line) h = onto_line b (c ∷ line) h.0 ∙ ap (onto_first b) (lines_of_end c line h.1)

lines_of_some : (line : List ℕ) → NoLf line → 0 < length line → lines_of line ≡ line ∷ []
lines_of_some [] h some = absurd (omega arith)
lines_of_some (b ∷ line) h some = lines_of_end b line h

-- a line that was taken is the first one of known bytes
pub taken_line : (old new : Option (List ℕ)) (line : List ℕ) → TakesLine old new line → BeginsWithLines old (line ∷ []) new
taken_line None new line h = tt
taken_line (Some xs) None line (h, inl lf) = absurd lf
taken_line (Some xs) None line (h, inr end) = absurd end.0
taken_line (Some xs) (Some ys) line (h, inl lf) =
    ap lines_of (lf ∙ append_assoc line (10 ∷ []) ys) ∙ lines_of_lf line ys (recursion_from_All (λ b. b ≢ 10) line h)
taken_line (Some xs) (Some ys) line (h, inr end) =
    ap lines_of (end.0 ∙ ap (λ (l : List ℕ). line ++ l) end.1 ∙ append-nil line) ∙ lines_of_some line (recursion_from_All (λ b. b ≢ 10) line h) end.2
    ∙ ap (λ (l : List ℕ). line ∷ lines_of l) (sym end.1)

no_lines : (old new : Option (List ℕ)) → Consumes old new [] → BeginsWithLines old [] new
no_lines None new h = tt
no_lines (Some xs) None h = absurd h
no_lines (Some xs) (Some ys) h = ap lines_of h

pub lines_from_taken : {E : Type 0} → (old new : Option (List ℕ)) (r : Result Taken E) (line : List ℕ) → TakesLineBytes old new r line → TakesLines old new r line
lines_from_taken old new (Ok Line) line h = taken_line old new line h.0
lines_from_taken old new (Ok TooLong) line h = (h.0, h.2, taken_line old new h.0 h.1)
lines_from_taken old new (Ok End) line h = no_lines old new h.0
lines_from_taken old new (Err error) line h = tt
