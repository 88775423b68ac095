-- Bytes taken from a reader.
use Rattle.std.proofs.Common.{◌≡◌, ◌≢◌, ℕ, ◌+◌, ◌<◌, ◌≤◌, List, [], ◌∷◌, ◌++◌, length, take, drop, Option, Result, Ok, Err, inl, inr, ◌⊎◌, append_assoc, length-append, length-drop, ◌-◌, sym, subst, arith}
use Rattle.std.proofs.Math.Seq.{take-add}
use Rattle.std.proofs.lemmas.Grind.{common_steps}
use Rattle.std.proofs.lemmas.List.Elements.{All-push, All-append}
use Rattle.std.proofs.KnownBytes.{Appends-trans, Consumes-trans}
use Rattle.std.specs.Io.KnownBytes.{Consumes, IsAtEnd, Appends}
use Rattle.std.specs.Prelude.{IfOk, MatchResult}
use Rattle.script.specs.Streams.{IsWithoutLf, TakesLineBytes, TakesPart, TakesRest, TakesLine}
use Rattle.script.specs.declared.line_reader.Taken.{Taken}
use Rattle.script.specs.declared.line_reader.Taken.TheVariants.{TooLong}

-- the buffer holds what was taken of the line so far
pub record IsFilling (old new : Option (List ℕ)) (line : List ℕ) (capacity : ℕ) : Type 0 where
  pub room : 65536 ≤ capacity
  pub short : length line ≤ 65536
  pub no_lf : IsWithoutLf line
  pub taken : Consumes old new line

-- one more byte that is no LF
pub no_lf_more : (line : List ℕ) (byte : ℕ) → IsWithoutLf line → byte ≢ 10 → IsWithoutLf (line ++ byte ∷ [])
no_lf_more line byte h other = All-push (λ b. b ≢ 10) line byte h other

pub part_more : (a b c : Option (List ℕ)) (byte : ℕ) → TakesPart a b → Consumes b c (byte ∷ []) → byte ≢ 10 → TakesPart a c
part_more a b c byte part more other = (part.0 ++ byte ∷ [], no_lf_more part.0 byte part.1 other, Consumes-trans a b c part.0 (byte ∷ []) part.2 more)

-- a part of a line after a full buffer
full_part : (a b c d : Option (List ℕ)) (line : List ℕ) (byte capacity : ℕ) → IsFilling a b line capacity → Consumes b c (byte ∷ []) → byte ≢ 10
    → TakesPart c d → TakesPart a d
full_part a b c d line byte capacity filling more other part =
    let front = Consumes-trans a b c line (byte ∷ []) filling.taken more in (
      (line ++ byte ∷ []) ++ part.0,
      All-append (λ b. b ≢ 10) (line ++ byte ∷ []) part.0 (no_lf_more line byte filling.no_lf other) part.1,
      Consumes-trans a c d (line ++ byte ∷ []) part.0 front part.2,
    )

ends_after : (a c d : Option (List ℕ)) (front rest : List ℕ) → 0 < length front → Consumes a c front
    → Consumes c d (rest ++ 10 ∷ []) ⊎ (Consumes c d rest × IsAtEnd d)
    → Consumes a d ((front ++ rest) ++ 10 ∷ []) ⊎ (Consumes a d (front ++ rest) × IsAtEnd d × (0 < length (front ++ rest)))
ends_after a c d front rest some taken (inl lf) = inl (subst (Consumes a d) (sym (append_assoc front rest (10 ∷ []))) (Consumes-trans a c d front (rest ++ 10 ∷ []) taken lf))
ends_after a c d front rest some taken (inr end) = inr (Consumes-trans a c d front rest taken end.0, end.1, omega (arith, length-append front rest))

-- the rest of a line after a full buffer
full_line : (a b c d : Option (List ℕ)) (line : List ℕ) (byte capacity : ℕ) → IsFilling a b line capacity → Consumes b c (byte ∷ []) → byte ≢ 10
    → length line ≡ 65536 → (bytes : List ℕ) × TakesRest c d bytes → (long : List ℕ) × TakesLine a d long × (65536 < length long)
full_line a b c d line byte capacity filling more other full rest =
    let front = Consumes-trans a b c line (byte ∷ []) filling.taken more in
    let size : length (line ++ byte ∷ []) ≡ 65537 = omega (arith, length-append line (byte ∷ [])) in (
      (line ++ byte ∷ []) ++ rest.0,
      (
        All-append (λ b. b ≢ 10) (line ++ byte ∷ []) rest.0 (no_lf_more line byte filling.no_lf other) rest.1.0,
        ends_after a c d (line ++ byte ∷ []) rest.0 (omega arith) front rest.1.1,
      ),
      omega (arith, length-append (line ++ byte ∷ []) rest.0),
    )

-- what skipping the rest of a line after a full buffer took
pub full_taken : {E : Type 0} (a b c d : Option (List ℕ)) (r : Result Taken E) (line : List ℕ) (byte capacity : ℕ) → IsFilling a b line capacity → Consumes b c (byte ∷ []) → byte ≢ 10
    → length line ≡ 65536 → IfOk r (λ taken. taken ≡ TooLong) → MatchResult r (λ _. (bytes : List ℕ) × TakesRest c d bytes) (λ _. TakesPart c d) → TakesLineBytes a d r line
full_taken {E} a b c d (Ok taken) line byte capacity filling more other full long rest =
    subst (λ (t : Taken). TakesLineBytes {E = E} a d (Ok t) line) (sym long) (full_line a b c d line byte capacity filling more other full rest)
full_taken {E} a b c d (Err error) line byte capacity filling more other full long rest = full_part a b c d line byte capacity filling more other rest

-- the bytes from a place on
rest_of : (bytes : List ℕ) (n : ℕ) → n ≤ length bytes → take (length bytes - n) (drop n bytes) ≡ drop n bytes
rest_of bytes n within = grind (arith, common_steps)

-- bytes written, and then more of the rest
pub written_more : (a b c : Option (List ℕ)) (bytes : List ℕ) (n m : ℕ) → n ≤ length bytes → m ≤ length (take (length bytes - n) (drop n bytes))
    → Appends a b (take n bytes) → Appends b c (take m (take (length bytes - n) (drop n bytes)))
    → (n + m ≤ length bytes) × Appends a c (take (n + m) bytes)
written_more a b c bytes n m within bound first second =
    let size : m ≤ length (drop n bytes) = subst (λ (xs : List ℕ). m ≤ length xs) (rest_of bytes n within) bound in
    let more : Appends b c (take m (drop n bytes)) = subst (λ (xs : List ℕ). Appends b c (take m xs)) (rest_of bytes n within) second in (
      omega (arith, length-drop n bytes),
      subst (Appends a c) (sym (take-add n m bytes)) (Appends-trans a b c (take n bytes) (take m (drop n bytes)) first more),
    )
