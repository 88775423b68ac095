-- What several writes leave in a stream, whole or in part.
use Rattle.std.proofs.Common.{ℕ, ◌+◌, List, ◌++◌, length, take, None, Some, Result, Ok, Err, sym, subst, ◌∙◌, inl, inr, arith}
use Rattle.std.specs.Prelude.{Option, OnErr, IfNone}
use Rattle.std.specs.Io.KnownBytes.{Appends}
use Rattle.std.proofs.KnownBytes.{Appends-trans}
use Rattle.std.proofs.Math.Seq.{take-length, take-append_seam, take-append-add}
use Rattle.std.proofs.lemmas.Bool.{cases_lt}
use Rattle.std.proofs.lemmas.List.{take-append-le, take_all}
use Rattle.remote_flash.specs.Streams.{AppendsPart}

pub part_whole : (a b : Option (List ℕ)) (text : List ℕ) → Appends a b text → AppendsPart a b text
part_whole a b text whole = (length text, subst (Appends a b) (sym (take-length text)) whole)

pub part_front : (a b : Option (List ℕ)) (front back : List ℕ) → AppendsPart a b front → AppendsPart a b (front ++ back)
part_front a b front back part = elim (cases_lt part.0 (length front)) [
  | inl less ↦ (part.0, subst (Appends a b) (sym (take-append-le part.0 front back (omega arith))) part.1)
  | inr more ↦ (length front, subst (Appends a b) (take_all part.0 front more ∙ sym (take-append_seam front back)) part.1)
]

pub part_then : (a b c : Option (List ℕ)) (front back : List ℕ) → Appends a b front → AppendsPart b c back → AppendsPart a c (front ++ back)
part_then a b c front back first part =
    (length front + part.0, subst (Appends a c) (sym (take-append-add front back part.0)) (Appends-trans a b c front (take part.0 back) first part.1))

-- what holds in any case
pub on_err : {T E : Type 0} (r : Result T E) (P : Type 0) → P → OnErr r P
on_err (Ok x) P p = tt
on_err (Err e) P p = p

-- what follows where there is none
pub if_none : {T : Type 0} (r : Option T) (P Q : Type 0) → (P → Q) → IfNone r P → IfNone r Q
if_none None P Q then p = then p
if_none (Some x) P Q then p = tt
