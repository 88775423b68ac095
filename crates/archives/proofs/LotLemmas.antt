-- Things that are taken into lots, one after the other.
use Rattle.std.proofs.Common.{◌≡◌, Option, Some, None, List, [], ◌∷◌, ◌++◌, refl, sym, ap, ◌∙◌, append_assoc}
use Rattle.std.proofs.lemmas.List.{append-nil}
use Rattle.put_lots.specs.Lots.{taken_in, listed, lots_from, lots_of}
use Rattle.put_lots.specs.declared.thing.Thing.{Thing}

-- what is put of things, and of those after them, begins with these lots, and this waits then
abbrev pub HasTaken : List Thing → List Thing → Option Thing → Type 0
HasTaken things lots last = (rest : List Thing) → lots_of (things ++ rest) ≡ lots ++ lots_from last rest

pub none-taken : (lots : List Thing) (last : Option Thing) → lots ≡ [] → last ≡ None → HasTaken [] lots last
none-taken lots last none waits rest = ap (λ (l : Option Thing). lots_from l rest) (sym waits) ∙ ap (λ (l : List Thing). l ++ lots_from last rest) (sym none)

pub one-taken : (things lots more : List Thing) (last : Option Thing) (thing next : Thing) → HasTaken things lots last → more ≡ lots ++ listed (taken_in last thing).ready → next ≡ (taken_in last thing).last
    → HasTaken (things ++ thing ∷ []) more (Some next)
one-taken things lots more last thing next before is waits rest =
    let taken = taken_in last thing in
    ap lots_of (append_assoc things (thing ∷ []) rest) ∙ before (thing ∷ rest)
    ∙ sym (append_assoc lots (listed taken.ready) (lots_from (Some taken.last) rest))
    ∙ ap (λ (l : List Thing). l ++ lots_from (Some taken.last) rest) (sym is)
    ∙ ap (λ (n : Thing). more ++ lots_from (Some n) rest) (sym waits)

pub all-taken : (things lots all : List Thing) (last : Option Thing) → HasTaken things lots last → all ≡ lots ++ listed last → all ≡ lots_of things
all-taken things lots all last before is = is ∙ sym (before []) ∙ ap lots_of (append-nil things)
