-- Texts that tell what is meant, line by line.
use Rattle.std.proofs.Common.{◌≡◌, ◌∙◌, ℕ, ◌+◌, Bool, true, false, IsTrue, List, [], ◌∷◌, ◌++◌, take, cond, refl, sym, ap, subst, append_assoc, append-nil}
use Rattle.std.specs.List.{filter}
use Rattle.std.proofs.lemmas.List.Elements.{filter-append}
use Rattle.shell.specs.Explained.{TellsEach, explanation, is_meant}
use Rattle.shell.specs.declared.explanations.Told.{Told}

-- two tests that say the same
pub same_truth : (a b : Bool) → (IsTrue a → IsTrue b) → (IsTrue b → IsTrue a) → a ≡ b
same_truth true true f g = refl
same_truth false false f g = refl
same_truth true false f g = sym (f refl)
same_truth false true f g = g refl

-- a line more
tells_more : (all : List Told) (text : List ℕ) (told : Told) (meaning : List ℕ) → TellsEach all text → TellsEach (all ++ told ∷ []) (text ++ explanation told meaning)
tells_more [] text told meaning h = (meaning, [], refl, ap (λ (t : List ℕ). t ++ explanation told meaning) h ∙ sym (append-nil (explanation told meaning)))
tells_more (first ∷ more) text told meaning (said, rest, tells, is) =
    (said, rest ++ explanation told meaning, tells_more more rest told meaning tells, ap (λ (t : List ℕ). t ++ explanation told meaning) is ∙ append_assoc (explanation first said) rest (explanation told meaning))

-- what is meant of some and one more
one_more : (word : List ℕ) (told : Told) (meant : Bool) (all : List Told) → is_meant word told ≡ meant → filter (is_meant word) (all ++ told ∷ []) ≡ filter (is_meant word) all ++ cond meant (told ∷ []) []
one_more word told meant all is = filter-append (is_meant word) all (told ∷ []) ∙ ap (λ (b : Bool). filter (is_meant word) all ++ cond b (told ∷ []) []) is

-- one more of them is meant, and told; or it is not
pub meant_more : (all : List Told) (i : ℕ) (word : List ℕ) (told : Told) (text next meaning : List ℕ) → take (i + 1) all ≡ take i all ++ told ∷ [] → true ≡ is_meant word told
    → TellsEach (filter (is_meant word) (take i all)) text → next ≡ text ++ explanation told meaning → TellsEach (filter (is_meant word) (take (i + 1) all)) next
meant_more all i word told text next meaning one meant tells is =
    let more : filter (is_meant word) (take (i + 1) all) ≡ filter (is_meant word) (take i all) ++ told ∷ [] =
    ap (filter (is_meant word)) one ∙ one_more word told true (take i all) (sym meant) in
    rw (more, is) (tells_more (filter (is_meant word) (take i all)) text told meaning tells)

pub unmeant_more : (all : List Told) (i : ℕ) (word : List ℕ) (told : Told) (text : List ℕ) → take (i + 1) all ≡ take i all ++ told ∷ [] → false ≡ is_meant word told
    → TellsEach (filter (is_meant word) (take i all)) text → TellsEach (filter (is_meant word) (take (i + 1) all)) text
unmeant_more all i word told text one meant tells =
    let more : filter (is_meant word) (take (i + 1) all) ≡ filter (is_meant word) (take i all) =
    ap (filter (is_meant word)) one ∙ one_more word told false (take i all) (sym meant) ∙ append-nil (filter (is_meant word) (take i all)) in
    rw more tells
