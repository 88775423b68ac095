-- Bytes that are added one after the other.
use Rattle.std.proofs.Common.{◌≡◌, ℕ, List, ◌++◌, ap, ◌∙◌, append_assoc}

pub then_two : (o a b p q : List ℕ) → p ≡ o ++ a → q ≡ p ++ b → q ≡ o ++ (a ++ b)
then_two o a b p q e f = f ∙ ap (λ x. x ++ b) e ∙ append_assoc o a b

pub then_three : (o a b c p q r : List ℕ) → p ≡ o ++ a → q ≡ p ++ b → r ≡ q ++ c → r ≡ o ++ (a ++ (b ++ c))
then_three o a b c p q r e f g = then_two o a (b ++ c) p r e (then_two p b c q r f g)

pub then_four : (o a b c d p q r s : List ℕ) → p ≡ o ++ a → q ≡ p ++ b → r ≡ q ++ c → s ≡ r ++ d → s ≡ o ++ (a ++ (b ++ (c ++ d)))
then_four o a b c d p q r s e f g h = then_two o a (b ++ (c ++ d)) p s e (then_three p b c d q r s f g h)

pub then_five : (o a b c d k p q r s t : List ℕ) → p ≡ o ++ a → q ≡ p ++ b → r ≡ q ++ c → s ≡ r ++ d → t ≡ s ++ k → t ≡ o ++ (a ++ (b ++ (c ++ (d ++ k))))
then_five o a b c d k p q r s t e f g h j = then_two o a (b ++ (c ++ (d ++ k))) p t e (then_four p b c d k q r s t f g h j)
