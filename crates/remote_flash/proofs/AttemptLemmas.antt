-- Programs and erases one after the other.
use Rattle.std.proofs.Common.{◌≡◌, ℕ, true, false, List, [], ◌∷◌, ◌++◌, length, take, Result, Ok, Err, refl, sym, ap, subst, ◌∙◌, append_assoc, inl, inr}
use Rattle.std.specs.Prelude.{All, ◌⊎◌}
use Rattle.std.specs.Io.KnownBytes.{Appends, Consumes}
use Rattle.std.proofs.KnownBytes.{Appends-trans, Appends-nil, Consumes-trans, Consumes-nil, Consumes-kept}
use Rattle.std.proofs.Math.Seq.{take-length}
use Rattle.std.proofs.lemmas.List.Elements.{All-nil, All-cons}
use Rattle.flash_model.specs.declared.flash.DevFault.{DevFault}
use Rattle.flash_model.specs.declared.flash.DevFault.TheVariants.{Failed, PowerCut}
use Rattle.remote_flash.specs.Streams.{Streams, EndsBy, IsUnanswered, IsAnsweredOtherwise}
use Rattle.remote_flash.specs.Attempts.{Attempt, TellsAll, ArePassed, IsNoAnswer, orders_before_cut, cut_order, answers_before_cut}

pub same_once_lost : (attempts : List Attempt) (old new : Streams) → old.lost ≡ true → TellsAll old attempts new → new ≡ old
same_once_lost [] old new lost tells = tells
same_once_lost (first ∷ more) old new lost tells =
    let off : tells.0 ≡ old = (tells.1.off lost).0 in
    same_once_lost more tells.0 new (ap (λ (s : Streams). s.lost) off ∙ lost) tells.2 ∙ off

pub cut_once_lost : (attempts : List Attempt) (old new : Streams) → old.lost ≡ true → TellsAll old attempts new → All (λ attempt. attempt.result ≡ Err PowerCut) attempts
cut_once_lost [] old new lost tells = All-nil (λ attempt. attempt.result ≡ Err PowerCut)
cut_once_lost (first ∷ more) old new lost tells =
    let off = tells.1.off lost in
    All-cons (λ attempt. attempt.result ≡ Err PowerCut) first more off.1 (cut_once_lost more tells.0 new (ap (λ (s : Streams). s.lost) off.0 ∙ lost) tells.2)

-- what a first attempt that is answered passes, and then the others
passed_more : (old mid new : Streams) (order answer : List ℕ) (more : List Attempt) → Appends old.orders mid.orders order → Consumes old.answers mid.answers answer
    → ArePassed mid more new
    → ((n : ℕ) × Appends old.orders new.orders ((order ++ orders_before_cut more) ++ take n (cut_order more)))
    × ((last : List ℕ) × IsNoAnswer last × Consumes old.answers new.answers ((answer ++ answers_before_cut more) ++ last))
passed_more old mid new order answer more given answered rest = (
  (
    rest.given.0,
    subst (Appends old.orders new.orders) (sym (append_assoc order (orders_before_cut more) (take rest.given.0 (cut_order more))))
        (Appends-trans old.orders mid.orders new.orders order _ given rest.given.1),
  ),
  (
    rest.answered.0,
    rest.answered.1,
    subst (Consumes old.answers new.answers) (sym (append_assoc answer (answers_before_cut more) rest.answered.0))
        (Consumes-trans old.answers mid.answers new.answers answer _ answered rest.answered.2),
  ),
)

-- the first attempt, and then the others
passed_first : (order : List ℕ) (result : Result (Unit {0}) DevFault) (more : List Attempt) (old mid new : Streams) → EndsBy old order mid result → TellsAll mid more new
    → (mid.lost ≡ false → ArePassed mid more new) → ArePassed old (record { order = order; result = result } ∷ more) new
passed_first order (Ok u) more old mid new ends tells others =
    let both = passed_more old mid new order (1 ∷ []) more ends.0.given ends.0.answer (others ends.1) in
    record { given = both.0; answered = both.1 }
passed_first order (Err Failed) more old mid new ends tells others =
    let both = passed_more old mid new order (2 ∷ []) more ends.0.given ends.0.answer (others ends.1) in
    record { given = both.0; answered = both.1 }
passed_first order (Err PowerCut) more old mid new ends tells others =
    subst (ArePassed old (record { order = order; result = Err PowerCut } ∷ more)) (sym (same_once_lost more mid new ends.1 tells))
    (cut_passed order more old mid ends.0)
  where
    cut_passed : (order : List ℕ) (more : List Attempt) (old mid : Streams) → IsUnanswered old order mid ⊎ IsAnsweredOtherwise old order mid
        → ArePassed old (record { order = order; result = Err PowerCut } ∷ more) mid
    cut_passed order more old mid (inl silent) = record {
      given = silent.given;
      answered = ([], inl refl, Consumes-kept old.answers old.answers mid.answers [] (Consumes-nil old.answers) silent.silent);
    }
    cut_passed order more old mid (inr other) = record {
      given = (length order, subst (Appends old.orders mid.orders) (sym (take-length order)) other.answered.given);
      answered = (other.byte ∷ [], inr (other.byte, other.undone, other.unfailed, refl), other.answered.answer);
    }

pub all_passed : (attempts : List Attempt) (old new : Streams) → old.lost ≡ false → TellsAll old attempts new → ArePassed old attempts new
all_passed [] old new live tells = record {
  given = (0, subst (λ (s : Streams). Appends old.orders s.orders []) (sym tells) (Appends-nil old.orders));
  answered = ([], inl refl, subst (λ (s : Streams). Consumes old.answers s.answers []) (sym tells) (Consumes-nil old.answers));
}
all_passed (first ∷ more) old new live tells =
    passed_first first.order first.result more old tells.0 new (tells.1.on live) tells.2 (λ on. all_passed more tells.0 new on tells.2)
