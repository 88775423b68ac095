-- All that a driver was given are the orders of attempts in turn.
use Rattle.std.proofs.Common.{◌≡◌, ℕ, true, false, Bool, List, [], ◌∷◌, ◌++◌, take, Option, None, Some, Result, Ok, Err, refl, sym, ap, subst, ◌∙◌}
use Rattle.std.specs.Prelude.{All, IfSome}
use Rattle.std.specs.Io.KnownBytes.{Appends}
use Rattle.std.proofs.lemmas.Bool.{true≢false}
use Rattle.std.proofs.lemmas.List.Elements.{All-nil, All-cons, All-push}
use mathlib.Core.Logic.{∥∥₁_map}
use Rattle.flash_model.specs.declared.flash.DevFault.{DevFault}
use Rattle.flash_model.specs.declared.flash.DevFault.TheVariants.{Failed, PowerCut}
use Rattle.flash_model.specs.declared.geometry.Geometry.{Geometry}
use Rattle.remote_flash.specs.Orders.{IsOrder}
use Rattle.remote_flash.specs.Streams.{Streams, Tells, EndsBy}
use Rattle.remote_flash.specs.Attempts.{Attempt, TellsAll, TellsAlways, HasOrdered, AreOrders, is_cut}
use Rattle.remote_flash.proofs.AttemptLemmas.{all_passed, same_once_lost}

-- one attempt more
tells_then : (attempts : List Attempt) (old mid new : Streams) (next : Attempt) → TellsAll old attempts mid → Tells mid next.order new next.result → TellsAll old (attempts ++ next ∷ []) new
tells_then [] old mid new next told tells = (new, subst (λ (s : Streams). Tells s next.order new next.result) told tells, refl)
tells_then (first ∷ more) old mid new next told tells = (told.0, told.1, tells_then more told.0 mid new next told.2 tells)

one_more : {W : Type 0} (g : Geometry) (contents : W → Option (List ℕ)) (old new : Streams) (order : List ℕ) (result : Result (Unit {0}) DevFault) → IsOrder g order → Tells old order new result
    → HasOrdered g contents old → HasOrdered g contents new
one_more g contents old new order result is tells was =
    let next : Attempt = record { order = order; result = result } in
    record {
      first = was.first;
      live = was.live;
      unused = was.unused;
      attempts = was.attempts ++ next ∷ [];
      lawful = All-push (λ attempt. IsOrder g attempt.order) was.attempts next was.lawful is;
      told = tells_then was.attempts was.first old new next was.told tells;
    }

-- a driver that is told one more, of a flash that stays of the same sizes
pub ordered_more : {W : Type 0} (g h : Geometry) (contents : W → Option (List ℕ)) (old new : Streams) (order : List ℕ) (result : Result (Unit {0}) DevFault) → h ≡ g → IsOrder g order
    → Tells old order new result → ∥ HasOrdered g contents old ∥₁ → ∥ HasOrdered h contents new ∥₁
ordered_more g h contents old new order result same is tells was =
    subst (λ (k : Geometry). ∥ HasOrdered k contents new ∥₁) (sym same) (∥∥₁_map was (one_more g contents old new order result is tells))

-- a driver that is told nothing more
pub ordered_same : {W : Type 0} (g h : Geometry) (contents : W → Option (List ℕ)) (now : Streams) → h ≡ g → ∥ HasOrdered g contents now ∥₁ → ∥ HasOrdered h contents now ∥₁
ordered_same g h contents now same was = subst (λ (k : Geometry). ∥ HasOrdered k contents now ∥₁) (sym same) was

-- a driver that was told nothing yet
pub ordered_none : {W : Type 0} (g : Geometry) (contents : W → Option (List ℕ)) (writer : W) (now : Streams) → now.orders ≡ contents writer → now.lost ≡ false
    → IfSome (contents writer) (λ all. all ≡ []) → ∥ HasOrdered g contents now ∥₁
ordered_none g contents writer now same live none = ∣ record {
  first = now;
  live = live;
  unused = λ tells. same ∙ known (contents writer) (tells writer).0 (tells writer).1 none;
  attempts = [];
  lawful = All-nil (λ (attempt : Attempt). IsOrder g attempt.order);
  told = refl;
} ∣₁
  where
    known : (held : Option (List ℕ)) (bytes : List ℕ) → held ≡ Some bytes → IfSome held (λ all. all ≡ []) → held ≡ Some []
    known None bytes is none = absurd cc
    known (Some all) bytes is none = ap Some none

-- where power is not lost, none was cut
none_cut_first : (order : List ℕ) (result : Result (Unit {0}) DevFault) (more : List Attempt) (old mid new : Streams) → EndsBy old order mid result → TellsAll mid more new → new.lost ≡ false
    → (mid.lost ≡ false → All (λ attempt. is_cut attempt.result ≡ false) more) → All (λ attempt. is_cut attempt.result ≡ false) (record { order = order; result = result } ∷ more)
none_cut_first order (Ok u) more old mid new ends told on rest = All-cons (λ (attempt : Attempt). is_cut attempt.result ≡ false) (record { order = order; result = Ok u }) more refl (rest ends.1)
none_cut_first order (Err Failed) more old mid new ends told on rest = All-cons (λ (attempt : Attempt). is_cut attempt.result ≡ false) (record { order = order; result = Err Failed }) more refl (rest ends.1)
none_cut_first order (Err PowerCut) more old mid new ends told on rest =
    absurd (true≢false (sym (ap (λ (s : Streams). s.lost) (same_once_lost more mid new ends.1 told) ∙ ends.1) ∙ on))

none_cut : (attempts : List Attempt) (old new : Streams) → old.lost ≡ false → TellsAll old attempts new → new.lost ≡ false → All (λ attempt. is_cut attempt.result ≡ false) attempts
none_cut [] old new live told on = All-nil (λ (attempt : Attempt). is_cut attempt.result ≡ false)
none_cut (first ∷ more) old new live told on =
    none_cut_first first.order first.result more old told.0 new (told.1.on live) told.2 on (λ mid. none_cut more told.0 new mid told.2 on)

-- what a driver was given that was given nothing before
appended : (a b : Option (List ℕ)) (bytes text : List ℕ) → a ≡ Some [] → b ≡ Some bytes → Appends a b text → bytes ≡ text
appended None b bytes text none some appends = absurd cc
appended (Some xs) None bytes text none some appends = absurd cc
appended (Some xs) (Some ys) bytes text none some appends =
    let empty : xs ≡ [] = cc in
    let all : ys ≡ bytes = cc in
    sym all ∙ appends ∙ ap (λ (l : List ℕ). l ++ text) empty

given_all : {W : Type 0} (g : Geometry) (contents : W → Option (List ℕ)) (now : Streams) (bytes : List ℕ) → now.orders ≡ Some bytes → TellsAlways contents → HasOrdered g contents now → AreOrders g now.lost bytes
given_all g contents now bytes some always was =
    let passed = all_passed was.attempts was.first now was.live was.told in
    record {
      attempts = was.attempts;
      lawful = was.lawful;
      live = λ on. none_cut was.attempts was.first now was.live was.told on;
      given = (passed.given.0, appended was.first.orders now.orders bytes _ (was.unused always) some passed.given.1);
    }

pub orders_given : {W : Type 0} (g : Geometry) (contents : W → Option (List ℕ)) (now : Streams) (held : Option (List ℕ)) → now.orders ≡ held → TellsAlways contents → ∥ HasOrdered g contents now ∥₁
    → IfSome held (λ bytes. ∥ AreOrders g now.lost bytes ∥₁)
orders_given g contents now None is always was = tt
orders_given g contents now (Some bytes) is always was = ∥∥₁_map was (given_all g contents now bytes is always)
