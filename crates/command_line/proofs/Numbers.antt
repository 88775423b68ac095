-- What an option's number is, by the text of its word.
use Rattle.std.proofs.Common.{◌≡◌, ◌<◌, ◌^◌, ◌∙◌, ℕ, Option, Some, None, Result, Ok, Err, refl, sym, subst}
use Rattle.std.specs.Str.Parse.{ParsesUnsigned}
use Rattle.clap.specs.Words.{Text, TriesOne}
use Rattle.command_line.specs.Jobs.{IsNumberOf, Spells}

-- the number that was read is the one that the word spells
spelled : (E : Type 0) (t : Text) (n : ℕ) → ParsesUnsigned {E = E} 32 10 t (Ok n) → Spells t n
spelled E t n p = (p.0.0, sym p.1, subst (λ m. m < 2 ^ 32) (sym p.1) p.0.1)

module _ {E : Type 0} (G : Text → Result ℕ E → Type 0) (parses : (t : Text) (r : Result ℕ E) → G t r → ParsesUnsigned 32 10 t r) where
  -- a number was read
  pub number_read : (o : Option Text) (default n : ℕ) (r : Result (Option ℕ) E) → r ≡ Ok (Some n) → (o ≡ None → r ≡ Ok None) → ((t : Text) → o ≡ Some t → TriesOne G t r)
      → IsNumberOf o default n
  number_read None default n r is none value =
      let e : Ok (Some n) ≡ Ok None = sym is ∙ none refl in absurd cc
  number_read (Some t) default n r is none value =
      let gives : TriesOne G t (Ok (Some n)) = subst (TriesOne G t) is (value t refl) in
      spelled E t n (parses t (Ok n) gives)

  -- there is no word
  pub default_read : (o : Option Text) (default : ℕ) (r : Result (Option ℕ) E) → r ≡ Ok None → ((t : Text) → o ≡ Some t → TriesOne G t r) → IsNumberOf o default default
  default_read None default r is value = refl
  default_read (Some t) default r is value =
      let gives : TriesOne G t (Ok None) = subst (TriesOne G t) is (value t refl) in absurd gives

  -- the word spells no number
  pub none_read : (o : Option Text) (default : ℕ) (r : Result (Option ℕ) E) (e : E) → r ≡ Err e → (o ≡ None → r ≡ Ok None) → ((t : Text) → o ≡ Some t → TriesOne G t r)
      → (n : ℕ) → IsNumberOf o default n → ⊥
  none_read None default r e is none value n spells =
      let bad : Err e ≡ Ok None = sym is ∙ none refl in absurd cc
  none_read (Some t) default r e is none value n spells =
      let gives : TriesOne G t (Err e) = subst (TriesOne G t) is (value t refl) in
      parses t (Err e) gives (spells.0, subst (λ m. m < 2 ^ 32) (sym spells.1) spells.2)
