use Rattle.std.proofs.Common.{◌≡◌, ◌∙◌, Option, Some, None, List, ℕ, is_some, true, refl, sym, subst, ap, codes, option_map, true≢false}
use Rattle.clap.specs.Words.{found_of, rows_of}
use Rattle.clap.specs.Walk.{first_of}
use Rattle.clap.proofs.WalkLemmas.{first_value-rows}
use Rattle.command_line.proofs.words.image.Goals as goal

pub returns-in-Some-clause-some : goal.returns-in-Some-clause-some
returns-in-Some-clause-some c =
    let read : Some c.in-Some.path.now ≡ first_of (codes "IMAGE") (rows_of (found_of c.args.given.now)) =
    sym (ap (option_map (λ s. s.now)) c.in-Some.is) ∙ c.get_str.ensures ∙ first_value-rows (found_of c.args.given.now) (codes "IMAGE") in
    record { none = λ e. absurd (true≢false (sym e ∙ sym c.has_no_image.ensures ∙ c.if-has_no_image.false)); others = λ n. (refl, read) }

pub returns-in-None-clause-none : goal.returns-in-None-clause-none
returns-in-None-clause-none c =
    let read : None ≡ first_of (codes "IMAGE") (rows_of (found_of c.args.given.now)) =
    sym (ap (option_map (λ s. s.now)) c.in-None.is) ∙ c.get_str.ensures ∙ first_value-rows (found_of c.args.given.now) (codes "IMAGE") in
    λ image is.
    let p = is.others (sym c.has_no_image.ensures ∙ c.if-has_no_image.false) in
    true≢false (sym (subst (λ (o : Option (List ℕ)). is_some o ≡ true) (p.1 ∙ sym read) p.0))
