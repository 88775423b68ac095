-- Tables, row by row.
use Rattle.std.proofs.Common.{◌≡◌, ◌∙◌, ◌||◌, ℕ, ◌+◌, ◌<◌, ◌≤◌, Bool, true, false, List, [], length, drop, get_or, refl, sym, ap, add-one, arith}
use Rattle.std.proofs.lemmas.Grind.{common_steps}
use Rattle.std.proofs.Math.Seq.{drop-cons}
use Rattle.clap.specs.Words.{App, Rule, Shape, with_rule, with_subcommand}
use Rattle.command_words.specs.Tables.{app_asked, rule_asked, with_arguments, with_subcommands}
use Rattle.command_words.specs.declared.argument.Argument.{Argument}
use Rattle.command_words.specs.declared.subcommand.Subcommand.{Subcommand}

arguments_at : (app : App) (xs : List Argument) (i : ℕ) (d : Argument) → i < length xs
    → with_arguments app (drop i xs) ≡ with_arguments (with_rule app (rule_asked (get_or xs i d))) (drop (i + 1) xs)
arguments_at app xs i d l = rw (add-one, drop-cons xs i d)

-- the argument at a place was added
pub argument_added : (old new : App) (xs : List Argument) (i : ℕ) (d : Argument) (rule : Rule) → i < length xs → new ≡ with_rule old rule → rule ≡ rule_asked (get_or xs i d)
    → with_arguments new (drop (i + 1) xs) ≡ with_arguments old (drop i xs)
argument_added old new xs i d rule l added is =
    ap (λ app. with_arguments app (drop (i + 1) xs)) (added ∙ ap (with_rule old) is) ∙ sym (arguments_at old xs i d l)

-- no argument is left
pub arguments_end : (app : App) (xs : List Argument) (i : ℕ) → length xs ≤ i → app ≡ with_arguments app (drop i xs)
arguments_end app xs i past =
    let nothing : drop i xs ≡ [] = grind (arith, common_steps) in
    ap (with_arguments app) (sym nothing)

subcommands_at : (app : App) (xs : List Subcommand) (i : ℕ) (d : Subcommand) → i < length xs
    → with_subcommands app (drop i xs) ≡ with_subcommands (with_subcommand app (app_asked (get_or xs i d)).top) (drop (i + 1) xs)
subcommands_at app xs i d l = rw (add-one, drop-cons xs i d)

-- the subcommand at a place was added
pub subcommand_added : (old new : App) (xs : List Subcommand) (i : ℕ) (d : Subcommand) (sub : App) → i < length xs → new ≡ with_subcommand old sub.top → sub ≡ app_asked (get_or xs i d)
    → with_subcommands new (drop (i + 1) xs) ≡ with_subcommands old (drop i xs)
subcommand_added old new xs i d sub l added is =
    ap (λ app. with_subcommands app (drop (i + 1) xs)) (added ∙ ap (λ (a : App). with_subcommand old a.top) is) ∙ sym (subcommands_at old xs i d l)

-- no subcommand is left
pub subcommands_end : (app : App) (xs : List Subcommand) (i : ℕ) → length xs ≤ i → app ≡ with_subcommands app (drop i xs)
subcommands_end app xs i past =
    let nothing : drop i xs ≡ [] = grind (arith, common_steps) in
    ap (with_subcommands app) (sym nothing)

-- what is added to a command is not global
pub or_false : (a b : Bool) → b ≡ false → (a || b) ≡ a
or_false false b is = is
or_false true b is = refl
