use Rattle.std.proofs.Common.{◌≡◌, ◌∙◌, [], true, inl, inr, List, ap, sym, subst, map, string_bytes}
use Rattle.std.proofs.lemmas.Result.{err_from_is_err_and}
use Rattle.clap.specs.Words.{App, HasKind, HasMatchesOf, Text, app_of, fault_of, is_simple, is_simple_and_free, subcommand_of, subcommand_rows_of}
use Rattle.clap.specs.declared.builder.command.Command.{Command}
use Rattle.clap.specs.declared.parser.matches.ArgMatches.{ArgMatches}
use Rattle.command_words.specs.Grammar.{uffs}
use Rattle.command_line.specs.Jobs.{SaysJob}
use Rattle.command_line.proofs.Simple.{uffs_free, uffs_simple}
use Rattle.command_line.proofs.words.asked_of.Goals as goal

-- the subcommand that a parse by the program's form found
said_by : (program : Command) (words : List Text) (m : ArgMatches) → app_of program ≡ uffs → HasMatchesOf (app_of program) words m → subcommand_rows_of m ≡ subcommand_of uffs words
said_by program words m is has =
    (has (ap is_simple is ∙ uffs_simple)).1 ∙ ap (λ (a : App). subcommand_of a words) is

pub returns-in_err-matches-clause-refused : goal.returns-in_err-matches-clause-refused
returns-in_err-matches-clause-refused c =
    let free : is_simple_and_free (app_of c.args.program.now) ≡ true = ap is_simple_and_free c.requires.form ∙ uffs_free in
    let p = err_from_is_err_and c.from_residual.result c.from_residual.ensures.1 in
    rw (p.1, p.2) (inl (subst (λ (a : App). HasKind (fault_of a (map string_bytes c.args.words.now)) c.in_err-matches.field-0.0) c.requires.form (c.in_err-matches.ensures.kinds free)))

pub returns-in-Some-clause-lawful : goal.returns-in-Some-clause-lawful
returns-in-Some-clause-lawful c =
    let free : is_simple_and_free (app_of c.args.program.now) ≡ true = ap is_simple_and_free c.requires.form ∙ uffs_free in
    subst (λ (a : App). fault_of a (map string_bytes c.args.words.now) ≡ []) c.requires.form (c.in_ok-matches.ensures.kinds free)

pub returns-in-Some-clause-given : goal.returns-in-Some-clause-given
returns-in-Some-clause-given c =
    let read = said_by c.args.program.now (map string_bytes c.args.words.now) c.in_ok-matches.matches c.requires.form c.in_ok-matches.ensures.ok.2 in
    subst (λ o. SaysJob o c.in-Some.job) read c.in-Some.ensures.some

pub returns-clause-refused : goal.returns-clause-refused
returns-clause-refused c =
    let read = said_by c.args.program.now (map string_bytes c.args.words.now) c.in_ok-matches.matches c.requires.form c.in_ok-matches.ensures.ok.2 in
    inr (λ job asks. c.in-None.ensures.none job (subst (λ o. SaysJob o job) (sym read) asks))
