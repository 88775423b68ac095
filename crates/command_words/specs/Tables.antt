-- The words of the program by tables of its subcommands and of their arguments.
use Rattle.std.specs.Prelude.{List, [], ◌∷◌, Some, false}
use Rattle.clap.specs.Words.{App, Rule, new_app, new_rule, with_rule, with_subcommand}
use Rattle.clap.specs.declared.builder.action.ArgAction.{ArgAction}
use Rattle.command_words.specs.Grammar.{count_rule, flag_rule, number_rule, optional_rule, shown_rule, word_rule}
use Rattle.command_words.specs.declared.argument.Argument.{Argument}
use Rattle.command_words.specs.declared.subcommand.Subcommand.{Subcommand}

-- an argument, as it is read
abbrev pub rule_asked : Argument → Rule
rule_asked (Argument.Word name help) = word_rule name.now
rule_asked (Argument.ShownWord name shown help) = shown_rule name.now
rule_asked (Argument.OptionalWord name help) = optional_rule name.now
rule_asked (Argument.NumberOption name shown help) = number_rule name.now
rule_asked (Argument.FileOption name long help) = record (new_rule name.now) { long = Some long.now; value_names = 1; action = Some ArgAction.Set }
rule_asked (Argument.Flag name help) = flag_rule name.now
rule_asked (Argument.Count help) = count_rule false

-- a command with the arguments more
abbrev pub with_arguments : App → List Argument → App
with_arguments app [] = app
with_arguments app (argument ∷ more) = with_arguments (with_rule app (rule_asked argument)) more

-- a subcommand with its arguments
abbrev pub app_asked : Subcommand → App
app_asked subcommand = with_arguments (new_app subcommand.name.now) subcommand.arguments.now

-- a program with the subcommands more
abbrev pub with_subcommands : App → List Subcommand → App
with_subcommands app [] = app
with_subcommands app (subcommand ∷ more) = with_subcommands (with_subcommand app (app_asked subcommand).top) more
