use Rattle.std.proofs.Common.{◌≡◌, ◌∙◌, Bool, ap, false}
use Rattle.std.proofs.lemmas.Result.{IfOk-weaker}
use Rattle.clap.specs.Words.{App, app_of, new_app}
use Rattle.clap.specs.Simple.{app_of_fields}
use Rattle.clap.specs.declared.builder.command.Command.{Command}
use Rattle.clap.specs.declared.builder.command.Command.TheOpen.{Command-F}
use Rattle.clap.specs.declared.builder.command.Command.TheViews.{out-Command}
use Rattle.command_words.specs.Tables.{with_arguments}
use Rattle.command_words.proofs.subcommand.command_of.Goals as goal

pub returns-clause-app : goal.returns-clause-app
returns-clause-app c =
    let bare : app_of c.after_help-command.result ≡ new_app c.args.subcommand.name.now = ap app_of_fields c.after_help-command.ensures ∙ ap app_of_fields c.about.ensures ∙ c.new.ensures.app in
    IfOk-weaker c.with_arguments.result _ _ (λ command is. is ∙ ap (λ app. with_arguments app c.args.subcommand.arguments.now) bare) c.with_arguments.ensures.app

pub returns-clause-local : goal.returns-clause-local
returns-clause-local c =
    let has_globals : Command-F Command → Bool = λ f. f.has_globals in
    let bare : (out-Command c.after_help-command.result).has_globals ≡ false = ap has_globals c.after_help-command.ensures ∙ ap has_globals c.about.ensures ∙ c.new.ensures.local in
    IfOk-weaker c.with_arguments.result _ _ (λ command is. is ∙ bare) c.with_arguments.ensures.local
