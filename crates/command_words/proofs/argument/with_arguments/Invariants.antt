use Rattle.std.proofs.Common.{◌≡◌, drop}
use Rattle.clap.specs.Words.{app_of}
use Rattle.clap.specs.declared.builder.command.Command.TheViews.{out-Command}
use Rattle.command_words.specs.Tables.{with_arguments}
use Rattle.command_words.proofs.argument.with_arguments.Given as goal

abbrev pub invariant-loop-argument : goal.invariant-loop-argument
invariant-loop-argument l = record {
  app : with_arguments (app_of l.more) (drop l.argument-index l.arguments) ≡ with_arguments (app_of l.fn.command) l.arguments;
  local : (out-Command l.more).has_globals ≡ (out-Command l.fn.command).has_globals;
}
