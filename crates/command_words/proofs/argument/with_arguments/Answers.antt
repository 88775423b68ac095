use Rattle.std.proofs.Common.{◌∙◌}
use Rattle.clap.specs.Words.{app_of, rule_of}
use Rattle.clap.specs.declared.builder.command.Command.TheViews.{out-Command}
use Rattle.command_words.proofs.TableLemmas.{argument_added, arguments_end, or_false}
use Rattle.command_words.proofs.argument.with_arguments.Goals as goal

pub loop-argument-preserved : goal.loop-argument-preserved
loop-argument-preserved c = record {
  app = argument_added (app_of c.loop-argument.more) (app_of c.in_ok-more.more) c.args.arguments.now c.loop-argument.argument-index _ (rule_of c.arg_of.result) c.loop-argument-test.true
      (c.in_ok-more.ensures.shape c.arg_of.ensures.local) c.arg_of.ensures.rule ∙ c.loop-argument.invariant.app;
  local = c.in_ok-more.ensures.globals ∙ or_false (out-Command c.loop-argument.more).has_globals c.arg_of.result.global c.arg_of.ensures.local ∙ c.loop-argument.invariant.local;
}

pub returns-clause-app : goal.returns-clause-app
returns-clause-app c = arguments_end (app_of c.loop-argument.more) c.args.arguments.now c.loop-argument.argument-index c.loop-argument-test.false ∙ c.loop-argument.invariant.app
