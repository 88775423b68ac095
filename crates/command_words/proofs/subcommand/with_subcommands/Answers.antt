use Rattle.std.proofs.Common.{◌∙◌}
use Rattle.clap.specs.Words.{app_of}
use Rattle.command_words.proofs.TableLemmas.{subcommand_added, subcommands_end}
use Rattle.command_words.proofs.subcommand.with_subcommands.Goals as goal

pub loop-subcommand-preserved : goal.loop-subcommand-preserved
loop-subcommand-preserved c = subcommand_added (app_of c.loop-subcommand.more) (app_of c.in_ok-more.more) c.args.subcommands.now c.loop-subcommand.subcommand-index _ (app_of c.in_ok-command_of.field-0) c.loop-subcommand-test.true
    (c.in_ok-more.ensures.shape c.in_ok-command_of.ensures.local) c.in_ok-command_of.ensures.app ∙ c.loop-subcommand.invariant

pub returns : goal.returns
returns c = subcommands_end (app_of c.loop-subcommand.more) c.args.subcommands.now c.loop-subcommand.subcommand-index c.loop-subcommand-test.false ∙ c.loop-subcommand.invariant
