use Rattle.std.proofs.Common.{[], sym, subst, ◌∙◌}
use Rattle.std.proofs.lemmas.Bool.{true≢false}
use Rattle.std.proofs.lemmas.Result.{IfOk-weaker, IfErr-weaker}
use Rattle.flash_model.specs.Reading.{OnlyReads_on}
use Rattle.salvages.proofs.Costs.{asks_once, asks_each}
use Rattle.salvages.proofs.Looking.{later_cause}
use Rattle.salvages.proofs.LostRoots.{all_whole}
use Rattle.salvages.proofs.Saving.{lost_back}
use Rattle.salvages.proofs.looks.find_lost.Goals as goal

pub returns-in_err-whole-clause-asks : goal.returns-in_err-whole-clause-asks
returns-in_err-whole-clause-asks g c = asks_once c.args.plain (g.F.Flash.device c.args.flash.now) (g.F.Flash.device c.are_whole.new.flash) c.args.roots.now c.are_whole.ensures.asks

pub returns-then-whole-clause-asks : goal.returns-then-whole-clause-asks
returns-then-whole-clause-asks g c = asks_once c.args.plain (g.F.Flash.device c.args.flash.now) (g.F.Flash.device c.are_whole.new.flash) c.args.roots.now c.are_whole.ensures.asks

pub returns-then-whole-clause-lost : goal.returns-then-whole-clause-lost
returns-then-whole-clause-lost g c =
    all_whole c.args.plain (g.F.Flash.device c.args.flash.now) c.args.roots.now _ (c.in_ok-whole.ensures.whole.0 c.if-whole.true) c.new.ensures.items

pub returns-clause-lost : goal.returns-clause-lost
returns-clause-lost g c =
    IfOk-weaker c.look_at_each.result _ _ (λ lost are. lost_back c.args.plain (g.F.Flash.device c.args.flash.now) (g.F.Flash.device c.are_whole.new.flash) c.args.roots.now lost.items c.requires c.are_whole.ensures.only_reads are)
    c.look_at_each.ensures.lost

pub returns-clause-asks : goal.returns-clause-asks
returns-clause-asks g c =
    asks_each c.args.plain (g.F.Flash.device c.args.flash.now) (g.F.Flash.device c.are_whole.new.flash) (g.F.Flash.device c.look_at_each.new.flash) c.args.roots.now c.requires c.are_whole.ensures.only_reads
    c.are_whole.ensures.asks (λ whole. true≢false (sym (c.in_ok-whole.ensures.whole.1 whole) ∙ c.if-whole.false)) c.look_at_each.ensures.asks

pub returns-clause-why : goal.returns-clause-why
returns-clause-why g c =
    IfErr-weaker c.look_at_each.result _ _ (λ fault why. later_cause (g.F.Flash.device c.args.flash.now) (g.F.Flash.device c.are_whole.new.flash) (g.F.Flash.device c.look_at_each.new.flash) fault c.are_whole.ensures.only_reads why)
    c.look_at_each.ensures.why
