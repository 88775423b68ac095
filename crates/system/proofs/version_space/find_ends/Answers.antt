use Rattle.std.proofs.lemmas.Result.{err_from_is_err_and}
use Rattle.working_state.specs.Moments.{moment}
use Rattle.mounting.specs.Records.{working_roots}
use Rattle.system.proofs.VersionSpaces.{asks_both, asks_one, both_looked, cause_later, ends_are, fit_are, mounted_between}
use Rattle.system.proofs.version_space.find_ends.Goals as goal

pub find_firsts-requires : goal.find_firsts-requires
find_firsts-requires g c =
    let d = g.F.Flash.device c.args.flash.now in
    let e = g.F.Flash.device c.find_lasts.new.flash in
    mounted_between d e e c.args.state.now c.find_lasts.new.state c.find_lasts.new.state c.requires c.find_lasts.ensures.looked

pub returns-in_err-lasts-clause-asks : goal.returns-in_err-lasts-clause-asks
returns-in_err-lasts-clause-asks g c = asks_one (g.F.Flash.device c.args.flash.now) (g.F.Flash.device c.find_lasts.new.flash) (working_roots c.args.state.now) c.find_lasts.ensures.asks

pub returns-in_err-firsts-clause-looked : goal.returns-in_err-firsts-clause-looked
returns-in_err-firsts-clause-looked g c =
    both_looked (g.F.Flash.device c.args.flash.now) (g.F.Flash.device c.find_lasts.new.flash) (g.F.Flash.device c.find_firsts.new.flash) c.args.state.now c.find_lasts.new.state c.find_firsts.new.state c.requires
    c.find_lasts.ensures.looked c.find_firsts.ensures.looked

pub returns-in_err-firsts-clause-why : goal.returns-in_err-firsts-clause-why
returns-in_err-firsts-clause-why g c =
    let p = err_from_is_err_and c.from_residual-in_err-firsts.result c.from_residual-in_err-firsts.ensures.1 in
    rw (p.1, p.2)
    (cause_later (moment (g.F.Flash.device c.args.flash.now) c.args.state.now) (moment (g.F.Flash.device c.find_lasts.new.flash) c.find_lasts.new.state) (moment (g.F.Flash.device c.find_firsts.new.flash) c.find_firsts.new.state)
    c.in_err-firsts.field-0.0 c.find_lasts.ensures.looked c.in_err-firsts.ensures.why)

pub returns-in_err-firsts-clause-asks : goal.returns-in_err-firsts-clause-asks
returns-in_err-firsts-clause-asks g c =
    asks_both (g.F.Flash.device c.args.flash.now) (g.F.Flash.device c.find_lasts.new.flash) (g.F.Flash.device c.find_firsts.new.flash) c.args.state.now c.find_lasts.new.state c.find_firsts.new.state c.requires
    c.find_lasts.ensures.looked c.find_firsts.ensures.looked c.find_lasts.ensures.asks c.find_firsts.ensures.asks

pub returns-clause-fit : goal.returns-clause-fit
returns-clause-fit g c =
    fit_are (g.F.Flash.device c.args.flash.now) (g.F.Flash.device c.find_lasts.new.flash) (g.F.Flash.device c.find_firsts.new.flash) c.args.state.now c.find_lasts.new.state c.find_firsts.new.state c.requires
    c.find_lasts.ensures.looked c.find_firsts.ensures.looked _ c.in_ok-lasts.ensures.sized c.in_ok-firsts.ensures.sized c.count_roots.ensures

pub returns-clause-ends : goal.returns-clause-ends
returns-clause-ends g c =
    ends_are (g.F.Flash.device c.args.flash.now) (g.F.Flash.device c.find_lasts.new.flash) (g.F.Flash.device c.find_firsts.new.flash) c.args.state.now c.find_lasts.new.state c.find_firsts.new.state c.requires
    c.find_lasts.ensures.looked c.find_firsts.ensures.looked _ c.in_ok-lasts.ensures.lasts c.in_ok-firsts.ensures.firsts

pub returns-clause-looked : goal.returns-clause-looked
returns-clause-looked g c =
    both_looked (g.F.Flash.device c.args.flash.now) (g.F.Flash.device c.find_lasts.new.flash) (g.F.Flash.device c.find_firsts.new.flash) c.args.state.now c.find_lasts.new.state c.find_firsts.new.state c.requires
    c.find_lasts.ensures.looked c.find_firsts.ensures.looked

pub returns-clause-asks : goal.returns-clause-asks
returns-clause-asks g c =
    asks_both (g.F.Flash.device c.args.flash.now) (g.F.Flash.device c.find_lasts.new.flash) (g.F.Flash.device c.find_firsts.new.flash) c.args.state.now c.find_lasts.new.state c.find_firsts.new.state c.requires
    c.find_lasts.ensures.looked c.find_firsts.ensures.looked c.find_lasts.ensures.asks c.find_firsts.ensures.asks
