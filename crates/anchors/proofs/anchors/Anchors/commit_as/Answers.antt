use Rattle.std.proofs.Common.{◌≢◌, Err, refl, ap, ◌∙◌}
use Rattle.std.proofs.lemmas.Result.{err_from_is_err_and}
use Rattle.fs_types.specs.declared.fault.Fault.TheVariants.{PowerCut}
use Rattle.anchors.proofs.Beginning.{begins_below, begins_within, begins_blank, begins_spares, committed_knows, may_follow}
use Rattle.anchors.proofs.Following.{leaves_too}
use Rattle.anchors.proofs.anchors.Anchors.commit_as.Goals as goal

pub after-requires-clause-start : goal.after-requires-clause-start
after-requires-clause-start g c =
    let d = g.F.Flash.device c.args.commit.now.flash.now in
    let bad = c.args.commit.now.bad.now in
    let suits = c.requires.ready.suits in
    let geometry = c.args.commit.now.saved.now.geometry in
    record {
      blank = record {
        below = begins_below d geometry bad c.args.self.now c.start-home.result.0 c.start-home.result.1 suits.same suits.lawful c.requires.may c.start-home.ensures.begins;
        within = begins_within d geometry bad c.args.self.now c.start-home.result.0 c.start-home.result.1 suits.same suits.lawful c.requires.may c.start-home.ensures.begins;
        blank = begins_blank d geometry bad c.args.self.now c.start-home.result.0 c.start-home.result.1 suits.same suits.lawful c.requires.may c.start-home.ensures.begins;
      };
      spares = begins_spares d geometry bad c.args.self.now c.start-home.result.0 c.start-home.result.1 suits.same suits.lawful c.requires.may c.start-home.ensures.begins;
    }

pub returns-in_err-found-clause-leaves : goal.returns-in_err-found-clause-leaves
returns-in_err-found-clause-leaves g c =
    let p = err_from_is_err_and c.from_residual.result c.from_residual.ensures.1 in
    rw (p.1, p.2) (leaves_too (g.F.Flash.device c.args.commit.now.flash.now) c.args.commit.now.bad.now (g.F.Flash.device c.after.new.self.flash.now) c.after.new.self.bad.now c.args.commit.now.saved.now c.args.commit.now.sequence c.in_err-found.field-0.0
    c.in_err-found.ensures.leaves)

pub returns-in_err-found-clause-ready : goal.returns-in_err-found-clause-ready
returns-in_err-found-clause-ready g c = λ on.
    let p = err_from_is_err_and c.from_residual.result c.from_residual.ensures.1 in
    let refused = c.in_err-found.ensures.leaves in
    let powered : c.in_err-found.field-0.0 ≢ PowerCut = λ e. on (p.1 ∙ ap (λ f. Err f) (p.2 ∙ e)) in
    may_follow (g.F.Flash.device c.args.commit.now.flash.now) (g.F.Flash.device c.after.new.self.flash.now) c.args.commit.now.bad.now c.after.new.self.bad.now c.args.self.now c.args.commit.now.saved.now c.args.commit.now.sequence c.in_err-found.field-0.0
    c.requires.ready.suits.same refused.only_anchors powered refused.commits (refused.in_vain.untouched powered) c.requires.may

pub returns-in_err-found-clause-remembers : goal.returns-in_err-found-clause-remembers
returns-in_err-found-clause-remembers g c = rw (err_from_is_err_and c.from_residual.result c.from_residual.ensures.1).1 refl

pub returns-clause-ready : goal.returns-clause-ready
returns-clause-ready g c = λ on.
    let leaves = c.in_ok-found.ensures.leaves in
    let stands = c.in_ok-found.ensures.stands in
    committed_knows (g.F.Flash.device c.args.commit.now.flash.now) (g.F.Flash.device c.after.new.self.flash.now) c.args.commit.now.bad.now c.after.new.self.bad.now c.args.self.now c.args.commit.now.saved.now
    c.start-home.result.0 c.start-home.result.1 c.in_ok-found.found c.requires.ready.suits.same leaves.only_anchors.geometry leaves.only_anchors.stays_bad c.requires.may c.start-home.ensures.begins stands.others
    c.kept_if-self.result c.kept_if-self.ensures stands.stands
