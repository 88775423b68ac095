use Rattle.std.proofs.Common.{length, sym, ◌∙◌}
use Rattle.std.proofs.lemmas.Bool.{true≢false}
use Rattle.std.proofs.lemmas.Result.{IfOk-weaker, IfErr-weaker}
use Rattle.working_state.specs.Moments.{Moment, moment, seen_at}
use Rattle.working_state.proofs.FileChanges.{looked_itself}
use Rattle.working_state.proofs.WholeFiles.{other_changes, found_whole, same_changes, body_cause}
use Rattle.working_state.proofs.Standing.{looked_at}
use Rattle.working_state.proofs.state.State.has_bytes.Goals as goal

pub returns-then-not-is_as_long-clause-looked : goal.returns-then-not-is_as_long-clause-looked
returns-then-not-is_as_long-clause-looked g c = looked_itself (moment (g.F.Flash.device c.args.flash.now) c.args.self.now)

pub returns-then-not-is_as_long-clause-same : goal.returns-then-not-is_as_long-clause-same
returns-then-not-is_as_long-clause-same g c =
    other_changes (moment (g.F.Flash.device c.args.flash.now) c.args.self.now) c.args.root c.args.path.now c.args.bytes.now c.args.found c.requires.mounted c.requires.working c.requires.found c.requires.takes (sym c.if-not-is_as_long.ensures)

pub is_same-requires-clause-whole : goal.is_same-requires-clause-whole
is_same-requires-clause-whole g c =
    found_whole (moment (g.F.Flash.device c.args.flash.now) c.args.self.now) c.args.root c.args.path.now (length c.args.bytes.now) c.args.found c.requires.mounted c.requires.working c.requires.found (sym c.if-not-is_as_long.ensures)

pub returns-clause-looked : goal.returns-clause-looked
returns-clause-looked g c = looked_at (moment (g.F.Flash.device c.args.flash.now) c.args.self.now) (g.F.Flash.device c.is_same.new.flash) c.is_same.new.storage c.is_same.ensures.looked

pub returns-clause-same : goal.returns-clause-same
returns-clause-same g c =
    IfOk-weaker c.is_same.result _ _
    (λ same compared. same_changes (moment (g.F.Flash.device c.args.flash.now) c.args.self.now) c.args.root c.args.path.now c.args.bytes.now c.args.found same c.requires.mounted c.requires.working c.requires.found (sym c.if-not-is_as_long.ensures) compared)
    c.is_same.ensures.same

pub returns-clause-why : goal.returns-clause-why
returns-clause-why g c =
    let a : Moment = moment (g.F.Flash.device c.args.flash.now) c.args.self.now in
    let d : Moment = moment (g.F.Flash.device c.is_same.new.flash) (record c.args.self.now { storage = c.is_same.new.storage }) in
    IfErr-weaker c.is_same.result _ _ (λ fault refused. body_cause (seen_at a) (seen_at d) fault refused.0 refused.1) c.is_same.ensures.refused

pub returns-clause-unread : goal.returns-clause-unread
returns-clause-unread g c short = absurd (true≢false (c.if-not-is_as_long.ensures ∙ short))
