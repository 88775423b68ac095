use Rattle.std.proofs.Common.{ℕ, true, false, Option, Some, None, Ok, Err, refl, ap, subst, ◌∙◌}
use Rattle.std.proofs.lemmas.Result.{err_from_is_err_and}
use Rattle.std.specs.Prelude.{max}
use Rattle.fs_types.specs.declared.limits.TheConstants.{ANCHORS}
use Rattle.system.specs.CleaningRounds.{CleansBlocks}
use Rattle.system.proofs.Cleaned.{round_cleans, round_leaves, round_system, round_undisturbed}
use Rattle.system.proofs.systems.System.clean_on.Goals as goal

pub returns-in_err-next-clause-system : goal.returns-in_err-next-clause-system
returns-in_err-next-clause-system g c =
    round_system (g.F.Flash.device c.args.flash.now) (g.F.Flash.device c.clean_blocks.new.flash) c.args.self.now c.clean_blocks.new.storage c.args.budget (Err c.in_err-next.field-0.0) c.requires.system c.requires.is_on
    c.in_err-next.ensures 0

pub returns-in_err-next-clause-undisturbed : goal.returns-in_err-next-clause-undisturbed
returns-in_err-next-clause-undisturbed g c =
    round_undisturbed (g.F.Flash.device c.args.flash.now) (g.F.Flash.device c.clean_blocks.new.flash) c.args.self.now c.clean_blocks.new.storage c.args.budget (Err c.in_err-next.field-0.0) c.requires.system c.requires.is_on
    c.in_err-next.ensures 0

pub returns-in_err-next-clause-anchors : goal.returns-in_err-next-clause-anchors
returns-in_err-next-clause-anchors g c =
    round_leaves (g.F.Flash.device c.args.flash.now) (g.F.Flash.device c.clean_blocks.new.flash) c.args.self.now c.clean_blocks.new.storage c.args.budget (Err c.in_err-next.field-0.0) c.requires.system c.requires.is_on
    c.in_err-next.ensures 0

pub returns-in_err-next-clause-cleans : goal.returns-in_err-next-clause-cleans
returns-in_err-next-clause-cleans g c =
    let p = err_from_is_err_and c.from_residual.result c.from_residual.ensures.1 in
    round_cleans (g.F.Flash.device c.args.flash.now) (g.F.Flash.device c.clean_blocks.new.flash) c.args.self.now c.clean_blocks.new.storage c.args.budget (Err c.in_err-next.field-0.0) c.requires.system c.requires.is_on
    c.in_err-next.ensures 0 c.from_residual.result c.is_read_only.result c.if-is_read_only.false c.is_read_only.ensures (p.1 ∙ ap Err p.2, refl)

pub returns-in-Some-clause-system : goal.returns-in-Some-clause-system
returns-in-Some-clause-system g c =
    let d = g.F.Flash.device c.args.flash.now in
    let e = g.F.Flash.device c.clean_blocks.new.flash in
    let m = c.args.self.now in
    let t = c.clean_blocks.new.storage in
    let cleans = subst (λ (o : Option ℕ). CleansBlocks d m.state.storage (max m.cleaned_to ANCHORS) c.args.budget (Ok o) e t) c.in-Some.is c.in_ok-next.ensures in
    round_system d e m t c.args.budget (Ok (Some c.in-Some.next)) c.requires.system c.requires.is_on cleans c.in-Some.next

pub returns-in-Some-clause-undisturbed : goal.returns-in-Some-clause-undisturbed
returns-in-Some-clause-undisturbed g c =
    let d = g.F.Flash.device c.args.flash.now in
    let e = g.F.Flash.device c.clean_blocks.new.flash in
    let m = c.args.self.now in
    let t = c.clean_blocks.new.storage in
    let cleans = subst (λ (o : Option ℕ). CleansBlocks d m.state.storage (max m.cleaned_to ANCHORS) c.args.budget (Ok o) e t) c.in-Some.is c.in_ok-next.ensures in
    round_undisturbed d e m t c.args.budget (Ok (Some c.in-Some.next)) c.requires.system c.requires.is_on cleans c.in-Some.next

pub returns-in-Some-clause-anchors : goal.returns-in-Some-clause-anchors
returns-in-Some-clause-anchors g c =
    let d = g.F.Flash.device c.args.flash.now in
    let e = g.F.Flash.device c.clean_blocks.new.flash in
    let m = c.args.self.now in
    let t = c.clean_blocks.new.storage in
    let cleans = subst (λ (o : Option ℕ). CleansBlocks d m.state.storage (max m.cleaned_to ANCHORS) c.args.budget (Ok o) e t) c.in-Some.is c.in_ok-next.ensures in
    round_leaves d e m t c.args.budget (Ok (Some c.in-Some.next)) c.requires.system c.requires.is_on cleans c.in-Some.next

pub returns-in-Some-clause-cleans : goal.returns-in-Some-clause-cleans
returns-in-Some-clause-cleans g c =
    let d = g.F.Flash.device c.args.flash.now in
    let e = g.F.Flash.device c.clean_blocks.new.flash in
    let m = c.args.self.now in
    let t = c.clean_blocks.new.storage in
    let cleans = subst (λ (o : Option ℕ). CleansBlocks d m.state.storage (max m.cleaned_to ANCHORS) c.args.budget (Ok o) e t) c.in-Some.is c.in_ok-next.ensures in
    round_cleans d e m t c.args.budget (Ok (Some c.in-Some.next)) c.requires.system c.requires.is_on cleans c.in-Some.next (Ok false) c.is_read_only.result c.if-is_read_only.false c.is_read_only.ensures (refl, refl)

pub returns-in-None-clause-system : goal.returns-in-None-clause-system
returns-in-None-clause-system g c =
    let d = g.F.Flash.device c.args.flash.now in
    let e = g.F.Flash.device c.clean_blocks.new.flash in
    let m = c.args.self.now in
    let t = c.clean_blocks.new.storage in
    let cleans = subst (λ (o : Option ℕ). CleansBlocks d m.state.storage (max m.cleaned_to ANCHORS) c.args.budget (Ok o) e t) c.in-None.is c.in_ok-next.ensures in
    round_system d e m t c.args.budget (Ok None) c.requires.system c.requires.is_on cleans 0

pub returns-in-None-clause-undisturbed : goal.returns-in-None-clause-undisturbed
returns-in-None-clause-undisturbed g c =
    let d = g.F.Flash.device c.args.flash.now in
    let e = g.F.Flash.device c.clean_blocks.new.flash in
    let m = c.args.self.now in
    let t = c.clean_blocks.new.storage in
    let cleans = subst (λ (o : Option ℕ). CleansBlocks d m.state.storage (max m.cleaned_to ANCHORS) c.args.budget (Ok o) e t) c.in-None.is c.in_ok-next.ensures in
    round_undisturbed d e m t c.args.budget (Ok None) c.requires.system c.requires.is_on cleans 0

pub returns-in-None-clause-anchors : goal.returns-in-None-clause-anchors
returns-in-None-clause-anchors g c =
    let d = g.F.Flash.device c.args.flash.now in
    let e = g.F.Flash.device c.clean_blocks.new.flash in
    let m = c.args.self.now in
    let t = c.clean_blocks.new.storage in
    let cleans = subst (λ (o : Option ℕ). CleansBlocks d m.state.storage (max m.cleaned_to ANCHORS) c.args.budget (Ok o) e t) c.in-None.is c.in_ok-next.ensures in
    round_leaves d e m t c.args.budget (Ok None) c.requires.system c.requires.is_on cleans 0

pub returns-in-None-clause-cleans : goal.returns-in-None-clause-cleans
returns-in-None-clause-cleans g c =
    let d = g.F.Flash.device c.args.flash.now in
    let e = g.F.Flash.device c.clean_blocks.new.flash in
    let m = c.args.self.now in
    let t = c.clean_blocks.new.storage in
    let cleans = subst (λ (o : Option ℕ). CleansBlocks d m.state.storage (max m.cleaned_to ANCHORS) c.args.budget (Ok o) e t) c.in-None.is c.in_ok-next.ensures in
    round_cleans d e m t c.args.budget (Ok None) c.requires.system c.requires.is_on cleans 0 (Ok true) c.is_read_only.result c.if-is_read_only.false c.is_read_only.ensures (refl, refl)
