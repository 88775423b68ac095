use Rattle.std.proofs.Common.{Ok, Err, refl, sym, ap, ◌∙◌}
use Rattle.std.proofs.lemmas.Result.{err_from_is_err_and}
use Rattle.system.specs.declared.systems.System.{System}
use Rattle.system.proofs.Prepared.{both_undisturbed, done_step, refused_step}
use Rattle.system.proofs.systems.System.prepare_on.Goals as goal

pub returns : goal.returns
returns g c =
    let d = g.F.Flash.device c.args.flash.now in
    let e = g.F.Flash.device c.prepare_anchor.new.flash in
    let f = g.F.Flash.device c.prepare_next_blocks.new.flash in
    let m = c.args.self.now in
    let between = c.prepare_anchor.new.self in
    let n = c.prepare_next_blocks.new.self in
    let anchor = c.in_ok-left.ensures in
    let blocks = c.prepare_next_blocks.ensures in
    let writable = sym c.is_read_only.ensures ∙ c.if-is_read_only.false in
    record {
      system = blocks.system;
      is_on = blocks.is_on;
      undisturbed = both_undisturbed d e m between c.args.budget (Ok c.in_ok-left.left) c.requires.system anchor.prepares f n anchor.undisturbed blocks.undisturbed;
      cleaned_to = blocks.cleaned_to ∙ ap (λ (x : System). x.cleaned_to) anchor.prepares.rest;
      prepares = done_step d e m between c.args.budget (Ok c.in_ok-left.left) c.requires.system anchor.prepares c.in_ok-left.left refl f n c.prepare_next_blocks.result blocks.prepares writable;
    }

pub returns-in_err-left-clause-prepares : goal.returns-in_err-left-clause-prepares
returns-in_err-left-clause-prepares g c =
    let p = err_from_is_err_and c.from_residual.result c.from_residual.ensures.1 in
    let fault = c.in_err-left.field-0.0 in
    rw (p.1, p.2) (refused_step (g.F.Flash.device c.args.flash.now) (g.F.Flash.device c.prepare_anchor.new.flash) c.args.self.now c.prepare_anchor.new.self c.args.budget (Err fault) c.requires.system c.in_err-left.ensures.prepares fault refl
    (sym c.is_read_only.ensures ∙ c.if-is_read_only.false))
