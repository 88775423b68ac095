use Rattle.std.proofs.Common.{Bool, true, false, cond, Some, Result, Ok, Err, refl, sym, ap, ◌∙◌, inl}
use Rattle.std.proofs.lemmas.Result.{err_from_is_err_and}
use Rattle.fs_types.specs.declared.fault.Fault.{Fault}
use Rattle.fs_types.specs.declared.fault.Fault.TheVariants.{ReadOnly}
use Rattle.anchors.proofs.Preparing.{erased_ahead, knows_then}
use Rattle.anchors.proofs.anchors.Anchors.erase_ahead.Goals as goal

pub returns-in_err-erase_anchor-clause-ahead : goal.returns-in_err-erase_anchor-clause-ahead
returns-in_err-erase_anchor-clause-ahead g c =
    let p = err_from_is_err_and c.from_residual.result c.from_residual.ensures.1 in
    let fault = c.in_err-erase_anchor.field-0.0 in
    rw (p.1, p.2) (erased_ahead (g.F.Flash.device c.args.flash.now) (g.F.Flash.device c.erase_anchor.new.flash) c.args.bad.now c.erase_anchor.new.bad c.args.self.now c.args.anchor c.requires.lawful c.requires.ready c.requires.wanted
    (Err fault) c.in_err-erase_anchor.ensures c.args.self.now refl (Err fault) refl)

pub returns-in_err-erase_anchor-clause-ready : goal.returns-in_err-erase_anchor-clause-ready
returns-in_err-erase_anchor-clause-ready g c =
    inl (knows_then (g.F.Flash.device c.args.flash.now) (g.F.Flash.device c.erase_anchor.new.flash) c.args.bad.now c.erase_anchor.new.bad c.args.self.now c.args.anchor c.requires.lawful c.requires.ready c.requires.wanted
    (Err c.in_err-erase_anchor.field-0.0) c.in_err-erase_anchor.ensures c.args.self.now refl)

pub returns-then-branch-clause-ahead : goal.returns-then-branch-clause-ahead
returns-then-branch-clause-ahead g c =
    erased_ahead (g.F.Flash.device c.args.flash.now) (g.F.Flash.device c.erase_anchor.new.flash) c.args.bad.now c.erase_anchor.new.bad c.args.self.now c.args.anchor c.requires.lawful c.requires.ready c.requires.wanted
    (Ok true) (rw c.if-branch.true at c.in_ok-erase_anchor.ensures) (record c.args.self.now { prepared = Some c.args.anchor }) refl (Ok tt) refl

pub returns-then-branch-clause-ready : goal.returns-then-branch-clause-ready
returns-then-branch-clause-ready g c =
    inl (knows_then (g.F.Flash.device c.args.flash.now) (g.F.Flash.device c.erase_anchor.new.flash) c.args.bad.now c.erase_anchor.new.bad c.args.self.now c.args.anchor c.requires.lawful c.requires.ready c.requires.wanted
    (Ok true) (rw c.if-branch.true at c.in_ok-erase_anchor.ensures) (record c.args.self.now { prepared = Some c.args.anchor }) refl)

pub returns-then-is_read_only-clause-ahead : goal.returns-then-is_read_only-clause-ahead
returns-then-is_read_only-clause-ahead g c =
    erased_ahead (g.F.Flash.device c.args.flash.now) (g.F.Flash.device c.erase_anchor.new.flash) c.args.bad.now c.erase_anchor.new.bad c.args.self.now c.args.anchor c.requires.lawful c.requires.ready c.requires.wanted
    (Ok false) (rw c.if-branch.false at c.in_ok-erase_anchor.ensures) c.args.self.now refl (Err ReadOnly)
    (ap (λ (full : Bool). cond full (let refused : Result (Unit {0}) Fault = Err ReadOnly in refused) (Ok tt)) (sym c.if-is_read_only.true ∙ c.is_read_only.ensures))

pub returns-then-is_read_only-clause-ready : goal.returns-then-is_read_only-clause-ready
returns-then-is_read_only-clause-ready g c =
    inl (knows_then (g.F.Flash.device c.args.flash.now) (g.F.Flash.device c.erase_anchor.new.flash) c.args.bad.now c.erase_anchor.new.bad c.args.self.now c.args.anchor c.requires.lawful c.requires.ready c.requires.wanted
    (Ok false) (rw c.if-branch.false at c.in_ok-erase_anchor.ensures) c.args.self.now refl)

pub returns-clause-ahead : goal.returns-clause-ahead
returns-clause-ahead g c =
    erased_ahead (g.F.Flash.device c.args.flash.now) (g.F.Flash.device c.erase_anchor.new.flash) c.args.bad.now c.erase_anchor.new.bad c.args.self.now c.args.anchor c.requires.lawful c.requires.ready c.requires.wanted
    (Ok false) (rw c.if-branch.false at c.in_ok-erase_anchor.ensures) c.args.self.now refl (Ok tt)
    (ap (λ (full : Bool). cond full (let refused : Result (Unit {0}) Fault = Err ReadOnly in refused) (Ok tt)) (sym c.if-is_read_only.false ∙ c.is_read_only.ensures))

pub returns-clause-ready : goal.returns-clause-ready
returns-clause-ready g c =
    inl (knows_then (g.F.Flash.device c.args.flash.now) (g.F.Flash.device c.erase_anchor.new.flash) c.args.bad.now c.erase_anchor.new.bad c.args.self.now c.args.anchor c.requires.lawful c.requires.ready c.requires.wanted
    (Ok false) (rw c.if-branch.false at c.in_ok-erase_anchor.ensures) c.args.self.now refl)
