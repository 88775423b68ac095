use Rattle.std.proofs.Common.{Some, sym, ap, ◌∙◌}
use Rattle.std.proofs.lemmas.Result.{err_from_is_err_and}
use Rattle.block_ring.specs.Ring.{Ring}
use Rattle.system.specs.declared.systems.System.{System}
use Rattle.system.proofs.Passing.{taken_up, is_stepped, must_be_data, noted_system, noted_keeps, kept_stays, step_is_on, refused_system, refused_ends, untaken_asks, stepped_asks, goes_ends, goes_system, stepped_stays, all_system, all_stays, all_ends}
use Rattle.system.proofs.systems.System.step_pass.Goals as goal

pub take_pass-requires : goal.take_pass-requires
take_pass-requires g c = must_be_data (g.F.Flash.device c.args.flash.now) c.args.self.now c.requires.system c.requires.is_on

pub returns-in_err-pass-clause-system : goal.returns-in_err-pass-clause-system
returns-in_err-pass-clause-system g c = noted_system (g.F.Flash.device c.args.flash.now) c.args.self.now c.requires.system c.requires.is_on c.take_pass.new.self c.take_pass.ensures.same

pub returns-in_err-pass-clause-stays : goal.returns-in_err-pass-clause-stays
returns-in_err-pass-clause-stays g c =
    let d = g.F.Flash.device c.args.flash.now in
    let m = c.args.self.now in
    let n = c.take_pass.new.self in
    kept_stays d d m n c.requires.system c.requires.is_on (noted_keeps d m c.requires.system c.requires.is_on n c.take_pass.ensures.same)

pub returns-in_err-pass-clause-asks : goal.returns-in_err-pass-clause-asks
returns-in_err-pass-clause-asks g c = untaken_asks (g.F.Flash.device c.args.flash.now) c.args.self.now c.args.budget c.requires.system c.requires.is_on

pub returns-in_err-step_on : goal.returns-in_err-step_on
returns-in_err-step_on g c =
    let t = is_stepped _ _ _ _ _ _ _ c.requires.system c.requires.is_on c.take_pass.ensures.same c.in_ok-pass.ensures.from c.in_ok-pass.ensures.begun c.in_ok-pass.ensures.first c.step_on.ensures.on c.step_on.ensures.looked in
    let p = err_from_is_err_and c.from_residual-in_err-step_on.result c.from_residual-in_err-step_on.ensures.1 in
    record {
      system = refused_system _ _ _ _ _ _ _ t;
      is_on = step_is_on _ _ _ _ _ _ _ t;
      stays = stepped_stays _ _ _ _ _ _ _ t c.take_pass.new.self.pass;
      ends = rw (p.1, p.2) (refused_ends _ _ _ _ _ _ _ t c.in_err-step_on.field-0.0 c.args.budget c.in_err-step_on.ensures.damaged c.in_err-step_on.ensures.why);
      asks = stepped_asks _ _ _ _ _ _ _ t c.args.budget c.step_on.ensures.asks.0 c.step_on.ensures.asks.1;
    }

pub returns-then-not-branch : goal.returns-then-not-branch
returns-then-not-branch g c =
    let t = is_stepped _ _ _ _ _ _ _ c.requires.system c.requires.is_on c.take_pass.ensures.same c.in_ok-pass.ensures.from c.in_ok-pass.ensures.begun c.in_ok-pass.ensures.first c.step_on.ensures.on c.step_on.ensures.looked in
    record {
      system = goes_system _ _ _ _ _ _ _ t c.in_ok-step_on.ensures.pass.1;
      is_on = step_is_on _ _ _ _ _ _ _ t;
      stays = stepped_stays _ _ _ _ _ _ _ t (Some c.step_on.new.pass);
      ends = goes_ends _ _ _ _ _ _ _ t c.args.budget (rw c.if-not-branch.true at c.in_ok-step_on.ensures.reads_on);
      asks = stepped_asks _ _ _ _ _ _ _ t c.args.budget c.step_on.ensures.asks.0 c.step_on.ensures.asks.1;
    }

pub returns-clause-system : goal.returns-clause-system
returns-clause-system g c =
    let t = is_stepped _ _ _ _ _ _ _ c.requires.system c.requires.is_on c.take_pass.ensures.same c.in_ok-pass.ensures.from c.in_ok-pass.ensures.begun c.in_ok-pass.ensures.first c.step_on.ensures.on c.step_on.ensures.looked in
    all_system _ _ _ _ _ _ _ t c.finish.result c.install.new.self c.forget_used.new.self c.install.ensures c.forget_used.ensures c.blocks-blocks.ensures.used c.in_ok-step_on.ensures.pass.0 c.finish.ensures.exact

pub returns-clause-is_on : goal.returns-clause-is_on
returns-clause-is_on g c =
    let t = is_stepped _ _ _ _ _ _ _ c.requires.system c.requires.is_on c.take_pass.ensures.same c.in_ok-pass.ensures.from c.in_ok-pass.ensures.begun c.in_ok-pass.ensures.first c.step_on.ensures.on c.step_on.ensures.looked in
    step_is_on _ _ _ _ _ _ _ t

pub returns-clause-stays : goal.returns-clause-stays
returns-clause-stays g c =
    let t = is_stepped _ _ _ _ _ _ _ c.requires.system c.requires.is_on c.take_pass.ensures.same c.in_ok-pass.ensures.from c.in_ok-pass.ensures.begun c.in_ok-pass.ensures.first c.step_on.ensures.on c.step_on.ensures.looked in
    all_stays _ _ _ _ _ _ _ t c.finish.result c.install.new.self c.forget_used.new.self c.install.ensures c.forget_used.ensures c.blocks-blocks.ensures.used c.in_ok-step_on.ensures.pass.0 c.finish.ensures.exact

pub returns-clause-ends : goal.returns-clause-ends
returns-clause-ends g c =
    let t = is_stepped _ _ _ _ _ _ _ c.requires.system c.requires.is_on c.take_pass.ensures.same c.in_ok-pass.ensures.from c.in_ok-pass.ensures.begun c.in_ok-pass.ensures.first c.step_on.ensures.on c.step_on.ensures.looked in
    all_ends _ _ _ _ _ _ _ t c.finish.result c.install.new.self c.forget_used.new.self c.install.ensures c.forget_used.ensures c.blocks-blocks.ensures.used c.in_ok-step_on.ensures.pass.0 c.finish.ensures.exact c.args.budget (rw c.if-not-branch.false at c.in_ok-step_on.ensures.reads_on)

pub returns-clause-asks : goal.returns-clause-asks
returns-clause-asks g c =
    let t = is_stepped _ _ _ _ _ _ _ c.requires.system c.requires.is_on c.take_pass.ensures.same c.in_ok-pass.ensures.from c.in_ok-pass.ensures.begun c.in_ok-pass.ensures.first c.step_on.ensures.on c.step_on.ensures.looked in
    stepped_asks _ _ _ _ _ _ _ t c.args.budget c.step_on.ensures.asks.0 c.step_on.ensures.asks.1

pub step_on-requires-clause-known : goal.step_on-requires-clause-known
step_on-requires-clause-known g c =
    (taken_up (g.F.Flash.device c.args.flash.now) c.args.self.now c.requires.system c.requires.is_on c.take_pass.new.self c.take_pass.ensures.same c.in_ok-pass.pass c.in_ok-pass.ensures.from c.in_ok-pass.ensures.begun c.in_ok-pass.ensures.first).known

pub forget_used-requires : goal.forget_used-requires
forget_used-requires g c =
    ap (λ (r : Ring). r.blocks) c.step_on.ensures.looked.untouched.ring ∙ ap (λ (x : System). x.state.storage.ring.blocks) c.take_pass.ensures.same
    ∙ sym c.requires.system.prepared ∙ sym (ap (λ (x : System). x.prepared.blocks) c.take_pass.ensures.same)
