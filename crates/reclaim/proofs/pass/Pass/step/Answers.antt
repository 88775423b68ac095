use Rattle.std.proofs.Common.{◌≡◌, Ok, Err, true, ap, sym, subst, ◌∙◌, arith}
use Rattle.std.proofs.lemmas.Result.{err_from_is_err_and}
use Rattle.fs_types.specs.declared.fault.Fault.{Fault}
use Rattle.fs_types.specs.declared.fault.Fault.TheVariants.{Damaged}
use Rattle.nodes.specs.Bodies.{Blocks}
use Rattle.nodes.specs.Faults.{IsReadFault}
use Rattle.nodes.specs.Words.{LooksWithin}
use Rattle.nodes.specs.WordLaws.{looks_after, looks_refused}
use Rattle.reclaim.specs.Passes.{IsPass, LacksNode}
use Rattle.reclaim.proofs.Costs.{has_read}
use Rattle.reclaim.proofs.NodeCalls.{looks_itself, advances_itself, advances_on, marks_itself, marks_on}
use Rattle.reclaim.proofs.pass.Pass.step.Goals as goal

pub loop-done-init : goal.loop-done-init
loop-done-init g c = record {
  marks = marks_itself c.args.nodes.now c.args.self.now c.requires.known;
  on = advances_itself c.args.self.now;
  next = omega arith;
  looks = looks_itself g.N.Nodes g.met.N.Nodes.follows_itself c.args.nodes.now c.requires.sound;
}

pub loop-done-preserved : goal.loop-done-preserved
loop-done-preserved g c =
    let so_far = c.loop-done.invariant in
    let read = c.in_ok-read_next.ensures.read in
    record {
      marks = marks_on g.met.N.Nodes.same_page c.args.nodes.now c.loop-done.nodes c.read_next.new.nodes c.args.self.now c.loop-done.self c.read_next.new.self so_far.looks so_far.marks read.1;
      on = advances_on c.args.self.now c.loop-done.self c.read_next.new.self so_far.on c.read_next.ensures.on;
      next = omega (arith, read.0, so_far.next);
      looks = g.met.N.Nodes.looks_on c.args.nodes.now c.loop-done.nodes c.read_next.new.nodes so_far.looks c.read_next.ensures.calls.looks;
    }

pub returns-in_err-read_next-clause-reached : goal.returns-in_err-read_next-clause-reached
returns-in_err-read_next-clause-reached g c marking =
    let so_far = c.loop-done.invariant in
    let left = c.is_finished.ensures.left c.if-is_finished.false in
    let p = err_from_is_err_and c.from_residual.result c.from_residual.ensures.1 in
    record {
      seen = has_read (g.N.Nodes.node c.args.nodes.now) c.args.self.now c.loop-done.self (g.N.Nodes.reads c.args.nodes.now) (g.N.Nodes.reads c.read_next.new.nodes)
          (subst (λ (f : Blocks). IsPass f c.loop-done.self) so_far.looks.same_nodes (so_far.marks.pass marking)) so_far.on.roots so_far.on.begins
          (omega (arith, so_far.marks.reads, left, c.read_next.ensures.calls.reads));
      damaged = λ damaged.
          let is : p.0 ≡ Damaged = cc in
          subst (LacksNode (g.N.Nodes.node c.args.nodes.now)) so_far.on.roots
          (subst (λ (f : Blocks). LacksNode f c.loop-done.self.roots) so_far.looks.same_nodes (c.in_err-read_next.ensures.damaged (so_far.marks.pass marking) (ap (λ (e : Fault). Err e) (sym p.2 ∙ is))));
    }

pub returns-in_err-read_next-clause-on : goal.returns-in_err-read_next-clause-on
returns-in_err-read_next-clause-on g c = advances_on c.args.self.now c.loop-done.self c.read_next.new.self c.loop-done.invariant.on c.read_next.ensures.on

pub returns-in_err-read_next-clause-calls : goal.returns-in_err-read_next-clause-calls
returns-in_err-read_next-clause-calls g c =
    let so_far = c.loop-done.invariant in
    let before : LooksWithin g.N.Nodes IsReadFault c.loop-done.done c.args.nodes.now (Ok true) c.loop-done.nodes = record { looks = so_far.looks; reads = omega (arith, so_far.marks.reads, so_far.next); why = tt; faults = tt } in
    let p = err_from_is_err_and c.from_residual.result c.from_residual.ensures.1 in
    rw (p.1, p.2) (looks_refused (looks_after g.met.N.Nodes.looks_on g.met.N.Nodes.causes_on c.args.nodes.now c.loop-done.nodes c.read_next.new.nodes (λ fault is. is) before c.in_err-read_next.ensures.calls (omega (arith, c.loop-done-test.true))))

pub returns-then-is_finished-clause-reached : goal.returns-then-is_finished-clause-reached
returns-then-is_finished-clause-reached g c marking =
    let so_far = c.loop-done.invariant in
    let pass = so_far.marks.pass marking in
    record {
      seen = has_read (g.N.Nodes.node c.args.nodes.now) c.args.self.now c.loop-done.self (g.N.Nodes.reads c.args.nodes.now) (g.N.Nodes.reads c.loop-done.nodes)
          (subst (λ (f : Blocks). IsPass f c.loop-done.self) so_far.looks.same_nodes pass) so_far.on.roots so_far.on.begins (omega (arith, so_far.marks.reads, pass.within));
      damaged = λ damaged. absurd cc;
    }

pub returns-then-is_finished-clause-calls : goal.returns-then-is_finished-clause-calls
returns-then-is_finished-clause-calls g c =
    let so_far = c.loop-done.invariant in
    record { looks = so_far.looks; reads = omega (arith, so_far.marks.reads, so_far.next, c.loop-done-test.true); why = tt; faults = tt }

pub returns-clause-reached : goal.returns-clause-reached
returns-clause-reached g c marking =
    let so_far = c.loop-done.invariant in
    let pass = so_far.marks.pass marking in
    record {
      seen = has_read (g.N.Nodes.node c.args.nodes.now) c.args.self.now c.loop-done.self (g.N.Nodes.reads c.args.nodes.now) (g.N.Nodes.reads c.loop-done.nodes)
          (subst (λ (f : Blocks). IsPass f c.loop-done.self) so_far.looks.same_nodes pass) so_far.on.roots so_far.on.begins (omega (arith, so_far.marks.reads, pass.within));
      damaged = λ damaged. absurd cc;
    }

pub returns-clause-calls : goal.returns-clause-calls
returns-clause-calls g c =
    let so_far = c.loop-done.invariant in
    record { looks = so_far.looks; reads = omega (arith, so_far.marks.reads, so_far.next, c.loop-done.auto.done-end); why = tt; faults = tt }
