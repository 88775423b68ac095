use Rattle.std.proofs.Common.{◌∙◌, sym, arith}
use Rattle.std.proofs.lemmas.Result.{err_from_is_err_and}
use Rattle.anchors.proofs.Following.{none_tried, full_leaves, begins, one_more, cut_leaves, found_leaves, found_stands, all_tried, Same_itself, Same_on, ready_still}
use Rattle.anchors.proofs.commit.Commit.after.Goals as goal

pub loop-step-init : goal.loop-step-init
loop-step-init g c = record {
  same = Same_itself c.args.self.now;
  so_far = none_tried (g.F.Flash.device c.args.self.now.flash.now) c.args.self.now.bad.now c.args.self.now.saved.now c.args.home c.args.place;
}

pub of-requires-clause-home : goal.of-requires-clause-home
of-requires-clause-home g c = c.requires.start.blank.below

pub on-requires-clause-ready : goal.on-requires-clause-ready
on-requires-clause-ready g c =
    let now = c.loop-step.invariant in
    ready_still g.F.Flash.device c.args.self.now c.loop-step.self now.same now.so_far.only_anchors now.so_far.keeps c.requires.ready

pub on-requires-clause-open : goal.on-requires-clause-open
on-requires-clause-open g c = sym c.is_read_only.ensures ∙ c.if-is_read_only.false

pub on-requires-clause-begin : goal.on-requires-clause-begin
on-requires-clause-begin g c =
    let now = c.loop-step.invariant in
    let s = c.args.self.now in
    rw now.same.saved (begins (g.F.Flash.device s.flash.now) s.bad.now (g.F.Flash.device c.loop-step.self.flash.now) c.loop-step.self.bad.now s.saved.now c.args.home c.args.place c.loop-step.step now.so_far
    c.of.result c.of.ensures c.requires.ready.suits.same c.loop-step-test.true c.requires.start)

pub loop-step-preserved : goal.loop-step-preserved
loop-step-preserved g c =
    let now = c.loop-step.invariant in
    let s = c.args.self.now in
    let tried = rw (now.same.saved, now.same.sequence, c.in_default.is) at c.in_ok-tried.ensures in
    record {
      same = Same_on s c.loop-step.self c.on.new.self now.same c.on.ensures.same;
      so_far = one_more (g.F.Flash.device s.flash.now) s.bad.now (g.F.Flash.device c.loop-step.self.flash.now) c.loop-step.self.bad.now s.saved.now c.args.home c.args.place c.loop-step.step now.so_far
          c.of.result c.of.ensures (g.F.Flash.device c.on.new.self.flash.now) c.on.new.self.bad.now s.sequence _ tried.attempted tried.lacks;
    }

pub returns-in-Some-clause-same : goal.returns-in-Some-clause-same
returns-in-Some-clause-same g c = Same_on c.args.self.now c.loop-step.self c.on.new.self c.loop-step.invariant.same c.on.ensures.same

pub returns-in-Some-clause-leaves : goal.returns-in-Some-clause-leaves
returns-in-Some-clause-leaves g c =
    let now = c.loop-step.invariant in
    let s = c.args.self.now in
    found_leaves (g.F.Flash.device s.flash.now) s.bad.now (g.F.Flash.device c.loop-step.self.flash.now) c.loop-step.self.bad.now s.saved.now c.args.home c.args.place c.loop-step.step now.so_far
    c.of.result c.of.ensures (g.F.Flash.device c.on.new.self.flash.now) c.on.new.self.bad.now s.sequence c.in-Some.found c.loop-step-test.true (rw (now.same.saved, now.same.sequence, c.in-Some.is) at c.in_ok-tried.ensures.attempted)

pub returns-in-Some-clause-stands : goal.returns-in-Some-clause-stands
returns-in-Some-clause-stands g c =
    let now = c.loop-step.invariant in
    let s = c.args.self.now in
    found_stands (g.F.Flash.device s.flash.now) s.bad.now (g.F.Flash.device c.loop-step.self.flash.now) c.loop-step.self.bad.now s.saved.now c.args.home c.args.place c.loop-step.step now.so_far
    c.of.result c.of.ensures (g.F.Flash.device c.on.new.self.flash.now) c.on.new.self.bad.now s.sequence c.in-Some.found c.loop-step-test.true (rw (now.same.saved, now.same.sequence, c.in-Some.is) at c.in_ok-tried.ensures.attempted)
    c.requires.ready.suits.lawful.some_pages c.requires.start.blank.below (sym c.is_read_only.ensures ∙ c.if-is_read_only.false)

pub returns-in_err-tried-clause-same : goal.returns-in_err-tried-clause-same
returns-in_err-tried-clause-same g c = Same_on c.args.self.now c.loop-step.self c.on.new.self c.loop-step.invariant.same c.on.ensures.same

pub returns-in_err-tried-clause-leaves : goal.returns-in_err-tried-clause-leaves
returns-in_err-tried-clause-leaves g c =
    let now = c.loop-step.invariant in
    let s = c.args.self.now in
    let p = err_from_is_err_and c.from_residual.result c.from_residual.ensures.1 in
    rw (p.1, p.2) (cut_leaves (g.F.Flash.device s.flash.now) s.bad.now (g.F.Flash.device c.loop-step.self.flash.now) c.loop-step.self.bad.now s.saved.now c.args.home c.args.place c.loop-step.step now.so_far
    c.of.result c.of.ensures (g.F.Flash.device c.on.new.self.flash.now) c.on.new.self.bad.now s.sequence _ c.in_err-tried.field-0.0 c.loop-step-test.true (rw (now.same.saved, now.same.sequence) at c.in_err-tried.ensures.attempted))

pub returns-in_err-tried-clause-stands : goal.returns-in_err-tried-clause-stands
returns-in_err-tried-clause-stands g c = rw (err_from_is_err_and c.from_residual.result c.from_residual.ensures.1).1 tt

pub returns-then-is_read_only-clause-same : goal.returns-then-is_read_only-clause-same
returns-then-is_read_only-clause-same g c = c.loop-step.invariant.same

pub returns-then-is_read_only-clause-leaves : goal.returns-then-is_read_only-clause-leaves
returns-then-is_read_only-clause-leaves g c =
    let s = c.args.self.now in
    full_leaves (g.F.Flash.device s.flash.now) s.bad.now (g.F.Flash.device c.loop-step.self.flash.now) c.loop-step.self.bad.now s.saved.now c.args.home c.args.place c.loop-step.step c.loop-step.invariant.so_far
    s.sequence (let lt = c.loop-step-test.true in omega arith) (sym c.is_read_only.ensures ∙ c.if-is_read_only.true)

pub returns-clause-same : goal.returns-clause-same
returns-clause-same g c = c.loop-step.invariant.same

pub returns-clause-leaves : goal.returns-clause-leaves
returns-clause-leaves g c =
    let s = c.args.self.now in
    let so_far = c.loop-step.invariant.so_far in
    full_leaves (g.F.Flash.device s.flash.now) s.bad.now (g.F.Flash.device c.loop-step.self.flash.now) c.loop-step.self.bad.now s.saved.now c.args.home c.args.place c.loop-step.step so_far
    s.sequence c.loop-step.auto.step-end (all_tried c.loop-step.self.bad.now c.args.home c.requires.start.blank.below (λ k some lt. so_far.tried k some (let h = c.loop-step-test.false in omega arith)))
