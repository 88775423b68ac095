use Rattle.std.proofs.Common.{inl, inr, rules}
use Rattle.std.proofs.lemmas.Result.{err_from_is_err_and}
use Rattle.system.specs.Rooms.{LacksCommit}
use Rattle.system.proofs.AllMarked.{all_marked}
use Rattle.system.proofs.systems.System.makes_room.Goals as goal

pub returns-in_err-commit-clause-room : goal.returns-in_err-commit-clause-room
returns-in_err-commit-clause-room g c =
    let p = err_from_is_err_and c.from_residual.result c.from_residual.ensures.1 in
    let d = g.F.Flash.device c.args.flash.now in
    let e = g.F.Flash.device c.commit.new.flash in
    let lacks : LacksCommit d c.args.self.now c.in_err-commit.field-0.0 e c.commit.new.self = record { saves = c.in_err-commit.ensures.saves; why = c.in_err-commit.ensures.why; pass = c.commit.ensures.pass } in
    rw (p.1, p.2) (search rules, inl lacks)

pub returns-in_err-reclaim_step-clause-room : goal.returns-in_err-reclaim_step-clause-room
returns-in_err-reclaim_step-clause-room g c =
    let p = err_from_is_err_and c.from_residual-in_err-reclaim_step.result c.from_residual-in_err-reclaim_step.ensures.1 in
    rw (p.1, p.2) (
      search rules,
      inr (record {
        device = g.F.Flash.device c.commit.new.flash;
        system = c.commit.new.self;
        saves = c.in_ok-commit.ensures.saves;
        committed = c.commit.ensures.system;
        anew = c.commit.ensures.pass;
        marks = c.in_err-reclaim_step.ensures.step;
      }),
    )

pub returns-clause-room : goal.returns-clause-room
returns-clause-room g c = (
  search rules,
  record {
    device = g.F.Flash.device c.commit.new.flash;
    system = c.commit.new.self;
    saves = c.in_ok-commit.ensures.saves;
    committed = c.commit.ensures.system;
    anew = c.commit.ensures.pass;
    marks = all_marked (g.F.Flash.device c.commit.new.flash) (g.F.Flash.device c.reclaim_step.new.flash) c.commit.new.self c.reclaim_step.new.self c.in_ok-reclaim_step.field-0 c.in_ok-reclaim_step.ensures.step;
  },
)
