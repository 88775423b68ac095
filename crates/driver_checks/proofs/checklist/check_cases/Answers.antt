use Rattle.std.proofs.Common.{sym, subst, refl, arith, List, []}
use Rattle.driver_checks.specs.declared.case.Case.{Case}
use Rattle.driver_checks.specs.Checklists.{Checks, none}
use Rattle.driver_checks.proofs.checklist.check_cases.Goals as goal

pub loop-case-init : goal.loop-case-init
loop-case-init g c = (
  subst (λ (fails : List Case). Checks c.args.area (g.B.Bench.driver c.args.bench.now) [] fails (g.B.Bench.driver c.args.bench.now))
      (sym c.requires.new) (none (g.B.Bench.driver c.args.bench.now)),
  record { area = refl; moments = refl; operations = omega arith },
)
