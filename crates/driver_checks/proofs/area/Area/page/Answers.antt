use Rattle.std.proofs.Common.{ℕ, sym, subst}
use Rattle.driver_checks.specs.Areas.{GivesPage}
use Rattle.driver_checks.proofs.Pages.{page_given}
use Rattle.driver_checks.proofs.area.Area.page.Goals as goal

pub returns-clause-given : goal.returns-clause-given
returns-clause-given c =
    subst (λ (p : ℕ). GivesPage c.args.self p) (sym c.page_number.ensures.value)
    (page_given c.args.self c.args.block c.args.place c.requires.given c.requires.in_block)
