use Rattle.std.proofs.Common.{ℕ, List, sym, subst}
use Rattle.nor_part.specs.Cleaned.{AreClean}
use Rattle.nor_part.proofs.nor_flash.NorFlash+MemoryNor.plan.Goals as goal

pub invariant_of-self-clause-all_clean : goal.invariant_of-self-clause-all_clean
invariant_of-self-clause-all_clean c = subst (λ (held : ℕ → List ℕ). AreClean held c.args.self.now.state.cleaned.items) (sym c.plan.ensures.held) c.args.self.now.all_clean
