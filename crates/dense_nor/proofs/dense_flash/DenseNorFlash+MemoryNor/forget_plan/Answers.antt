use Rattle.std.proofs.Common.{ℕ, List, sym, subst}
use Rattle.nor_part.specs.States.{cleaned_of}
use Rattle.dense_nor.specs.Cleaned.{AreClean}
use Rattle.dense_nor.proofs.dense_flash.DenseNorFlash+MemoryNor.forget_plan.Goals as goal

pub invariant_of-self-clause-all_clean : goal.invariant_of-self-clause-all_clean
invariant_of-self-clause-all_clean c =
    subst (λ (held : ℕ → List ℕ). AreClean c.args.self.now.layout.sectors held (cleaned_of c.args.self.now.state)) (sym c.forget_plan.ensures.held) c.args.self.now.all_clean
