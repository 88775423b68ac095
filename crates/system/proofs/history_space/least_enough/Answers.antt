use Rattle.std.proofs.Common.{◌≡◌, inl, inr, ℕ, subst, arith}
use Rattle.std.proofs.lemmas.Bool.{cases_lt}
use Rattle.system.specs.HistorySpace.{FreeAfter}
use Rattle.system.proofs.history_space.least_enough.Goals as goal

pub loop-count-preserved : goal.loop-count-preserved
loop-count-preserved c d mounted are fewer less = elim (cases_lt fewer c.loop-count.count) [
  | inl low ↦ c.loop-count.invariant d mounted are fewer low
  | inr past ↦
      let same : c.loop-count.count ≡ fewer = omega arith in (
        c.free_after.result,
        subst (λ (k : ℕ). FreeAfter d c.args.state.now k c.free_after.result) same (c.free_after.ensures d mounted (omega (arith, c.cursor.ensures, c.from.ensures, c.if-cursor-from.false)) are),
        omega (arith, c.if-blocks-free_after.false),
      )
]
