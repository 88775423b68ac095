use Rattle.std.proofs.Common.{Err, refl, sym, ap}
use Rattle.std.proofs.lemmas.Bool.{true≢false}
use Rattle.mounting.proofs.Asking.{asks_to_verify}
use Rattle.salvages.proofs.looks.are_whole_in.Goals as goal
use Rattle.salvages.proofs.looks.are_whole_in.Goals.{in-Ok, in-Err-Damaged, in-Err}

pub returns-clause-whole : goal.returns-clause-whole
returns-clause-whole g c = elim c.match-verify.branch [
  | in-Ok w ↦ rw w.result-is (λ is. w.in-Ok.ensures.trees, λ whole. refl)
  | in-Err-Damaged w ↦ rw w.result-is (λ is. absurd (true≢false (sym is)), λ whole. absurd (w.in-Err-Damaged.ensures.damaged (ap Err w.in-Err-Damaged.field-0-is) whole))
  | in-Err w ↦ rw w.result-is tt
]

pub returns-clause-asks : goal.returns-clause-asks
returns-clause-asks g c = asks_to_verify (g.F.Flash.device c.args.store.now.flash.now) (g.F.Flash.device c.verify.new.nodes.flash.now) _ c.verify.ensures.asks
