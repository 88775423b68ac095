-- Directories that are nodes which stand alone stay so where the nodes that roots reach stay, and a record that is written asks
-- for none.
use Rattle.std.proofs.Common.{◌≡◌, ℕ, true, List, sym, ap, ◌∙◌}
use Rattle.std.proofs.lemmas.Bool.{true≢false}
use Rattle.std.specs.Prelude.{◌==◌}
use Rattle.record_format.specs.declared.formats.TheConstants.{FORMAT, OLD_FORMAT}
use Rattle.record_format.specs.declared.record.Record.{Record}
use Rattle.nodes.specs.Bodies.{Blocks}
use Rattle.nodes.specs.Chains.{link_of}
use Rattle.nodes.specs.Reached.{Reached}
use Rattle.reclaim.specs.Sound.{IsPlain}
use Rattle.reclaim.proofs.Marking.{reached_back}
use Rattle.mounting.specs.Records.{knows_plain_only}

pub plain_stays : (f g : Blocks) (roots : List ℕ) → ((b : ℕ) → Reached f roots b → g b ≡ f b) → IsPlain f roots → IsPlain g roots
plain_stays f g roots same plain b reached l is =
    let here : Reached f roots b = reached_back f g roots same reached in
    plain b here l (sym (ap link_of (same b here)) ∙ is)

pub not_plain : {P : Type 0} (r : Record) → r.format ≡ FORMAT → knows_plain_only r ≡ true → P
not_plain r written plain = absurd (true≢false (sym plain ∙ ap (λ (n : ℕ). n == OLD_FORMAT) written))
