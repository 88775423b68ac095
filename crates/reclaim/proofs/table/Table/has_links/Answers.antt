use Rattle.std.proofs.Common.{◌≡◌, ℕ, true, sym, ◌∙◌}
use Rattle.reclaim.specs.Tables.{has_link}
use Rattle.std.proofs.lemmas.List.Elements.{All-more}
use Rattle.reclaim.proofs.Verifying.{all_end}
use Rattle.reclaim.proofs.table.Table.has_links.Goals as goal

pub loop-block-preserved : goal.loop-block-preserved
loop-block-preserved c =
    let P : ℕ → Type 0 = λ b. has_link c.args.self.now b ≡ true in
    All-more P c.args.list.now c.loop-block.block-index 0 c.loop-block-test.true c.loop-block.invariant (sym c.has_link.ensures.exact ∙ c.if-not-has_link.false)

pub returns : goal.returns
returns c =
    let P : ℕ → Type 0 = λ b. has_link c.args.self.now b ≡ true in
    all_end P c.args.list.now c.loop-block.block-index c.loop-block-test.false c.loop-block.invariant
