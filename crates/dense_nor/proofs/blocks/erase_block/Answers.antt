-- Marks that are 0 leave no page as written, and blank sectors leave each erased.
use Rattle.std.proofs.Common.{◌≡◌, ◌∙◌, ℕ, ◌/◌, List, length, true, Result, Ok, Err, OnOk, OnErr}
use Rattle.flash_model.specs.declared.flash.DevFault.{DevFault}
use Rattle.flash_model.specs.Device.{Page, AfterErase}
use Rattle.nor_part.specs.Part.{is_blank}
use Rattle.dense_nor.specs.Blocks.{IsOfBlock, IsUnmarked}
use Rattle.dense_nor.specs.Layout.{IsDense, data_pages, page_in}
use Rattle.dense_nor.proofs.BlockErase.{block_apart, block_kept, block_unmarked, block_blank}
use Rattle.dense_nor.proofs.Places.{marks_within}
use Rattle.dense_nor.proofs.blocks.erase_block.Goals as goal

ended : (n b p : ℕ) (was : Page) (new : ℕ → List ℕ) (result : Result (Unit {0}) DevFault) → IsDense n → p / data_pages n ≡ b → ((x : ℕ) → length (new x) ≡ 256)
    → OnOk result ((x : ℕ) → IsOfBlock n b x → is_blank (new x) ≡ true) → OnErr result (IsUnmarked n b new) → AfterErase was (page_in n new p) result
ended n b p was new (Ok done) dense here whole blank unmarked = block_blank n b p new dense here whole blank
ended n b p was new (Err fault) dense here whole blank unmarked = block_unmarked n b p was new fault dense here unmarked

pub returns-in-Err-clause-others : goal.returns-in-Err-clause-others
returns-in-Err-clause-others g c = λ p apart.
    block_apart c.args.layout.sectors c.args.block p (g.P.Nor.held c.args.part.now) (g.P.Nor.held c.spoil_marks.new.part) c.args.layout.dense
    (λ x out. c.spoil_marks.ensures.others x (λ of. out (marks_within c.args.layout.sectors c.args.block x of))) apart

pub returns-in-Err-clause-own : goal.returns-in-Err-clause-own
returns-in-Err-clause-own g c = λ p here.
    block_kept c.args.layout.sectors c.args.block p (g.P.Nor.held c.args.part.now) (g.P.Nor.held c.spoil_marks.new.part) c.in-Err.fault c.args.layout.dense here c.spoil_marks.ensures.others c.spoil_marks.ensures.unmarked

pub returns-in-Ok-clause-others : goal.returns-in-Ok-clause-others
returns-in-Ok-clause-others g c = λ p apart.
    block_apart c.args.layout.sectors c.args.block p (g.P.Nor.held c.spoil_marks.new.part) (g.P.Nor.held c.erase_sectors.new.part) c.args.layout.dense c.erase_sectors.ensures.others apart
    ∙ block_apart c.args.layout.sectors c.args.block p (g.P.Nor.held c.args.part.now) (g.P.Nor.held c.spoil_marks.new.part) c.args.layout.dense
    (λ x out. c.spoil_marks.ensures.others x (λ of. out (marks_within c.args.layout.sectors c.args.block x of))) apart

pub returns-in-Ok-clause-own : goal.returns-in-Ok-clause-own
returns-in-Ok-clause-own g c = λ p here.
    ended c.args.layout.sectors c.args.block p (page_in c.args.layout.sectors (g.P.Nor.held c.args.part.now) p) (g.P.Nor.held c.erase_sectors.new.part) c.erase_sectors.result c.args.layout.dense here
    (g.met.P.Nor.whole c.erase_sectors.new.part) c.erase_sectors.ensures.blank c.erase_sectors.ensures.unmarked
