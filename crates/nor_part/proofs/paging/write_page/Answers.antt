-- The data stand, and the mark is programmed.
use Rattle.std.proofs.Common.{ap, ◌∙◌, ◌≡◌, List, ℕ, slice_index, arith}
use Rattle.nor_part.specs.Layout.{data_page, mark_page}
use Rattle.nor_part.proofs.Pages.{erased-mark, erased-blank, programmed-is, marked}
use Rattle.nor_part.proofs.paging.write_page.Goals as goal

pub returns-in-Ok-clause-own : goal.returns-in-Ok-clause-own
returns-in-Ok-clause-own g c =
    let old : ℕ → List ℕ = g.P.Nor.held c.args.part.now in
    let mid : ℕ → List ℕ = g.P.Nor.held c.program.new.self in
    let new : ℕ → List ℕ = g.P.Nor.held c.program-in-Ok.new.self in
    let p : ℕ = c.args.page in
    let kept : new (data_page p) ≡ mid (data_page p) = c.program-in-Ok.ensures.programs.others (data_page p) (omega arith) in
    let done : mid (data_page p) ≡ c.args.bytes.now = programmed-is (old (data_page p)) c.args.bytes.now (mid (data_page p))
    (g.met.P.Nor.whole c.args.part.now (data_page p)) c.requires.whole (g.met.P.Nor.whole c.program.new.self (data_page p))
    (erased-blank (old (data_page p)) (slice_index (old (mark_page p)) 0) c.requires.blank) (λ i. omega (arith, c.type_inv.bytes i)) c.in-Ok.ensures.programs.own in
    let mark : slice_index (mid (mark_page p)) 0 ≡ 255 =
    ap (λ (xs : List ℕ). slice_index xs 0) (c.in-Ok.ensures.programs.others (mark_page p) (omega arith))
    ∙ erased-mark (old (data_page p)) (slice_index (old (mark_page p)) 0) c.requires.blank in
    marked _ (new (data_page p)) c.args.bytes.now (mid (mark_page p)) (new (mark_page p)) _ c.requires.blank (kept ∙ done) mark c.program-in-Ok.ensures.programs.own
