-- The data of the page, and then its mark.
use Rattle.std.proofs.Common.{◌≡◌, ◌∙◌, ℕ, List, ap, subst, arith}
use Rattle.nor_part.specs.Part.{is_blank, HasCleared}
use Rattle.dense_nor.specs.Layout.{mark_at, place_of}
use Rattle.dense_nor.specs.Marks.{entry_of}
use Rattle.dense_nor.specs.Parts.{AfterMark, LeavesTrace, MakesNoMark}
use Rattle.dense_nor.proofs.Places.{data_first}
use Rattle.dense_nor.proofs.Writing.{page_beside, mark_beside, place_blank, written, spoilt, cut_in_data}
use Rattle.dense_nor.proofs.paging.write_page.Goals as goal

pub program-requires-clause-in_range : goal.program-requires-clause-in_range
program-requires-clause-in_range g c = let first = data_first c.args.layout.sectors c.args.page c.args.layout.dense in omega (arith, first)

pub write_mark-requires-clause-blank : goal.write_mark-requires-clause-blank
write_mark-requires-clause-blank g c =
    let n : ℕ = c.args.layout.sectors in
    let p : ℕ = c.args.page in
    let mid : ℕ → List ℕ = g.P.Nor.held c.program.new.self in
    ap (λ (m : ℕ). is_blank (entry_of (mid m) c.place-place.result)) c.mark_page-mark_page.ensures ∙ ap (λ (i : ℕ). is_blank (entry_of (mid (mark_at n p)) i)) c.place-place.ensures.place
    ∙ place_blank n p (g.P.Nor.held c.args.part.now) mid c.args.layout.dense c.requires.blank (λ x apart. c.program.ensures.programs.others x (λ same. apart (same ∙ c.data_page.ensures)))

pub returns-in-Ok-clause-others : goal.returns-in-Ok-clause-others
returns-in-Ok-clause-others g c = λ q apart.
    let n : ℕ = c.args.layout.sectors in
    let p : ℕ = c.args.page in
    let old : ℕ → List ℕ = g.P.Nor.held c.args.part.now in
    let mid : ℕ → List ℕ = g.P.Nor.held c.program.new.self in
    let new : ℕ → List ℕ = g.P.Nor.held c.write_mark.new.part in
    mark_beside n p q mid new c.args.layout.dense (λ x other. c.write_mark.ensures.others x (λ same. other (same ∙ c.mark_page-mark_page.ensures)))
    (λ i other. subst (λ (m : ℕ). entry_of (new m) i ≡ entry_of (mid m) i) c.mark_page-mark_page.ensures (c.write_mark.ensures.beside i (λ same. other (same ∙ c.place-place.ensures.place)))) apart
    ∙ page_beside n p q old mid c.args.layout.dense (λ x other. c.program.ensures.programs.others x (λ same. other (same ∙ c.data_page.ensures))) apart

pub returns-in-Ok-clause-own : goal.returns-in-Ok-clause-own
returns-in-Ok-clause-own g c =
    let n : ℕ = c.args.layout.sectors in
    let p : ℕ = c.args.page in
    let old : ℕ → List ℕ = g.P.Nor.held c.args.part.now in
    let mid : ℕ → List ℕ = g.P.Nor.held c.program.new.self in
    let new : ℕ → List ℕ = g.P.Nor.held c.write_mark.new.part in
    written n p old mid new c.args.bytes.now c.write_mark.result c.args.layout.dense c.requires.blank (g.met.P.Nor.whole c.args.part.now) (g.met.P.Nor.whole c.program.new.self)
    c.requires.whole (λ k. omega (arith, c.type_inv.bytes k)) (subst (λ (d : ℕ). HasCleared (old d) c.args.bytes.now (mid d)) c.data_page.ensures c.in-Ok.ensures.programs.own)
    (λ x other. c.write_mark.ensures.others x (λ same. other (same ∙ c.mark_page-mark_page.ensures)))
    (subst (λ (m : ℕ). AfterMark c.args.bytes.now new m (place_of n p) c.write_mark.result) c.mark_page-mark_page.ensures
    (subst (λ (i : ℕ). AfterMark c.args.bytes.now new c.mark_page-mark_page.result i c.write_mark.result) c.place-place.ensures.place c.write_mark.ensures.own))

pub returns-in-Err-Failed-clause-others : goal.returns-in-Err-Failed-clause-others
returns-in-Err-Failed-clause-others g c = λ q apart.
    let n : ℕ = c.args.layout.sectors in
    let p : ℕ = c.args.page in
    let old : ℕ → List ℕ = g.P.Nor.held c.args.part.now in
    let mid : ℕ → List ℕ = g.P.Nor.held c.program.new.self in
    let new : ℕ → List ℕ = g.P.Nor.held c.spoil.new.part in
    mark_beside n p q mid new c.args.layout.dense (λ x other. c.spoil.ensures.others x (λ same. other (same ∙ c.mark_page-mark_page.ensures)))
    (λ i other. subst (λ (m : ℕ). entry_of (new m) i ≡ entry_of (mid m) i) c.mark_page-mark_page.ensures (c.spoil.ensures.beside i (λ same. other (same ∙ c.place-place.ensures.place)))) apart
    ∙ page_beside n p q old mid c.args.layout.dense (λ x other. c.program.ensures.programs.others x (λ same. other (same ∙ c.data_page.ensures))) apart

pub returns-in-Err-Failed-clause-own : goal.returns-in-Err-Failed-clause-own
returns-in-Err-Failed-clause-own g c =
    let n : ℕ = c.args.layout.sectors in
    let p : ℕ = c.args.page in
    let mid : ℕ → List ℕ = g.P.Nor.held c.program.new.self in
    let new : ℕ → List ℕ = g.P.Nor.held c.spoil.new.part in
    spoilt n p (g.P.Nor.held c.args.part.now) mid new c.args.bytes.now c.spoil.result c.args.layout.dense c.requires.blank
    (λ x apart. c.program.ensures.programs.others x (λ same. apart (same ∙ c.data_page.ensures))) (g.met.P.Nor.whole c.program.new.self)
    (λ failed. subst (λ (m : ℕ). LeavesTrace new m (place_of n p)) c.mark_page-mark_page.ensures (subst (λ (i : ℕ). LeavesTrace new c.mark_page-mark_page.result i) c.place-place.ensures.place (c.spoil.ensures.failed failed)))
    (subst (λ (m : ℕ). MakesNoMark mid new m (place_of n p)) c.mark_page-mark_page.ensures (subst (λ (i : ℕ). MakesNoMark mid new c.mark_page-mark_page.result i) c.place-place.ensures.place c.spoil.ensures.unmarked))

pub returns-in-Err-PowerCut-clause-others : goal.returns-in-Err-PowerCut-clause-others
returns-in-Err-PowerCut-clause-others g c = λ q apart.
    page_beside c.args.layout.sectors c.args.page q (g.P.Nor.held c.args.part.now) (g.P.Nor.held c.program.new.self) c.args.layout.dense
    (λ x other. c.program.ensures.programs.others x (λ same. other (same ∙ c.data_page.ensures))) apart

pub returns-in-Err-PowerCut-clause-own : goal.returns-in-Err-PowerCut-clause-own
returns-in-Err-PowerCut-clause-own g c =
    cut_in_data c.args.layout.sectors c.args.page (g.P.Nor.held c.args.part.now) (g.P.Nor.held c.program.new.self) c.args.bytes.now c.args.layout.dense c.requires.blank
    (λ x apart. c.program.ensures.programs.others x (λ same. apart (same ∙ c.data_page.ensures))) (g.met.P.Nor.whole c.program.new.self)
