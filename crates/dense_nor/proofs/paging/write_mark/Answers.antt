-- Over a blank place the mark that was programmed stands.
use Rattle.std.proofs.Common.{◌≡◌, ◌∙◌, ℕ, ◌<◌, List, length, slice_index, ap, subst, sym}
use Rattle.dense_nor.specs.Marks as spec
use Rattle.dense_nor.proofs.EntryBytes.{cleared-is, entry-length, mark_small}
use Rattle.dense_nor.proofs.paging.write_mark.Goals as goal

pub returns-in-Ok-clause-own : goal.returns-in-Ok-clause-own
returns-in-Ok-clause-own g c =
    let old : List ℕ = spec.entry_of (g.P.Nor.held c.args.part.now c.args.page) c.args.place in
    let new : List ℕ = spec.entry_of (g.P.Nor.held c.program_entry.new.part c.args.page) c.args.place in
    let eight : length c.mark_of.result ≡ 8 = ap length c.mark_of.ensures in
    cleared-is old c.mark_of.result new (entry-length (g.P.Nor.held c.args.part.now c.args.page) c.args.place (g.met.P.Nor.whole c.args.part.now c.args.page) c.requires.in_page ∙ sym eight)
    (entry-length (g.P.Nor.held c.program_entry.new.part c.args.page) c.args.place (g.met.P.Nor.whole c.program_entry.new.part c.args.page) c.requires.in_page ∙ sym eight) c.requires.blank
    (λ k. subst (λ (mark : List ℕ). slice_index mark k < 256) (sym c.mark_of.ensures) (mark_small c.args.bytes.now k)) c.in-Ok.ensures.done
    ∙ c.mark_of.ensures
