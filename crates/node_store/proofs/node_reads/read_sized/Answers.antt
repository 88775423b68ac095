use Rattle.std.proofs.Common.{◌≡◌, ℕ, ◌+◌, ◌-◌, ◌*◌, ◌<◌, ◌++◌, length, take, option_map, sym, ap, ◌∙◌, vec_len, arith, [], Some}
use Rattle.std.specs.Prelude.{min}
use Rattle.std.proofs.lemmas.Result.{err_from_is_err_and}
use Rattle.flash_model.specs.declared.geometry.Geometry.{Geometry}
use Rattle.flash_model.specs.Reading.{OnlyReads_on}
use Rattle.node_store.specs.NodePages.{and_page, bytes_at}
use Rattle.nodes.specs.PageCounts.{pages_for}
use Rattle.node_store.specs.ReadingLaws.{Brings_on, no_next, cut_next}
use Rattle.node_store.proofs.node_reads.read_sized.Goals as goal

-- one page more of a node, no more than its size
part_more : (size place page before after : ℕ) → before ≡ min size (place * page) → after ≡ min size (before + page) → after ≡ min size ((place + 1) * page)
part_more size place page before after was is = let more : (place + 1) * page ≡ place * page + page = omega arith in omega arith

pub returns-in_err-read_page-clause-brings : goal.returns-in_err-read_page-clause-brings
returns-in_err-read_page-clause-brings g c =
    let p = err_from_is_err_and c.from_residual.result c.from_residual.ensures.1 in
    let so_far = c.loop-place.invariant in
    let old = g.F.Flash.device c.args.flash.now in
    let mid = g.F.Flash.device c.loop-place.flash in
    let number = c.args.first + c.loop-place.place in
    let count : c.div_ceil-count.result ≡ pages_for old.geometry.page c.args.size =
    c.div_ceil-count.ensures ∙ ap (λ (h : Geometry). pages_for h.page c.args.size) c.geometry.ensures in
    let below : c.loop-place.place < pages_for old.geometry.page c.args.size = let test = c.loop-place-test.true in omega arith in
    rw (p.1, p.2) (Brings_on c.in_err-read_page.field-0.0 old mid (g.F.Flash.device c.read_page.new.flash) (and_page (Some []) (mid.pages number))
    (bytes_at old.geometry old.pages c.args.first c.args.size) c.read_page.new.page.items c.loop-place.node.items so_far.only_reads
    (λ none. ap (option_map (take c.args.size)) (no_next old mid c.args.first c.loop-place.place (pages_for old.geometry.page c.args.size) so_far.only_reads below none))
    c.in_err-read_page.ensures.brings)

pub loop-place-preserved : goal.loop-place-preserved
loop-place-preserved g c =
    let so_far = c.loop-place.invariant in
    let old = g.F.Flash.device c.args.flash.now in
    let mid = g.F.Flash.device c.loop-place.flash in
    record {
      only_reads = OnlyReads_on old mid (g.F.Flash.device c.read_page.new.flash) so_far.only_reads c.read_page.ensures.only_reads;
      joined =
          cut_next c.args.size old mid c.args.first c.loop-place.place c.loop-place.node.items c.read_page.new.page.items so_far.only_reads so_far.joined
          c.in_ok-read_page.ensures.brings
          ∙ ap (λ l. Some (c.loop-place.node.items ++ take (c.args.size - length c.loop-place.node.items) l)) (sym c.deref-in-loop-place.ensures.value)
          ∙ ap Some (sym c.append_part-in-loop-place.ensures.part);
      len =
          (part_more c.args.size c.loop-place.place (vec_len c.loop-place.page) (vec_len c.loop-place.node) (vec_len c.append_part-in-loop-place.new.node) so_far.len
          (c.append_part-in-loop-place.ensures.len ∙ ap (λ n. min c.args.size (vec_len c.loop-place.node + n)) (c.deref-in-loop-place.ensures.len ∙ c.read_page.ensures.page)))
          ∙ ap (λ n. min c.args.size ((c.loop-place.place + 1) * n)) (sym c.read_page.ensures.page);
      page = c.read_page.ensures.page ∙ so_far.page;
      room = let a = so_far.room in let b = c.append_part-in-loop-place.ensures.room in omega arith;
      operations = let a = so_far.operations in let b = c.read_page.ensures.operations in let from = c.loop-place.auto.place in omega arith;
    }
