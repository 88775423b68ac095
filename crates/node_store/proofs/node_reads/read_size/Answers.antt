use Rattle.std.proofs.Common.{◌≡◌, ℕ, ◌+◌, ◌*◌, List, [], Option, option_and_then, Some, None, Ok, Err, sym, ap, subst, ◌∙◌}
use Rattle.std.proofs.lemmas.Result.{err_from_is_err_and}
use Rattle.flash_model.specs.declared.geometry.Geometry.{Geometry}
use Rattle.flash_model.specs.Geometry.{block_bytes}
use Rattle.flash_model.specs.Reading.{OnlyReads_itself}
use Rattle.node_format.specs.Headers.{node_size}
use Rattle.node_store.specs.Fronts.{first_page}
use Rattle.node_store.specs.FrontLaws.{node_by_page, page_none}
use Rattle.node_store.specs.NodePages.{bytes_at, node_of}
use Rattle.node_store.specs.ReadingLaws.{Brings_on}
use Rattle.node_store.proofs.Examined.{first_stays}
use Rattle.node_store.proofs.node_reads.read_size.Goals as goal

told : (g d : Geometry) (n : ℕ) (shown head : List ℕ) (o : Option ℕ) → g ≡ d → n ≡ block_bytes g → shown ≡ head → o ≡ node_size n shown
    → node_size (block_bytes d) head ≡ o
told g d n shown head o same bytes is tells =
    sym (tells ∙ ap (λ k. node_size k shown) (bytes ∙ ap block_bytes same) ∙ ap (node_size (block_bytes d)) is)

pub returns-in_err-read_first_page-clause-refuses : goal.returns-in_err-read_first_page-clause-refuses
returns-in_err-read_first_page-clause-refuses g c =
    let p = err_from_is_err_and c.from_residual.result c.from_residual.ensures.1 in
    let old = g.F.Flash.device c.args.flash.now in
    rw (p.1, p.2) (Brings_on c.in_err-read_first_page.field-0.0 old old (g.F.Flash.device c.read_first_page.new.flash) (first_page old c.args.block) (node_of old c.args.block)
    c.read_first_page.new.page.items []
    (OnlyReads_itself old) (page_none old c.args.block) c.in_err-read_first_page.ensures.brings)

pub returns-in_default-clause-refuses : goal.returns-in_default-clause-refuses
returns-in_default-clause-refuses g c =
    let old = g.F.Flash.device c.args.flash.now in
    node_by_page old c.args.block c.read_first_page.new.page.items c.in_ok-read_first_page.ensures.brings
    ∙ ap (option_and_then (bytes_at old.geometry old.pages (c.args.block * old.geometry.pages + 0)))
    (told c.geometry-geometry.result old.geometry c.block_bytes.result c.deref.result.now c.read_first_page.new.page.items None c.geometry-geometry.ensures
    c.block_bytes.ensures c.deref.ensures.value c.in_default.ensures.size)

pub returns-clause-begins : goal.returns-clause-begins
returns-clause-begins g c =
    first_stays (g.F.Flash.device c.args.flash.now) (g.F.Flash.device c.read_first_page.new.flash) c.args.block c.read_first_page.ensures.only_reads
    ∙ c.in_ok-read_first_page.ensures.brings

pub returns-clause-size : goal.returns-clause-size
returns-clause-size g c =
    let old = g.F.Flash.device c.args.flash.now in
    ap (λ (h : Geometry). node_size (block_bytes h) c.read_first_page.new.page.items) c.read_first_page.ensures.only_reads.geometry
    ∙ told c.geometry-geometry.result old.geometry c.block_bytes.result c.deref.result.now c.read_first_page.new.page.items (Some c.in-Some.size)
    c.geometry-geometry.ensures c.block_bytes.ensures c.deref.ensures.value c.in-Some.ensures.size
