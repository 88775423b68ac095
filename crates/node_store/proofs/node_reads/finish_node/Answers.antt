use Rattle.std.proofs.Common.{◌≡◌, ℕ, ◌+◌, ◌*◌, length, Some, Err, arith, refl, sym, ap, subst, ◌∙◌}
use Rattle.std.proofs.lemmas.Result.{err_from_is_err_and}
use Rattle.flash_model.specs.declared.geometry.Geometry.{Geometry}
use Rattle.flash_model.specs.Geometry.{IsGeometry}
use Rattle.flash_model.specs.Blocks.{page_count-most}
use Rattle.flash_model.specs.Reading.{OnlyReads_itself}
use Rattle.node_store.specs.FrontLaws.{page_below, page_begins}
use Rattle.node_store.specs.NodePages.{bytes_at, node_of}
use Rattle.node_store.specs.Reading.{Brings}
use Rattle.node_store.specs.ReadingLaws.{Brings_from, brings_wants, rest_in_range, some_rest}
use Rattle.node_store.proofs.Examined.{node_here}
use Rattle.node_store.proofs.node_reads.finish_node.Goals as goal
use Rattle.node_store.proofs.node_reads.finish_node.Goals.{After-page_number-first}
use Rattle.node_store.proofs.node_reads.finish_node.Given.{Over}

-- the number of the first page
first_is : (g : Over) (c : After-page_number-first g) → c.page_number-first.result ≡ c.args.block * (g.F.Flash.device c.args.flash.now).geometry.pages + 0
first_is g c = c.page_number-first.ensures.value ∙ ap (λ (h : Geometry). c.args.block * h.pages + 0) c.geometry.ensures

pub page_number-first-requires-clause-fits : goal.page_number-first-requires-clause-fits
page_number-first-requires-clause-fits g c =
    let most = page_count-most c.geometry.result (subst IsGeometry (sym c.geometry.ensures) c.requires.lawful) in
    omega arith

-- the node are the bytes of its size from the first page on
node_is : (g : Over) (c : After-page_number-first g) → node_of (g.F.Flash.device c.args.flash.now) c.args.block
    ≡ bytes_at (g.F.Flash.device c.args.flash.now).geometry (g.F.Flash.device c.args.flash.now).pages c.page_number-first.result c.args.size
node_is g c =
    node_here (g.F.Flash.device c.args.flash.now) c.args.block c.page_number-first.result c.args.size c.args.page.now.items (first_is g c) c.requires.begun c.requires.size

pub read_sized-requires-clause-in_range : goal.read_sized-requires-clause-in_range
read_sized-requires-clause-in_range g c =
    let old = g.F.Flash.device c.args.flash.now in
    let t = goal.at.read_sized-requires-clause-in_range g c in
    rest_in_range old.geometry old.geometry c.args.block c.page_number-first.result c.args.size c.args.page.now.items c.requires.lawful refl
    (page_below old c.args.block _ c.requires.begun) (first_is g t.After-page_number-first) c.requires.size

pub read_sized-requires-clause-begun : goal.read_sized-requires-clause-begun
read_sized-requires-clause-begun g c =
    let old = g.F.Flash.device c.args.flash.now in
    page_begins old old c.args.block c.page_number-first.result _ (OnlyReads_itself old)
    (first_is g (goal.at.read_sized-requires-clause-begun g c).After-page_number-first) c.requires.begun

pub read_sized-requires-clause-some : goal.read_sized-requires-clause-some
read_sized-requires-clause-some g c =
    let old = g.F.Flash.device c.args.flash.now in
    some_rest old.geometry old.geometry c.args.size c.args.page.now.items c.requires.lawful refl c.requires.size

pub returns-in_err-read_sized-clause-refuses : goal.returns-in_err-read_sized-clause-refuses
returns-in_err-read_sized-clause-refuses g c =
    let t = goal.at.returns-in_err-read_sized-clause-refuses g c in
    let old = g.F.Flash.device c.args.flash.now in
    let new = g.F.Flash.device c.read_sized.new.flash in
    let p = err_from_is_err_and c.from_residual-in_err-read_sized.result c.from_residual-in_err-read_sized.ensures.1 in
    let fault = c.in_err-read_sized.field-0.0 in
    let refused : Brings old new (node_of old c.args.block) c.read_sized.new.node.items (Err fault) =
    Brings_from old old new (bytes_at old.geometry old.pages c.page_number-first.result c.args.size)
    (node_of old c.args.block) c.read_sized.new.node.items (Err fault) (OnlyReads_itself old) (node_is g t.After-page_number-first) c.in_err-read_sized.ensures.brings in
    rw (p.1, p.2) (λ shown. brings_wants old new (node_of old c.args.block) c.read_sized.new.node.items shown fault refused)

pub returns-clause-brings : goal.returns-clause-brings
returns-clause-brings g c =
    let t = goal.at.returns-clause-brings g c in
    (node_is g t.After-page_number-first ∙ c.in_ok-read_sized.ensures.brings, omega (arith, c.read_sized.new.node.ok.0, c.in_ok-read_sized.ensures.len))
