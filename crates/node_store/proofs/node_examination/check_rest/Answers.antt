use Rattle.std.proofs.Common.{◌≡◌, ℕ, ◌+◌, ◌*◌, List, [], Option, Some, Err, refl, arith, sym, ap, subst, ◌∙◌}
use Rattle.std.specs.Prelude.{OnOk, IfErr}
use Rattle.flash_model.specs.declared.geometry.Geometry.{Geometry}
use Rattle.flash_model.specs.Geometry.{IsGeometry}
use Rattle.flash_model.specs.Blocks.{page_count-most}
use Rattle.flash_model.specs.Reading.{OnlyReads_itself}
use Rattle.node_store.specs.FrontLaws.{page_below, page_begins}
use Rattle.node_store.specs.NodePages.{bytes_at, node_of}
use Rattle.node_store.specs.Reading.{Brings}
use Rattle.node_store.specs.ReadingLaws.{rest_in_range, some_rest}
use Rattle.node_store.proofs.Examined.{node_here}
use Rattle.node_store.proofs.node_examination.check_rest.Goals as goal
use Rattle.node_store.proofs.node_examination.check_rest.Goals.{After-page_number-first}
use Rattle.node_store.proofs.node_examination.check_rest.Given.{Over}

-- the number of the first page
first_is : (g : Over) (c : After-page_number-first g) → c.page_number-first.result ≡ c.args.block * (g.F.Flash.device c.args.flash.now).geometry.pages + 0
first_is g c = c.page_number-first.ensures.value ∙ ap (λ (h : Geometry). c.args.block * h.pages + 0) c.geometry.ensures

pub page_number-first-requires-clause-fits : goal.page_number-first-requires-clause-fits
page_number-first-requires-clause-fits g c =
    let most = page_count-most c.geometry.result (subst IsGeometry (sym c.geometry.ensures) c.requires.lawful) in
    omega arith

-- the node are the bytes of its size from the first page on
node_is : (g : Over) (c : After-page_number-first g) → node_of (g.F.Flash.device c.args.flash.now) c.args.block
    ≡ bytes_at (g.F.Flash.device c.args.flash.now).geometry (g.F.Flash.device c.args.flash.now).pages c.page_number-first.result c.args.size
node_is g c =
    node_here (g.F.Flash.device c.args.flash.now) c.args.block c.page_number-first.result c.args.size c.args.page.now.items (first_is g c) c.requires.begun c.requires.size

pub check_sized-requires-clause-in_range : goal.check_sized-requires-clause-in_range
check_sized-requires-clause-in_range g c =
    let old = g.F.Flash.device c.args.flash.now in
    let t = goal.at.check_sized-requires-clause-in_range g c in
    rest_in_range old.geometry old.geometry c.args.block c.page_number-first.result c.args.size c.args.page.now.items c.requires.lawful refl
    (page_below old c.args.block _ c.requires.begun) (first_is g t.After-page_number-first) c.requires.size

pub check_sized-requires-clause-begun : goal.check_sized-requires-clause-begun
check_sized-requires-clause-begun g c =
    let old = g.F.Flash.device c.args.flash.now in
    page_begins old old c.args.block c.page_number-first.result _ (OnlyReads_itself old)
    (first_is g (goal.at.check_sized-requires-clause-begun g c).After-page_number-first) c.requires.begun

pub check_sized-requires-clause-some : goal.check_sized-requires-clause-some
check_sized-requires-clause-some g c =
    let old = g.F.Flash.device c.args.flash.now in
    some_rest old.geometry old.geometry c.args.size c.args.page.now.items c.requires.lawful refl c.requires.size

pub returns-clause-there : goal.returns-clause-there
returns-clause-there g c =
    let t = goal.at.returns-clause-there g c in
    subst (λ (o : Option (List ℕ)). OnOk c.check_sized.result ((bytes : List ℕ) × (o ≡ Some bytes))) (sym (node_is g t.After-page_number-first)) c.check_sized.ensures.there

pub returns-clause-refuses : goal.returns-clause-refuses
returns-clause-refuses g c =
    let t = goal.at.returns-clause-refuses g c in
    subst (λ (o : Option (List ℕ)). IfErr c.check_sized.result (λ fault. Brings (g.F.Flash.device c.args.flash.now) (g.F.Flash.device c.check_sized.new.flash) o [] (Err fault)))
    (sym (node_is g t.After-page_number-first)) c.check_sized.ensures.refuses
