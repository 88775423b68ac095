use Rattle.std.proofs.Common.{◌+◌, ◌*◌, ap, ◌∙◌, length}
use Rattle.flash_model.specs.declared.geometry.Geometry.{Geometry}
use Rattle.node_store.proofs.PartFaults.{brings_part, refuses_part}
use Rattle.node_store.proofs.node_parts.read_part.Goals as goal

pub returns-clause-copied : goal.returns-clause-copied
returns-clause-copied g c =
    brings_part (g.F.Flash.device c.args.flash.now) c.args.block c.page_number.result c.args.offset (length c.args.out.now) c.read_pages.new.out _
    (c.page_number.ensures.value ∙ ap (λ (h : Geometry). c.args.block * h.pages + 0) c.geometry-geometry.ensures) c.read_pages.ensures.copied

pub returns-clause-refuses : goal.returns-clause-refuses
returns-clause-refuses g c =
    refuses_part (g.F.Flash.device c.args.flash.now) (g.F.Flash.device c.read_pages.new.flash) c.args.block c.page_number.result c.args.offset
    (length c.args.out.now) _ c.requires.lawful
    (c.page_number.ensures.value ∙ ap (λ (h : Geometry). c.args.block * h.pages + 0) c.geometry-geometry.ensures) c.read_pages.ensures.refuses
