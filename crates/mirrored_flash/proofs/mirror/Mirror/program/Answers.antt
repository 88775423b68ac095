use Rattle.std.proofs.Common.{◌/◌, ap, refl, ◌∙◌}
use Rattle.flash_model.specs.declared.geometry.Geometry.{Geometry}
use Rattle.flash_model.specs.Device.{Device}
use Rattle.mirrored_flash.specs.Mirrors.{mirror_device}
use Rattle.mirrored_flash.proofs.Ending.{program_told}
use Rattle.mirrored_flash.proofs.Mirroring.{mirrored, mirrored-pages}
use Rattle.mirrored_flash.proofs.mirror.Mirror.program.Goals as goal

pub returns-clause-programs : goal.returns-clause-programs
returns-clause-programs c =
    let block = ap (λ (s : Geometry). c.args.page / s.pages) (c.geometry.ensures ∙ ap (λ (d : Device). d.geometry) c.begin.ensures) in
    (program_told (mirror_device c.args.self.now) (mirror_device c.begin.new.self) (mirrored c.begin.new.self c.show_page.new.shown) (mirror_device c.end.new.self)
    c.args.page (c.args.page / c.geometry.result.pages) c.args.bytes.now c.args.done c.args.done block c.requires.on c.begin.ensures
    (mirrored-pages c.begin.new.self c.show_page.new.shown c.show_page.ensures.rest) c.end.ensures refl
    c.show_page.ensures.others c.show_page.ensures.own).0

pub returns-clause-shown : goal.returns-clause-shown
returns-clause-shown c =
    let block = ap (λ (s : Geometry). c.args.page / s.pages) (c.geometry.ensures ∙ ap (λ (d : Device). d.geometry) c.begin.ensures) in
    (program_told (mirror_device c.args.self.now) (mirror_device c.begin.new.self) (mirrored c.begin.new.self c.show_page.new.shown) (mirror_device c.end.new.self)
    c.args.page (c.args.page / c.geometry.result.pages) c.args.bytes.now c.args.done c.args.done block c.requires.on c.begin.ensures
    (mirrored-pages c.begin.new.self c.show_page.new.shown c.show_page.ensures.rest) c.end.ensures refl
    c.show_page.ensures.others c.show_page.ensures.own).1
