use Rattle.std.proofs.Common.{refl}
use Rattle.mirrored_flash.specs.Mirrors.{mirror_device}
use Rattle.mirrored_flash.proofs.Ending.{erase_told}
use Rattle.mirrored_flash.proofs.Mirroring.{mirrored, mirrored-pages}
use Rattle.mirrored_flash.proofs.mirror.Mirror.erase.Goals as goal

pub returns-clause-erases : goal.returns-clause-erases
returns-clause-erases c =
    (erase_told (mirror_device c.args.self.now) (mirror_device c.begin.new.self) (mirrored c.begin.new.self c.show_block.new.shown) (mirror_device c.end.new.self)
    c.args.block c.args.done c.args.done c.requires.on c.begin.ensures
    (mirrored-pages c.begin.new.self c.show_block.new.shown c.show_block.ensures.rest) c.end.ensures refl
    c.show_block.ensures.others c.show_block.ensures.own).0

pub returns-clause-shown : goal.returns-clause-shown
returns-clause-shown c =
    (erase_told (mirror_device c.args.self.now) (mirror_device c.begin.new.self) (mirrored c.begin.new.self c.show_block.new.shown) (mirror_device c.end.new.self)
    c.args.block c.args.done c.args.done c.requires.on c.begin.ensures
    (mirrored-pages c.begin.new.self c.show_block.new.shown c.show_block.ensures.rest) c.end.ensures refl
    c.show_block.ensures.others c.show_block.ensures.own).1
