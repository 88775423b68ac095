use Rattle.std.proofs.Common.{Ok, subst}
use Rattle.flash_model.specs.Device.{Device, ReportsPage}
use Rattle.mirrored_flash.specs.Mirrors.{mirror_device}
use Rattle.mirrored_flash.proofs.Ending.{read_done}
use Rattle.mirrored_flash.proofs.mirror.Mirror.read.Goals as goal

pub returns : goal.returns
returns c =
    read_done (mirror_device c.args.self.now) (mirror_device c.begin.new.self) c.args.page c.args.buffer.now c.read_page.new.buffer c.read_page.result
    c.if-not-self.false c.begin.ensures
    (subst (λ (d : Device). ReportsPage (d.pages c.args.page) c.args.buffer.now c.read_page.new.buffer (Ok c.read_page.result)) c.begin.ensures c.read_page.ensures)
