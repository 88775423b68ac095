use Rattle.flash_simulation.proofs.ImageTexts.{header-pushed}
use Rattle.flash_simulation.proofs.image_encoding.push_header.Goals as goal

pub returns : goal.returns
returns c =
    header-pushed c.args.sizes c.args.image.now.items c.extend_from_slice.new.self.items c.push_u32.new.out.items c.push_u32-2.new.out.items c.push_u32-3.new.out.items
    c.in_ok-extend_from_slice.ensures.items c.in_ok-push_u32.ensures.items c.in_ok-push_u32-2.ensures.items c.in_ok-push_u32-3.ensures.items
