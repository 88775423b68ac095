use Rattle.std.proofs.Common.{arith}
use Rattle.flash_simulation.proofs.ImageMagic.{sizes-read}
use Rattle.flash_simulation.proofs.image_decoding.sizes_at.Goals as goal

pub returns-clause-found : goal.returns-clause-found
returns-clause-found c =
    sizes-read c.args.bytes.now c.in_ok-page.rest.now c.in_ok-pages.rest.now c.in_ok-blocks.rest.now
    (record { page = c.in_ok-page.page; pages = c.in_ok-pages.pages; blocks = c.in_ok-blocks.blocks })
    (λ i. omega (arith, c.type_inv.bytes i)) c.in_ok-page.ensures c.in_ok-pages.ensures c.in_ok-blocks.ensures
