use Rattle.std.proofs.Common.{◌≡◌, ◌*◌, ◌≤◌, ◌<◌, ◌/◌, ℕ, ap, subst, sym, ◌∙◌, arith}
use Rattle.std.proofs.lemmas.Nat.{le-div}
use Rattle.image_sizes.proofs.folder_sizes.most_blocks.Goals as goal

-- so many blocks have no more than all bytes, of a block that has some
fits : (n block told : ℕ) → told ≡ block → 0 < block → n * block ≤ 67108864 → n ≤ 67108864 / told
fits n block told is some bytes =
    subst (λ (b : ℕ). n ≤ 67108864 / b) (sym is) (le-div n 67108864 block some bytes)

pub returns-clause-most : goal.returns-clause-most
returns-clause-most c = λ n lawful.
    let block : ℕ = c.args.sizes.pages * c.args.sizes.page in
    let least : 4096 ≤ block = lawful.block_least in
    let product : c.from.result * c.from-2.result ≡ block = ap (λ (x : ℕ). x * c.from-2.result) c.from.ensures ∙ ap (λ (y : ℕ). c.args.sizes.pages * y) c.from-2.ensures in
    let told : c.max.result ≡ block = omega (arith, least, product, c.max.ensures) in
    fits n block c.max.result told (omega (arith, least)) lawful.bytes_most
