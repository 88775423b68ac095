use Rattle.std.proofs.Common.{◌≡◌, ◌+◌, ◌-◌, ◌*◌, ℕ, drop, take, ap, length, ◌∙◌, arith}
use Rattle.raw_part.proofs.Read.{held-length}
use Rattle.raw_part.proofs.raw_flash.part_page.Goals as goal

pub returns-clause-bytes : goal.returns-clause-bytes
returns-clause-bytes c =
    let n = c.args.number in
    let count : 256 * n + 256 - 256 * n ≡ 256 = omega arith in
    ap (λ (k : ℕ). take k (drop (256 * n) c.args.bytes.now)) count

pub returns-clause-len : goal.returns-clause-len
returns-clause-len c =
    let n = c.args.number in
    let count : 256 * n + 256 - 256 * n ≡ 256 = omega arith in
    ap (λ (k : ℕ). length (take k (drop (256 * n) c.args.bytes.now))) count ∙ held-length c.args.bytes.now n c.requires
