use Rattle.std.proofs.Common.{◌≡◌, ◌≤◌, length, sym, arith}
use Rattle.std.proofs.lemmas.Bool.{true≢false, leb-true}
use Rattle.inquiries.specs.Items.{items_of}
use Rattle.inquiries.proofs.Sizes.{few_some}
use Rattle.inquiries.proofs.path_room.is_sure.Goals as goal

pub returns-in-Some : goal.returns-in-Some
returns-in-Some c = λ t is few.
    let entries : c.in-Some.entries ≡ length (items_of t) = few_some t c.args.size c.in-Some.entries is c.in-Some.is in
    let below : c.in-Some.entries ≤ 16384 = leb-true c.in-Some.entries 16384 few in
    omega (arith, entries, below)

pub returns-in-None : goal.returns-in-None
returns-in-None c = λ t is wrong. absurd (true≢false (sym wrong))
