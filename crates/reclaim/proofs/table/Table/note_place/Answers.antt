use Rattle.std.proofs.Common.{◌≡◌, arith}
use Rattle.reclaim.proofs.Heads.{told_more, empty_kept, empty_fits}
use Rattle.reclaim.proofs.table.Table.note_place.Goals as goal

pub returns-in-File-default-eq0-clause-heads : goal.returns-in-File-default-eq0-clause-heads
returns-in-File-default-eq0-clause-heads c =
    let own = c.in-File-default-eq0 in
    let empty : own.length ≡ 0 = omega (arith, own.length-is, own.length-test) in
    record {
      kept = λ most seen told keeps is. told_more c.args.capacity most seen told c.args.self.now keeps c.args.place (empty_kept c.args.capacity c.args.self.now c.args.place own.head own.length own.is empty is);
      bad = λ most seen told keeps is fit. empty_fits c.args.capacity most told c.args.place own.head own.length own.is empty is fit;
    }
