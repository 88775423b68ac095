use Rattle.std.proofs.Common.{◌≡◌, ◌++◌, List, ℕ, codes, rules}
use Rattle.byteorder.specs.Endian.{little_bytes}
use Rattle.record_format.proofs.Appends.{then_two, then_five}
use Rattle.record_format.proofs.page_head.push_head.Goals as goal

pub returns-clause-items : goal.returns-clause-items
returns-clause-items c =
    let head = c.args.head in
    let sequence : c.push_u64.new.out.items ≡ c.push_bytes.new.out.items ++ little_bytes 8 head.sequence = search rules in
    let index : c.push_u16.new.out.items ≡ c.push_u64.new.out.items ++ little_bytes 2 head.index = search rules in
    let count : c.push_u16-2.new.out.items ≡ c.push_u16.new.out.items ++ little_bytes 2 head.count = search rules in
    let used : c.push_u16-3.new.out.items ≡ c.push_u16-2.new.out.items ++ little_bytes 2 head.used = search rules in
    let zeros : c.push_u16-4.new.out.items ≡ c.push_u16-3.new.out.items ++ little_bytes 2 0 = search rules in
    let fields : List ℕ = little_bytes 8 head.sequence ++ (little_bytes 2 head.index ++ (little_bytes 2 head.count ++ (little_bytes 2 head.used ++ little_bytes 2 0))) in
    then_two c.args.out.now.items (codes "UFCR") fields c.push_bytes.new.out.items c.push_u16-4.new.out.items c.push_bytes.ensures.items
    (then_five c.push_bytes.new.out.items (little_bytes 8 head.sequence) (little_bytes 2 head.index) (little_bytes 2 head.count) (little_bytes 2 head.used) (little_bytes 2 0) _ _ _ _ _ sequence index count used zeros)
