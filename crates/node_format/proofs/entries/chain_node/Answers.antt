use Rattle.std.proofs.Common.{◌≡◌, ◌++◌, length, subst, ap, arith, codes, rules}
use Rattle.byteorder.specs.Endian.{little_bytes}
use Rattle.node_format.specs.Directories.{AreSpelled}
use Rattle.node_format.proofs.DirectoryLaws.{used_most}
use Rattle.node_format.proofs.LinkLaws.{node_written}
use Rattle.node_format.proofs.entries.chain_node.Goals as goal

pub overflow_cast-spelled : goal.overflow_cast-spelled
overflow_cast-spelled c =
    let s = subst (AreSpelled c.list.inside.count c.list.inside.bytes.now) c.list.view_is c.list.invariant in
    omega (arith, used_most c.args.list.now s.lawful c.requires.few, ap length s.spelled)

pub returns-clause-read : goal.returns-clause-read
returns-clause-read c =
    let s = subst (AreSpelled c.list.inside.count c.list.inside.bytes.now) c.list.view_is c.list.invariant in
    let is : c.extend_from_slice-2.new.self.items ≡ codes "UFNE" ++ (little_bytes 4 c.list.inside.count ++ (little_bytes 4 (length c.list.inside.bytes.now) ++ (little_bytes 4 c.args.next ++ c.list.inside.bytes.now))) = search rules in
    (node_written _ c.args.next c.list.inside.count c.list.inside.bytes.now c.args.list.now s c.requires.few (omega (arith, c.ranges.next.fits)) c.requires.full is).read

pub returns-clause-node : goal.returns-clause-node
returns-clause-node c =
    let s = subst (AreSpelled c.list.inside.count c.list.inside.bytes.now) c.list.view_is c.list.invariant in
    let is : c.extend_from_slice-2.new.self.items ≡ codes "UFNE" ++ (little_bytes 4 c.list.inside.count ++ (little_bytes 4 (length c.list.inside.bytes.now) ++ (little_bytes 4 c.args.next ++ c.list.inside.bytes.now))) = search rules in
    (node_written _ c.args.next c.list.inside.count c.list.inside.bytes.now c.args.list.now s c.requires.few (omega (arith, c.ranges.next.fits)) c.requires.full is).node
