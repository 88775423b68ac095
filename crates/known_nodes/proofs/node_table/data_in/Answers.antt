use Rattle.std.proofs.Common.{◌-◌, length, drop, sym, arith}
use Rattle.std.proofs.lemmas.List.{drop_all, length-drop, take_all}
use Rattle.known_nodes.proofs.node_table.data_in.Goals as goal

pub returns-then-bytes-header : goal.returns-then-bytes-header
returns-then-bytes-header c = take_all (length c.args.bytes.now - 80) (drop 80 c.args.bytes.now) (omega (arith, length-drop 80 c.args.bytes.now))

pub returns-else-bytes-header : goal.returns-else-bytes-header
returns-else-bytes-header c = sym (drop_all 80 c.args.bytes.now c.if-bytes-header.false)
