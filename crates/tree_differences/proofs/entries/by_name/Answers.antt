use Rattle.std.proofs.Common.{◌∙◌, Some, cond, ap, arith}
use Rattle.std.specs.BTreeMap.{is_at}
use Rattle.std.specs.Map.{lookup}
use Rattle.fs_types.specs.Names.{Name, name_cmp}
use Rattle.tree_differences.proofs.Named.{named_more}
use Rattle.tree_differences.proofs.entries.by_name.Goals as goal

pub loop-left-preserved : goal.loop-left-preserved
loop-left-preserved c = record {
  within = omega (arith, c.loop-left.invariant.within);
  are = named_more c.args.entries.now c.loop-left.left c.index-entries-left.result c.loop-left.places.entries c.insert.new.self.entries c.loop-left-test.true c.loop-left.invariant.within c.index-entries-left.is
      (λ name. c.in_ok-insert.ensures.updates.0 name
      ∙ ap (λ (k : Name). cond (is_at (name_cmp k) name) (Some c.index-entries-left.result.1) (lookup (is_at (name_cmp name)) c.loop-left.places.entries)) c.in_ok-clone.ensures) c.loop-left.invariant.are;
}
