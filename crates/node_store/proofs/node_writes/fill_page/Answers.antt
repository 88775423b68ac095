use Rattle.node_store.proofs.Padding.{filled_over}
use Rattle.node_store.proofs.node_writes.fill_page.Goals as goal

pub returns : goal.returns
returns c = record {
  filled = filled_over c.args.page.now c.args.bytes.now c.copy_from_slice.new.self c.fill.new.self c.min-count.result c.min-count.ensures c.copy_from_slice.ensures.after (c.fill.ensures.after (λ y e. e));
}
