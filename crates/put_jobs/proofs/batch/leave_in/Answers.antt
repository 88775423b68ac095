use Rattle.std.proofs.Common.{◌∙◌, sym}
use Rattle.put_jobs.proofs.BatchLemmas.{one_out, one_in}
use Rattle.put_jobs.proofs.batch.leave_in.Goals as goal

pub returns-then-is_left_out : goal.returns-then-is_left_out
returns-then-is_left_out g c = one_out c.args.skip_links c.args.sources.now.items c.args.source (sym c.if-is_left_out.true ∙ c.is_left_out.ensures)
