use Rattle.script_runs.specs.Scripts.{ground_at}
use Rattle.script_runs.proofs.TurnLemmas.{script_ends}
use Rattle.script_runs.proofs.scripts.run_until.Goals as goal

pub returns : goal.returns
returns g c =
    let start = ground_at (g.F.Flash.device c.args.flash.now) (g.P.Planning.plan c.args.flash.now) in
    let mid = ground_at (g.F.Flash.device c.mount.new.flash) (g.P.Planning.plan c.mount.new.flash) in
    let end = ground_at (g.F.Flash.device c.run_lines.new.flash) (g.P.Planning.plan c.run_lines.new.flash) in
    let mounted = c.in-Ok.ensures in
    record {
      ends = script_ends c.args.stop start mid end c.in-Ok.mounted c.run_lines.new.system
          (g.R.Read.remaining c.args.reader.now) (g.R.Read.remaining c.run_lines.new.reader) c.run_lines.result (g.W.Write.contents c.args.writer.now) (g.W.Write.contents c.run_lines.new.writer)
          c.mount.ensures.only_reads mounted.ok mounted.system c.mount.ensures.plan c.run_lines.ensures.ends;
    }
