use Rattle.script_runs.proofs.CalmLaws.{calm_mount, calm_format}
use Rattle.script_runs.proofs.PlanLemmas.{entries_law}
use Rattle.script_runs.proofs.ScriptLaws.{script_law}
use Rattle.script_runs.proofs.laws_of_scripts.script_laws.Goals as goal

pub returns : goal.returns
returns c = record { session = script_law; entries = entries_law; calm_mount = calm_mount; calm_format = calm_format }
