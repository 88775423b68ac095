use Rattle.std.proofs.Common.{inl, inr, refl}
use Rattle.script_runs.specs.Scripts.{ground, IsRefusedOn, LineSession}
use Rattle.script_runs.specs.Flashes.{IsNewFlash, IsFormatOf}
use Rattle.script_runs.specs.Memory.{memory_sizes, kept_versions, NewSession, NewCause}
use Rattle.script_runs.proofs.TurnLemmas.{ends_map}
use Rattle.script_runs.proofs.memory.run_in_memory.Goals as goal

pub returns-in-Ok-format_as_planned : goal.returns-in-Ok-format_as_planned
returns-in-Ok-format_as_planned g c =
    let start = c.in-Ok.flash in
    let formatted = c.format_as_planned.new.flash in
    let end = c.run_script.new.flash in
    let made : IsNewFlash memory_sizes start = record { new = c.in-Ok.ensures.new; plan = c.in-Ok.ensures.plan } in
    let holds = c.in-Ok-format_as_planned.ensures in
    let done : IsFormatOf kept_versions start formatted = record { formatted = holds.ok; sizes = holds.stay; listed = holds.listed; numbered = holds.numbered } in
    ends_map (LineSession formatted end) (NewSession memory_sizes) (IsRefusedOn (ground formatted) (ground end)) (NewCause memory_sizes)
    (λ lines answers carried. (start, formatted, end, made, done, c.format_as_planned.ensures.plan, carried)) (λ fault cause. inr (inr (start, formatted, end, made, done, c.format_as_planned.ensures.plan, cause)))
    (g.R.Read.remaining c.args.reader.now) (g.R.Read.remaining c.run_script.new.reader) c.run_script.result (g.W.Write.contents c.args.out.now) (g.W.Write.contents c.run_script.new.writer) c.run_script.ensures.ends

pub returns : goal.returns
returns g c =
    let made : IsNewFlash memory_sizes c.in-Ok.flash = record { new = c.in-Ok.ensures.new; plan = c.in-Ok.ensures.plan } in
    (inr (inl (c.in-Ok.flash, c.format_as_planned.new.flash, made, (c.in-Err-format_as_planned.ensures.why, c.format_as_planned.ensures.plan))), refl, refl)
