use Rattle.std.proofs.Common.{rules}
use Rattle.working_state.proofs.whole_files.is_same.Goals as goal

pub returns-clause-refused : goal.returns-clause-refused
returns-clause-refused g c =
    let why = c.has_bytes.ensures.calls.why in
    let faults = c.has_bytes.ensures.calls.faults in
    search rules
