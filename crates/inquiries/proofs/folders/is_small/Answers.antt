use Rattle.std.proofs.Common.{◌∙◌, sym}
use Rattle.std.proofs.lemmas.Bool.{true≢false}
use Rattle.std.proofs.lemmas.Result.{IfOk-weaker}
use Rattle.history_machine.specs.Machine.{view_tree}
use Rattle.inquiries.specs.Readings.{shown}
use Rattle.inquiries.proofs.Readings.{unchanged-refl}
use Rattle.inquiries.proofs.folders.is_small.Goals as goal

pub returns-then-not-has_few-clause-same : goal.returns-then-not-has_few-clause-same
returns-then-not-has_few-clause-same g c = unchanged-refl c.args.fs.now

pub returns-then-not-has_few-clause-ok : goal.returns-then-not-has_few-clause-ok
returns-then-not-has_few-clause-ok g c =
    let t = view_tree (shown c.args.fs.now) c.args.view.now in (
      λ wrong. absurd (true≢false (sym wrong)),
      λ small. absurd (true≢false (sym ((c.has_few.ensures t c.requires.size).1 (small.entries, small.bytes)) ∙ c.if-not-has_few.true)),
    )

pub returns-clause-ok : goal.returns-clause-ok
returns-clause-ok g c =
    let t = view_tree (shown c.args.fs.now) c.args.view.now in
    let counted = (c.has_few.ensures t c.requires.size).0 c.if-not-has_few.false in
    IfOk-weaker c.is_listable.result _ _
    (λ listable decides. (
      λ yes. (let is = decides.0 yes in record { entries = counted.0; bytes = counted.1; paths = is.paths; owners = is.owners }),
      λ small. decides.1 (record { paths = small.paths; owners = small.owners }),
    )) c.is_listable.ensures.ok
