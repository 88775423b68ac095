use Rattle.std.proofs.Common.{◌∙◌, refl, sym, ap, rules}
use Rattle.std.proofs.lemmas.Result.{err_from_is_err_and}
use Rattle.flash_model.specs.declared.geometry.Geometry.{Geometry}
use Rattle.flash_model.specs.Reading.{same_pages}
use Rattle.anchors.specs.Parts.{greatest_on}
use Rattle.anchors.proofs.Beginning.{read_commit_cause, none_left, one_left}
use Rattle.anchors.proofs.anchors.Anchors.next_sequence.Goals as goal

pub returns-then-not-has_next_sequence-clause-last : goal.returns-then-not-has_next_sequence-clause-last
returns-then-not-has_next_sequence-clause-last g c = λ some all. (refl, refl)

pub returns-then-not-has_next_sequence-clause-why : goal.returns-then-not-has_next_sequence-clause-why
returns-then-not-has_next_sequence-clause-why g c =
    (none_left (g.F.Flash.device c.args.flash.now) c.args.bad.now c.args.self.now c.has_next_sequence.result c.requires.ready c.has_next_sequence.ensures c.if-not-has_next_sequence.true, refl, refl)

pub returns-in_err-page-clause-last : goal.returns-in_err-page-clause-last
returns-in_err-page-clause-last g c = λ some all.
    absurd (one_left (g.F.Flash.device c.args.flash.now) c.args.geometry c.args.bad.now c.args.self.now c.has_next_sequence.result c.requires.same c.requires.ready c.has_next_sequence.ensures c.if-not-has_next_sequence.false all some)

pub returns-in_err-greatest-clause-last : goal.returns-in_err-greatest-clause-last
returns-in_err-greatest-clause-last g c = λ some all.
    absurd (one_left (g.F.Flash.device c.args.flash.now) c.args.geometry c.args.bad.now c.args.self.now c.has_next_sequence.result c.requires.same c.requires.ready c.has_next_sequence.ensures c.if-not-has_next_sequence.false all some)

pub returns-in_err-greatest-clause-why : goal.returns-in_err-greatest-clause-why
returns-in_err-greatest-clause-why g c =
    let p = err_from_is_err_and c.from_residual-in_err-greatest.result c.from_residual-in_err-greatest.ensures.1 in
    rw (p.1, p.2) (read_commit_cause (g.F.Flash.device c.args.flash.now) (g.F.Flash.device c.greatest.new.flash) c.args.bad.now c.args.self.now c.in_err-greatest.field-0.0 c.in_err-greatest.ensures.none c.in_err-greatest.ensures.reads.only_reads c.in_err-greatest.ensures.reads.why)

pub returns-then-greatest-clause-last : goal.returns-then-greatest-clause-last
returns-then-greatest-clause-last g c = λ some all.
    absurd (one_left (g.F.Flash.device c.args.flash.now) c.args.geometry c.args.bad.now c.args.self.now c.has_next_sequence.result c.requires.same c.requires.ready c.has_next_sequence.ensures c.if-not-has_next_sequence.false all some)

pub returns-then-greatest-clause-why : goal.returns-then-greatest-clause-why
returns-then-greatest-clause-why g c =
    let old = g.F.Flash.device c.args.flash.now in
    (ap (λ (h : Geometry). greatest_on h old.pages) c.requires.same ∙ sym c.in_ok-greatest.ensures.greatest ∙ c.if-greatest.true, same_pages c.in_ok-greatest.ensures.reads.only_reads, refl)

pub returns-clause-last : goal.returns-clause-last
returns-clause-last g c = λ some all. absurd (c.if-greatest.false (c.in_ok-greatest.ensures.greatest ∙ all))

pub greatest-requires-clause-may : goal.greatest-requires-clause-may
greatest-requires-clause-may g c = record { same = c.requires.same; lawful = c.requires.lawful; whole = search rules }
