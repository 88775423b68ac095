use Rattle.std.proofs.Common.{Err, inl, refl, sym, ap, ◌∙◌, rules}
use Rattle.mounting.specs.Contents.{record_of}
use Rattle.std.proofs.lemmas.Result.{err_from_is_err_and}
use Rattle.system.proofs.AfterCommits.{knows}
use Rattle.system.proofs.Syncs.{known_greatest, turned_away}
use Rattle.system.proofs.Tried.{tried_commit}
use Rattle.system.proofs.systems.System.commit.Goals as goal

pub returns : goal.returns
returns g c =
    let left = tried_commit (g.F.Flash.device c.args.flash.now) (g.F.Flash.device c.commit-answer.new.flash) c.args.self.now c.commit-answer.new.self c.remember_roots.new.self.record_roots c.commit-answer.new.bad c.commit-answer.result c.in_ok-saved.saved
    c.requires.system c.requires.is_on
    (record {
      says = c.in_ok-saved.ensures.says ∙ ap (λ g. record_of g c.args.self.now.state.history c.args.self.now.state.storage.ring.last) c.geometry.ensures;
      blocks = c.in_ok-saved.ensures.used;
      writable = c.in_ok-check_commit.ensures.writable;
      commits = c.commit-answer.ensures.commits;
      placed = c.commit-answer.ensures.placed;
      only_anchors = c.commit-answer.ensures.only_anchors;
      ready = c.commit-answer.ensures.ready;
      remembers = c.commit-answer.ensures.remembers;
      listed = search rules;
      unlisted = c.remember_roots.ensures.older;
      why = c.commit-answer.ensures.why;
    })
    c.remember_roots.new.self c.remember_cut.new.self c.remember_cut.result c.remember_roots.ensures.same c.remember_cut.ensures.off c.remember_cut.ensures.same in
    record {
      system = left.0;
      saves = left.1;
      why = left.2;
      pass = left.3;
      prepared = left.4;
      last = λ lacks. absurd (c.in_ok-check_commit.ensures.next (sym (known_greatest (g.F.Flash.device c.args.flash.now) c.args.self.now c.requires.system c.requires.is_on) ∙ lacks.1));
    }

pub returns-in_err-check_commit : goal.returns-in_err-check_commit
returns-in_err-check_commit g c =
    let p = err_from_is_err_and c.from_residual.result c.from_residual.ensures.1 in
    let turned = turned_away (g.F.Flash.device c.args.flash.now) c.args.self.now c.in_err-check_commit.field-0.0 c.requires.system c.requires.is_on c.in_err-check_commit.ensures.why in
    rw (p.1, p.2) (record { system = c.requires.system; saves = turned.0; why = turned.1; pass = refl; prepared = refl; last = λ lacks. (ap Err (turned.2 lacks), refl, refl) })

pub returns-in_err-saved-clause-last : goal.returns-in_err-saved-clause-last
returns-in_err-saved-clause-last g c = λ lacks. absurd (c.in_ok-check_commit.ensures.next (sym (known_greatest (g.F.Flash.device c.args.flash.now) c.args.self.now c.requires.system c.requires.is_on) ∙ lacks.1))

pub returns-in_err-roots-clause-last : goal.returns-in_err-roots-clause-last
returns-in_err-roots-clause-last g c = λ lacks. absurd (c.in_ok-check_commit.ensures.next (sym (known_greatest (g.F.Flash.device c.args.flash.now) c.args.self.now c.requires.system c.requires.is_on) ∙ lacks.1))

pub commit-answer-requires-clause-ready : goal.commit-answer-requires-clause-ready
commit-answer-requires-clause-ready g c = inl (knows (g.F.Flash.device c.args.flash.now) c.args.self.now.state.storage.bad c.args.self.now.anchors (c.requires.system.known c.requires.is_on))
