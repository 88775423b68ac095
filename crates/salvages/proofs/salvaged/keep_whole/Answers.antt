use Rattle.std.proofs.Common.{◌≡◌, ◌≢◌, ℕ, true, List, [], sym, ap, subst, ◌∙◌, inr}
use Rattle.record_format.specs.Payloads.{is_record}
use Rattle.record_format.specs.declared.record.Record.{Record}
use Rattle.mounting.specs.Records.{knows_plain_only}
use Rattle.salvages.specs.Kept.{roots_in, kept_versions, kept_record}
use Rattle.salvages.specs.Wholes.{AreLost}
use Rattle.salvages.proofs.KeptLaws.{kept_lawful}
use Rattle.salvages.proofs.Saving.{has_none_whole, no_versions, some_versions}
use Rattle.salvages.proofs.salvaged.keep_whole.Goals as goal

pub returns-then-is_empty-clause-why : goal.returns-then-is_empty-clause-why
returns-then-is_empty-clause-why g c =
    let d = g.F.Flash.device c.args.flash.now in
    let r = c.args.newest.now in
    let lost = c.in_ok-lost.lost.items in
    let are : AreLost (knows_plain_only r) d (roots_in r) lost =
    subst (λ (roots : List ℕ). AreLost (knows_plain_only r) d roots lost) (c.deref.ensures.value ∙ c.in_ok-roots.ensures) c.in_ok-lost.ensures.lost in
    let none : c.in_ok-kept.kept.versions ≡ [] = no_versions c.as_slice.result.now c.in_ok-kept.kept.versions c.is_empty.result c.as_slice.ensures c.is_empty.ensures c.if-is_empty.true in
    let is : c.in_ok-kept.kept.versions ≡ kept_versions c.deref-2.result.now r.versions = ap (λ (k : Record). k.versions) c.in_ok-kept.ensures in
    let same : kept_versions c.deref-2.result.now r.versions ≡ kept_versions lost r.versions = ap (λ (l : List ℕ). kept_versions l r.versions) c.deref-2.ensures.value in
    inr (inr (has_none_whole d r lost c.requires.holds are (sym same ∙ sym is ∙ none)))

pub returns-clause-kept : goal.returns-clause-kept
returns-clause-kept g c = c.in_ok-kept.ensures ∙ ap (λ (l : List ℕ). kept_record l c.args.newest.now) c.deref-2.ensures.value

pub returns-clause-is_record : goal.returns-clause-is_record
returns-clause-is_record g c =
    let r = c.args.newest.now in
    let lost = c.deref-2.result.now in
    let is : c.in_ok-kept.kept.versions ≡ kept_versions lost r.versions = ap (λ (k : Record). k.versions) c.in_ok-kept.ensures in
    let some : kept_versions lost r.versions ≢ [] = λ none. some_versions c.as_slice.result.now c.in_ok-kept.kept.versions c.is_empty.result c.as_slice.ensures c.is_empty.ensures c.if-is_empty.false (is ∙ none) in
    subst (λ (k : Record). is_record k ≡ true) (sym c.in_ok-kept.ensures) (kept_lawful lost r c.requires.is_record some)
