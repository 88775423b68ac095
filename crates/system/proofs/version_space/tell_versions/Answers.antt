use Rattle.std.proofs.Common.{◌≡◌, inl, inr, ℕ, ◌+◌, Some, List, length, sym, ap, subst, ◌∙◌}
use Rattle.std.proofs.lemmas.List.{length_push}
use Rattle.std.specs.Prelude.{slice_get}
use Rattle.system.specs.VersionSpace.{IsVersionSpace}
use Rattle.system.specs.declared.version_space.VersionSpace.{VersionSpace}
use Rattle.system.proofs.VersionSpaces.{slice_get_pushed}
use Rattle.system.proofs.version_space.tell_versions.Goals as goal

pub loop-place-preserved : goal.loop-place-preserved
loop-place-preserved c =
    let s = c.args.state.now in
    let old = c.loop-place.versions.items in
    let one = c.tell_version.result in (
      ap (λ (l : List VersionSpace). length l) c.in_ok-push.ensures.items ∙ length_push old one ∙ ap (λ (n : ℕ). n + 1) c.loop-place.invariant.0,
      λ d mounted are place version at. elim (slice_get_pushed old one version place (subst (λ (l : List VersionSpace). slice_get l place ≡ Some version) c.in_ok-push.ensures.items at)) [
        | inl before ↦ c.loop-place.invariant.1 d mounted are place version before
        | inr (here, same) ↦
            subst (IsVersionSpace d s place) same (subst (λ (n : ℕ). IsVersionSpace d s n one) (sym (here ∙ c.loop-place.invariant.0)) (c.tell_version.ensures d mounted are))
      ],
    )

pub returns-clause-each : goal.returns-clause-each
returns-clause-each c d mounted are place version at =
    c.loop-place.invariant.1 d mounted are place version (subst (λ (l : List VersionSpace). slice_get l place ≡ Some version) c.from_vec.ensures at)
