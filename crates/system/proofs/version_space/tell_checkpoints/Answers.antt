use Rattle.std.proofs.Common.{◌≡◌, ℕ, ◌+◌, List, length, sym, ap, subst, ◌∙◌, arith}
use Rattle.std.proofs.lemmas.List.{length_push}
use Rattle.std.specs.Prelude.{slice_index, EachIndex}
use Rattle.system.specs.VersionSpace.{KeepsAlone}
use Rattle.system.proofs.VersionSpaces.{each_pushed}
use Rattle.system.proofs.version_space.tell_checkpoints.Goals as goal

pub loop-place-preserved : goal.loop-place-preserved
loop-place-preserved c =
    let s = c.args.state.now in
    let versions : ℕ = length s.history.versions in
    let old = c.loop-place.checkpoints.items in
    let one = c.alone_at.result in
    let long : length c.push.new.self.items ≡ length old + 1 = ap (λ (l : List ℕ). length l) c.in_ok-push.ensures.items ∙ length_push old one in (
      omega (arith, long, c.loop-place.invariant.0),
      λ d mounted are. subst (λ (l : List ℕ). EachIndex l (λ k. KeepsAlone d s (versions + k) (slice_index l k))) (sym c.in_ok-push.ensures.items)
          (each_pushed (λ k alone. KeepsAlone d s (versions + k) alone) old one (c.loop-place.invariant.1 d mounted are)
          (subst (λ (n : ℕ). KeepsAlone d s n one) (sym c.loop-place.invariant.0) (c.alone_at.ensures d mounted are))),
    )

pub returns-clause-each : goal.returns-clause-each
returns-clause-each c d mounted are =
    let s = c.args.state.now in
    let versions : ℕ = length s.history.versions in
    subst (λ (l : List ℕ). EachIndex l (λ k. KeepsAlone d s (versions + k) (slice_index l k))) (sym c.from_vec.ensures) (c.loop-place.invariant.1 d mounted are)
