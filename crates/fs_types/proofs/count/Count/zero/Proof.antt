-- The new count's number is 0. Assumes `Logic`.
use Rattle.std.proofs.Common.{[], ◌∷◌, refl}
use Rattle.std.proofs.raw_atomic.Walks.{proved}
use types.Kit.{raw, ◌$◌, ◌∵◌, !, qed, done, drop, suffices}
use types.Part.{agg}
use types.Run.{enter, returns, no_more}
use types.ByLocal.{alloc_all, pass_all, free_all, look_at, sets}
use denote.Steps.{nothing}
use denote.Triple.Entry.{on_entry}
use denote.Triple.Walked.{says, Stays, walk_of, ends_at}
use Rattle.fs_types.proofs.BareCounts.{bare, count_owned}
use Rattle.fs_types.specs.contracts.count.Count.zero as f
use Rattle.fs_types.proofs.count.Count.zero.Statement.{statement}
use Rattle.fs_types.proofs.count.Count.zero.Code as code

abbrev stayed : Stays f.ended.signature.params f.ended.kept
stayed = tt

pub zero_spec : {M : Type 1} → statement M
zero_spec 𝓤 𝓛 𝓜 𝓡 wired =
    let c = f.clauses 𝓛 𝓜.mem 𝓡.returns in let W = walk_of 𝓛 f.ended stayed c in
    proved 𝓛 f.ended stayed c 𝓜 𝓡 tt
    f.Key.name code.function (code.unfolded 𝓤 𝓛.H 𝓜 𝓡 wired)
    (λ κs. tt) (λ κs. tt) (λ κs qs bounds a g are.
    let y : W.Ghost = ((κs, qs, bounds, a, tt), g) in
    qed 𝓛 (raw (on_entry 𝓛 f.signature κs qs a tt) ∷ raw ((c κs a).requires g) ∷ []) ∵ drop ! $ drop ! $
    enter ! _ _ _ _ _ $ alloc_all ! (λ l. pass_all ! refl tt $
    sets ! (agg ! (no_more !)) refl (tt, tt) $ count_owned ! 0 $
    returns ! (look_at ! 0 refl) $ free_all ! refl $
    suffices ! _ (ends_at 𝓛 f.ended stayed c y bare (record { n = 0 }) tt tt) $ says ! refl $
    nothing ! $ nothing ! $ done !))
