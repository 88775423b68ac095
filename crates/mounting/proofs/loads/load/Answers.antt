use Rattle.std.proofs.Common.{◌≡◌, Err, true, false, refl, subst, ap, ◌∙◌, List, None, ℕ, sym}
use Rattle.std.proofs.lemmas.Result.{err_from_is_err_and}
use Rattle.std.specs.FinSet as set
use Rattle.std.specs.Prelude.{◌↔◌}
use Rattle.block_ring.specs.Ring.{Ring}
use Rattle.flash_model.specs.declared.geometry.Geometry.{Geometry}
use Rattle.node_store.specs.NodePages.{node_of}
use Rattle.nodes.specs.Reached.{Reached}
use Rattle.mounting.specs.Records.{history_of, roots_of, knows_plain_only, HaveTrees}
use Rattle.mounting.proofs.Loading.{built_loaded, err_roots}
use Rattle.mounting.specs.Costs.{AsksToVerify}
use Rattle.mounting.proofs.Asking.{verifies_none}
use Rattle.mounting.proofs.loads.load.Goals as goal

pub use_reached-requires-clause-fits : goal.use_reached-requires-clause-fits
use_reached-requires-clause-fits g c = c.in_ok-storage.ensures.fits (g.F.Flash.device c.args.flash.now) (sym c.requires.same)

pub returns-clause-loaded : goal.returns-clause-loaded
returns-clause-loaded g c =
    let d = g.F.Flash.device c.args.flash.now in
    let e = g.F.Flash.device c.use_reached.new.flash in
    let ring = c.use_reached.ensures.ring in
    let begun = c.in_ok-storage.ensures.ring in
    let roots : c.deref.result.now ≡ roots_of (history_of c.args.saved.now) = c.deref.ensures.value ∙ c.in_ok-roots.ensures ∙ ap roots_of c.in_ok-history.ensures.history in
    built_loaded d e c.args.saved.now (record { history = c.in_ok-history.history; group = None; storage = c.use_reached.new.storage; files = c.new.result; is_off = false })
    (record {
      lawful = c.requires.lawful;
      only_reads = c.use_reached.ensures.only_reads;
      history = c.in_ok-history.ensures.history;
      sound = c.in_ok-history.ensures.lawful;
      named = c.in_ok-history.ensures.named;
      trees = subst (HaveTrees (knows_plain_only c.args.saved.now) d) roots c.in_ok-use_reached.ensures.trees;
      used = subst (λ (all : List ℕ). (b : ℕ) → (set.contains c.use_reached.new.storage.ring.used b ≡ true) ↔ Reached (node_of d) all b) roots c.in_ok-use_reached.ensures.used;
      ring_blocks = ap (λ (r : Ring). r.blocks) ring ∙ ap (λ (r : Ring). r.blocks) begun ∙ ap (λ (x : Geometry). x.blocks) c.requires.same;
      bad = c.use_reached.ensures.bad ∙ c.in_ok-storage.ensures.bad ∙ c.list_bad-bad.ensures ∙ ap (λ (l : List ℕ). set.from_list l) c.as_slice.ensures;
      last = ap (λ (r : Ring). r.last) ring ∙ ap (λ (r : Ring). r.last) begun;
      fits = c.use_reached.ensures.fits.fits (c.in_ok-storage.ensures.fits d (sym c.requires.same));
      ungrouped = refl;
      files = c.new.ensures;
      is_on = refl;
    })

pub returns-in_err-use_reached-clause-why : goal.returns-in_err-use_reached-clause-why
returns-in_err-use_reached-clause-why g c =
    let roots : c.deref.result.now ≡ roots_of (history_of c.args.saved.now) = c.deref.ensures.value ∙ c.in_ok-roots.ensures ∙ ap roots_of c.in_ok-history.ensures.history in
    let p = err_from_is_err_and c.from_residual-in_err-use_reached.result c.from_residual-in_err-use_reached.ensures.1 in
    err_roots _ (knows_plain_only c.args.saved.now) (g.F.Flash.device c.args.flash.now) (g.F.Flash.device c.use_reached.new.flash) c.deref.result.now (roots_of (history_of c.args.saved.now))
    c.from_residual-in_err-use_reached.result c.in_err-use_reached.field-0.0 roots (p.1 ∙ ap Err p.2) c.in_err-use_reached.ensures.why

pub returns-in_err-history-clause-asks : goal.returns-in_err-history-clause-asks
returns-in_err-history-clause-asks g c = verifies_none (g.F.Flash.device c.args.flash.now) (roots_of (history_of c.args.saved.now))

pub returns-in_err-roots-clause-asks : goal.returns-in_err-roots-clause-asks
returns-in_err-roots-clause-asks g c = verifies_none (g.F.Flash.device c.args.flash.now) (roots_of (history_of c.args.saved.now))

pub returns-in_err-storage-clause-asks : goal.returns-in_err-storage-clause-asks
returns-in_err-storage-clause-asks g c = verifies_none (g.F.Flash.device c.args.flash.now) (roots_of (history_of c.args.saved.now))

pub returns-in_err-use_reached-clause-asks : goal.returns-in_err-use_reached-clause-asks
returns-in_err-use_reached-clause-asks g c =
    let roots : c.deref.result.now ≡ roots_of (history_of c.args.saved.now) = c.deref.ensures.value ∙ c.in_ok-roots.ensures ∙ ap roots_of c.in_ok-history.ensures.history in
    subst (λ (l : List ℕ). AsksToVerify (g.F.Flash.device c.args.flash.now) l (g.F.Flash.device c.use_reached.new.flash)) roots c.use_reached.ensures.asks

pub returns-clause-asks : goal.returns-clause-asks
returns-clause-asks g c =
    let roots : c.deref.result.now ≡ roots_of (history_of c.args.saved.now) = c.deref.ensures.value ∙ c.in_ok-roots.ensures ∙ ap roots_of c.in_ok-history.ensures.history in
    subst (λ (l : List ℕ). AsksToVerify (g.F.Flash.device c.args.flash.now) l (g.F.Flash.device c.use_reached.new.flash)) roots c.use_reached.ensures.asks
