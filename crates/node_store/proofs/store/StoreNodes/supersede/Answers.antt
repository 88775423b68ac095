use Rattle.std.proofs.Common.{refl, sym, ap, subst, arith}
use Rattle.node_store.specs.NodeCache.{NodeCache}
use Rattle.node_store.specs.Caching.{IsTruthful}
use Rattle.node_store.specs.CachingLaws.{without_truthful}
use Rattle.node_store.specs.FittingLaws.{still_listed}
use Rattle.node_store.specs.StorageLaws.{Evolved_itself, Untouched_itself}
use Rattle.node_store.specs.StoreLaws.{Sound_on}
use Rattle.node_store.specs.Stores.{Follows}
use Rattle.node_store.proofs.store.StoreNodes.supersede.Goals as goal

pub returns-clause-looks : goal.returns-clause-looks
returns-clause-looks g c =
    let old = g.F.Flash.device c.args.self.now.flash.now in
    let taken = c.forget.ensures.taken in
    let came : Follows g.F.Flash.device c.args.self.now _ = record {
      same_flash = refl;
      same_storage = refl;
      fits = still_listed old c.args.self.now.storage.now c.forget.new.self (ap (λ (k : NodeCache). k.room) taken)
          (λ fits. subst (IsTruthful old) (sym taken) (without_truthful old _ _ c.forget.ensures.bounded fits.truthful));
      evolved = Evolved_itself _;
      more_writes = omega arith;
      paid = omega arith;
      untouched = λ same. Untouched_itself _;
      at_limit = λ full. Untouched_itself _;
      asks = λ same. omega arith;
    } in
    record {
      same_nodes = refl;
      same_kept = refl;
      same_writes = refl;
      came = came;
      sound = Sound_on g.F.Flash.device _ _ came c.requires;
      same_limit = refl;
      same_blocks = refl;
    }
