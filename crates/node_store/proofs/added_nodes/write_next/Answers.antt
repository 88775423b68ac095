use Rattle.std.proofs.Common.{◌≡◌, ◌≢◌, slice_get, Ok, Some, None, drop, ap, subst, sym, ◌∙◌}
use Rattle.std.specs.FinSet as set
use Rattle.std.proofs.lemmas.Bool.{true≢false}
use Rattle.flash_model.specs.Geometry.{block_bytes}
use Rattle.node_store.specs.NodeCacheLaws.{first_shown, first_entry, taken_none, still_none, out_none}
use Rattle.node_store.specs.NodeCache.{NodeCache, node_in, with_first, first_bytes}
use Rattle.node_format.specs.Headers.{IsNode}
use Rattle.node_store.specs.Caching.{IsTruthful}
use Rattle.node_store.specs.CachingLaws.{written_truthful, tried_truthful}
use Rattle.node_store.specs.Fitting.{ListsNoneTried}
use Rattle.node_store.specs.FittingLaws.{still_fits, lists_none}
use Rattle.node_store.specs.NodePages.{node_of}
use Rattle.node_store.specs.Storage.{storage, IsAttempt}
use Rattle.node_store.specs.StorageLaws.{new_listed}
use Rattle.node_store.proofs.added_nodes.write_next.Goals as goal
use Rattle.node_store.proofs.added_nodes.write_next.Goals.{After-first, After-take_first}
use Rattle.node_store.proofs.added_nodes.write_next.Given.{Over}

module _ (g : Over) (c : After-first g) where
  -- the node moved into the cache
  moved : c.list.new.self ≡ with_first c.args.storage.now.cache c.in_ok-block.block c.args.node.now.items
  moved = c.in_ok-list.ensures.listed ∙ ap (λ v. with_first c.args.storage.now.cache c.in_ok-block.block v.items) c.replace.ensures.value

  -- what is lent to the attempt are its bytes
  lent : c.first.result.now ≡ c.args.node.now.items
  lent =
      c.first.ensures ∙ ap (λ (k : NodeCache). first_bytes k.entries) moved
      ∙ first_shown c.args.storage.now.cache c.list.ensures.bounded c.in_ok-block.block c.args.node.now.items

pub try_block-tried-requires-clause-node : goal.try_block-tried-requires-clause-node
try_block-tried-requires-clause-node g c =
    subst (IsNode (block_bytes (g.F.Flash.device c.args.flash.now).geometry)) (sym (lent g (goal.at.try_block-tried-requires-clause-node g c).After-first)) c.requires.writable.node

pub returns-in-Ok-Some-clause-attempt : goal.returns-in-Ok-Some-clause-attempt
returns-in-Ok-Some-clause-attempt g c =
    subst (λ bytes. IsAttempt (storage (g.F.Flash.device c.args.flash.now) c.args.storage.now.bad c.args.storage.now.ring) bytes
    (storage (g.F.Flash.device c.try_block-tried.new.flash) c.try_block-tried.new.bad c.try_block-tried.new.ring) c.try_block-tried.result)
    (lent g (goal.at.returns-in-Ok-Some-clause-attempt g c).After-first) c.try_block-tried.ensures.attempt

pub returns-clause-attempt : goal.returns-clause-attempt
returns-clause-attempt g c =
    subst (λ bytes. IsAttempt (storage (g.F.Flash.device c.args.flash.now) c.args.storage.now.bad c.args.storage.now.ring) bytes
    (storage (g.F.Flash.device c.try_block-tried.new.flash) c.try_block-tried.new.bad c.try_block-tried.new.ring) c.try_block-tried.result)
    (lent g (goal.at.returns-clause-attempt g c).After-first) c.try_block-tried.ensures.attempt

pub returns-in-Ok-Some-clause-fits : goal.returns-in-Ok-Some-clause-fits
returns-in-Ok-Some-clause-fits g c =
    let t = (goal.at.returns-in-Ok-Some-clause-fits g c).After-first in
    let listed = moved g t in
    let block = c.in-Ok-Some.field-0-0 in
    let new = g.F.Flash.device c.try_block-tried.new.flash in
    let was : c.try_block-tried.result ≡ Ok (Some block) = c.in-Ok-Some.is ∙ ap Ok (rw c.in-Ok-Some.is at c.in-Ok-Some.field-0-is) in
    let here : block ≡ c.in_ok-block.block = c.try_block-tried.ensures.block block was in
    let attempt : IsAttempt (storage (g.F.Flash.device c.args.flash.now) c.args.storage.now.bad c.args.storage.now.ring) c.first.result.now
    (storage new c.try_block-tried.new.bad c.try_block-tried.new.ring) (Ok (Some block)) =
    subst (IsAttempt (storage (g.F.Flash.device c.args.flash.now) c.args.storage.now.bad c.args.storage.now.ring) c.first.result.now
    (storage new c.try_block-tried.new.bad c.try_block-tried.new.ring)) was c.try_block-tried.ensures.attempt in
    still_fits _ _ _ _ attempt.evolved.geometry c.try_block-tried.ensures.page (ap (λ (k : NodeCache). k.room) listed)
    (λ fits. subst (IsTruthful new) (sym listed)
    (written_truthful (g.F.Flash.device c.args.flash.now) new c.args.storage.now.cache c.in_ok-block.block c.args.node.now.items c.requires.writable.lawful attempt.evolved.geometry
    c.try_block-tried.ensures.others c.list.ensures.bounded (ap (node_of new) (sym here) ∙ attempt.tries.node ∙ ap Some (lent g t)) fits.truthful))

pub returns-in-Ok-Some-clause-listed : goal.returns-in-Ok-Some-clause-listed
returns-in-Ok-Some-clause-listed g c = λ b is.
    let here : b ≡ c.in_ok-block.block = c.try_block-tried.ensures.block b is in
    ap (λ (k : NodeCache). slice_get k.entries 0) (moved g (goal.at.returns-in-Ok-Some-clause-listed g c).After-first)
    ∙ first_entry c.args.storage.now.cache c.list.ensures.bounded c.in_ok-block.block c.args.node.now.items
    ∙ ap (λ n. Some (n, c.args.node.now.items)) (sym here)

pub returns-in-Ok-Some-clause-apart : goal.returns-in-Ok-Some-clause-apart
returns-in-Ok-Some-clause-apart g c = λ b used none.
    let other : b ≢ c.in_ok-block.block = λ same. true≢false (sym used ∙ ap (set.contains c.args.storage.now.ring.used) same ∙ c.try_block-tried.ensures.fresh) in
    subst (λ (k : NodeCache). node_in k b ≡ None) (sym (moved g (goal.at.returns-in-Ok-Some-clause-apart g c).After-first))
    (still_none c.args.storage.now.cache c.list.ensures.bounded c.in_ok-block.block c.args.node.now.items b other none)

module _ (g : Over) (c : After-take_first g) (moves : c.list.new.self ≡ with_first c.args.storage.now.cache c.in_ok-block.block c.args.node.now.items) where
  -- it is taken out again
  out : c.take_first.new.self ≡ record c.args.storage.now.cache { entries = drop 1 (with_first c.args.storage.now.cache c.in_ok-block.block c.args.node.now.items).entries }
  out = c.take_first.ensures.rest ∙ ap (λ (k : NodeCache). record k { entries = drop 1 k.entries }) moves

  -- the block that was tried is not listed
  unlisted : ListsNoneTried c.args.storage.now (record { bad = c.try_block-tried.new.bad; ring = c.try_block-tried.new.ring; page = c.try_block-tried.new.page; cache = c.take_first.new.self; partly = c.args.storage.now.partly })
  unlisted = λ b fresh used.
      let here : b ≡ c.in_ok-block.block =
      new_listed c.args.storage.now.ring.used c.in_ok-block.block b (ap (λ s. set.contains s b) (sym c.try_block-tried.ensures.taken) ∙ used) fresh in
      subst (λ (k : NodeCache). node_in k b ≡ None) (sym out)
      (subst (λ n. node_in (record c.args.storage.now.cache { entries = drop 1 (with_first c.args.storage.now.cache c.in_ok-block.block c.args.node.now.items).entries }) n ≡ None) (sym here)
      (taken_none c.args.storage.now.cache c.list.ensures.bounded c.in_ok-block.block c.args.node.now.items))

pub returns-clause-back : goal.returns-clause-back
returns-clause-back g c = λ is.
    let t = (goal.at.returns-clause-back g c).After-first in
    c.take_first.ensures.node ∙ ap (λ (k : NodeCache). first_bytes k.entries) (moved g t)
    ∙ first_shown c.args.storage.now.cache c.list.ensures.bounded c.in_ok-block.block c.args.node.now.items

pub returns-clause-fits : goal.returns-clause-fits
returns-clause-fits g c =
    let t = goal.at.returns-clause-fits g c in
    let gone = out g t.After-take_first (moved g t.After-first) in
    let evolved = c.try_block-tried.ensures.attempt.evolved in
    still_fits _ _ _ _ evolved.geometry c.try_block-tried.ensures.page (ap (λ (k : NodeCache). k.room) gone)
    (λ fits. subst (IsTruthful (g.F.Flash.device c.try_block-tried.new.flash)) (sym gone)
    (tried_truthful (g.F.Flash.device c.args.flash.now) (g.F.Flash.device c.try_block-tried.new.flash) c.args.storage.now.cache c.in_ok-block.block c.args.node.now.items c.requires.writable.lawful evolved.geometry
    c.try_block-tried.ensures.others c.list.ensures.bounded fits.truthful))

pub returns-clause-unlisted : goal.returns-clause-unlisted
returns-clause-unlisted g c =
    let t = goal.at.returns-clause-unlisted g c in
    lists_none c.args.storage.now
    (record { bad = c.try_block-tried.new.bad; ring = c.try_block-tried.new.ring; page = c.try_block-tried.new.page; cache = c.take_first.new.self; partly = c.args.storage.now.partly })
    _ (unlisted g t.After-take_first (moved g t.After-first))

pub returns-clause-apart : goal.returns-clause-apart
returns-clause-apart g c = λ b used none.
    let t = goal.at.returns-clause-apart g c in
    subst (λ (k : NodeCache). node_in k b ≡ None) (sym (out g t.After-take_first (moved g t.After-first)))
    (out_none c.args.storage.now.cache c.list.ensures.bounded c.in_ok-block.block c.args.node.now.items b none)
