use Rattle.std.proofs.Common.{Ok, Err, None, Some, sym, ap, subst, ◌∙◌, inl, inr}
use Rattle.std.specs.FinSet as set
use Rattle.std.proofs.lemmas.Bool.{cases_Bool}
use Rattle.std.proofs.lemmas.Result.{err_from_is_err_and}
use Rattle.flash_model.specs.declared.geometry.Geometry.{Geometry}
use Rattle.flash_model.specs.Geometry.{IsGeometry, block_bytes}
use Rattle.node_format.specs.Headers.{IsNode}
use Rattle.node_store.proofs.Attempts.{refused_adds, added_on, no_limit, Pays_on, Spends_on}
use Rattle.node_store.specs.Fitting.{ListsNone, IsListedFirst}
use Rattle.node_store.specs.FittingLaws.{still_on}
use Rattle.node_store.specs.Storage.{IsAttempt}
use Rattle.node_store.specs.StorageLaws.{Evolved_on, Passes_on, Passes_next}
use Rattle.node_store.specs.Stores.{storage_on}
use Rattle.node_store.proofs.added_nodes.place_node.Goals as goal

pub attempts-preserved : goal.attempts-preserved
attempts-preserved g c =
    let first = storage_on (g.F.Flash.device c.args.flash.now) c.args.storage.now in
    let before = storage_on (g.F.Flash.device c.attempts.flash) c.attempts.storage in
    let after = storage_on (g.F.Flash.device c.write_next.new.flash) c.write_next.new.storage in
    let attempt : IsAttempt before c.args.node.items after (Ok None) =
    subst (λ bytes. IsAttempt before bytes after (Ok None)) c.attempts.invariant.same (rw c.in_default.is at c.in_ok-block.ensures.attempt) in
    let none_tried : ListsNone c.attempts.storage c.write_next.new.storage (Ok None) = rw c.in_default.is at c.in_ok-block.ensures.unlisted in
    record {
      same = c.in_ok-block.ensures.back (ap Ok c.in_default.is) ∙ c.attempts.invariant.same;
      evolved = Evolved_on _ _ _ c.attempts.invariant.evolved attempt.evolved;
      fits = still_on _ _ _ _ _ _ c.attempts.invariant.fits c.write_next.ensures.fits;
      pays = Pays_on first before after 0 c.attempts.invariant.pays attempt.pays;
      passes = Passes_on first before after attempt.evolved c.attempts.invariant.passes attempt.next;
      unlisted = λ b fresh used. elim (cases_Bool (set.contains c.attempts.storage.ring.used b)) [
        | inl was ↦ c.write_next.ensures.apart b was (c.attempts.invariant.unlisted b fresh was)
        | inr was_not ↦ none_tried b was_not used
      ];
      room = attempt.tries.1;
      was_room = c.attempts.invariant.was_room;
      operations = Spends_on first before after c.args.node.items c.attempts.invariant.evolved c.attempts.invariant.operations attempt.operations;
    }

-- a block was written
pub returns-in-Some : goal.returns-in-Some
returns-in-Some g c =
    let first = storage_on (g.F.Flash.device c.args.flash.now) c.args.storage.now in
    let before = storage_on (g.F.Flash.device c.attempts.flash) c.attempts.storage in
    let after = storage_on (g.F.Flash.device c.write_next.new.flash) c.write_next.new.storage in
    let attempt : IsAttempt before c.args.node.items after (Ok (Some c.in-Some.block)) =
    subst (λ bytes. IsAttempt before bytes after (Ok (Some c.in-Some.block))) c.attempts.invariant.same (rw c.in-Some.is at c.in_ok-block.ensures.attempt) in
    record {
      writes = record {
        adds = added_on first before after c.args.node.items c.in-Some.block c.attempts.invariant.evolved attempt.tries;
        evolved = Evolved_on _ _ _ c.attempts.invariant.evolved attempt.evolved;
        pays = Pays_on first before after 1 c.attempts.invariant.pays attempt.pays;
        next = Passes_next _ before after c.in-Some.block attempt.evolved c.attempts.invariant.passes attempt.next;
        operations = Spends_on first before after c.args.node.items c.attempts.invariant.evolved c.attempts.invariant.operations attempt.operations;
        at_limit = no_limit _ c.requires.room;
      };
      lists = record {
        fits = still_on _ _ _ _ _ _ c.attempts.invariant.fits c.write_next.ensures.fits;
        lists =
            subst (λ bytes. IsListedFirst c.write_next.new.storage c.in-Some.block bytes) c.attempts.invariant.same
            (c.in_ok-block.ensures.listed c.in-Some.block (ap Ok c.in-Some.is));
      };
    }

-- the attempt was refused
pub returns-in_err-block : goal.returns-in_err-block
returns-in_err-block g c =
    let first = storage_on (g.F.Flash.device c.args.flash.now) c.args.storage.now in
    let before = storage_on (g.F.Flash.device c.attempts.flash) c.attempts.storage in
    let after = storage_on (g.F.Flash.device c.write_next.new.flash) c.write_next.new.storage in
    let p = err_from_is_err_and c.from_residual.result c.from_residual.ensures.1 in
    let attempt : IsAttempt before c.args.node.items after (Err c.in_err-block.field-0.0) =
    subst (λ bytes. IsAttempt before bytes after (Err c.in_err-block.field-0.0)) c.attempts.invariant.same c.in_err-block.ensures.attempt in
    record {
      writes = record {
        adds = rw (p.1, p.2) (refused_adds first before after c.args.node.items c.in_err-block.field-0.0 c.attempts.invariant.room attempt.tries);
        evolved = Evolved_on _ _ _ c.attempts.invariant.evolved attempt.evolved;
        pays = rw (p.1, p.2) (Pays_on first before after _ c.attempts.invariant.pays attempt.pays);
        next = rw p.1 tt;
        operations = Spends_on first before after c.args.node.items c.attempts.invariant.evolved c.attempts.invariant.operations attempt.operations;
        at_limit = no_limit _ c.requires.room;
      };
      lists = record {
        fits = still_on _ _ _ _ _ _ c.attempts.invariant.fits c.write_next.ensures.fits;
        lists = rw p.1 (λ b fresh used. elim (cases_Bool (set.contains c.attempts.storage.ring.used b)) [
          | inl was ↦ c.write_next.ensures.apart b was (c.attempts.invariant.unlisted b fresh was)
          | inr was_not ↦ c.in_err-block.ensures.unlisted b was_not used
        ]);
      };
    }

pub write_next-requires-clause-writable : goal.write_next-requires-clause-writable
write_next-requires-clause-writable g c =
    let may = c.requires.writable in
    let same = c.attempts.invariant.evolved.geometry in
    record {
      lawful = subst IsGeometry (sym same) may.lawful;
      ring_blocks = c.attempts.invariant.evolved.blocks ∙ may.ring_blocks ∙ ap (λ (h : Geometry). h.blocks) (sym same);
      fits = c.attempts.invariant.fits.fits may.fits;
      node = subst (λ (h : Geometry). IsNode (block_bytes h) c.attempts.node.items) (sym same)
          (subst (IsNode (block_bytes (g.F.Flash.device c.args.flash.now).geometry)) (sym c.attempts.invariant.same) may.node);
    }

pub write_next-requires-clause-room : goal.write_next-requires-clause-room
write_next-requires-clause-room g c = c.attempts.invariant.room
