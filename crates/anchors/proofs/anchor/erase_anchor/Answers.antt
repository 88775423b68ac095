use Rattle.std.specs.FinSet as set
use Rattle.std.proofs.lemmas.Bool.{false≢true}
use Rattle.anchors.proofs.Places.{anchor_on_flash}
use Rattle.anchors.proofs.Asking.{tried_done, tried_failed, asks_one}
use Rattle.anchors.proofs.Anchoring.{erase_touches, erase_fades, erase_reads, ok_with_room}
use Rattle.anchors.proofs.Wrote.{changed_all, changed_failed, changed_cut}
use Rattle.anchors.proofs.anchor.erase_anchor.Goals as goal

pub erase-requires : goal.erase-requires
erase-requires g c = anchor_on_flash (g.F.Flash.device c.args.flash.now).geometry c.args.anchor c.requires.lawful c.requires.anchor

pub unwrap-requires : goal.unwrap-requires
unwrap-requires g c = ok_with_room c.add.result (set.len c.args.bad.now) c.add.ensures.full c.requires.room

pub returns-in-Ok : goal.returns-in-Ok
returns-in-Ok g c =
    let old = g.F.Flash.device c.args.flash.now in
    let new = g.F.Flash.device c.erase.new.self in
    let done = c.in-Ok.ensures in
    record {
      erased = λ is p own. done.own p own;
      fades = erase_fades old new c.args.anchor _ done;
      changes = changed_all old new c.args.bad.now c.args.anchor 1 c.requires.anchor (asks_one old new c.args.anchor _ done) _ (erase_touches old new c.args.anchor _ done) (tried_done old new c.args.anchor _ done);
      reads = erase_reads old new c.args.anchor _ done;
    }

pub returns-in-Err-Failed : goal.returns-in-Err-Failed
returns-in-Err-Failed g c =
    let old = g.F.Flash.device c.args.flash.now in
    let new = g.F.Flash.device c.erase.new.self in
    let failed = rw c.in-Err-Failed.field-0-is at c.in-Err-Failed.ensures in
    record {
      erased = λ is. absurd (false≢true is);
      fades = erase_fades old new c.args.anchor _ failed;
      changes = changed_failed old new c.args.bad.now c.args.anchor 1 c.requires.anchor (asks_one old new c.args.anchor _ failed) c.add.new.self (rw c.unwrap.ensures at c.add.ensures.ok) c.requires.good
          (erase_touches old new c.args.anchor _ failed) (tried_failed old new c.args.anchor failed);
      reads = erase_reads old new c.args.anchor _ failed;
    }

pub returns-in-Err-PowerCut : goal.returns-in-Err-PowerCut
returns-in-Err-PowerCut g c =
    let old = g.F.Flash.device c.args.flash.now in
    let new = g.F.Flash.device c.erase.new.self in
    let cut = rw c.in-Err-PowerCut.field-0-is at c.in-Err-PowerCut.ensures in
    record {
      erased = tt;
      fades = erase_fades old new c.args.anchor _ cut;
      changes = changed_cut old new c.args.bad.now c.args.anchor 1 c.requires.anchor (asks_one old new c.args.anchor _ cut) (erase_touches old new c.args.anchor _ cut);
      reads = erase_reads old new c.args.anchor _ cut;
    }
