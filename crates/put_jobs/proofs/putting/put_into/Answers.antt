use Rattle.std.proofs.Common.{◌∙◌, inl, inr, sym, subst}
use Rattle.image_jobs.proofs.ImageLemmas.{front_same, synced_since}
use Rattle.put_jobs.proofs.GivesLemmas.{things_saved}
use Rattle.put_jobs.proofs.putting.put_into.Goals as goal

pub save_changed-requires-clause-read : goal.save_changed-requires-clause-read
save_changed-requires-clause-read g c = subst (g.F.ImageFiles.reads c.take_image.new.files c.args.name.now) (sym c.deref-in-Ok-put_on_image.ensures.value) c.in-Ok.ensures.now

pub returns-in-Err-clause-ends : goal.returns-in-Err-clause-ends
returns-in-Err-clause-ends g c = inl (c.take_image.new.files, c.in-Err.ensures.same, c.in-Err.ensures.same, c.in-Err.ensures.why)

pub returns-in-Ok-put_on_image-clause-ends : goal.returns-in-Ok-put_on_image-clause-ends
returns-in-Ok-put_on_image-clause-ends g c =
    let claimed = g.F.ImageFiles.held c.take_image.new.files in
    let things = c.args.things.now in
    things_saved g.F.ImageFiles.claims g.F.ImageFiles.held g.F.ImageFiles.reads c.args.name.now (g.T.Things.removes things) (g.T.Things.unlisted things) (λ files. g.T.Things.gives files things)
    (g.F.ImageFiles.held c.args.files.now) (g.F.ImageFiles.held c.save_changed.new.files) c.take_image.new.files c.deref.result.now c.deref-in-Ok-put_on_image.result.now c.in-Ok-put_on_image.flash c.save_changed.result
    (record {
      claimed = c.in-Ok.ensures.claimed;
      same = c.in-Ok.ensures.same;
      front = front_same (claimed c.args.name.now) c.in-Ok.image.items c.deref.result.now c.deref.ensures.value c.in-Ok.ensures.ok;
      now = subst (g.F.ImageFiles.reads c.take_image.new.files c.args.name.now) (sym c.deref.ensures.value) c.in-Ok.ensures.now;
    })
    c.in-Ok-put_on_image.ensures.ok (c.deref-in-Ok-put_on_image.ensures.value ∙ sym c.deref.ensures.value) c.save_changed.ensures.ok c.save_changed.ensures.err

pub returns-clause-ends : goal.returns-clause-ends
returns-clause-ends g c =
    let claimed = g.F.ImageFiles.held c.take_image.new.files in
    inr (inl (
      c.take_image.new.files,
      c.deref.result.now,
      record {
        claimed = c.in-Ok.ensures.claimed;
        same = c.in-Ok.ensures.same;
        front = front_same (claimed c.args.name.now) c.in-Ok.image.items c.deref.result.now c.deref.ensures.value c.in-Ok.ensures.ok;
        now = subst (g.F.ImageFiles.reads c.take_image.new.files c.args.name.now) (sym c.deref.ensures.value) c.in-Ok.ensures.now;
      },
      c.in-Err-put_on_image.ensures.err,
      c.in-Ok.ensures.same,
    ))

pub returns-in-Ok-put_on_image-clause-synced : goal.returns-in-Ok-put_on_image-clause-synced
returns-in-Ok-put_on_image-clause-synced g c =
    synced_since (g.F.ImageFiles.held c.args.files.now) (g.F.ImageFiles.held c.take_image.new.files) (g.F.ImageFiles.held c.save_changed.new.files) (g.F.ImageFiles.synced c.save_changed.new.files c.args.name.now) c.save_changed.result
    c.in-Ok.ensures.same c.save_changed.ensures.synced
