use Rattle.std.proofs.Common.{inr}
use Rattle.part_file.specs.Flashes.{part_device}
use Rattle.image_words.proofs.part_serving.serve_part_file.Goals as goal

pub returns-in-Ok-serve_part : goal.returns-in-Ok-serve_part
returns-in-Ok-serve_part g c = record {
  held = g.F.Part.Backing.held c.in-Ok.backing;
  known = c.in-Ok.ensures;
  first = part_device c.in-Ok-start.flash;
  fresh = c.in-Ok-start.ensures.fresh;
  shown = c.in-Ok-start.ensures.shown;
  last = part_device c.serve_part.new.flash;
  ends = c.in-Ok-serve_part.ensures.ends;
}

pub returns : goal.returns
returns g c = inr (
  c.in-Err-serve_part.fault,
  record {
    held = g.F.Part.Backing.held c.in-Ok.backing;
    known = c.in-Ok.ensures;
    first = part_device c.in-Ok-start.flash;
    fresh = c.in-Ok-start.ensures.fresh;
    shown = c.in-Ok-start.ensures.shown;
    last = part_device c.serve_part.new.flash;
    ends = c.in-Err-serve_part.ensures.ends;
  },
  c.of_session.ensures,
)
