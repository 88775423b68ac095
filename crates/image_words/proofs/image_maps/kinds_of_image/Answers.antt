use Rattle.std.proofs.Common.{inl, inr}
use Rattle.image_words.proofs.image_maps.kinds_of_image.Goals as goal

pub returns-in-Err-clause-err : goal.returns-in-Err-clause-err
returns-in-Err-clause-err g c = inl c.in-Err.ensures.err

pub returns-in-Ok-map_blocks-clause-ok : goal.returns-in-Ok-map_blocks-clause-ok
returns-in-Ok-map_blocks-clause-ok g c = record {
  flash = c.in-Ok.flash;
  there = c.in-Ok.ensures.ok;
  map = c.in-Ok-map_blocks.ensures.ok;
}

pub returns-clause-err : goal.returns-clause-err
returns-clause-err g c = inr (inl (record {
  flash = c.in-Ok.flash;
  there = c.in-Ok.ensures.ok;
  left = c.map_blocks.new.flash;
  fault = c.in-Err-map_blocks.fault;
  why = c.in-Err-map_blocks.ensures.err;
  told = c.of_map.ensures;
}))
