use Rattle.std.proofs.Common.{ap, ◌∙◌, sym, ◌^◌}
use Rattle.std.specs.Prelude.{◌&&◌, nat_lt}
use Rattle.std.specs.List.{list_all}
use Rattle.fs_types.specs.Names.{is_checkpoint_name}
use Rattle.record_format.proofs.writing.spell.Goals as goal

pub returns-clause-fits : goal.returns-clause-fits
returns-clause-fits c = record {
  sizes = c.push_sizes.ensures.fits;
  next = c.push_counts.ensures.fits;
  roots = ap (list_all (λ version. nat_lt version.root (2 ^ 32))) (sym c.as_slice.ensures) ∙ c.push_versions.ensures.fits;
  checkpoints = ap (list_all (λ checkpoint. is_checkpoint_name checkpoint.name && nat_lt checkpoint.root (2 ^ 32))) (sym c.as_slice-2.ensures) ∙ c.push_checkpoints.ensures.fits;
}
