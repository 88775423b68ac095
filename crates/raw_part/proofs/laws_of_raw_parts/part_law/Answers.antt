use Rattle.raw_part.proofs.RoundTrips.{sizes_over, pages_over, dense_sizes_over, dense_pages_over}
use Rattle.raw_part.proofs.laws_of_raw_parts.part_law.Goals as goal

pub returns-clause-sizes : goal.returns-clause-sizes
returns-clause-sizes c = sizes_over

pub returns-clause-pages : goal.returns-clause-pages
returns-clause-pages c = pages_over

pub returns-clause-dense_sizes : goal.returns-clause-dense_sizes
returns-clause-dense_sizes c = dense_sizes_over

pub returns-clause-dense_pages : goal.returns-clause-dense_pages
returns-clause-dense_pages c = dense_pages_over
