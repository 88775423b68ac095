use Rattle.plain_trees.proofs.Listings.{listing_law}
use Rattle.plain_trees.proofs.Lookups.{lookup_law}
use Rattle.plain_trees.proofs.laws_of_plain_trees.lookup_laws.Goals as goal

pub returns-clause-listing : goal.returns-clause-listing
returns-clause-listing c = listing_law

pub returns-clause-lookup : goal.returns-clause-lookup
returns-clause-lookup c = lookup_law
