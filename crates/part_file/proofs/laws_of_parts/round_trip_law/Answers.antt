use Rattle.part_file.proofs.RoundTrips.{round_trip}
use Rattle.part_file.proofs.laws_of_parts.round_trip_law.Goals as goal

pub returns : goal.returns
returns c = round_trip
