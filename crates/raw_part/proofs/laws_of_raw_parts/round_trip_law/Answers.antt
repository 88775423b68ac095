use Rattle.raw_part.proofs.RoundTrips.{round_trip}
use Rattle.raw_part.proofs.laws_of_raw_parts.round_trip_law.Goals as goal

pub returns : goal.returns
returns c = round_trip
