use Rattle.record_format.proofs.PayloadLaws.{meaning_says, says_meaning, one_meaning, written_is_read, is_short}
use Rattle.record_format.proofs.ItsFlash.{means_its_flash}
use Rattle.record_format.proofs.laws_of_records.payload_laws.Goals as goal

pub returns-clause-says : goal.returns-clause-says
returns-clause-says c = meaning_says

pub returns-clause-means : goal.returns-clause-means
returns-clause-means c = says_meaning

pub returns-clause-one : goal.returns-clause-one
returns-clause-one c = one_meaning

pub returns-clause-written : goal.returns-clause-written
returns-clause-written c = written_is_read

pub returns-clause-short : goal.returns-clause-short
returns-clause-short c = is_short

pub returns-clause-its_flash : goal.returns-clause-its_flash
returns-clause-its_flash c = means_its_flash
