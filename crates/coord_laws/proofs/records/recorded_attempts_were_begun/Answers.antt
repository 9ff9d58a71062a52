use Rattle.coord_laws.proofs.Past.{recorded_begun}
use Rattle.coord_laws.proofs.records.recorded_attempts_were_begun.Goals as goal

pub returns : goal.returns
returns c = recorded_begun
