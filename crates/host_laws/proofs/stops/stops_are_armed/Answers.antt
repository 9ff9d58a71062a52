use Rattle.host_laws.proofs.StopsArmed.{stops_armed}
use Rattle.host_laws.proofs.stops.stops_are_armed.Goals as goal

pub returns : goal.returns
returns c = stops_armed
