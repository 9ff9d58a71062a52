use Rattle.fed_world.specs.Gathering.{AreTraffic}
use Rattle.fed_world.proofs.gathering.traffic_of.Given as goal

abbrev pub invariant-loop-channel : goal.invariant-loop-channel
invariant-loop-channel l = AreTraffic l.yielded l.traffic.items
