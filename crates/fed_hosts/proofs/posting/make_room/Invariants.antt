use Rattle.std.proofs.Common.{◌≡◌, ℕ, ◌<◌, Some, slice_get}
use Rattle.fed_hosts.specs.declared.ports.Port.{Port}
use Rattle.fed_hosts.specs.Ports.{AreSamePorts, HasPortRoom}
use Rattle.fed_hosts.proofs.posting.make_room.Given as goal

abbrev pub invariant-loop-place : goal.invariant-loop-place
invariant-loop-place l =
    record {
      same : AreSamePorts l.fn.ports.items l.ports.items;
      room : (place : ℕ) (port : Port) → place < l.place → slice_get l.ports.items place ≡ Some port → HasPortRoom port;
    }
