use Rattle.std.proofs.Common.{◌≡◌, ℕ, ◌<◌, Some, slice_get}
use Rattle.scripted_link.specs.Outlets.{HasMovedOn}
use Rattle.fed_hosts.specs.declared.ports.Port.{Port}
use Rattle.fed_hosts.specs.Ports.{AreSamePorts}
use Rattle.fed_hosts.proofs.posting.flush_all.Given as goal

abbrev pub invariant-loop-place : goal.invariant-loop-place
invariant-loop-place l =
    record {
      same : AreSamePorts l.fn.ports.items l.ports.items;
      moved_on : (place : ℕ) (port : Port) → place < l.place → slice_get l.ports.items place ≡ Some port → HasMovedOn port.ends.outlet;
    }
