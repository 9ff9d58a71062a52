use Rattle.std.proofs.Common.{drop}
use Rattle.mdb_base.specs.Words.{Each}
use Rattle.fed_hosts.specs.Ports.{IsWritten}
use Rattle.fed_hosts.proofs.written.ports_fit.Given as goal

-- with those that are left it is so of all
abbrev pub invariant-loop-port : goal.invariant-loop-port
invariant-loop-port l = Each IsWritten (drop l.port-index l.ports) → Each IsWritten l.ports
