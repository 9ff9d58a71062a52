use Rattle.std.proofs.Common.{refl, sym, subst, arith}
use Rattle.global_manager.specs.Stands.{IsSited}
use Rattle.world_tests.specs.HostSessions.{two_sites}
use Rattle.world_tests.proofs.coord_hosts.transaction.Goals as goal

pub returns : goal.returns
returns c = record { least = omega arith; greatest = omega arith; sited = subst (IsSited two_sites) (sym c.in_ok-program.ensures.program) (refl, (refl, tt)) }
