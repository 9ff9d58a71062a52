use Rattle.std.proofs.Common.{[], ◌++◌}
use Rattle.journal_disk.specs.MemDisk.{mem_faults}
use Rattle.world_tests.specs.HostSessions.{coord_plan_of, wires_of}
use Rattle.world_tests.proofs.coord_hosts.plays.Given as goal

-- the coordinator and the rings of this session are those that are named; no site is
abbrev pub ghosts-host_plays-N-Plan : goal.ghosts-host_plays-N-Plan
ghosts-host_plays-N-Plan g a = record { sites = []; coordinator = coord_plan_of a.transactions.now a.stops.items (mem_faults a.disk) }

abbrev pub ghosts-host_plays-N-Wires : goal.ghosts-host_plays-N-Wires
ghosts-host_plays-N-Wires g a = record { rings = wires_of a.first ++ wires_of a.second }
