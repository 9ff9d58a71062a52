use Rattle.std.proofs.Common.{[], ◌∷◌}
use Rattle.journal_disk.specs.MemDisk.{mem_faults}
use Rattle.world_tests.specs.HostSessions.{coord_plan_of, plan_of, wires_of}
use Rattle.world_tests.proofs.site_hosts.plays.Given as goal

-- the site and the rings of this session are those that are named; its coordinator is any
abbrev pub ghosts-host_plays-N-Plan : goal.ghosts-host_plays-N-Plan
ghosts-host_plays-N-Plan g a = record { sites = plan_of a.transactions.now a.stops.items (mem_faults a.disk) ∷ []; coordinator = coord_plan_of [] [] 0 }

abbrev pub ghosts-host_plays-N-Wires : goal.ghosts-host_plays-N-Wires
ghosts-host_plays-N-Wires g a = record { rings = wires_of a.rings }
