use Rattle.std.proofs.Common.{map}
use Rattle.fed_world.specs.Faults.{faults_of}
use Rattle.federation_run.specs.Plans.{coord_plan, site_plans, wires_of}
use Rattle.federation_run.proofs.running.run_threads.Given as goal

abbrev pub ghosts-run_over-N-Plan : goal.ghosts-run_over-N-Plan
ghosts-run_over-N-Plan g a = record { sites = site_plans a.scenario.now (faults_of (map g.D.Disk.seen a.disks.now.items)); coordinator = coord_plan a.scenario.now (faults_of (map g.D.Disk.seen a.disks.now.items)) }

abbrev pub ghosts-run_over-N-Wires : goal.ghosts-run_over-N-Wires
ghosts-run_over-N-Wires g a = record { rings = wires_of a.actors.ports.items a.actors.wired_sites.items }
