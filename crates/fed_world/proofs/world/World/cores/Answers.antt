use Rattle.fed_world.proofs.SeatsByPlace.{is_local}
use Rattle.fed_world.proofs.world.World.cores.Goals as goal
use Rattle.fed_rules.specs.Story.{story_in}

pub returns : goal.returns
returns c session commands r =
    let cores = c.args.self.now.cores in
    record {
      scenario_is = r.has.scenario_is;
      coordinator = r.actors.coordinator;
      count = r.actors.sites.all_cores;
      sites = λ place site dbms there own. is_local cores.sites.items.items cores.marks.items c.args.self.now.traffic.items session (story_in session commands) r.actors.sites place site there dbms own;
    }
