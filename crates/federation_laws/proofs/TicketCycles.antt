-- In every story no ticket edges between committed attempts go round.
use Rattle.std.proofs.Common.{List}
use Rattle.order_laws.specs.Chains.{Within}
use Rattle.order_laws.specs.Search.{Linked}
use Rattle.order_laws.specs.Tickets.{Ticketed, edge_between}
use Rattle.order_laws.proofs.ForCallers.{acyclic_map, linked}
use Rattle.fed_rules.specs.declared.commands.Command.{Command}
use Rattle.fed_rules.specs.declared.scenario.Scenario.{Scenario}
use Rattle.fed_rules.specs.Story.{coord_past, story_of}
use Rattle.federation_laws.specs.Edges.{committed, HasEdge, TicketsAreCycleFree}
use Rattle.coord_laws.proofs.ForCallers.{IsFree, commits_free}
use Rattle.commit_laws.proofs.ForCallers.{story_goes_on}

pub free-story : (scenario : Scenario) (commands : List Command) → IsFree (committed (story_of scenario commands))
free-story scenario commands = commits_free _ _ (coord_past (story_of scenario commands)) (story_goes_on scenario commands)

-- the ticket edges between committed attempts have no cycle
pub tickets_cycle_free : TicketsAreCycleFree
tickets_cycle_free scenario commands =
    let all = committed (story_of scenario commands) in
    acyclic_map (Within HasEdge all) (Within (Linked edge_between) all) (λ (a : Ticketed). a)
    (λ a b e. record { edge = linked a b e.edge.0 e.edge.1; from = e.from; to = e.to }) (free-story scenario commands)
