-- Two global transactions that write at two sites commit with opposite tickets, where no ticket graph refuses the second one.
use Rattle.std.proofs.Common.{◌≡◌, List, [], ◌∷◌, reverse, refl, subst}
use Rattle.mdb_base.specs.declared.names.Engine.TheVariants.{Locking}
use Rattle.mdb_base.specs.declared.replies.Edge.{Edge}
use Rattle.presumptions.specs.declared.Protocol.TheVariants as By
use Rattle.order_laws.specs.Tickets.{Ticketed, IsCycle, HasNoCycle}
use Rattle.order_laws.proofs.ForCallers.{cycle_found}
use Rattle.fed_rules.specs.declared.commands.Command.{Command}
use Rattle.fed_rules.specs.declared.scenario.Scenario.{Scenario}
use Rattle.fed_rules.specs.CoordPast.{records}
use Rattle.fed_rules.specs.CoordRecords.{commits}
use Rattle.fed_rules.specs.Story.{coord_past}
use Rattle.fed_rules.proofs.ForCallers.{edge, give, global, go, opened, scenario_of, set, site, step_at, take, ticket, tid, voted}
use Rattle.coord_laws.specs.Laws.{CommitsCloseNoCycle}
use Rattle.commit_laws.specs.WrongRules.{story_by}
use Rattle.federation_laws.specs.WrongRules.{commits_without_graph}
use Rattle.refuted_rules.specs.Coordinators.{BreaksTheFact}

abbrev two_sites : Scenario
two_sites =
    scenario_of
    (site 1 Locking By.Nothing ∷ site 2 Locking By.Nothing ∷ [])
    []
    (global 1 (step_at 1 (set 1 1) ∷ step_at 2 (set 4 4) ∷ [])
    ∷ global 2 (step_at 2 (set 2 2) ∷ step_at 1 (set 3 3) ∷ []) ∷ [])

-- the first one takes its ticket first at site 1, and the second one at site 2
abbrev both_vote : List Command
both_vote =
    reverse
    (go 1 ∷ go 2 ∷ give 1 0 ∷ take 1 0 ∷ give 2 0 ∷ take 2 0 ∷ give 1 1 ∷ take 1 1 ∷ give 1 3 ∷ take 1 2 ∷ give 2 2 ∷ take 2 1 ∷ give 2 3 ∷ take 2 2
    ∷ give 1 2 ∷ take 1 3 ∷ give 1 4 ∷ take 1 4 ∷ give 1 5 ∷ give 2 1 ∷ take 2 3 ∷ give 2 4 ∷ take 2 4 ∷ give 2 5 ∷ take 2 5 ∷ take 1 5 ∷ [])

-- the attempts with the tickets that their Commit records name
abbrev first : Ticketed
first = voted (tid 1 0) (ticket 1 1 ∷ ticket 2 2 ∷ [])

abbrev second : Ticketed
second = voted (tid 2 0) (ticket 1 2 ∷ ticket 2 1 ∷ [])

both_committed : commits (records (coord_past (story_by commits_without_graph two_sites both_vote))) ≡ second ∷ first ∷ []
unfolding opened
both_committed = refl

abbrev round : List Edge
round = edge (tid 2 0) (tid 1 0) 2 ∷ edge (tid 1 0) (tid 2 0) 1 ∷ []

goes_round : IsCycle (second ∷ first ∷ []) (tid 2 0) round
goes_round = cycle_found second (first ∷ []) round refl

pub cycle_closed : BreaksTheFact CommitsCloseNoCycle commits_without_graph
cycle_closed =
    record {
      scenario = two_sites;
      commands = both_vote;
      broken = λ h. subst (λ attempts. HasNoCycle attempts) both_committed h (tid 2 0) round goes_round;
    }
