-- In every story a restart of the coordinator reads from its journal what all its records say.
use Rattle.fed_rules.specs.Scenarios.{policy, protocols}
use Rattle.fed_rules.specs.Story.{coord_past, story_of}
use Rattle.coord_laws.proofs.ForCallers.{journal_tells}
use Rattle.commit_laws.specs.Pasts.{CoordinatorsAreMadeByEvents}
use Rattle.sum_laws.specs.Restarts.{JournalsTellRestarts}

pub journals_tell_restarts : CoordinatorsAreMadeByEvents → JournalsTellRestarts
journals_tell_restarts made scenario commands =
    journal_tells (protocols scenario) (policy scenario) (coord_past (story_of scenario commands)) (made scenario commands)
