use Rattle.coord_laws.proofs.Past.{commits_once, commits_close_none}
use Rattle.coord_laws.proofs.records.commits_close_no_cycle.Goals as goal

pub returns-clause-once : goal.returns-clause-once
returns-clause-once c = commits_once

pub returns-clause-cycle_free : goal.returns-clause-cycle_free
returns-clause-cycle_free c = commits_close_none
